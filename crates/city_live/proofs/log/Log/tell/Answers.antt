use Rattle.city_live.proofs.Telling.{missed_one, said_one}
use Rattle.city_live.proofs.log.Log.tell.Goals as goal

pub returns-in_default : goal.returns-in_default
returns-in_default c =
    missed_one c.args.hand.now c.args.changed.now c.events.ensures c.misses-noted.ensures c.note.ensures.events
    c.note.ensures.answers

pub returns : goal.returns
returns c = said_one c.in-Some.answer c.in-Some.ensures c.says.ensures
