use Rattle.city_live.proofs.Replayed.{one_noted}
use Rattle.city_live.proofs.talks.notes.note.Goals as goal

pub returns-clause-ok : goal.returns-clause-ok
returns-clause-ok g c = one_noted c.append.result _ _ _ _ c.in-Some.ensures c.append.ensures.ok
