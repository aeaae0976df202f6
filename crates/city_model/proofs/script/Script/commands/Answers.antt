use Rattle.city_model.proofs.Prelude.{rules, take, unmarked}
use Rattle.city_model.proofs.Lawful.{trace_there, trace_sound}
use Rattle.city_model.proofs.Carried.{trace_law}
use Rattle.city_model.proofs.script.Script.commands.Goals as goal

pub returns-clause-goes_on : goal.returns-clause-goes_on
returns-clause-goes_on c = search (rules, trace_there)

pub returns-clause-sound : goal.returns-clause-sound
returns-clause-sound c = λ m k replies w s f. trace_sound (unmarked m) (take k c.args.self.now.1) replies w (s, tt) f

pub returns-clause-frame : goal.returns-clause-frame
returns-clause-frame c = λ m k s. trace_law m (take k c.args.self.now.1) s
