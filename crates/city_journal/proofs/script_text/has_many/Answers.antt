use Rattle.std.proofs.Common.{length, subst, sym}
use Rattle.std.proofs.lemmas.Bool.{leb-false}
use Rattle.city_tokens.specs.script.Scripts.{max_commands}
use Rattle.city_scripts.specs.WrittenScripts.{IsShort}
use Rattle.city_journal.specs.Entries.{script_by}
use Rattle.city_journal.proofs.Short.{steps_short}
use Rattle.city_journal.proofs.script_text.has_many.Goals as goal

pub returns-in-Each : goal.returns-in-Each
returns-in-Each c = λ name few.
    subst (λ x. IsShort (script_by name x)) (sym c.in-Each.is)
    (steps_short c.in-Each.steps.now (leb-false max_commands (length c.in-Each.steps.now) few))
