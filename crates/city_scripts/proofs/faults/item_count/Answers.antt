use Rattle.city_scripts.proofs.Prelude.{sym}
use Rattle.city_tokens.proofs.Laws.{count_of-items}
use Rattle.city_scripts.proofs.faults.item_count.Goals as goal

pub returns-in-Some : goal.returns-in-Some
returns-in-Some c = rw c.as_slice.ensures.value (sym (count_of-items _ _ (sym c.in-Some.ensures)))
