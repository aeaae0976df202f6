use Rattle.city_tokens.proofs.Prelude.{◌≡◌, take}
use Rattle.city_tokens.proofs.text.is_name.Given as goal

abbrev pub invariant-loop-at : goal.invariant-loop-at
invariant-loop-at l = take l.at l.bytes ≡ take l.at l.others
