-- The bytes read of a text are the whole of it, or enough to show it is too long.
use Rattle.city_serve.proofs.Prelude.{◌≡◌, ℕ, ◌+◌, ◌<◌, ◌≤◌, Bool, true, false, List, length, take, Option, Some, None}
use Rattle.city_serve.proofs.Prelude.{IfSome, nat_lt, inl, inr, refl, ap, ◌∙◌, arith, nat_tests, take_all}
use Rattle.std.proofs.lemmas.List.{length-take-le}
use Rattle.city_tokens.specs.tree.Texts.{max_text}
use Rattle.city_serve.specs.ServedTexts.{IsEnoughOf}

module _ (all read : List ℕ) (is : read ≡ take (max_text + 1) all) where
  by_length : (b : Bool) → nat_lt max_text (length all) ≡ b → IsEnoughOf all read
  by_length true long =
      let more : max_text < length all = grind (arith, nat_tests, long) in
      let room : (max_text + 1) ≤ length all = omega (arith, more) in
      let read_length : length read ≡ (max_text + 1) = ap length is ∙ length-take-le (max_text + 1) all room in
      inr (more, omega (arith, read_length))
  by_length false short =
      let fits : length all ≤ (max_text + 1) = grind (arith, nat_tests, short) in
      inl (is ∙ take_all (max_text + 1) all fits)

  enough_of : IsEnoughOf all read
  enough_of = by_length (nat_lt max_text (length all)) refl

pub enough_read : (known : Option (List ℕ)) (read : List ℕ) → IfSome known (λ all. read ≡ take (max_text + 1) all)
    → IfSome known (λ all. IsEnoughOf all read)
enough_read None read is = tt
enough_read (Some all) read is = enough_of all read is
