-- The last place with a sum, found by going over all of them.
use Rattle.std.proofs.Common.{◌≡◌, ◌∙◌, ◌∷◌, ◌++◌, [], ℕ, List, Option, None, Some, MatchOption, ap}
use Rattle.std.proofs.Common.{append_assoc}
use Rattle.std.specs.List.{AllByRecursion}
use Rattle.city_journal.specs.Places.{HasOther, IsLastPlace}

abbrev pub FoundIn : List ℕ → Option ℕ → List (List ℕ × ℕ) → Type 0
FoundIn sum o ps = MatchOption o (AllByRecursion (HasOther sum) ps) (λ n. IsLastPlace sum ps n)

other_more : (sum : List ℕ) (ps : List (List ℕ × ℕ)) (p : List ℕ × ℕ) → AllByRecursion (HasOther sum) ps
    → HasOther sum p → AllByRecursion (HasOther sum) (ps ++ p ∷ [])
other_more sum [] p all one = (one, tt)
other_more sum (q ∷ ps) p all one = (all.0, other_more sum ps p all.1 one)

pub found_same : (sum : List ℕ) (ps : List (List ℕ × ℕ)) (p : List ℕ × ℕ) → p.0 ≡ sum
    → FoundIn sum (Some p.1) (ps ++ p ∷ [])
found_same sum ps p e =
    record { front = ps; back = []; is = ap (λ s. ps ++ (s, p.1) ∷ []) e; last = tt }

pub found_other : (sum : List ℕ) (o : Option ℕ) (ps : List (List ℕ × ℕ)) (p : List ℕ × ℕ) → FoundIn sum o ps
    → HasOther sum p → FoundIn sum o (ps ++ p ∷ [])
found_other sum None ps p h one = other_more sum ps p h one
found_other sum (Some n) ps p h one = record {
  front = h.front;
  back = h.back ++ p ∷ [];
  is = ap (λ x. x ++ p ∷ []) h.is ∙ append_assoc h.front ((sum, n) ∷ h.back) (p ∷ []);
  last = other_more sum h.back p h.last one;
}
