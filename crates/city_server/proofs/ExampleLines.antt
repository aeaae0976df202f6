-- Two lines by hand.
use Rattle.std.proofs.Common.{◌≡◌, ◌∷◌, ◌++◌, ℕ, List, [], Bool, false, refl, sym, append-nil, inr}
use Rattle.city_live.specs.Serving.{Served}
use Rattle.city_server.specs.Asked.{AreAnswered, IsFault}
use Rattle.city_server.specs.Lived.{AreLinesOf}

-- "a", a newline and "b" are two lines, the last without a newline
two_lines : AreLinesOf (97 ∷ 10 ∷ 98 ∷ []) ((97 ∷ []) ∷ (98 ∷ []) ∷ [])
two_lines = record {
  whole = (97 ∷ []) ∷ [];
  last = 98 ∷ [];
  are_lines = (refl, tt);
  last_is = refl;
  bytes_are = refl;
  lines_are = refl;
}

-- an input that ends with a newline has no further, empty line
one_line : AreLinesOf (97 ∷ 10 ∷ []) ((97 ∷ []) ∷ [])
one_line = record {
  whole = (97 ∷ []) ∷ [];
  last = [];
  are_lines = (refl, tt);
  last_is = refl;
  bytes_are = refl;
  lines_are = refl;
}

-- neither of them is a request: lines 1 and 2 are answered by two errors, in their order, and the hands stay
two_faults : (s : Served) (e f : List ℕ) → IsFault false s s e → IsFault false s s f
    → AreAnswered false ((97 ∷ []) ∷ (98 ∷ []) ∷ []) 0 2 s s (e ++ f)
two_faults s e f first second =
    (e, f, s, inr first, (f, [], s, inr second, (refl, refl, refl), sym (append-nil f)), refl)
