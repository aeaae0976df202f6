use Rattle.city_doc.proofs.Prelude.{◌≡◌, ℕ, List, ◌∷◌, ◌++◌, escape}
use Rattle.std.specs.Fmt.{HasWritten, IsPlainFormatter}
use Rattle.std.specs.Str.Iter.{chars_rest}
use Rattle.city_doc.proofs.fault.quoted.QuotedDisplay.fmt.Given as goal

abbrev pub invariant-loop-c : goal.invariant-loop-c
invariant-loop-c g l =
    IsPlainFormatter l.fn.f → (done : List ℕ) × HasWritten g.W.Write.write_str_gives l.fn.f done l.f
    × (done ++ escape (chars_rest l.c-iterator) ≡ 34 ∷ escape l.fn.self.0.now)
