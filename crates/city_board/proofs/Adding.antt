-- Adding a change keeps the rule.
use Rattle.city_board.proofs.Prelude.{◌≡◌, ℕ, Bool, true, false, List, [], ◌∷◌, ◌++◌, length, refl, arith}
use Rattle.city_board.proofs.Prelude.{length-append, None, append-nil, IsPrefix, Change}
use Rattle.std.proofs.Common.{◌+◌, ◌==◌}
use Rattle.std.proofs.lemmas.Bool.Decides.{nat_tests}
use prog.Atomic.{either}
use Rattle.logbook.specs.Pages.{no_nib, step, Moves, Goes}
use Rattle.city_board.specs.internal.HistoryRule.{HasLength, Adds}
use Rattle.city_board.proofs.Prefixes.{prefix_whole}

abbrev pub hidden : List Change → List Change
hidden log = []

abbrev pub moved : List Change → List Change → ℕ → Type 0
moved xs ys n = Unit {0}

pub adds_goes : (log v : List Change) (e : Change) (old : ℕ) → length v ≡ old → IsPrefix v log
    → (b : Bool) → (length log == old) ≡ b
    → Goes HasLength hidden moved 0 (v, (no_nib, None)) (λ n. either (n == old) (old + 1) n)
    (Adds (step 0 old (old + 1) e) (v, (no_nib, None))) ((length log, true) ∷ (0, true) ∷ []) log
adds_goes log v e old len pre true is =
    let here : length log ≡ old = grind (arith, nat_tests) in
    let same : v ≡ log = prefix_whole v log pre (omega arith) in
    let n : either (length log == old) (old + 1) (length log) ≡ length (log ++ e ∷ []) =
    rw is (omega (arith, length-append log (e ∷ []))) in grind arith
adds_goes log v e old len pre false is = grind (arith, append-nil log)

-- for any history, the exchange adds the change to all changes seen, or finds the history longer
pub adds_moves : (v : List Change) (e : Change) (old : ℕ) → length v ≡ old
    → Moves HasLength hidden moved 0 (v, (no_nib, None)) (λ n. either (n == old) (old + 1) n)
    (Adds (step 0 old (old + 1) e) (v, (no_nib, None)))
adds_moves v e old len cs log kept pre away = grind (arith, adds_goes log v e old len pre (length log == old) refl)
