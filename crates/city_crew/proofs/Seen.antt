-- What viewers of a run see: the city after some prefix of its ends.
use Rattle.city_crew.proofs.Prelude.{◌≡◌, ◌≤◌, ◌∙◌, ℕ, List, [], ◌∷◌, Bool, true, false, All, length, take, refl, ap}
use Rattle.city_crew.proofs.Prelude.{sym, subst, arith, length-append, End, CityMap, Change, after_changes, IsPrefix}
use Rattle.city_crew.proofs.Prelude.{last_of}
use Rattle.std.proofs.Common.{suc, zero, cond, ◌+◌}
use Rattle.std.specs.Global.{Vec}
use Rattle.std.specs.List.{slice_index_or}
use Rattle.std.proofs.Math.Seq.{take-append_seam}
use Rattle.std.proofs.lemmas.List.Elements.{All-weaker}
use Rattle.std.proofs.lemmas.List.Sums.{sum_by-cons}
use Rattle.city_model.specs.Runs.{Scripted, model_after}
use Rattle.city_model.specs.declared.end.Outcome.{Outcome}
use Rattle.city_model.specs.SerialEnds.{commits_in, is_commit}
use Rattle.city_scheduler.specs.Serial.{AreChangesOf}
use Rattle.city_crew.specs.Seen.{AreSeen, OfFirstEnds}
use Rattle.city_crew.proofs.Rising.{no_more_than_last}

commits_cons : (e : End) (es : List End) (b : Bool) → is_commit e.outcome ≡ b
    → commits_in (e ∷ es) ≡ cond b 1 0 + commits_in es
commits_cons e es b is =
    sum_by-cons (λ x. cond (is_commit x.outcome) 1 0) e es ∙ ap (λ c. cond c 1 0 + commits_in es) is

one_end_more : (e : End) (es : List End) (k : ℕ) (b : Bool) → is_commit e.outcome ≡ b → suc k ≤ commits_in (e ∷ es)
    → ((j : ℕ) → j ≤ commits_in es → OfFirstEnds es j) → OfFirstEnds (e ∷ es) (suc k)
one_end_more e es k true is le each =
    let all = commits_cons e es true is in
    let first = each k (omega (arith, all, le)) in
    let same = commits_cons e (take first.0 es) true is in
    (suc first.0, omega (arith, first.1), omega (arith, same, first.2))
one_end_more e es k false is le each =
    let all = commits_cons e es false is in
    let first = each (suc k) (omega (arith, all, le)) in
    let same = commits_cons e (take first.0 es) false is in
    (suc first.0, omega (arith, first.1), omega (arith, same, first.2))

of_first_ends : (ends : List End) (k : ℕ) → k ≤ commits_in ends → OfFirstEnds ends k
of_first_ends ends zero le = (0, omega arith, refl)
of_first_ends [] (suc k) le = absurd (omega (arith, le))
of_first_ends (e ∷ es) (suc k) le = one_end_more e es k (is_commit e.outcome) refl le (of_first_ends es)

-- each number seen by a viewer of a run
pub seen_first : (viewers : ℕ) (ends : List End) (seen : List (Vec ℕ)) → AreSeen viewers (commits_in ends) seen
    → All (λ s. All (OfFirstEnds ends) s.items) seen
seen_first viewers ends seen k = λ i d within.
    let s = slice_index_or seen i d in
    All-weaker (λ n. n ≤ last_of s.items) (OfFirstEnds ends)
    (λ n le. of_first_ends ends n (subst (λ m. n ≤ m) (k.at_last i d within) le)) s.items
    (no_more_than_last s.items (k.rising i d within))

-- the city after a prefix of the changes taken by a desk's shelf
pub shown_first : (scripts : List Scripted) (start : CityMap) (ends : List End) (taken shown : List Change)
    → AreChangesOf scripts start ends taken → IsPrefix shown taken
    → (n : ℕ) × (n ≤ length ends) × (after_changes start shown ≡ model_after scripts start (take n ends))
shown_first scripts start ends taken shown k begins =
    let whole : length shown + length (begins.0) ≡ length taken =
    sym (length-append shown (begins.0)) ∙ ap length (begins.1) in
    let first = of_first_ends ends (length shown) (omega (arith, whole, k.one_each)) in (
      first.0,
      first.1,
      ap (after_changes start) (sym (take-append_seam shown (begins.0))
          ∙ (ap (take (length shown)) (begins.1) ∙ ap (λ n. take n taken) (sym first.2)))
          ∙ k.shows first.0,
    )

-- ---- an example: of three scripts the second one aborts, so one change stands for one end or for two

abbrev ended : ℕ → Outcome → End
ended script outcome = record { script = script; name = []; since = 0; replies = []; outcome = outcome }

abbrev three_ends : List End
three_ends = ended 0 Outcome.Committed ∷ ended 1 Outcome.Aborted ∷ ended 2 Outcome.Committed ∷ []

pub one_change_after_one_end : OfFirstEnds three_ends 1
one_change_after_one_end = (1, omega arith, refl)

pub one_change_after_two_ends : OfFirstEnds three_ends 1
one_change_after_two_ends = (2, omega arith, refl)

pub two_changes_after_three_ends : OfFirstEnds three_ends 2
two_changes_after_three_ends = (3, omega arith, refl)
