-- A search by one byte passes no place where all bytes occur.
use Rattle.city_decimals.proofs.Prelude.{◌≡◌, ℕ, ◌+◌, ◌-◌, ◌<◌, ◌≤◌, List, false, length, drop, arith, sym, ap, ◌∙◌}
use Rattle.city_decimals.proofs.Prelude.{true≢false, length-drop}
use Rattle.std.proofs.Common.{inl, inr}
use Rattle.std.proofs.lemmas.Bool.{cases_lt, cases_eq}
use Rattle.std.specs.Prelude.{slice_index}
use lib.Seq.{get_or-drop}
use Rattle.memchr.specs.Find.{OccursAt, Nowhere, NoneBefore, Passes, is_byte, occurs_at}
use Rattle.memchr.proofs.lemmas.MatchLemmas.{occurs_at-true}

module _ (text needle : List ℕ) (rare from : ℕ) (less : rare < length needle) (begin : rare ≤ from)
    (earlier : Nowhere (OccursAt text needle) 0 (from - rare)) where
  -- where the bytes occur, the byte is found
  passes : (k : ℕ) → from ≤ k + rare → OccursAt text needle k
      → Passes (is_byte (slice_index needle rare)) (drop from text) (k + rare - from)
  passes k far here =
      let place : from + (k + rare - from) ≡ k + rare = omega (arith, far) in
      let same : slice_index (drop from text) (k + rare - from) ≡ slice_index needle rare =
      get_or-drop from text (k + rare - from) 0 ∙ ap (slice_index text) place ∙ here.reads rare less in
      rw same (grind arith)

  pub none_more : Nowhere (Passes (is_byte (slice_index needle rare)) (drop from text)) 0 (length (drop from text))
      → Nowhere (OccursAt text needle) 0 (length text + 1)
  none_more none k low high here = elim (cases_lt (k + rare) from) [
    | inl before ↦ earlier k low (omega (arith, before, begin)) here
    | inr behind ↦
        none (k + rare - from) (omega arith) (omega (arith, length-drop from text, here.fits, less, behind))
        (passes k behind here)
  ]

  pub none_before : (step : ℕ)
      → NoneBefore (Passes (is_byte (slice_index needle rare)) (drop from text)) 0 (length (drop from text)) step
      → Nowhere (OccursAt text needle) 0 (from + step - rare)
  none_before step first k low high here = elim (cases_lt (k + rare) from) [
    | inl before ↦ earlier k low (omega (arith, before, begin)) here
    | inr behind ↦ first.before (k + rare - from) (omega arith) (omega (arith, behind, high)) (passes k behind here)
  ]

  -- nor here, if the bytes don't occur here
  pub none_here : (step : ℕ) → Nowhere (OccursAt text needle) 0 (from + step - rare)
      → occurs_at text needle (from + step - rare) ≡ false
      → Nowhere (OccursAt text needle) 0 (from + (step + 1) - rare)
  none_here step before no_place k low high here = elim (cases_eq k (from + step - rare)) [
    | inl same ↦
        absurd (true≢false (sym (occurs_at-true text needle k here) ∙ ap (occurs_at text needle) same ∙ no_place))
    | inr other ↦ before k low (omega (arith, high, other, begin)) here
  ]

  pub none_left : length text ≤ from → Nowhere (OccursAt text needle) 0 (length text + 1)
  none_left over k low high here = earlier k low (omega (arith, over, here.fits, less)) here
