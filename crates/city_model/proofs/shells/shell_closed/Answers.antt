use Rattle.city_model.proofs.Prelude.{rules, ◌≡◌, List, not, map, sym, ap, subst, ◌∙◌, IsPermutation, IsSorted, Edge}
use Rattle.city_model.proofs.Prelude.{edges_of, flipped, rising}
use Rattle.std.proofs.lemmas.Slice.Eq.{slice_eq-Decides}
use Rattle.city_model.proofs.Closed.{closed_where_same, open_where_repeated, pair_decides, edge_order}
use Rattle.city_model.proofs.shells.shell_closed.Goals.{then-not-has_repeats, else-not-has_repeats}
use Rattle.city_model.proofs.shells.shell_closed.Goals as goal

-- the sorted edges, as a slice
sorted_slice : (noted found sorted lent : List Edge) → noted ≡ found → IsPermutation noted sorted → lent ≡ sorted
    → IsPermutation found lent
sorted_slice noted found sorted lent is moved value = search rules

pub returns : goal.returns
returns c =
    let es = edges_of c.args.shell.now in
    let us = c.as_slice-up.result.now in
    let ups : IsPermutation (rising es) us =
    sorted_slice _ _ _ _ c.in_ok-edges.ensures.up c.sort_unstable.ensures.permutation c.as_slice-up.ensures.value in
    elim c.if-not-has_repeats.branch [
      | then-not-has_repeats w ↦
          let ds = w.as_slice.result.now in
          let downs : IsPermutation (rising (map flipped es)) ds =
          sorted_slice _ _ _ _ c.in_ok-edges.ensures.down c.sort_unstable-2.ensures.permutation
          w.as_slice.ensures.value in
          w.result-is ∙ closed_where_same es us ups ds downs
          (subst (IsSorted edge_order) (sym c.as_slice-up.ensures.value) c.sort_unstable.ensures.sorted)
          (subst (IsSorted edge_order) (sym w.as_slice.ensures.value) c.sort_unstable-2.ensures.sorted)
          w.if-not-has_repeats.ensures w.eq.result (slice_eq-Decides pair_decides us ds w.eq.result w.eq.ensures)
      | else-not-has_repeats w ↦ w.result-is ∙ ap not w.if-not-has_repeats.false
          ∙ open_where_repeated es us ups w.if-not-has_repeats.ensures
    ]
