-- A shell is closed if each edge run up is there once, and these edges, turned, are the edges run down.
use Rattle.city_model.proofs.Prelude.{◌≡◌, ◌≤◌, List, [], ◌∷◌, Bool, true, false, not, map, Ordering, refl, sym, ◌∙◌}
use Rattle.city_model.proofs.Prelude.{subst, arith, Decides, IsTotalOrder, list_all, IsSorted, IsPermutation, eq_by_cmp}
use Rattle.city_model.proofs.Prelude.{Point, Edge, flipped, times, occurs_once, rising}
use Rattle.std.specs.Prelude.{◌&&◌}
use Rattle.std.specs.Ordering.{int_cmp, int_eq, ordering_then}
use Rattle.std.proofs.lemmas.Bool.{not-false}
use Rattle.std.proofs.lemmas.Cmp.{int_cmp_total, on_total, then_total}
use Rattle.city_model.specs.Shells.{same_edge, runs_both_ways}
use Rattle.city_model.specs.internal.RisingEdges.{rises}
use Rattle.city_model.proofs.SortedEdges.{all_counted, counted_all, times-filter_kept, times-filter_left}
use Rattle.city_model.proofs.SortedEdges.{times_permutation, sorted_same}
use Rattle.city_model.proofs.IdLists.{same_truth}

-- ---- the order of edges

-- by x, then y, then z
abbrev point_order : Point → Point → Ordering
point_order p q = ordering_then (int_cmp p.x q.x) (ordering_then (int_cmp p.y q.y) (int_cmp p.z q.z))

-- by the first point, then the second: the derived order of a pair of points
abbrev pub edge_order : Edge → Edge → Ordering
edge_order e f = ordering_then (point_order e.0 f.0) (point_order e.1 f.1)

point_order_total : IsTotalOrder point_order
point_order_total =
    then_total (on_total (λ (p : Point). p.x) int_cmp_total)
    (then_total (on_total (λ (p : Point). p.y) int_cmp_total) (on_total (λ (p : Point). p.z) int_cmp_total))

edge_order_total : IsTotalOrder edge_order
edge_order_total =
    then_total (on_total (λ (e : Edge). e.0) point_order_total) (on_total (λ (e : Edge). e.1) point_order_total)

-- it ties equal edges alone
tied_edges : eq_by_cmp edge_order ≡ same_edge
tied_edges i e f = let tied : eq_by_cmp edge_order e f ≡ same_edge e f = grind arith in tied i

-- ---- the tests of edges

-- the derived test of two points
abbrev point_eq : Point → Point → Bool
point_eq p q = int_eq p.x q.x && (int_eq p.y q.y && int_eq p.z q.z)

point_decides : (p q : Point) → Decides (point_eq p q) (p ≡ q)
point_decides p q = search arith

-- the derived test of two edges
pub pair_decides : (e f : Edge) → Decides (point_eq e.0 f.0 && point_eq e.1 f.1) (e ≡ f)
pair_decides e f = search (arith, point_decides)

edge_decides : (e f : Edge) → Decides (same_edge e f) (e ≡ f)
edge_decides e f = grind (arith, pair_decides e f)

order_decides : (e f : Edge) → Decides (eq_by_cmp edge_order e f) (e ≡ f)
order_decides =
    subst (λ (same : Edge → Edge → Bool). (e f : Edge) → Decides (same e f) (e ≡ f)) (sym tied_edges) edge_decides

-- ---- how often an edge is run

times-flipped : (q : Edge) (es : List Edge) → times same_edge q (map flipped es) ≡ times same_edge (flipped q) es
times-flipped q [] = refl
times-flipped q (e ∷ es) = grind (arith, times-flipped q es)

-- an edge not rising does so turned
rises_back : (e : Edge) → rises e ≡ false → rises (flipped e) ≡ true
rises_back e h = grind (arith, point_order_total.antisymm e.0 e.1)

module _ (es : List Edge) where
  up_times : (q : Edge) → rises q ≡ true → times same_edge q (rising es) ≡ times same_edge q es
  up_times q h = times-filter_kept edge_decides rises q h es

  down_times : (q : Edge) → rises q ≡ true
      → times same_edge q (rising (map flipped es)) ≡ times same_edge (flipped q) es
  down_times q h = times-filter_kept edge_decides rises q h (map flipped es) ∙ times-flipped q es

  module _ (once : (q : Edge) → 1 ≤ times same_edge q (rising es) → times same_edge q (rising es) ≡ 1)
      (alike : (q : Edge) → times same_edge q (rising es) ≡ times same_edge q (rising (map flipped es))) where
    paired : (q : Edge) → rises q ≡ true
        → (times same_edge q es ≡ times same_edge (flipped q) es)
        × (1 ≤ times same_edge q es → times same_edge q es ≡ 1)
    paired q h = search (arith, up_times, down_times)

    -- if each edge run up is there once, and these edges, turned, are the edges run down, each is run once each way
    closed_from_lists : list_all (runs_both_ways es) es ≡ true
    closed_from_lists = counted_all edge_decides (runs_both_ways es) es (λ q many.
        grind (arith, paired q, paired (flipped q), rises_back q))

  module _ (closed : list_all (runs_both_ways es) es ≡ true) where
    each_way : (q : Edge) → 1 ≤ times same_edge q es → (times same_edge q es ≡ 1) × (times same_edge (flipped q) es ≡ 1)
    each_way q many = grind (arith, all_counted edge_decides (runs_both_ways es) es closed q many)

    once_from_closed : (q : Edge) → 1 ≤ times same_edge q (rising es) → times same_edge q (rising es) ≡ 1
    once_from_closed q many = search (arith, up_times, each_way, times-filter_left, edge_decides)

    alike_from_closed : (q : Edge) → times same_edge q (rising es) ≡ times same_edge q (rising (map flipped es))
    alike_from_closed q =
        search (arith, up_times, each_way, down_times, times-filter_left, edge_decides)

-- ---- as the code finds it, in order

module _ (es us : List Edge) (ups : IsPermutation (rising es) us) where
  once_there : list_all (occurs_once (eq_by_cmp edge_order) us) us ≡ true → (q : Edge)
      → 1 ≤ times same_edge q (rising es) → times same_edge q (rising es) ≡ 1
  once_there h q many = grind (
    arith,
    times_permutation ups same_edge q,
    all_counted edge_decides (occurs_once same_edge us) us (rw tied_edges at h) q,
  )

  none_twice : list_all (runs_both_ways es) es ≡ true → list_all (occurs_once (eq_by_cmp edge_order) us) us ≡ true
  none_twice closed = rw tied_edges (counted_all edge_decides (occurs_once same_edge us) us
      (λ q many. grind (arith, times_permutation ups same_edge q, once_from_closed es closed q)))

  pub closed_where_same : (ds : List Edge) → IsPermutation (rising (map flipped es)) ds → IsSorted edge_order us
      → IsSorted edge_order ds → false ≡ not (list_all (occurs_once (eq_by_cmp edge_order) us) us) → (same : Bool)
      → Decides same (us ≡ ds) → same ≡ list_all (runs_both_ways es) es
  closed_where_same ds downs up down none same decides =
      let there = times_permutation ups same_edge in
      let back = times_permutation downs same_edge in
      same_truth same (list_all (runs_both_ways es) es)
      (λ h. closed_from_lists es (once_there (not-false _ (sym none)))
      (λ q. grind (arith, there q, back q, decides.0 h)))
      (λ closed. decides.1 (sorted_same edge_order_total order_decides us ds up down (λ q.
      rw tied_edges (grind (arith, there q, back q, alike_from_closed es closed q)))))

  pub open_where_repeated : true ≡ not (list_all (occurs_once (eq_by_cmp edge_order) us) us)
      → false ≡ list_all (runs_both_ways es) es
  open_where_repeated some = grind (arith, none_twice)
