use Rattle.city_model.proofs.Prelude.{◌≡◌, ◌<◌, length, ap, true, false, sym, subst, arith, rules}
use Rattle.city_model.proofs.IdTrees.{place_in_leaf, place_in_left, place_in_right, left_ascends, right_ascends, parted}
use Rattle.city_model.proofs.IdTrees.{from_end}
use Rattle.std.proofs.lemmas.List.{length-append}
use Rattle.std.proofs.lemmas.List.Sorted.{IsPartitionPoint-from_clause}
use Rattle.city_model.specs.Chunks.{ids_of}
use Rattle.city_model.specs.declared.id_tree.Entry.{Entry}
use Rattle.city_model.specs.internal.IdTrees.{is_below, Ascends}
use Rattle.city_model.proofs.id_tree.+place_of_id.Goals as goal

pub returns-in-Leaf : goal.returns-in-Leaf
returns-in-Leaf t c =
    let es = c.in-Leaf.items.now in
    let same : es ≡ c.args.entries.now = c.in-Leaf.ensures.items in
    place_in_leaf es c.args.entries.now c.args.id.now c.partition_point.result same c.partition_point.ensures.bound
    (IsPartitionPoint-from_clause (λ (e : Entry). is_below e.id c.args.id.now) es c.partition_point.result
    c.partition_point.ensures.partitioned
    (parted es c.args.id.now (subst (λ w. Ascends (ids_of w)) (sym same) c.requires))
    (λ a r f' q. search rules))

pub place_of_id-requires : goal.place_of_id-requires
place_of_id-requires t c =
    let left = c.in-Sides.left.now in
    let right = c.in-Sides.right.now in
    let shorter : length left < length c.args.entries.now =
    omega (arith, ap length c.in-Sides.ensures.items, length-append left right, c.in-Sides.ensures.parts.1) in
    (search (rules, c.decreases), left_ascends left right c.args.entries.now c.in-Sides.ensures.items c.requires)

pub place_of_id-requires-in-Sides : goal.place_of_id-requires-in-Sides
place_of_id-requires-in-Sides t c =
    let left = c.in-Sides.left.now in
    let right = c.in-Sides.right.now in
    let shorter : length right < length c.args.entries.now =
    omega (arith, ap length c.in-Sides.ensures.items, length-append left right, c.in-Sides.ensures.parts.0) in
    (search (rules, c.decreases), right_ascends left right c.args.entries.now c.in-Sides.ensures.items c.requires)

pub returns-then-not-starts_below : goal.returns-then-not-starts_below
returns-then-not-starts_below t c =
    let none : c.starts_below.result ≡ false = grind arith in
    place_in_left c.in-Sides.left.now c.in-Sides.right.now c.args.entries.now c.args.id.now c.place_of_id.result
    c.starts_below.result c.in-Sides.ensures.items c.in-Sides.ensures.parts.1 c.starts_below.ensures none c.requires
    c.place_of_id.ensures

pub returns-else-not-starts_below : goal.returns-else-not-starts_below
returns-else-not-starts_below t c =
    let left = c.in-Sides.left.now in
    let right = c.in-Sides.right.now in
    let all = c.args.entries.now in
    let n = c.place_of_id-in-Sides.result in
    let below : c.starts_below.result ≡ true = grind arith in
    place_in_right left right all c.args.id.now n _ c.starts_below.result c.in-Sides.ensures.items
    c.in-Sides.ensures.parts.1 c.starts_below.ensures below c.requires c.place_of_id-in-Sides.ensures
    (from_end left right all c.args.id.now n c.len.result c.len-in-Sides.result c.in-Sides.ensures.items
    c.place_of_id-in-Sides.ensures c.len.ensures c.len-in-Sides.ensures)
