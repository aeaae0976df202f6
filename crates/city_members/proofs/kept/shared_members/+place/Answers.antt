use Rattle.city_members.proofs.Prelude.{rules}
use Rattle.city_members.specs.Members.{AreOrdered}
use Rattle.city_members.specs.internal.KeptValues.{members_data}
use Rattle.city_members.proofs.MemberSides.{all_found_left, all_found_right, all_free_left, all_free_right}
use Rattle.city_members.proofs.MemberSides.{all_ordered_left, all_ordered_right, before_right, ordered_sides}
use Rattle.city_members.proofs.MemberSides.{shorter_left, shorter_right}
use Rattle.city_members.proofs.kept.shared_members.+place.Goals as goal

pub is_in_left-requires : goal.is_in_left-requires
is_in_left-requires t c =
    let ordered : AreOrdered (members_data c.args.tree.now) = search rules in
    ordered_sides c.in-Sides.left.now c.in-Sides.right.now _ c.in-Sides.ensures.items ordered

pub place-requires : goal.place-requires
place-requires t c =
    let left = c.in-Sides.left.now in
    let right = c.in-Sides.right.now in
    let shorter = shorter_left left right _ c.in-Sides.ensures.items c.in-Sides.ensures.parts.1 in
    let all : AreOrdered (members_data c.args.tree.now) = search rules in
    let ordered = all_ordered_left left right _ c.in-Sides.ensures.items all in
    search (rules, shorter, ordered)

pub returns-then-is_in_left-clause-found : goal.returns-then-is_in_left-clause-found
returns-then-is_in_left-clause-found t c =
    all_found_left c.in-Sides.left.now c.in-Sides.right.now _ c.in-Sides.ensures.items c.args.name.now
    (c.is_in_left.ensures.yes c.if-is_in_left.true) c.place.result c.place.ensures.found

pub returns-then-is_in_left-clause-free : goal.returns-then-is_in_left-clause-free
returns-then-is_in_left-clause-free t c =
    all_free_left c.in-Sides.left.now c.in-Sides.right.now _ c.in-Sides.ensures.items c.args.name.now
    (c.is_in_left.ensures.yes c.if-is_in_left.true) c.place.result c.place.ensures.free

pub place-requires-in-Sides : goal.place-requires-in-Sides
place-requires-in-Sides t c =
    let left = c.in-Sides.left.now in
    let right = c.in-Sides.right.now in
    let shorter = shorter_right left right _ c.in-Sides.ensures.items c.in-Sides.ensures.parts.0 in
    let all : AreOrdered (members_data c.args.tree.now) = search rules in
    let ordered = all_ordered_right left right _ c.in-Sides.ensures.items all in
    search (rules, shorter, ordered)

pub returns-in-Ok-clause-found : goal.returns-in-Ok-clause-found
returns-in-Ok-clause-found t c =
    let left = c.in-Sides.left.now in
    let right = c.in-Sides.right.now in
    all_found_right left right _ c.in-Sides.ensures.items c.args.name.now (c.is_in_left.ensures.no c.if-is_in_left.false)
    _ c.in-Ok.at
    (before_right left right _ c.in-Sides.ensures.items _ _ c.len.ensures c.len-in-Sides.ensures) c.in-Ok.ensures.found

pub returns-in-Err-clause-free : goal.returns-in-Err-clause-free
returns-in-Err-clause-free t c =
    let left = c.in-Sides.left.now in
    let right = c.in-Sides.right.now in
    all_free_right left right _ c.in-Sides.ensures.items c.args.name.now (c.is_in_left.ensures.no c.if-is_in_left.false)
    _ c.in-Err.at
    (before_right left right _ c.in-Sides.ensures.items _ _ c.len.ensures c.len-in-Sides.ensures) c.in-Err.ensures.free
