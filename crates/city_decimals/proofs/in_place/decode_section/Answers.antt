use Rattle.city_decimals.proofs.Prelude.{ℕ, ◌≡◌, ◌+◌, ◌-◌, subst, take, drop, arith, Some, None}
use Rattle.memchr.specs.Find.{FindsNeedle}
use Rattle.city_decimals.proofs.Sections.{tag_is, left_is, number_len, quote_there, decoded_more, whole_section}
use Rattle.city_decimals.specs.internal.Needles.{tag_name}
use Rattle.city_decimals.proofs.in_place.decode_section.Goals as goal

same_size : (at left : ℕ) → at + left - at ≡ left
same_size at left = omega arith

pub overflow_sub-before : goal.overflow_sub-before
overflow_sub-before c =
    let a = c.args in
    let l = c.loop-tag in
    let found = subst (λ n. FindsNeedle (take n (drop l.at l.text)) tag_name 0 (Some c.in-Some.tag))
    (same_size l.at l.left) c.in-Some.ensures in
    tag_is a.text.now l.text a.from a.to a.count l.at l.end l.left c.in-Some.tag c.requires.within l.invariant found

pub slice_bounds-next_byte-count : goal.slice_bounds-next_byte-count
slice_bounds-next_byte-count c =
    let a = c.args in
    let l = c.loop-tag in
    let found = subst (λ n. FindsNeedle (take n (drop l.at l.text)) tag_name 0 (Some c.in-Some.tag))
    (same_size l.at l.left) c.in-Some.ensures in
    let left_is = left_is a.text.now l.text a.from a.to a.count l.at l.end l.left c.in-Some.tag c.requires.within
    l.invariant found in
    omega (arith, left_is, l.invariant.place, l.invariant.len, c.requires.within, c.move_down.ensures.len)

pub slice_bounds-next_byte-start : goal.slice_bounds-next_byte-start
slice_bounds-next_byte-start c =
    let a = c.args in
    let l = c.loop-tag in
    let found = subst (λ n. FindsNeedle (take n (drop l.at l.text)) tag_name 0 (Some c.in-Some.tag))
    (same_size l.at l.left) c.in-Some.ensures in
    let left_is = left_is a.text.now l.text a.from a.to a.count l.at l.end l.left c.in-Some.tag c.requires.within
    l.invariant found in
    omega (arith, left_is, l.invariant.place, l.invariant.len, c.requires.within, c.move_down.ensures.len)

pub unreachable-requires : goal.unreachable-requires
unreachable-requires c =
    let a = c.args in
    let l = c.loop-tag in
    let found = subst (λ n. FindsNeedle (take n (drop l.at l.text)) tag_name 0 (Some c.in-Some.tag))
    (same_size l.at l.left) c.in-Some.ensures in
    quote_there a.text.now l.text a.from a.to a.count l.at l.end l.left c.in-Some.tag c.requires.within l.invariant
    found c.move_down.new.text c.move_down.ensures c.in_default-next_byte.ensures

pub overflow_sub-left : goal.overflow_sub-left
overflow_sub-left c =
    let a = c.args in
    let l = c.loop-tag in
    let found = subst (λ n. FindsNeedle (take n (drop l.at l.text)) tag_name 0 (Some c.in-Some.tag))
    (same_size l.at l.left) c.in-Some.ensures in
    let len = number_len a.text.now l.text a.from a.to a.count l.at l.end l.left c.in-Some.tag c.requires.within
    l.invariant found
    c.move_down.new.text c.move_down.ensures c.in-Some-next_byte.len c.in-Some-next_byte.ensures in
    let left_is = left_is a.text.now l.text a.from a.to a.count l.at l.end l.left c.in-Some.tag c.requires.within
    l.invariant found in
    omega (arith, len, left_is)

pub loop-tag-preserved : goal.loop-tag-preserved
loop-tag-preserved c =
    let a = c.args in
    let l = c.loop-tag in
    let found = subst (λ n. FindsNeedle (take n (drop l.at l.text)) tag_name 0 (Some c.in-Some.tag))
    (same_size l.at l.left) c.in-Some.ensures in
    let one = c.move_down.new.text in
    let len = number_len a.text.now l.text a.from a.to a.count l.at l.end l.left c.in-Some.tag c.requires.within
    l.invariant found
    one c.move_down.ensures c.in-Some-next_byte.len c.in-Some-next_byte.ensures in
    decoded_more a.text.now l.text a.from a.to a.count l.at l.end l.left c.in-Some.tag c.requires.within l.invariant
    found one c.move_down.ensures c.move_down-in-Some.new.text c.in-Some-next_byte.len len c.move_down-in-Some.ensures

pub returns : goal.returns
returns c =
    let a = c.args in
    let l = c.loop-tag in
    whole_section a.text.now l.text c.move_down-2.new.text a.from a.to a.count l.at l.end l.left l.invariant
    (subst (λ n. FindsNeedle (take n (drop l.at l.text)) tag_name 0 None) (same_size l.at l.left) c.in_default.ensures)
    c.move_down-2.ensures
