use Rattle.city_decimals.proofs.Prelude.{rules, ◌≡◌, ◌+◌, take, drop, arith}
use Rattle.std.proofs.lemmas.Slice.{overwrites}
use Rattle.city_decimals.proofs.Sections.{moved_more}
use Rattle.city_decimals.proofs.in_place.move_down.Goals as goal

pub loop-done-preserved : goal.loop-done-preserved
loop-done-preserved c =
    let l = c.loop-done in
    let size = c.min-size.result in
    let is : c.copy_from_slice-in-loop-done.new.self ≡ take size (drop (c.args.from + l.done) l.text)
    = search (rules, overwrites) in
    record {
      within = search (rules, arith);
      moved = moved_more _ _ _ _ _ l.done size _ c.requires.down (search (rules, arith)) l.invariant.moved
          (omega arith) is;
    }
