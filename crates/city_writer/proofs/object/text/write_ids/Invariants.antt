use Rattle.city_writer.proofs.Prelude.{◌≡◌, ◌++◌, string, ids_left}
use Rattle.city_writer.proofs.tree.WrittenItems.{closing, ReadBack}
use Rattle.city_writer.proofs.object.text.write_ids.Given as goal

-- the rest ends the array
abbrev pub invariant-loop-id : goal.invariant-loop-id
invariant-loop-id l =
    let all = ids_left l.fn.ids in
    let left = ids_left l.id-iterator in
    (l.out.before ≡ l.initial.out.before)
    × (l.initial.out.tokens ++ closing string all ≡ l.out.tokens ++ closing string left)
    × (ReadBack string left → ReadBack string all)
