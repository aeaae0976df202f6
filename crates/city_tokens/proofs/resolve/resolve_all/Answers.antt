use Rattle.city_tokens.proofs.Prelude.{◌≡◌, suc, ◌+◌, ◌<◌, ◌∷◌, ◌++◌, [], drop, length, get_or, sym, ap, ◌∙◌, subst}
use Rattle.city_tokens.proofs.Prelude.{arith, slice_set, IsResolved, points_of}
use Rattle.city_tokens.proofs.Pairing.{item_written}
use Rattle.city_tokens.proofs.resolve.resolve_all.Goals as goal

pub loop-item-preserved : goal.loop-item-preserved
loop-item-preserved g c =
    let l = c.loop-item in
    let i = l.item-index in
    let start = c.deref_mut-item-items.result.now in
    let done = l.invariant.0 in
    let x = c.item-item.result in
    let y = c.resolve_positions.new.self in
    let R = IsResolved g.T.ResolvePositions.stands (g.T.ResolvePositions.reads (points_of c.args.vertices.now)) in
    let within : i < length l.item-items = grind arith in
    let below : i < length (done ++ drop i start) = subst (λ zs. i < length zs) l.invariant.1 within in
    let is : x ≡ get_or (done ++ drop i start) i x = c.item-item.is ∙ ap (λ zs. get_or zs i x) l.invariant.1 in
    let one : R x y = subst (λ z. R z y) (sym c.item-item.is) c.in_ok-resolve_positions.ensures in
    let step = item_written R i start done x y l.invariant.2 below is one in
    let next : suc i ≡ i + 1 = omega arith in
    (done ++ y ∷ [], ap (λ zs. slice_set zs i y) l.invariant.1 ∙ rw next at step.0, rw next at step.1)
