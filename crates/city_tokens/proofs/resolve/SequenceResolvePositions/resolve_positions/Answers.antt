use Rattle.city_tokens.proofs.Prelude.{◌≡◌, arith, points_of}
use Rattle.city_tokens.proofs.ResolvedParts.{array_resolved}
use Rattle.city_tokens.proofs.resolve.SequenceResolvePositions.resolve_positions.Goals as goal

pub returns : goal.returns
returns g c =
    let old : c.into_vec-unresolved.result.items ≡ c.args.self.now = grind arith in
    let reads = g.T.ResolvePositions.reads (points_of c.args.vertices.now) in
    let all = array_resolved g.T.ResolvePositions.stands reads _ _ c.in_ok-items.ensures in
    rw c.from_vec.ensures (rw old at all)
