use Rattle.city_texts.proofs.Prelude.{IfSome_then, IsResolvedObject, points_of}
use Rattle.city_tokens.proofs.Pairing.{pairs_joined}
use Rattle.city_texts.proofs.stretches.resolve_objects_by.Goals as goal

pub returns : goal.returns
returns g c =
    IfSome_then c.joined.result c.joined.ensures (λ all is.
    rw c.in_ok-stretches.ensures
    (pairs_joined (IsResolvedObject (points_of c.args.vertices.now)) c.in_ok-stretches.stretches.items
    c.in_ok-resolved.resolved.items all.items c.in_ok-resolved.ensures is))
