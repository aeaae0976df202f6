use Rattle.city_writer.proofs.Prelude.{◌∙◌, arith, entries}
use Rattle.std.proofs.Crossing as values
use Rattle.std.proofs.MapsCrossing as maps
use Rattle.serde_json.proofs.value.Value.TheLaws.TheKnot as json
use denote.Param.Send.{sendable}
use Rattle.std.specs.FinMap.{len-entries}
use Rattle.city_model.proofs.Crossing.{city_field_syncs}
use Rattle.city_writer.specs.internal.document.Pieces.{IsListed}
use Rattle.city_writer.proofs.EachPiece.{each_made}
use Rattle.city_writer.proofs.document.points_in_pieces.points_of_pieces.Goals as goal

pub map_indices-requires-sync-F : goal.map_indices-requires-sync-F
map_indices-requires-sync-F g c κs within =
    search (city_field_syncs, maps.crosses, values.crosses, json.crosses, sendable) depth 60 fits 20000

pub returns : goal.returns
returns g c =
    let city = c.args.city.now in
    let made = c.in_ok-pieces.ensures in
    let all = c.in_ok-pieces.pieces in
    each_made (λ es ps. IsListed es ps) c.args.len c.len.result c.div_ceil.result
    (entries city.1) all.items c.requires
    (c.len.ensures ∙ len-entries city.1) c.div_ceil.ensures (omega (arith, made.len, all.ok.0))
    (λ i d less. (made.each i d less).1.met)
