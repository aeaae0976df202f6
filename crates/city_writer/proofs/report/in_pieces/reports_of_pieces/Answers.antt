use Rattle.city_writer.proofs.Prelude.{get_or, refl, arith, subst}
use Rattle.std.proofs.Common.{IfSome}
use Rattle.std.proofs.Crossing as values
use Rattle.std.proofs.MapsCrossing as maps
use Rattle.serde_json.proofs.value.Value.TheLaws.TheKnot as json
use denote.Param.Send.{sendable}
use Rattle.city_members.proofs.Crossing.{text_syncs}
use Rattle.city_model.proofs.Crossing.{object_syncs}
use Rattle.city_writer.specs.internal.Reports.{IsReport}
use Rattle.city_writer.proofs.EachPiece.{each_made}
use Rattle.city_writer.proofs.report.in_pieces.reports_of_pieces.Goals as goal

pub map_chunks-requires-sync-T : goal.map_chunks-requires-sync-T
map_chunks-requires-sync-T g c κs within =
    search (text_syncs, object_syncs, maps.crosses, values.crosses, json.crosses, sendable) depth 60 fits 20000

pub returns : goal.returns
returns g c =
    let made = c.in_ok-reports.ensures in
    let all = c.in_ok-reports.reports in
    each_made (λ es report. IsReport es report.items) c.args.len _ _ c.args.ends.now all.items c.requires refl refl
    (omega (arith, made.len, all.ok.0))
    (λ i d less.
    let piece = (made.each i d (omega (arith, made.len, all.ok.0, less))).1 in
    subst (λ es. IfSome (get_or all.items i d) (λ report. IsReport es report.items)) piece.argument_is.value piece.call)
