use Rattle.city_writer.proofs.Prelude.{rules}
use Rattle.city_writer.proofs.document.RestInPieces.{rest_appended}
use Rattle.city_writer.proofs.shape.VerticesInTurn.{vertices_joined}
use Rattle.city_writer.proofs.tree.ReadBack.{array_reads}
use Rattle.city_writer.proofs.document.in_pieces.append_rest.Goals as goal

pub returns : goal.returns
returns g c =
    let points = c.args.points.now in
    let before = c.in_ok-before.ensures in
    let behind = c.in_ok-all.ensures in
    let pieces = c.in_ok-vertices.ensures in
    let vertices = vertices_joined (λ text. text.items) _ points _ pieces.all c.in_ok-texts.ensures in
    record {
      rest = rest_appended c.args.kept.now points c.args.frame.now _ _ _ _ _ _ before.before vertices.printed
          pieces.text before.left behind.behind;
      left = before.left_reads behind.reads;
      reads = (before.reads, array_reads _ vertices.reads);
      kept = before.kept;
      in_range = record {
        scale = before.in_range.0;
        translate = before.in_range.1;
        points = vertices.in_range;
        fewer = search rules;
      };
    }
