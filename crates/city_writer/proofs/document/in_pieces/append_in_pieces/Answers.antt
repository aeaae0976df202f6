use Rattle.city_writer.proofs.Prelude.{◌∙◌}
use Rattle.city_writer.proofs.document.CityInPieces.{objects_written, is_text, is_json, is_written}
use Rattle.city_writer.proofs.document.in_pieces.append_in_pieces.Goals as goal

pub returns : goal.returns
returns g c =
    let city = c.args.city.now in
    let members = c.map-members.ensures in
    let kept_is = c.new-kept.ensures ∙ members.members in
    let points = c.as_slice-points.result.now in
    let head = c.in_ok-head.ensures in
    let all = c.in_ok-all.ensures in
    let pooled = c.as_slice-points.ensures.value ∙ c.in_ok-numbered.ensures.points in
    let objects = objects_written (λ text. text.items) c.args.len city c.in_ok-texts.texts.items points pooled
    all.in_range.fewer c.in_ok-objects.ensures.all c.in_ok-texts.ensures in
    record {
      text = is_text points city _ _ _ _ _ _ _ _ pooled c.frame-frame.ensures kept_is members.ordered members.kept
          head.left head.head objects c.in_ok-objects.ensures.text all.rest;
      written = is_written points city _ _ _ _ _ _ _ _ pooled c.frame-frame.ensures kept_is members.ordered
          members.kept head.left head.head objects c.in_ok-objects.ensures.text all.rest (head.reads all.left) all.reads
          all.kept all.in_range;
      json = is_json points city _ _ _ _ _ _ _ _ pooled c.frame-frame.ensures kept_is members.ordered members.kept
          head.left head.head objects c.in_ok-objects.ensures.text all.rest;
    }
