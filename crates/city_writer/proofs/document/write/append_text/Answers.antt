use Rattle.city_writer.proofs.Prelude.{refl}
use Rattle.city_writer.proofs.document.CityTexts.{text_printed, city_json, city_written}
use Rattle.city_writer.proofs.document.write.append_text.Goals as goal

pub returns : goal.returns
returns c =
    let city = c.args.city.now in
    let done = c.in_ok-write_members.ensures in
    let items = c.into_inner-bytes.ensures in
    let same = rw c.new-out.ensures.tokens at done.tokens in
    let lexed = rw same at items.reads_back in
    let utf8 = rw same at items.utf8 in
    record {
      text = rw (items.items, done.before, c.new-out.ensures.before, same, text_printed city lexed utf8) refl;
      written = city_written city lexed utf8 done.reads done.kept done.in_range;
      json = city_json city lexed utf8;
    }
