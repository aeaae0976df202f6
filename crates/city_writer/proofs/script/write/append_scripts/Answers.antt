use Rattle.city_writer.proofs.Prelude.{refl}
use Rattle.city_writer.proofs.script.TextsOfScripts.{text_printed, scripts_json, scripts_written}
use Rattle.city_writer.proofs.script.write.append_scripts.Goals as goal

pub returns : goal.returns
returns c =
    let scripts = c.args.scripts.now in
    let done = c.in_ok-write_scripts.ensures in
    let items = c.into_inner-bytes.ensures in
    let same = rw c.new-out.ensures.tokens at done.tokens in
    let lexed = rw same at items.reads_back in
    let utf8 = rw same at items.utf8 in
    record {
      text = rw (items.items, done.before, c.new-out.ensures.before, same, text_printed scripts lexed utf8) refl;
      written = scripts_written scripts lexed utf8 done.writable;
      json = scripts_json scripts lexed utf8;
    }
