-- The written text of scripts.
use Rattle.city_writer.proofs.Prelude.{◌≡◌, List, [], ◌∷◌, print-outline, AllByRecursion, ItemsReadBack, items_of, map}
use Rattle.city_writer.proofs.Prelude.{tokens_of}
use Rattle.std.specs.Str.{IsUtf8}
use Rattle.json.specs.Lex.{tokens}
use Rattle.json.specs.Print.{print}
use Rattle.city_model.specs.Runs.{Scripted}
use Rattle.city_writer.specs.report.JsonLines.{IsCompactJson}
use Rattle.city_writer.specs.script.Canonical.{script_tree, scripts_tree, scripts_text}
use Rattle.city_writer.specs.script.Texts.{AreWritten, IsWritable}
use Rattle.city_writer.proofs.tree.CompactJson.{compact_json}
use Rattle.city_writer.proofs.tree.ReadBack.{array_reads}

each_reads : (ss : List Scripted) → AllByRecursion IsWritable ss → ItemsReadBack (items_of (map script_tree ss))
each_reads [] h = tt
each_reads (s ∷ ss) h = (h.0.reads, each_reads ss h.1)

module _ (ss : List Scripted) (lexed : tokens (print (tokens_of (scripts_tree ss))) ≡ tokens_of (scripts_tree ss))
    (utf8 : IsUtf8 (print (tokens_of (scripts_tree ss)))) where
  pub text_printed : print (tokens_of (scripts_tree ss)) ≡ scripts_text ss
  unfolding scripts_text
  text_printed = print-outline (scripts_tree ss)

  pub scripts_json : IsCompactJson (scripts_text ss)
  unfolding scripts_text
  scripts_json = compact_json (scripts_tree ss) lexed utf8

  pub scripts_written : AllByRecursion IsWritable ss → AreWritten (scripts_text ss) ss
  unfolding scripts_text
  scripts_written writable =
      let printed = print-outline (scripts_tree ss) in
      record {
        tokens_are = rw printed at lexed;
        utf8 = rw printed at utf8;
        reads = array_reads (items_of (map script_tree ss)) (each_reads ss writable);
        writable = writable;
      }
