-- The written text of a city.
use Rattle.city_writer.proofs.Prelude.{◌≡◌, print-outline, tree_of, CityValue, ReadsBack, IsKeptCity, IsInRange}
use Rattle.city_writer.proofs.Prelude.{pool_of}
use Rattle.city_writer.proofs.Prelude.{tokens_of}
use Rattle.std.specs.Str.{IsUtf8}
use Rattle.json.specs.Lex.{tokens}
use Rattle.json.specs.Print.{print}
use Rattle.city_writer.specs.document.Canonical.{city_text}
use Rattle.city_writer.specs.document.Texts.{IsTextOf}
use Rattle.city_writer.specs.report.JsonLines.{IsCompactJson}
use Rattle.city_writer.proofs.tree.CompactJson.{compact_json}

module _ (city : CityValue) (lexed : tokens (print (tokens_of (tree_of city))) ≡ tokens_of (tree_of city))
    (utf8 : IsUtf8 (print (tokens_of (tree_of city)))) where
  pub text_printed : print (tokens_of (tree_of city)) ≡ city_text city
  unfolding city_text
  text_printed = print-outline (tree_of city)

  pub city_json : IsCompactJson (city_text city)
  unfolding city_text
  city_json = compact_json (tree_of city) lexed utf8

  pub city_written : ReadsBack (tree_of city) → IsKeptCity city → IsInRange (pool_of city) city.0
      → IsTextOf (city_text city) city
  unfolding city_text
  city_written reads kept in_range =
      let printed = print-outline (tree_of city) in
      record {
        tokens_are = rw printed at lexed;
        utf8 = rw printed at utf8;
        reads = reads;
        kept = kept;
        in_range = in_range;
      }
