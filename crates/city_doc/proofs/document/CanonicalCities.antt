-- Promises of the canonical text of a city.
use Rattle.city_doc.proofs.Prelude.{◌≤◌, ap, depth, max_depth, tree_of}
use Rattle.city_doc.proofs.Prelude.{IsTextOfCity, CityValue}
use Rattle.city_writer.specs.document.Canonical.{city_text}
use Rattle.city_writer.specs.document.Texts.{IsTextOf}
use Rattle.city_doc.specs.document.CanonicalTexts.{IsCanonicalText}
use Rattle.city_doc.proofs.document.CityNests.{written_within}
use Rattle.city_doc.proofs.document.LawfulTrees.{not_refused}
use Rattle.city_doc.proofs.OneValue.{one_city}
use Rattle.city_writer.proofs.Laws.{text_reads}
use Rattle.city_doc.proofs.document.RoundTrip.{city_read}
use Rattle.city_doc.proofs.document.IntegralTrees.{city_integral}

pub city_canonical : (city : CityValue) → IsTextOf (city_text city) city → IsCanonicalText (city_text city) city
city_canonical city written =
    let tree = tree_of city in
    let standing = city_read city written.kept written.in_range in
    let again : depth tree ≤ max_depth → IsTextOfCity (city_text city) city =
    λ shallow. (tree, (written.utf8, text_reads _ tree written.tokens_are written.reads shallow), standing) in
    record {
      read_again = again;
      canonical = λ shallow other other_stands. ap city_text (one_city _ other city other_stands (again shallow));
      accepted = λ shallow readable lawful fault.
          not_refused _ city (
            tree,
            (readable, (again shallow).1),
            city_integral _ city written.kept written.in_range,
            standing,
            lawful,
          ) fault;
      rewritten = λ document stands_before. again (written_within document city stands_before);
      tokens_are = written.tokens_are;
      in_range = written.in_range;
    }
