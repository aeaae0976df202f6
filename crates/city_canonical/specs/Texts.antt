-- Texts in canonical form, and texts without one.
use Rattle.std.specs.Prelude.{◌≡◌, ℕ, List, None}
use Rattle.std.specs.Str.{IsUtf8}
use Rattle.json.specs.Json.{Json, document}
use Rattle.json.specs.Print.{print}
use Rattle.json.specs.Tree.{json_tokens}
use Rattle.city_model.specs.CityMap.{CityValue}
use Rattle.city_decimals.specs.Texts.{IsValueOf, IsEncoded, IsDecoded}
use Rattle.city_writer.specs.document.Canonical.{city_text}
use Rattle.city_tokens.specs.document.Cities.{IsTextOfCity}
use Rattle.city_doc.specs.document.Faults.{DocumentFault}
use Rattle.city_canonical.specs.Same.{IsSameModel}
use Rattle.city_canonical.specs.declared.fault.CanonicalFault.{CanonicalFault}
use Rattle.city_canonical.specs.declared.fault.CanonicalFault.TheVariants.{OutOfMemory, NotJson, NotModel}

-- out is the compact text of the same model as the text's
abbrev pub IsSameText : List ℕ → List ℕ → Type 0
IsSameText text out =
    (j : Json) × (k : Json) × IsValueOf j text × IsValueOf k out × (out ≡ print (json_tokens k)) × IsSameModel j k

-- out is decoded from the canonical text of the encoded text's city
abbrev pub IsCanonicalOf : List ℕ → List ℕ → Type 0
IsCanonicalOf text out =
    (encoded : List ℕ) × (c : CityValue) × IsEncoded text encoded × IsTextOfCity encoded c
    × IsDecoded (city_text c) out

-- `OutOfMemory` may be answered for any text
abbrev pub IsCanonicalFault : List ℕ → CanonicalFault → Type 0
IsCanonicalFault text OutOfMemory = Unit {0}
IsCanonicalFault text NotJson = IsUtf8 text → document text ≡ None
IsCanonicalFault text (NotModel f) = (encoded : List ℕ) × IsEncoded text encoded × DocumentFault encoded f
