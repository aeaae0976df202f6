-- Encoded texts, and decoded texts.
use Rattle.std.specs.Prelude.{◌≡◌, ℕ, List, Option, Some, None, option_and_then}
use Rattle.std.specs.Str.{IsUtf8}
use Rattle.json.specs.Lex.{tokens}
use Rattle.json.specs.Json.{Json, value, if_last, max_depth, document}
use Rattle.json.specs.Print.{print}
use Rattle.json.specs.Tree.{json_tokens}
use Rattle.city_decimals.specs.Encoded.{encoded_top}
use Rattle.city_decimals.specs.Decoded.{decoded_top}
use Rattle.city_decimals.specs.declared.fault.DecimalsFault.{DecimalsFault}
use Rattle.city_decimals.specs.declared.fault.DecimalsFault.TheVariants.{OutOfMemory, NotJson}

-- the value of a text with arrays and objects nested no deeper than the limit; `document` has 128
abbrev pub document_to : ℕ → List ℕ → Option Json
document_to limit text = option_and_then (λ p. if_last p.0 p.1) (value limit (tokens text))

-- the text is JSON and nests no deeper, and this is its value
abbrev pub IsValueTo : ℕ → Json → List ℕ → Type 0
IsValueTo limit j text = IsUtf8 text × (document_to limit text ≡ Some j)

-- the text is JSON, and this is its value
abbrev pub IsValueOf : Json → List ℕ → Type 0
IsValueOf j text = IsUtf8 text × (document text ≡ Some j)

-- out is the compact text of the encoded value of the text
abbrev pub IsEncoded : List ℕ → List ℕ → Type 0
IsEncoded text out = (j : Json) × IsValueOf j text × (out ≡ print (json_tokens (encoded_top j)))

-- out is the compact text of the decoded value of the text
abbrev pub IsDecoded : List ℕ → List ℕ → Type 0
IsDecoded text out = (j : Json) × IsValueOf j text × (out ≡ print (json_tokens (decoded_top j)))

-- Why a text isn't changed, if texts may nest this deep. `OutOfMemory` may be answered for any text.
abbrev pub IsFaultTo : ℕ → List ℕ → DecimalsFault → Type 0
IsFaultTo limit text OutOfMemory = Unit {0}
IsFaultTo limit text NotJson = IsUtf8 text → document_to limit text ≡ None

abbrev pub IsDecimalsFault : List ℕ → DecimalsFault → Type 0
IsDecimalsFault = IsFaultTo max_depth
