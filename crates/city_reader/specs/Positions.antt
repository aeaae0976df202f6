-- The rest of a text at a position.
use Rattle.std.specs.Prelude.{ℕ, List, drop}
use Rattle.json.specs.Token.{Token}
use Rattle.city_reader.specs.Plain.{tokens_at}
use Rattle.city_reader.specs.declared.position.Position.{Position}

-- the tokens of a text from the position on
abbrev pub tokens_from : Position → List ℕ → List Token
tokens_from p text = tokens_at p.place (drop p.at text)
