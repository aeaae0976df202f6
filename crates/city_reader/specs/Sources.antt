-- The model of `Reader`.
use Rattle.std.specs.Prelude.{List}
use Rattle.json.specs.Token.{Token}
use Rattle.city_reader.specs.declared.reader.Source.{Source}
use Rattle.city_reader.specs.declared.reader.Source.TheVariants.{Plain, Escaped}

abbrev pub tokens_of : Source → List Token
tokens_of (Plain ts) = ts
tokens_of (Escaped ts) = ts
