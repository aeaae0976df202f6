-- The tokens of data as it is written.
use Rattle.std.specs.Prelude.{List}
use Rattle.json.specs.Token.{Token}
use Rattle.json.specs.Tree.{json_tokens}
use Rattle.serde_json.specs.Data.{Data}
use Rattle.serde_json.specs.Written.{outline}

abbrev pub tokens_of : Data → List Token
tokens_of d = json_tokens (outline d)
