-- The output for a value read token by token.
use Rattle.std.specs.Prelude.{List, ◌++◌, Option}
use Rattle.json.specs.Token.{Token}
use Rattle.json.specs.Json.{parse_map}

-- the tokens of the value read, f of it, after the earlier ones; and the tokens left to read
abbrev pub written : {A : Type 0} → (A → List Token) → List Token → Option (A × List Token)
    → Option (List Token × List Token)
written f out read = parse_map (λ a. out ++ f a) read
