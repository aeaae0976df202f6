-- Errors as they are told.
use Rattle.std.specs.Prelude.{◌≡◌, List, ◌∷◌, ◌++◌, codes}
use Rattle.json.specs.Token.{Token, key}

-- further tokens are written
abbrev pub TellsMore : List Token → List Token → Type 0
TellsMore old new = (told : List Token) × (new ≡ old ++ told)

-- a member `error` is written
abbrev pub TellsError : List Token → List Token → Type 0
TellsError old new = (told : List Token) × (new ≡ old ++ key (codes "error") ∷ told)
