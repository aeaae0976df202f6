-- What contracts see of a journal of commits.
use Rattle.std.specs.Prelude.{Bool, List, Option}
use Rattle.city_live.specs.Noting.{Noted}

-- whether its numbers are of any form, its file, if there is one, and the commits that it has noted, oldest first
pub record Journaled (F : Type 0) : Type 0 where
  pub decimals : Bool
  pub file : Option F
  pub noted : List Noted
