-- Commits made again, in arrays of scripts.
use Rattle.std.specs.Prelude.{◌≡◌, ℕ, List, [], ◌∷◌, ◌++◌, Bool, true, false, length, take, drop, map}
use Rattle.std.specs.Prelude.{flat_map}
use Rattle.std.specs.List.{AllByRecursion}
use Rattle.city_model.specs.CityMap.{CityMap}
use Rattle.city_model.specs.Runs.{Scripted, IsSerialHistory, model_after}
use Rattle.city_model.specs.declared.end.End.{End}
use Rattle.city_model.specs.declared.end.Outcome.{Outcome}
use Rattle.city_decimals.specs.Texts.{IsEncoded}
use Rattle.city_journal.specs.declared.read.Commit.{Commit}
use Rattle.city_scheduler.specs.InTurn.{AreInTurn}
use Rattle.city_tokens.specs.script.Scripts.{IsReadAs}

-- the texts of the commits' scripts
abbrev pub scripts_of : List Commit → List (List ℕ)
scripts_of commits = map (λ e. e.script.now) commits

-- texts, a comma before each
abbrev pub others_text : List (List ℕ) → List ℕ
others_text ts = flat_map (λ t. 44 ∷ t) ts

-- texts with a comma between each two
abbrev pub with_commas : List (List ℕ) → List ℕ
with_commas [] = []
with_commas (t ∷ ts) = t ++ others_text ts

-- the JSON array of these texts
abbrev pub array_text : List (List ℕ) → List ℕ
array_text ts = 91 ∷ with_commas ts ++ 93 ∷ []

-- the array of these scripts' texts, with its numbers encoded if they are of any form
abbrev pub IsArrayOf : Bool → List (List ℕ) → List ℕ → Type 0
IsArrayOf false scripts text = text ≡ array_text scripts
IsArrayOf true scripts text = IsEncoded (array_text scripts) text

abbrev pub IsCommitted : End → Type 0
IsCommitted e = e.outcome ≡ Outcome.Committed

-- the array of these scripts' texts is read as as many scripts, which run one after the other in their order, each
-- of them committed, and lead from the first map to the second
pub record LeadsTo (decimals : Bool) (scripts : List (List ℕ)) (before after : CityMap) : Type 0 where
  pub text : List ℕ
  pub is_array : IsArrayOf decimals scripts text
  pub read : List Scripted
  pub is_read : IsReadAs text read
  pub each_read : length read ≡ length scripts
  pub ends : List End
  pub in_turn : AreInTurn 0 ends
  pub serial : IsSerialHistory read before ends
  pub each_ended : length ends ≡ length read
  pub committed : AllByRecursion IsCommitted ends
  pub leads : after ≡ model_after read before ends

-- the same of all these scripts' texts, in arrays of so many
abbrev pub Replays : Bool → List ℕ → List (List ℕ) → CityMap → CityMap → Type 0
Replays decimals [] scripts before after = (scripts ≡ []) × (after ≡ before)
Replays decimals (n ∷ ns) scripts before after = (between : CityMap)
    × LeadsTo decimals (take n scripts) before between × Replays decimals ns (drop n scripts) between after
