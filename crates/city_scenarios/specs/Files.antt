-- Files that are texts with names: their texts, and the steps taken on them.
use Rattle.std.specs.Prelude.{◌+◌, ℕ, Bool, true, false, List, Option, None, Some, map, take}
use Rattle.city_tokens.specs.tree.Texts.{max_text}
use Rattle.city_serve.specs.Steps.{Step}
use Rattle.city_scenarios.specs.declared.known_texts.KnownTexts.{KnownTexts}
use Rattle.city_scenarios.specs.declared.taken_steps.Kind.{Kind}
use Rattle.city_scenarios.specs.declared.taken_steps.Kind.TheVariants as kinds
use Rattle.city_scenarios.specs.declared.taken_steps.TakenSteps.{TakenSteps}
use Rattle.city_scenarios.specs.NamedTexts.{text_at}

-- what a read gives of a text: one more byte than a text may have at the most; it isn't known of an endless reader
abbrev pub read_of : Bool → List ℕ → Option (List ℕ)
read_of true text = None
read_of false text = Some (take (max_text + 1) text)

abbrev pub read_if : Bool → Option (List ℕ) → Option (List ℕ)
read_if is_endless None = None
read_if is_endless (Some text) = read_of is_endless text

abbrev pub placed_or : Option (List ℕ) → Option (List ℕ) → Option (List ℕ)
placed_or None named = named
placed_or (Some text) named = Some text

-- the text of a file: what it was replaced with last, or what a read gives of the text of its name
abbrev pub known_text : KnownTexts → List ℕ → Option (List ℕ)
known_text texts path =
    placed_or (text_at texts.placed.items path) (read_if texts.reads.endless (text_at texts.names.now path))

-- ---- steps

abbrev pub step_of : Kind × List ℕ → Step
step_of (kinds.Lock, path) = Step.Locked path
step_of (kinds.Read, path) = Step.Read path
step_of (kinds.Create, path) = Step.Created path
step_of (kinds.Sync, path) = Step.Synced
step_of (kinds.LookAgain, path) = Step.LookedAt path
step_of (kinds.Rename, path) = Step.Renamed path
step_of (kinds.SyncFolder, path) = Step.FolderSynced path
step_of (kinds.GiveUp, path) = Step.GivenUp
step_of (kinds.Unlock, path) = Step.Unlocked

-- the steps taken
abbrev pub steps_of : TakenSteps → List Step
steps_of taken = map step_of taken.seen.log
