-- A desk's ends are a serial history, and its open transactions stand on the city after it.
use Rattle.std.specs.Prelude.{◌≡◌, ◌<◌, ◌≤◌, ℕ, true, false, List, [], length, take, Option, Some, IfSome}
use Rattle.std.specs.Prelude.{slice_get}
use Rattle.std.specs.List.{list_any}
use Rattle.city_model.specs.declared.command.Reply.{Reply}
use Rattle.city_model.specs.declared.end.End.{End}
use Rattle.city_model.specs.CityMap.{CityMap, object_at, CityValue}
use Rattle.city_model.specs.Relations.{IsLawful}
use Rattle.city_model.specs.Runs.{Scripted, IsSerialHistory, model_after, has_end, Change, after_changes}
use Rattle.city_model.specs.Meaning.{is_refusal}
use Rattle.city_model.specs.Scripts.{AreScripts}
use Rattle.city_model.specs.SerialEnds.{commits_in}
use Rattle.city_model.specs.Standing.{answered}
use Rattle.city_txn.specs.CoreState.{committed, is_open, StandsUnderLocks}
use Rattle.city_scheduler.specs.declared.progress.Phase.{Phase}
use Rattle.city_scheduler.specs.declared.progress.Phase.TheVariants.{NotBegun, Idle, Open, Ended}
use Rattle.city_scheduler.specs.DeskState.{DeskState, phase_of, replies_of, is_ended, stamp_of}

-- ---- the open transactions

-- a transaction of script n is open: its first commands, as many as there are replies, stand with these
-- replies, none of them a refusal
pub record IsAttempt (d : DeskState) (n stamp start : ℕ) (replies : List Reply) : Type 0 where
  pub script : Scripted
  pub is_there : slice_get d.scripts n ≡ Some script
  pub opened : is_open d.core stamp ≡ true
  pub begun : stamp < d.begun
  pub since : start ≤ length d.ends
  pub unfinished : length replies < length script.1
  pub unrefused : list_any is_refusal replies ≡ false
  pub stands : StandsUnderLocks d.core stamp (answered script.1 replies)

-- how script n stands in this phase
abbrev pub StandsAs : DeskState → ℕ → Phase → List Reply → Type 0
StandsAs d n NotBegun replies = replies ≡ []
StandsAs d n (Idle stamp) replies = (replies ≡ []) × (stamp < d.begun)
StandsAs d n (Open stamp since) replies = IsAttempt d n stamp since replies
StandsAs d n Ended replies = replies ≡ []

-- each script stands, each open transaction is an attempt of one script, and no two scripts have one stamp
pub record AreStanding (d : DeskState) : Type 0 where
  pub each : (n : ℕ) → StandsAs d n (phase_of d n) (replies_of d n)
  pub owner : (stamp : ℕ) → is_open d.core stamp ≡ true
      → (n : ℕ) × (since : ℕ) × (phase_of d n ≡ Open stamp since)
  pub apart : (n k stamp : ℕ) → stamp_of (phase_of d n) ≡ Some stamp
      → stamp_of (phase_of d k) ≡ Some stamp → n ≡ k

-- ---- the ends

-- one change for each commit; the changes of the first ends show the map after those ends
pub record AreChangesOf (scripts : List Scripted) (start : CityMap) (ends : List End) (changes : List Change)
    : Type 0 where
  pub one_each : length changes ≡ commits_in ends
  pub shows : (n : ℕ)
      → after_changes start (take (commits_in (take n ends)) changes) ≡ model_after scripts start (take n ends)

-- The ends are those of scripts run one at a time, each once; the committed city is the city after them; the open
-- transactions stand on it; and the shelf shows the city after each commit.
pub record IsSerial (d : DeskState) (changes : List Change) (base : Option CityValue) : Type 0 where
  pub lawful : IsLawful (object_at d.start.1)
  pub scripted : AreScripts d.scripts
  pub fits : IsSerialHistory d.scripts (object_at d.start.1) d.ends
  pub frame : d.core.frame ≡ d.start.0
  pub city : committed d.core ≡ model_after d.scripts (object_at d.start.1) d.ends
  pub standing : AreStanding d
  pub ended : (n : ℕ) → n < length d.scripts → has_end n d.ends ≡ is_ended (phase_of d n)
  pub of_each : length d.progress ≡ length d.scripts
  pub shelf : AreChangesOf d.scripts (object_at d.start.1) d.ends changes
  pub based : IfSome base (λ city. city ≡ d.start)
