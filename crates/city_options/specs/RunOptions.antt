-- How a run is done, and where its output goes.
use Rattle.std.specs.Prelude.{◌≡◌, ◌≢◌, ◌≤◌, ◌⊎◌, ℕ, Bool, true, false, List, Option, None, option_map}
use Rattle.city_board.specs.Limits.{max_viewers}
use Rattle.city_scheduler.specs.Limits.{max_workers}
use Rattle.city_options.specs.declared.options.Options.{Options}
use Rattle.city_options.specs.declared.options.Destination.{Destination}

-- a run may have such options
abbrev pub AreWithin : Options → Type 0
AreWithin options = (1 ≤ options.workers) × (options.workers ≤ max_workers) × (options.viewers ≤ max_viewers)

-- the options of a command line without any
abbrev pub plain_options : Options
plain_options = record { workers = 1; viewers = 0; decimals = false; explain = false }

-- the path of the output file, if there is one
abbrev pub file_of : Destination → Option (List ℕ)
file_of destination = option_map (λ s. s.now) destination.file

-- the report alone is asked for, and beside it a file for the model, or the model only if no script failed
abbrev pub Contradicts : Bool → Option (List ℕ) → Bool → Type 0
Contradicts report_only file atomic = (report_only ≡ true) × ((file ≢ None) ⊎ (atomic ≡ true))

-- a command line may ask for such a destination
abbrev pub IsConsistent : Destination → Type 0
IsConsistent destination = ¬ Contradicts destination.report_only (file_of destination) destination.atomic

-- the most seconds that a run waits for its output file
abbrev pub max_wait : ℕ
max_wait = 86400

-- the destination of a command line without options
abbrev pub plain_destination : Destination
plain_destination = record { file = None; atomic = false; report_only = false; wait = 0 }
