-- The destination of a run's output: the report goes to a writer, and the model behind it or to a file.
use Rattle.std.specs.Prelude.{◌≡◌, ◌≢◌, ◌⊎◌, ◌&&◌, ◌||◌, ◌≤◌, ℕ, Bool, true, false, List, [], ◌∷◌, ◌++◌, length, take}
use Rattle.std.specs.Prelude.{Option, Some, None, IfSome}
use Rattle.std.specs.List.{list_any}
use Rattle.std.specs.Global.{Vec}
use Rattle.std.specs.Io.KnownBytes.{Keeps, Appends}
use Rattle.city_model.specs.declared.end.End.{End}
use Rattle.city_model.specs.declared.end.Outcome.{Outcome}
use Rattle.city_model.specs.declared.end.Outcome.TheVariants.{Committed, Aborted, Refused, NoMemory}
use Rattle.city_model.specs.SerialEnds.{commits_in}
use Rattle.city_crew.specs.Seen.{AreSeen}
use Rattle.city_decimals.specs.Lines.{AreDecodedLines}
use Rattle.city_scheduler.specs.InTurn.{AreInTurn}
use Rattle.city_writer.specs.report.Reports.{report_text}
use Rattle.city_serve.specs.declared.fault.ServeFault.{ServeFault}
use Rattle.city_options.specs.declared.options.Destination.{Destination}
use Rattle.city_options.specs.declared.options.Options.{Options}
use Rattle.city_serve.specs.Decimals.{written_by, faults_by}
use Rattle.city_options.specs.RunOptions.{file_of}
use Rattle.city_serve.specs.ServedTexts.{AppendsSome, WhereAlone}
use Rattle.city_serve.specs.Steps.{Step, Created, Synced, LookedAt, Renamed, GivenUp}

-- ---- withholding

abbrev pub outcome_failed : Outcome → Bool
outcome_failed Committed = false
outcome_failed Aborted = false
outcome_failed (Refused number cause) = true
outcome_failed (NoMemory number) = true

-- the script ended refused or out of memory
abbrev pub has_failed : End → Bool
has_failed end = outcome_failed end.outcome

-- the model is withheld: it was to be written only if no script failed, and one did
abbrev pub is_withheld : Destination → List End → Bool
is_withheld destination ends = destination.atomic && list_any has_failed ends

-- the model goes nowhere: the report alone is asked for, or the model is withheld
abbrev pub goes_nowhere : Destination → Bool → Bool
goes_nowhere destination withheld = destination.report_only || withheld

-- ---- files

-- the texts of files by their paths, if they are known
abbrev pub Folder : Type 0
Folder = List ℕ → Option (List ℕ)

-- the file has this text, and all others have theirs
abbrev pub IsReplaced : List ℕ → List ℕ → Folder → Folder → Type 0
IsReplaced path text before after =
    IfSome (after path) (λ all. all ≡ text)
    × ((other : List ℕ) → other ≢ path → after other ≡ before other)

-- the output file has the model, unless it goes nowhere; else all files are as they were
abbrev pub IsPlaced : Option (List ℕ) → Bool → List ℕ → Folder → Folder → Type 0
IsPlaced (Some path) false model before after = IsReplaced path model before after
IsPlaced file nowhere model before after = after ≡ before

-- a file isn't locked, since another run holds it, or since a step on it was refused
abbrev pub IsLockFault : Bool → ServeFault → Type 0
IsLockFault files_failed f = (f ≡ ServeFault.InUse) ⊎ ((f ≡ ServeFault.Write) × (files_failed ≡ true))

-- a file isn't what was read of it, or the look at it was refused
abbrev pub IsLookFault : Bool → ServeFault → Type 0
IsLookFault files_failed f = (f ≡ ServeFault.Changed) ⊎ ((f ≡ ServeFault.Write) × (files_failed ≡ true))

-- ---- the writer

-- the writer gets the report, and the model behind it, unless the model goes to a file or nowhere
abbrev pub bytes_to_writer : Option (List ℕ) → Bool → List ℕ → List ℕ → List ℕ
bytes_to_writer None false report model = report ++ model
bytes_to_writer file nowhere report model = report

-- ---- replacing a file that breaks off: what the writer has got, the file, who failed, and the steps taken

-- there is no new file, or it couldn't be filled and was given up: nothing of the report is written
abbrev pub IsUnmade : List ℕ → Folder → Folder → Bool → Option (List ℕ) → Option (List ℕ) → List Step → Type 0
IsUnmade path before after files_failed old new steps =
    Keeps old new × (after ≡ before) × (files_failed ≡ true)
    × ((steps ≡ []) ⊎ (steps ≡ Created path ∷ GivenUp ∷ []))

-- the report is cut short
abbrev pub IsUnreported : List ℕ → List ℕ → Folder → Folder → Option (List ℕ) → Option (List ℕ) → Bool → List Step
    → Type 0
IsUnreported path report before after old new writer_failed steps =
    AppendsSome old new report × (after ≡ before) × (writer_failed ≡ true)
    × (steps ≡ Created path ∷ Synced ∷ GivenUp ∷ [])

-- the report is written, and the file isn't what was read
abbrev pub IsChanged : List ℕ → List ℕ → Folder → Folder → Option (List ℕ) → Option (List ℕ) → List Step → Type 0
IsChanged path report before after old new steps =
    Appends old new report × (after ≡ before) × (steps ≡ Created path ∷ Synced ∷ GivenUp ∷ [])

-- the report is written, and the new file doesn't get the name
abbrev pub IsUnnamed : List ℕ → List ℕ → Folder → Folder → Bool → Option (List ℕ) → Option (List ℕ) → List Step
    → Type 0
IsUnnamed path report before after files_failed old new steps =
    Appends old new report × (after ≡ before) × (files_failed ≡ true)
    × ((steps ≡ Created path ∷ Synced ∷ GivenUp ∷ []) ⊎ (steps ≡ Created path ∷ Synced ∷ LookedAt path ∷ []))

-- the report is written, and the new file has the name, which may not have reached the device
abbrev pub IsUnlisted : List ℕ → List ℕ → List ℕ → Folder → Folder → Bool → Option (List ℕ) → Option (List ℕ)
    → List Step → Type 0
IsUnlisted path report model before after files_failed old new steps =
    Appends old new report × IsReplaced path model before after × (files_failed ≡ true)
    × (steps ≡ Created path ∷ Synced ∷ LookedAt path ∷ Renamed path ∷ [])

-- replacing the file of a path breaks off in one of these ways
abbrev pub BreaksOff : List ℕ → List ℕ → List ℕ → Folder → Folder → Bool → Option (List ℕ) → Option (List ℕ) → Bool
    → List Step → ServeFault → Type 0
BreaksOff path report model before after files_failed old new writer_failed steps ServeFault.Write =
    IsUnmade path before after files_failed old new steps
    ⊎ (IsUnreported path report before after old new writer_failed steps
    ⊎ (IsUnnamed path report before after files_failed old new steps
    ⊎ IsUnlisted path report model before after files_failed old new steps))
BreaksOff path report model before after files_failed old new writer_failed steps ServeFault.Changed =
    IsChanged path report before after old new steps
BreaksOff path report model before after files_failed old new writer_failed steps _ = ⊥

-- the writer breaks off, and no file is concerned
abbrev pub IsWriterCut : List ℕ → Folder → Folder → Option (List ℕ) → Option (List ℕ) → Bool → List Step → ServeFault
    → Type 0
IsWriterCut bytes before after old new writer_failed steps f =
    (f ≡ ServeFault.Write) × AppendsSome old new bytes × (after ≡ before) × (writer_failed ≡ true) × (steps ≡ [])

-- a delivery breaks off: of a file that gets the model, or of the writer alone
abbrev pub IsBrokenOff : Option (List ℕ) → Bool → List ℕ → List ℕ → Folder → Folder → Bool → Option (List ℕ)
    → Option (List ℕ) → Bool → List Step → ServeFault → Type 0
IsBrokenOff (Some path) false report model before after files_failed old new writer_failed steps f =
    BreaksOff path report model before after files_failed old new writer_failed steps f
IsBrokenOff file nowhere report model before after files_failed old new writer_failed steps f =
    IsWriterCut (bytes_to_writer file nowhere report model) before after old new writer_failed steps f

-- ---- the output of a run, in its two parts

-- the report of the ends; if numbers of any form are taken, its numbers are as they were written
abbrev pub report_by : Bool → List End → List ℕ → Type 0
report_by true ends report = AreDecodedLines (report_text ends) report
report_by false ends report = report ≡ report_text ends

-- the first n bytes are the report of the ends
abbrev pub IsCutAt : Bool → List End → List ℕ → ℕ → Type 0
IsCutAt decimals ends bytes n = (n ≤ length bytes) × report_by decimals ends (take n bytes)

-- a run on two texts: its ends, its report, and the model behind the report
pub record IsRunInParts (options : Options) (document scripts : List ℕ) (ends : List End) (report model : List ℕ)
    : Type 0 where
  pub ran : written_by options.decimals document scripts ends (report ++ model)
  pub in_turn : WhereAlone options.workers options.viewers (AreInTurn 0 ends)
  pub report_is : report_by options.decimals ends report

-- the report and the model of the same run went to their destinations, or the model went nowhere
pub record IsDelivered (destination : Destination) (options : Options) (document scripts : List ℕ)
    (seen : List (Vec ℕ)) (withheld : Bool) (before after : Folder) (old new : Option (List ℕ)) : Type 0 where
  pub ends : List End
  pub report : List ℕ
  pub model : List ℕ
  pub run : IsRunInParts options document scripts ends report model
  pub looked : AreSeen options.viewers (commits_in ends) seen
  pub withheld_is : withheld ≡ is_withheld destination ends
  pub written : Appends old new (bytes_to_writer (file_of destination) (goes_nowhere destination withheld) report model)
  pub placed : IsPlaced (file_of destination) (goes_nowhere destination withheld) model before after

-- the delivery of a run breaks off
pub record IsCutShort (destination : Destination) (options : Options) (document scripts : List ℕ)
    (before after : Folder) (files_failed : Bool) (old new : Option (List ℕ)) (writer_failed : Bool)
    (steps : List Step) (f : ServeFault) : Type 0 where
  pub ends : List End
  pub report : List ℕ
  pub model : List ℕ
  pub run : IsRunInParts options document scripts ends report model
  pub broken : IsBrokenOff (file_of destination) (goes_nowhere destination (is_withheld destination ends)) report model
      before after files_failed old new writer_failed steps f

-- Write comes only if the writer or the files have failed, and Changed only of a file. If the run is at fault, nothing
-- is written, and no step taken
abbrev pub IsDeliveryFault : Destination → Options → List ℕ → List ℕ → Folder → Folder → Bool → Option (List ℕ)
    → Option (List ℕ) → Bool → List Step → ServeFault → Type 0
IsDeliveryFault destination options document scripts before after files_failed old new failed steps (ServeFault.Run f) =
    Keeps old new × (after ≡ before) × (steps ≡ [])
    × faults_by options.decimals document scripts options.workers options.viewers f
IsDeliveryFault destination options document scripts before after files_failed old new failed steps f =
    IsCutShort destination options document scripts before after files_failed old new failed steps f
