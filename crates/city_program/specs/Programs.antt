-- The program's answer to the words of its command line.
use Rattle.std.specs.Prelude.{◌≡◌, ◌⊎◌, ◌+◌, ⊤, ℕ, Bool, true, false, List, [], ◌∷◌, ◌++◌, codes, string_bytes, All}
use Rattle.std.specs.Prelude.{◌||◌, Option, Some, None, IfSome, IsSome, Result, Ok, Err, IsErr, IfOk, option_map}
use Rattle.std.specs.Prelude.{◌<◌, length, take}
use Rattle.std.specs.Global.{Vec}
use Rattle.std.specs.Io.KnownBytes.{Keeps, Appends}
use Rattle.city_options.specs.declared.command_line.Asked.{Asked}
use Rattle.city_options.specs.declared.command_line.LineFault.{LineFault}
use Rattle.city_serve.specs.declared.fault.ServeFault.{ServeFault}
use Rattle.city_program.specs.declared.status.Status.{Status}
use Rattle.city_program.specs.Checks.{IsCheckOutput, AreFirstOf, OfFiles, reading_of}
use Rattle.city_options.specs.CommandLines.{IsName, Line, IsLineOf, AnswersNames, AnswersOptions, AsksForText}
use Rattle.city_options.specs.CommandLines.{HasOptions, IsShown, MeetsUnknownOption}
use Rattle.city_serve.specs.Destinations.{Folder, IsDelivered, IsDeliveryFault, IsLockFault, goes_nowhere}
use Rattle.city_serve.specs.Steps.{Step, Takes, delivering, under_lock}
use Rattle.city_options.specs.RunOptions.{file_of, plain_options, plain_destination}
use Rattle.city_serve.specs.FaultTexts.{fault_text}
use Rattle.city_program.specs.SeenTexts.{seen_text}
use Rattle.city_serve.specs.Served.{read_of, document_part, scripts_part, IsDeviceFault}
use Rattle.city_serve.specs.ServedTexts.{AppendsSome}

abbrev pub status_code : Status → ℕ
status_code Status.Done = 0
status_code Status.Failed = 1
status_code Status.Faulty = 1
status_code Status.Refused = 2
status_code Status.Withheld = 3

-- the files, standard input and standard output, before and after
pub record Streams : Type 0 where
  pub before : Folder
  pub after : Folder
  -- whether a file couldn't be locked or replaced
  pub files_failed : Bool
  -- the steps taken on files, before and after, if known
  pub begun : Option (List Step)
  pub ended : Option (List Step)
  -- the bytes of standard input, if known, and whether it failed
  pub input : Option (List ℕ)
  pub reader_failed : Bool
  -- the bytes of standard output, before and after, and whether it failed
  pub old : Option (List ℕ)
  pub new : Option (List ℕ)
  pub failed : Bool

-- ---- requests

-- the words behind the program's name are answered so: the promises for a command line
pub record AsksFor (arguments : List (List ℕ)) (asked : Result Asked LineFault) : Type 0 where
  pub names : All IsName arguments → AnswersNames plain_options plain_destination arguments asked
  pub shown : (word : List ℕ) (rest : List (List ℕ)) → AsksForText word → arguments ≡ word ∷ rest → IsShown asked
  pub unknown : MeetsUnknownOption arguments → IsErr asked
  pub options : (line : Line) → IsLineOf line arguments → AnswersOptions line asked
  pub within : IfOk asked HasOptions

-- ---- files and steps

-- the output file of a request, which is locked for it
abbrev pub output_of : Asked → Option (List ℕ)
output_of (Asked.Input options destination) = file_of destination
output_of (Asked.Files options destination model scripts) = file_of destination
output_of _ = None

-- the output file is named as the scripts' file is
abbrev pub NamesScripts : Asked → Type 0
NamesScripts (Asked.Files options destination model scripts) = file_of destination ≡ Some scripts.now
NamesScripts _ = ⊥

-- there are an output file and a file of scripts
abbrev pub HasOutputAndScripts : Asked → Type 0
HasOutputAndScripts (Asked.Files options destination model scripts) = IsSome (file_of destination)
HasOutputAndScripts _ = ⊥

-- the files that are read for a request, in their order
abbrev pub reading : Asked → List Step
reading (Asked.Files options destination model scripts) = reading_of model.now (Some scripts.now)
reading (Asked.Check options model scripts) = reading_of model.now (option_map (λ t. t.now) scripts)
reading _ = []

-- the model of a request goes nowhere: the report alone is asked for, or the model is withheld
abbrev pub is_nowhere : Asked → Bool → Bool
is_nowhere (Asked.Input options destination) withheld = goes_nowhere destination withheld
is_nowhere (Asked.Files options destination model scripts) withheld = goes_nowhere destination withheld
is_nowhere _ withheld = withheld

-- the steps of a request that is done, once its output file is locked
abbrev pub steps_inside : Asked → Bool → List Step
steps_inside asked withheld = reading asked ++ delivering (output_of asked) (is_nowhere asked withheld)

-- these steps were taken, the output file being locked before them and unlocked behind them
abbrev pub TakesLocked : Asked → Streams → List Step → Type 0
TakesLocked asked s steps = Takes s.begun s.ended (under_lock (output_of asked) steps)

-- ---- how it is answered

-- a property of the two requested texts, if they are known: the input's, or the two files', the model's first
abbrev pub OfTexts : Streams → Asked → (List ℕ → List ℕ → Type 0) → Type 0
OfTexts s (Asked.Input options destination) P =
    IfSome s.input (λ all. P (document_part (read_of all)) (scripts_part (read_of all)))
OfTexts s (Asked.Files options destination model scripts) P =
    IfSome (s.before model.now) (λ document. IfSome (s.before scripts.now) (λ commands. P document commands))
OfTexts s (Asked.Check options model scripts) P = ⊤
OfTexts s (Asked.Text text) P = ⊤

-- a property of the output of a check that found faults or none, if the checked texts are known
abbrev pub OfLines : Streams → Asked → Bool → (List ℕ → Type 0) → Type 0
OfLines s (Asked.Check options model scripts) faulty P =
    OfFiles s.before model.now (option_map (λ t. t.now) scripts) (λ document commands.
    (output : List ℕ) × IsCheckOutput options.decimals document commands faulty output × P output)
OfLines s _ faulty P = ⊤

-- output has got the lines of a check that found faults or none, and all files are as they were
abbrev pub IsChecked : Streams → Asked → Bool → Type 0
IsChecked s asked faulty =
    (s.after ≡ s.before) × OfLines s asked faulty (Appends s.old s.new)

-- the request is done: the output of a run on the two texts went to its destination, or output has got the text. The
-- model of a run may be withheld
abbrev pub IsAnswered : Streams → Asked → List (Vec ℕ) → Bool → Type 0
IsAnswered s (Asked.Input options destination) seen withheld =
    OfTexts s (Asked.Input options destination) (λ document scripts.
    IsDelivered destination options document scripts seen withheld s.before s.after s.old s.new)
IsAnswered s (Asked.Files options destination model scripts) seen withheld =
    OfTexts s (Asked.Files options destination model scripts) (λ document commands.
    IsDelivered destination options document commands seen withheld s.before s.after s.old s.new)
IsAnswered s (Asked.Check options model scripts) seen withheld =
    (seen ≡ []) × (withheld ≡ false) × IsChecked s (Asked.Check options model scripts) false
IsAnswered s (Asked.Text text) seen withheld =
    (seen ≡ []) × (withheld ≡ false) × (s.after ≡ s.before) × Appends s.old s.new (string_bytes text)

-- the texts couldn't be read, or memory ran out for the lines of a check: nothing is written
abbrev pub IsUnread : Streams → Asked → Bool → ServeFault → List Step → Type 0
IsUnread s asked reader_failed f steps =
    IsDeviceFault reader_failed f × Keeps s.old s.new × (s.after ≡ s.before) × AreFirstOf (reading asked) steps

-- output has got a part of its bytes, and all files are as they were
abbrev pub IsOutputCut : Streams → ServeFault → Type 0
IsOutputCut s f = (f ≡ ServeFault.Write) × (s.failed ≡ true) × (s.after ≡ s.before)

-- why it isn't done once its output file is locked, the bytes written then (none, if the reader, a file or the run is
-- at fault), and the steps taken
abbrev pub IsUnansweredBy : Streams → Asked → ServeFault → List Step → Type 0
IsUnansweredBy s (Asked.Input options destination) f steps =
    IsUnread s (Asked.Input options destination) s.reader_failed f steps
    ⊎ OfTexts s (Asked.Input options destination) (λ document scripts.
    IsDeliveryFault destination options document scripts s.before s.after s.files_failed s.old s.new s.failed steps f)
IsUnansweredBy s (Asked.Files options destination model scripts) f steps =
    IsUnread s (Asked.Files options destination model scripts) true f steps
    ⊎ ((taken : List Step) × (steps ≡ Step.Read model.now ∷ Step.Read scripts.now ∷ taken)
    × OfTexts s (Asked.Files options destination model scripts) (λ document commands.
    IsDeliveryFault destination options document commands s.before s.after s.files_failed s.old s.new s.failed taken f))
IsUnansweredBy s (Asked.Check options model scripts) f steps =
    IsUnread s (Asked.Check options model scripts) true f steps
    ⊎ (IsOutputCut s f × (steps ≡ reading (Asked.Check options model scripts))
    × ((faulty : Bool) × OfLines s (Asked.Check options model scripts) faulty (AppendsSome s.old s.new)))
IsUnansweredBy s (Asked.Text text) f steps =
    IsOutputCut s f × (steps ≡ []) × AppendsSome s.old s.new (string_bytes text)

-- the output file couldn't be locked: nothing is read, and nothing written
abbrev pub IsNotLocked : Streams → Asked → ServeFault → Type 0
IsNotLocked s asked f =
    IsSome (output_of asked) × IsLockFault s.files_failed f × Keeps s.old s.new × (s.after ≡ s.before)
    × Takes s.begun s.ended []

-- why it isn't done
abbrev pub IsUnanswered : Streams → Asked → ServeFault → Type 0
IsUnanswered s asked f =
    IsNotLocked s asked f ⊎ ((steps : List Step) × IsUnansweredBy s asked f steps × TakesLocked asked s steps)

-- ---- the texts on standard error

-- if it hasn't failed, it has got this text, and no other bytes
abbrev pub IsTold : Option (List ℕ) → Option (List ℕ) → Bool → List ℕ → Type 0
IsTold old new failed text = failed ≡ false → Appends old new text

-- the line of running out of memory
abbrev pub memory_line : List ℕ
memory_line = codes "cityed: out of memory\n"

-- a refused command line is told by its text, and running out of memory for one by the line of that
abbrev pub IsLineTold : Status → LineFault → Option (List ℕ) → Option (List ℕ) → Bool → Type 0
IsLineTold Status.Refused (LineFault.Refused text) old new failed = IsTold old new failed (string_bytes text)
IsLineTold Status.Failed LineFault.OutOfMemory old new failed = IsTold old new failed memory_line
IsLineTold _ _ old new failed = ⊥

-- a line for each viewer, from the one of this number on
abbrev pub seen_lines : ℕ → List (Vec ℕ) → List ℕ
seen_lines viewer [] = []
seen_lines viewer (seen ∷ rest) = (seen_text viewer seen.items ++ 10 ∷ []) ++ seen_lines (viewer + 1) rest

-- memory is short for the line of a viewer: it has got the lines of those before it, and the line of running out of
-- memory
abbrev pub IsToldInPart : Option (List ℕ) → Option (List ℕ) → Bool → List (Vec ℕ) → Type 0
IsToldInPart old new failed seen =
    (viewer : ℕ) × (viewer < length seen) × IsTold old new failed (seen_lines 0 (take viewer seen) ++ memory_line)

-- a fault is explained on a terminal, and on request
abbrev pub is_explained : Bool → Asked → Bool
is_explained terminal (Asked.Input options destination) = terminal || options.explain
is_explained terminal (Asked.Files options destination model scripts) = terminal || options.explain
is_explained terminal (Asked.Check options model scripts) = terminal || options.explain
is_explained terminal (Asked.Text text) = terminal

-- the scripts that a run refuses are explained on a terminal, and on request
abbrev pub tells_refused : Bool → Asked → Bool
tells_refused terminal (Asked.Input options destination) = terminal || options.explain
tells_refused terminal (Asked.Files options destination model scripts) = terminal || options.explain
tells_refused terminal _ = false

-- the line of a fault, and any lines behind it if it is explained; if memory is short for it, the line of running out
-- of memory
abbrev pub IsToldFault : Bool → ServeFault → List ℕ → Type 0
IsToldFault false f text = (text ≡ fault_text f ++ 10 ∷ []) ⊎ (text ≡ memory_line)
IsToldFault true f text =
    ((behind : List ℕ) × (text ≡ (fault_text f ++ 10 ∷ []) ++ behind)) ⊎ (text ≡ memory_line)

-- the line of a check without a fault, for a terminal
abbrev pub no_faults_line : List ℕ
no_faults_line = codes "cityed: no faults\n"

-- what standard error gets once a request is done: on a terminal the line of a check without a fault, and otherwise a
-- line for each viewer
abbrev pub done_text : Asked → Bool → List (Vec ℕ) → List ℕ
done_text (Asked.Check options model scripts) true seen = no_faults_line
done_text _ terminal seen = seen_lines 0 seen

-- ---- how the program ends

-- the request is done, and standard error has got what each viewer saw, or on a terminal that a check found no fault.
-- More lines may follow if refused scripts are explained
pub record IsDone (terminal : Bool) (asked : Asked) (withheld : Bool) (s : Streams) (told telling : Option (List ℕ))
    (mute : Bool) : Type 0 where
  pub seen : List (Vec ℕ)
  pub answered : IsAnswered s asked seen withheld
  pub steps : TakesLocked asked s (steps_inside asked withheld)
  pub behind : List ℕ
  pub unexplained : tells_refused terminal asked ≡ false → behind ≡ []
  pub is_told : IsTold told telling mute (done_text asked terminal seen ++ behind)

-- the request is done, and standard error has got what some viewers saw, and that memory ran out for the next
pub record IsDoneToldInPart (asked : Asked) (s : Streams) (told telling : Option (List ℕ)) (mute : Bool)
    : Type 0 where
  pub seen : List (Vec ℕ)
  pub withheld : Bool
  pub answered : IsAnswered s asked seen withheld
  pub steps : TakesLocked asked s (steps_inside asked withheld)
  pub seen_told : IsToldInPart told telling mute seen

-- a check found faults, and output has got them; standard error has got nothing
abbrev pub IsFoundFaulty : Asked → Streams → Option (List ℕ) → Option (List ℕ) → Bool → Type 0
IsFoundFaulty (Asked.Check options model scripts) s told telling mute =
    IsChecked s (Asked.Check options model scripts) true × IsTold told telling mute []
    × Takes s.begun s.ended (reading (Asked.Check options model scripts))
IsFoundFaulty _ s told telling mute = ⊥

-- it isn't done, and standard error has got why
pub record IsFaulty (terminal : Bool) (asked : Asked) (s : Streams) (told telling : Option (List ℕ)) (mute : Bool)
    : Type 0 where
  pub fault : ServeFault
  pub unanswered : IsUnanswered s asked fault
  pub line : List ℕ
  pub line_is : IsToldFault (is_explained terminal asked) fault line
  pub why : IsTold told telling mute line

-- the line that refuses an output file that is the scripts' file
abbrev pub scripts_named_line : List ℕ
scripts_named_line = codes "error: --output names SCRIPTS\n\nFor more information, try '--help'.\n"

-- the output file is the scripts' file: nothing is read, nothing written, and standard error has got why
pub record IsScriptsNamed (asked : Asked) (s : Streams) (told telling : Option (List ℕ)) (mute : Bool) : Type 0 where
  pub has : HasOutputAndScripts asked
  pub kept : Keeps s.old s.new
  pub same : s.after ≡ s.before
  pub steps : Takes s.begun s.ended []
  pub line : IsTold told telling mute scripts_named_line

-- the promises at each status once it is known what is asked for, and whether standard error is a terminal: a fault is
-- the answer's, or of memory for telling what viewers saw, after a complete answer
abbrev pub EndsAsked : Bool → Asked → Status → Streams → Option (List ℕ) → Option (List ℕ) → Bool → Type 0
EndsAsked terminal asked Status.Done s told telling mute = IsDone terminal asked false s told telling mute
EndsAsked terminal asked Status.Withheld s told telling mute = IsDone terminal asked true s told telling mute
EndsAsked terminal asked Status.Faulty s told telling mute = IsFoundFaulty asked s told telling mute
EndsAsked terminal asked Status.Failed s told telling mute =
    IsFaulty terminal asked s told telling mute ⊎ IsDoneToldInPart asked s told telling mute
EndsAsked terminal asked Status.Refused s told telling mute = IsScriptsNamed asked s told telling mute

-- the words make this request, and the status is the request's
pub record EndsAnswered (terminal : Bool) (arguments : List (List ℕ)) (status : Status) (s : Streams)
    (told telling : Option (List ℕ)) (mute : Bool) : Type 0 where
  pub asked : Asked
  pub asks : AsksFor arguments (Ok asked)
  -- an output file is not named as the scripts' file is, unless the line is refused for it
  pub named : NamesScripts asked → status ≡ Status.Refused
  pub ended : EndsAsked terminal asked status s told telling mute

-- the words ask for nothing, or memory was short for them: nothing is written, and standard error has got why
pub record EndsRefused (arguments : List (List ℕ)) (status : Status) (s : Streams) (told telling : Option (List ℕ))
    (mute : Bool) : Type 0 where
  pub fault : LineFault
  pub asks : AsksFor arguments (Err fault)
  pub kept : Keeps s.old s.new
  pub same : s.after ≡ s.before
  pub steps : Takes s.begun s.ended []
  pub line : IsLineTold status fault told telling mute

-- the promises for the end of the program
abbrev pub Ends : Bool → List (List ℕ) → Status → Streams → Option (List ℕ) → Option (List ℕ) → Bool → Type 0
Ends terminal arguments status s told telling mute =
    EndsAnswered terminal arguments status s told telling mute ⊎ EndsRefused arguments status s told telling mute
