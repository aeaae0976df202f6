-- The request of the words of a command line.
use Rattle.std.specs.Prelude.{◌≡◌, ◌≢◌, ◌⊎◌, ⊤, ℕ, Bool, true, false, List, [], ◌∷◌, ◌++◌, codes, slice_get, All}
use Rattle.std.specs.Prelude.{Option, Some, None, if◌then◌else◌, Result, Err, IsErr, MatchBool, option_map}
use Rattle.std.specs.Result.{IsOkAnd}
use Rattle.std.specs.Str.{bytes_eq}
use Rattle.std.specs.Str.Parse.{digits_value, without_leading_plus}
use Rattle.clap.specs.Words.{IsUnsignedIn}
use Rattle.clap.specs.Lexer.{long_of}
use Rattle.city_board.specs.Limits.{max_viewers}
use Rattle.city_scheduler.specs.Limits.{max_workers}
use Rattle.city_options.specs.declared.command_line.Asked.{Asked}
use Rattle.city_options.specs.declared.command_line.LineFault.{LineFault}
use Rattle.city_options.specs.declared.options.Destination.{Destination}
use Rattle.city_options.specs.declared.options.Options.{Options}
use Rattle.city_options.specs.RunOptions.{AreWithin, Contradicts, IsConsistent, file_of, max_wait}

-- the word is no option: it doesn't begin with a hyphen
abbrev pub IsName : List ℕ → Type 0
IsName word = slice_get word 0 ≢ Some 45

-- the number by an option's text; without a text it is the least
abbrev pub IsCount : ℕ → ℕ → Option (List ℕ) → ℕ → Type 0
IsCount least most None n = n ≡ least
IsCount least most (Some text) n =
    IsUnsignedIn least most text × (n ≡ digits_value 10 (without_leading_plus text))

-- the options by the texts of --workers and --watch, and by whether --decimals and --explain are given
abbrev pub AreOptionsOf : Option (List ℕ) → Option (List ℕ) → Bool → Bool → Options → Type 0
AreOptionsOf workers watch decimals explain options =
    IsCount 1 max_workers workers options.workers × IsCount 0 max_viewers watch options.viewers
    × (options.decimals ≡ decimals) × (options.explain ≡ explain)

-- the seconds by the text of --wait: without a text 0
abbrev pub IsWait : Option (List ℕ) → ℕ → Type 0
IsWait None n = n ≡ 0
IsWait (Some text) n = IsCount 1 max_wait (Some text) n

-- the destination by the texts of --output and --wait, and by whether --atomic and --report-only are given
abbrev pub IsDestinationOf : Option (List ℕ) → Option (List ℕ) → Bool → Bool → Destination → Type 0
IsDestinationOf output wait atomic report_only destination =
    (file_of destination ≡ output) × (destination.atomic ≡ atomic) × (destination.report_only ≡ report_only)
    × IsWait wait destination.wait

-- a text is asked for, a run with such options and such a destination, or a check with one worker and no viewer
abbrev pub HasOptions : Asked → Type 0
HasOptions (Asked.Input options destination) = AreWithin options × IsConsistent destination
HasOptions (Asked.Files options destination model scripts) = AreWithin options × IsConsistent destination
HasOptions (Asked.Check options model scripts) = (options.workers ≡ 1) × (options.viewers ≡ 0)
HasOptions (Asked.Text text) = ⊤

-- the same destination: a file of the same path, waited for as long, or none
abbrev pub IsSameDestination : Destination → Destination → Type 0
IsSameDestination a b =
    (file_of a ≡ file_of b) × (a.atomic ≡ b.atomic) × (a.report_only ≡ b.report_only) × (a.wait ≡ b.wait)

-- standard input is asked for, with these options, and output to there
abbrev pub IsAskedInput : Options → Destination → Asked → Type 0
IsAskedInput options destination (Asked.Input asked to) = (asked ≡ options) × IsSameDestination to destination
IsAskedInput options destination _ = ⊥

-- these files are asked for, by their paths, with these options, and output to there
abbrev pub IsAskedFiles : Options → Destination → List ℕ → List ℕ → Asked → Type 0
IsAskedFiles options destination model scripts (Asked.Files asked to asked_model asked_scripts) =
    (asked ≡ options) × IsSameDestination to destination
    × (asked_model.now ≡ model) × (asked_scripts.now ≡ scripts)
IsAskedFiles options destination model scripts _ = ⊥

-- a check of these files is asked for, by their paths, with these options
abbrev pub IsAskedCheck : Options → List ℕ → Option (List ℕ) → Asked → Type 0
IsAskedCheck options model scripts (Asked.Check asked asked_model asked_scripts) =
    (asked ≡ options) × (asked_model.now ≡ model) × (option_map (λ s. s.now) asked_scripts ≡ scripts)
IsAskedCheck options model scripts _ = ⊥

abbrev pub IsWantOfMemory : Result Asked LineFault → Type 0
IsWantOfMemory r = r ≡ Err LineFault.OutOfMemory

-- names alone: no name asks for standard input, two ask for these files, and any other number is refused
abbrev pub AnswersNames : Options → Destination → List (List ℕ) → Result Asked LineFault → Type 0
AnswersNames options destination [] r = IsOkAnd r (IsAskedInput options destination) ⊎ IsWantOfMemory r
AnswersNames options destination (model ∷ scripts ∷ []) r =
    IsOkAnd r (IsAskedFiles options destination model scripts) ⊎ IsWantOfMemory r
AnswersNames options destination _ r = IsErr r

-- with --check: one name asks for a check of this model, two for one of these scripts too, and any other number is
-- refused
abbrev pub AnswersCheckedNames : Options → List (List ℕ) → Result Asked LineFault → Type 0
AnswersCheckedNames options (model ∷ []) r = IsOkAnd r (IsAskedCheck options model None) ⊎ IsWantOfMemory r
AnswersCheckedNames options (model ∷ scripts ∷ []) r =
    IsOkAnd r (IsAskedCheck options model (Some scripts)) ⊎ IsWantOfMemory r
AnswersCheckedNames options _ r = IsErr r

-- a text is to be shown, as help is
abbrev pub IsText : Asked → Type 0
IsText (Asked.Text text) = ⊤
IsText _ = ⊥

abbrev pub IsShown : Result Asked LineFault → Type 0
IsShown r = IsOkAnd r IsText ⊎ IsWantOfMemory r

-- the word asks for help or for the version
abbrev pub AsksForText : List ℕ → Type 0
AsksForText word =
    (word ≡ codes "--help") ⊎ (word ≡ codes "-h") ⊎ (word ≡ codes "--version") ⊎ (word ≡ codes "-V")

-- the options with a value, and the ones without
pub data Valued : Type 0 where
  Workers : Valued
  Watch : Valued
  Output : Valued
  Wait : Valued

pub data Flag : Type 0 where
  Decimals : Flag
  Atomic : Flag
  ReportOnly : Flag
  Check : Flag
  Explain : Flag

-- their names, behind two hyphens
abbrev pub value_name : Valued → List ℕ
value_name Workers = codes "workers"
value_name Watch = codes "watch"
value_name Output = codes "output"
value_name Wait = codes "wait"

abbrev pub flag_name : Flag → List ℕ
flag_name Decimals = codes "decimals"
flag_name Atomic = codes "atomic"
flag_name ReportOnly = codes "report-only"
flag_name Check = codes "check"
flag_name Explain = codes "explain"

-- the word is `--name` or `--name=value`, and no option has the name
pub record IsUnknownOption (word : List ℕ) : Type 0 where
  pub name : List ℕ
  pub given : Option (List ℕ)
  pub long : long_of word ≡ Some (name, given)
  pub no_help : name ≢ codes "help"
  pub no_version : name ≢ codes "version"
  pub no_value : (o : Valued) → name ≢ value_name o
  pub no_flag : (f : Flag) → name ≢ flag_name f

-- the first word other than a name is such an option
pub record MeetsUnknownOption (arguments : List (List ℕ)) : Type 0 where
  pub names : List (List ℕ)
  pub word : List ℕ
  pub rest : List (List ℕ)
  pub are : arguments ≡ names ++ word ∷ rest
  pub named : All IsName names
  pub unknown : IsUnknownOption word

-- the contents of a command line: values of options, flags, and names
pub record Line : Type 0 where
  pub value : Valued → Option (List ℕ)
  pub has : Flag → Bool
  pub names : List (List ℕ)

abbrev pub empty_line : Line
empty_line = record { value = λ _. None; has = λ _. false; names = [] }

-- the line with one thing more
abbrev pub with_value : Valued → List ℕ → Line → Line
with_value o given line = record line {
  value = λ other. if bytes_eq (value_name o) (value_name other) then Some given else line.value other;
}

abbrev pub with_flag : Flag → Line → Line
with_flag f line = record line {
  has = λ other. if bytes_eq (flag_name f) (flag_name other) then true else line.has other;
}

abbrev pub with_name : List ℕ → Line → Line
with_name name line = record line { names = name ∷ line.names }

-- the words are options in any order, each at most once, with names before, between and after them. No value
-- begins with a hyphen, and -o stands for --output
pub data IsLineOf : Line → List (List ℕ) → Type 0 where
  ends : IsLineOf empty_line []
  gives_value : (o : Valued) (value : List ℕ) (line : Line) (rest : List (List ℕ)) → line.value o ≡ None
      → IsName value → IsLineOf line rest
      → IsLineOf (with_value o value line) ((codes "--" ++ value_name o) ∷ value ∷ rest)
  gives_output : (value : List ℕ) (line : Line) (rest : List (List ℕ)) → line.value Output ≡ None
      → IsName value → IsLineOf line rest → IsLineOf (with_value Output value line) (codes "-o" ∷ value ∷ rest)
  gives_flag : (f : Flag) (line : Line) (rest : List (List ℕ)) → line.has f ≡ false
      → IsLineOf line rest → IsLineOf (with_flag f line) ((codes "--" ++ flag_name f) ∷ rest)
  gives_name : (name : List ℕ) (line : Line) (rest : List (List ℕ)) → IsName name
      → IsLineOf line rest → IsLineOf (with_name name line) (name ∷ rest)

-- the options of the line
abbrev pub AreLineOptions : Line → Options → Type 0
AreLineOptions line = AreOptionsOf (line.value Workers) (line.value Watch) (line.has Decimals) (line.has Explain)

-- the destination of the line: no wait without a file, and nothing for a model beside --report-only
abbrev pub IsLineDestination : Line → Destination → Type 0
IsLineDestination line destination =
    IsDestinationOf (line.value Output) (line.value Wait) (line.has Atomic) (line.has ReportOnly) destination
    × (line.value Output ≡ None → line.value Wait ≡ None)
    × ¬ Contradicts (line.has ReportOnly) (line.value Output) (line.has Atomic)

-- a run is asked for: the names are answered with the options and the destination of the line; if it gives no options
-- or no destination, it is refused
abbrev pub AnswersRun : Line → Result Asked LineFault → Type 0
AnswersRun line r =
    ((options : Options) (destination : Destination) → AreLineOptions line options
    → IsLineDestination line destination → AnswersNames options destination line.names r)
    × (((options : Options) → ¬ AreLineOptions line options) → IsErr r)
    × (((destination : Destination) → ¬ IsLineDestination line destination) → IsErr r)

-- the line has an option for runs only
abbrev pub HasRunOption : Line → Type 0
HasRunOption line =
    ((o : Valued) × (line.value o ≢ None)) ⊎ ((line.has Atomic ≡ true) ⊎ (line.has ReportOnly ≡ true))

-- a check is asked for: the names are answered with the options of the line; with an option for runs only, it is
-- refused
abbrev pub AnswersCheck : Line → Result Asked LineFault → Type 0
AnswersCheck line r =
    ((options : Options) → AreLineOptions line options → ¬ HasRunOption line → AnswersCheckedNames options line.names r)
    × (HasRunOption line → IsErr r)

-- the line is answered
abbrev pub AnswersOptions : Line → Result Asked LineFault → Type 0
AnswersOptions line r = MatchBool (line.has Check) (AnswersCheck line r) (AnswersRun line r)
