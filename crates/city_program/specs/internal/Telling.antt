-- The texts on standard error, step by step.
use Rattle.std.specs.Prelude.{◌≡◌, ◌⊎◌, ◌&&◌, ℕ, Bool, true, false, List, [], ◌∷◌, ◌++◌, Option}
use Rattle.std.specs.Global.{Vec}
use Rattle.city_options.specs.declared.command_line.Asked.{Asked}
use Rattle.city_serve.specs.declared.fault.ServeFault.{ServeFault}
use Rattle.city_program.specs.declared.status.Status.{Status}
use Rattle.city_serve.specs.FaultTexts.{fault_text}
use Rattle.city_serve.specs.Steps.{Step, Takes}
use Rattle.city_program.specs.Programs.{Streams, IsAnswered, IsChecked, IsTold, IsToldInPart, memory_line, seen_lines}

-- if standard error hasn't failed, it hadn't before, and has got this text and no other bytes
abbrev pub IsToldAfter : Bool → Option (List ℕ) → Option (List ℕ) → Bool → List ℕ → Type 0
IsToldAfter failed_before old new failed text = IsTold old new failed text × (failed ≡ false → failed_before ≡ false)

-- if all viewers were told of, it has got their lines and those behind them, and the status is the request's. If not,
-- memory was short
abbrev pub IsSeenTold : Status → Status → Option (List ℕ) → Option (List ℕ) → Bool → List (Vec ℕ) → List ℕ → Type 0
IsSeenTold done status old new failed seen behind =
    ((status ≡ done) × IsTold old new failed (seen_lines 0 seen ++ behind))
    ⊎ ((status ≡ Status.Failed) × IsToldInPart old new failed seen)

-- the line of a fault and the lines behind it; if memory is short for that, the line of running out of memory
abbrev pub IsFaultText : ServeFault → List ℕ → List ℕ → Type 0
IsFaultText f behind text =
    (text ≡ (fault_text f ++ 10 ∷ []) ++ behind) ⊎ (text ≡ memory_line)

-- a file was read, or not
abbrev pub MayRead : List ℕ → Option (List Step) → Option (List Step) → Type 0
MayRead path begun ended = Takes begun ended [] ⊎ Takes begun ended (Step.Read path ∷ [])

-- the status of a run, by whether its model was withheld
abbrev pub run_status : Bool → Status
run_status true = Status.Withheld
run_status false = Status.Done

-- the model of a run was withheld, by its status
abbrev pub is_withheld_at : Status → Bool
is_withheld_at Status.Withheld = true
is_withheld_at _ = false

-- the status of a check, by whether it found faults
abbrev pub check_status : Bool → Status
check_status true = Status.Faulty
check_status false = Status.Done

-- the request is a check
abbrev pub is_check : Asked → Bool
is_check (Asked.Check options model scripts) = true
is_check _ = false

-- it is told that a check found no fault: on a terminal
abbrev pub tells_no_faults : Status → Asked → Bool → Bool
tells_no_faults Status.Done asked terminal = is_check asked && terminal
tells_no_faults _ asked terminal = false

-- a check found faults
abbrev pub IsFound : Streams → Asked → List (Vec ℕ) → Type 0
IsFound s (Asked.Check options model scripts) seen =
    (seen ≡ []) × IsChecked s (Asked.Check options model scripts) true
IsFound s _ seen = ⊥

-- the request is done, with this status
abbrev pub IsAnsweredAs : Streams → Asked → List (Vec ℕ) → Status → Type 0
IsAnsweredAs s asked seen Status.Done = IsAnswered s asked seen false
IsAnsweredAs s asked seen Status.Withheld = IsAnswered s asked seen true
IsAnsweredAs s asked seen Status.Faulty = IsFound s asked seen
IsAnsweredAs s asked seen Status.Failed = ⊥
IsAnsweredAs s asked seen Status.Refused = ⊥
