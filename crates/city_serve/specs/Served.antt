-- The output for an input: a document in its first line, and scripts in the rest.
use Rattle.std.specs.Prelude.{◌==◌, ◌≡◌, ◌⊎◌, ◌+◌, ◌*◌, ℕ, List, Bool, true, Option, IfSome, take}
use Rattle.std.specs.Global.{Vec}
use Rattle.std.specs.List.{before_first, after_first}
use Rattle.std.specs.Io.KnownBytes.{Keeps}
use Rattle.city_tokens.specs.tree.Texts.{max_text}
use Rattle.city_desk.specs.TextRuns.{IsRun}
use Rattle.city_serve.specs.ServedTexts.{Written, Faults, AreServedBy, AreCutShortBy, IsFaultOfRun}
use Rattle.city_desk.specs.declared.fault.RunFault.{RunFault}
use Rattle.city_serve.specs.declared.fault.ServeFault.{ServeFault}

-- how many bytes are read: enough for two texts of the greatest length, the newline, and one more
abbrev pub max_input : ℕ
max_input = 2 * max_text + 2

abbrev pub read_of : List ℕ → List ℕ
read_of input = take max_input input

abbrev pub is_newline : ℕ → Bool
is_newline byte = byte == 10

abbrev pub document_part : List ℕ → List ℕ
document_part bytes = before_first is_newline bytes

abbrev pub scripts_part : List ℕ → List ℕ
scripts_part bytes = after_first is_newline bytes

-- the writer has got the output for the two texts of the input, and no other bytes
abbrev pub IsServedBy : Written → List ℕ → ℕ → ℕ → List (Vec ℕ) → Option (List ℕ) → Option (List ℕ) → Type 0
IsServedBy ran input workers viewers seen old new =
    AreServedBy ran (document_part (read_of input)) (scripts_part (read_of input)) workers viewers seen old new

-- the writer has got the first bytes of the output for the two texts of the input, and no others
abbrev pub IsCutShortBy : Written → List ℕ → ℕ → ℕ → Option (List ℕ) → Option (List ℕ) → Type 0
IsCutShortBy ran input workers viewers old new =
    AreCutShortBy ran (document_part (read_of input)) (scripts_part (read_of input)) workers viewers old new

-- the same of a run on the two texts
abbrev pub IsServed : List ℕ → ℕ → ℕ → List (Vec ℕ) → Option (List ℕ) → Option (List ℕ) → Type 0
IsServed = IsServedBy IsRun

-- the reader has failed, or ran out of memory
abbrev pub IsDeviceFault : Bool → ServeFault → Type 0
IsDeviceFault failed f = ((f ≡ ServeFault.Read) × (failed ≡ true)) ⊎ (f ≡ ServeFault.Run RunFault.OutOfMemory)

-- Read comes only if the reader has failed, and Write only if the writer has. If the reader or the run is at fault, the
-- writer has got nothing
abbrev pub IsServeFaultBy : Written → Faults → Option (List ℕ) → ℕ → ℕ → Bool → Option (List ℕ) → Option (List ℕ)
    → Bool → ServeFault → Type 0
IsServeFaultBy ran faults input workers viewers reader_failed old new writer_failed ServeFault.Read =
    Keeps old new × (reader_failed ≡ true)
IsServeFaultBy ran faults input workers viewers reader_failed old new writer_failed (ServeFault.Run f) =
    Keeps old new × IfSome input (λ all.
    faults (document_part (read_of all)) (scripts_part (read_of all)) workers viewers f)
IsServeFaultBy ran faults input workers viewers reader_failed old new writer_failed ServeFault.Write =
    IfSome input (λ all. IsCutShortBy ran all workers viewers old new) × (writer_failed ≡ true)
IsServeFaultBy ran faults input workers viewers reader_failed old new writer_failed _ = ⊥

abbrev pub IsServeFault : Option (List ℕ) → ℕ → ℕ → Bool → Option (List ℕ) → Option (List ℕ) → Bool → ServeFault
    → Type 0
IsServeFault = IsServeFaultBy IsRun IsFaultOfRun
