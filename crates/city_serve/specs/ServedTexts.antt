-- The output for two texts: a document and scripts.
use Rattle.std.specs.Prelude.{◌≡◌, ◌⊎◌, ◌<◌, ◌≤◌, ℕ, Bool, true, false, List, Option, length, take}
use Rattle.std.specs.Global.{Vec}
use Rattle.std.specs.Io.KnownBytes.{Keeps, Appends, Consumes}
use Rattle.city_model.specs.declared.end.End.{End}
use Rattle.city_model.specs.SerialEnds.{commits_in}
use Rattle.city_tokens.specs.tree.Texts.{max_text}
use Rattle.city_desk.specs.declared.fault.RunFault.{RunFault}
use Rattle.city_scheduler.specs.InTurn.{AreInTurn}
use Rattle.city_desk.specs.RunFaults.{IsRunFault, is_of_crew}
use Rattle.city_desk.specs.TextRuns.{IsRun}
use Rattle.city_crew.specs.Seen.{AreSeen}
use Rattle.city_serve.specs.declared.fault.ServeFault.{ServeFault}

-- a reader with known bytes has lost the first of them, so many at the most
abbrev pub LosesAtMost : ℕ → Option (List ℕ) → Option (List ℕ) → Type 0
LosesAtMost most old new = (lost : List ℕ) × Consumes old new lost × (length lost ≤ most)

-- the first of these bytes were appended
abbrev pub AppendsSome : Option (List ℕ) → Option (List ℕ) → List ℕ → Type 0
AppendsSome old new bytes = (n : ℕ) × Appends old new (take n bytes)

-- if one worker runs the scripts and nobody looks
abbrev pub WhereAlone : ℕ → ℕ → Type 0 → Type 0
WhereAlone workers viewers A = workers ≡ 1 → viewers ≡ 0 → A

-- the output for two texts: the ends and the bytes of a run
abbrev pub Written : Type 1
Written = List ℕ → List ℕ → List End → List ℕ → Type 0

-- the writer has got the output for the two texts, and no other bytes; one worker without viewers runs the scripts in
-- their order
pub record AreServedBy (run : Written) (document scripts : List ℕ) (workers viewers : ℕ) (seen : List (Vec ℕ))
    (old new : Option (List ℕ)) : Type 0 where
  pub ends : List End
  pub bytes : List ℕ
  pub ran : run document scripts ends bytes
  pub in_turn : WhereAlone workers viewers (AreInTurn 0 ends)
  pub looked : AreSeen viewers (commits_in ends) seen
  pub written : Appends old new bytes

-- the writer has got the first bytes of the output for the two texts, and no others
pub record AreCutShortBy (run : Written) (document scripts : List ℕ) (workers viewers : ℕ) (old new : Option (List ℕ))
    : Type 0 where
  pub ends : List End
  pub bytes : List ℕ
  pub ran : run document scripts ends bytes
  pub in_turn : WhereAlone workers viewers (AreInTurn 0 ends)
  pub written : AppendsSome old new bytes

-- the same of a run on the two texts
abbrev pub AreServed : List ℕ → List ℕ → ℕ → ℕ → List (Vec ℕ) → Option (List ℕ) → Option (List ℕ) → Type 0
AreServed = AreServedBy IsRun

-- a fault of a run; one worker without viewers doesn't meet a crew's
abbrev pub IsFaultOfRun : List ℕ → List ℕ → ℕ → ℕ → RunFault → Type 0
IsFaultOfRun document scripts workers viewers f =
    IsRunFault document scripts f × WhereAlone workers viewers (is_of_crew f ≡ false)

-- the faults of a run on two texts
abbrev pub Faults : Type 1
Faults = List ℕ → List ℕ → ℕ → ℕ → RunFault → Type 0

-- Write comes only if the writer has failed. If the run is at fault, the writer has got nothing. Nothing is read, and no
-- file is written, so neither is at fault
abbrev pub IsTextsFaultBy : Written → Faults → List ℕ → List ℕ → ℕ → ℕ → Option (List ℕ) → Option (List ℕ) → Bool
    → ServeFault → Type 0
IsTextsFaultBy ran faults document scripts workers viewers old new failed (ServeFault.Run f) =
    Keeps old new × faults document scripts workers viewers f
IsTextsFaultBy ran faults document scripts workers viewers old new failed ServeFault.Write =
    AreCutShortBy ran document scripts workers viewers old new × (failed ≡ true)
IsTextsFaultBy ran faults document scripts workers viewers old new failed _ = ⊥

abbrev pub IsTextsFault : List ℕ → List ℕ → ℕ → ℕ → Option (List ℕ) → Option (List ℕ) → Bool → ServeFault → Type 0
IsTextsFault = IsTextsFaultBy IsRun IsFaultOfRun

-- the bytes read of a text are the whole of it, or it is too long, and so are they
abbrev pub IsEnoughOf : List ℕ → List ℕ → Type 0
IsEnoughOf all read = (read ≡ all) ⊎ ((max_text < length all) × (max_text < length read))
