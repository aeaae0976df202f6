-- Scripts run one after the other in the order of their text.
use Rattle.std.specs.Prelude.{◌≡◌, ℕ, List, Bool, true, not}
use Rattle.std.specs.List.{list_all}
use Rattle.city_model.specs.declared.end.End.{End}
use Rattle.city_model.specs.SerialEnds.{is_no_memory}
use Rattle.city_scheduler.specs.InTurn.{AreInTurn}
use Rattle.city_desk.specs.TextRuns.{IsRun}

-- a run with its ends in the order of the scripts
pub record IsSerialRun (document scripts : List ℕ) (ends : List End) (bytes : List ℕ) : Type 0 where
  pub run : IsRun document scripts ends bytes
  pub in_turn : AreInTurn 0 ends

-- no script ended out of memory
abbrev pub had_memory : List End → Bool
had_memory ends = list_all (λ e. not (is_no_memory e.outcome)) ends

-- the texts decide the ends and the bytes: all runs of them without an end out of memory are the same
abbrev pub IsDecided : List ℕ → List ℕ → List End → List ℕ → Type 0
IsDecided document scripts ends bytes =
    had_memory ends ≡ true → (others : List End) (written : List ℕ)
    → IsSerialRun document scripts others written → had_memory others ≡ true
    → (others ≡ ends) × (written ≡ bytes)
