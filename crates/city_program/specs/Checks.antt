-- The output of a check: a line for each fault of a model, and then for each of scripts.
use Rattle.std.specs.Prelude.{◌≡◌, ◌≢◌, ◌⊎◌, ℕ, Bool, true, false, List, [], ◌∷◌, ◌++◌, take, Option, Some, None, IfSome}
use Rattle.city_doc.specs.declared.fault.ReadFault.{ReadFault}
use Rattle.city_doc.specs.document.Accepted as model
use Rattle.city_scripts.specs.declared.fault.ScriptFault.{ScriptFault}
use Rattle.city_doc.specs.document.AllFaults as model_faults
use Rattle.city_doc.specs.document.Faults.{DocumentFault}
use Rattle.city_scripts.specs.AllFaults as script_faults
use Rattle.city_scripts.specs.Faults.{ScriptTextFault}
use Rattle.city_diagnostics.specs.Lines.{AreLinesOf, FirstLineIs}
use Rattle.city_diagnostics.specs.ModelLines.{Tells}
use Rattle.city_diagnostics.specs.ScriptLines.{TellsScript}
use Rattle.city_diagnostics.specs.Warnings.{AreWarnings}
use Rattle.city_serve.specs.Decimals.{IsGiven}
use Rattle.city_serve.specs.Destinations.{Folder}
use Rattle.city_serve.specs.Steps.{Step}

-- the text to judge: if numbers of any form are taken, the one given to a run, and else the text itself
abbrev pub IsJudged : Bool → List ℕ → List ℕ → Type 0
IsJudged true text judged = IsGiven text judged
IsJudged false text judged = judged ≡ text

-- the lines of all faults of a model; none exactly if it is accepted. The first tells a fault that a run answers, and
-- any that it answers, unless memory runs out
pub record AreModelLines (decimals : Bool) (text lines : List ℕ) : Type 0 where
  pub judged : List ℕ
  pub judged_is : IsJudged decimals text judged
  pub faults : List ReadFault
  pub are_all : model_faults.AreFaultsOf judged faults
  pub told : AreLinesOf Tells faults lines
  pub accepted : lines ≡ [] → model.IsAccepted judged
  pub none : model.IsAccepted judged → lines ≡ []
  pub first : (lines ≡ []) ⊎ ((f : ReadFault) × DocumentFault judged f × FirstLineIs (Tells f) lines)
  pub answered : (f : ReadFault) → DocumentFault judged f
      → (f ≡ ReadFault.OutOfMemory) ⊎ FirstLineIs (Tells f) lines

-- the lines of all faults of scripts; none exactly if they are accepted. The first is as of a model
pub record AreScriptsLines (decimals : Bool) (text lines : List ℕ) : Type 0 where
  pub judged : List ℕ
  pub judged_is : IsJudged decimals text judged
  pub faults : List ScriptFault
  pub are_all : script_faults.AreFaultsOf judged faults
  pub told : AreLinesOf TellsScript faults lines
  pub accepted : lines ≡ [] → script_faults.IsAccepted judged
  pub none : script_faults.IsAccepted judged → lines ≡ []
  pub first : (lines ≡ []) ⊎ ((f : ScriptFault) × ScriptTextFault judged f × FirstLineIs (TellsScript f) lines)
  pub answered : (f : ScriptFault) → ScriptTextFault judged f
      → (f ≡ ScriptFault.OutOfMemory) ⊎ FirstLineIs (TellsScript f) lines

-- the lines of the scripts, if there are any
abbrev pub AreLinesBehind : Bool → Option (List ℕ) → List ℕ → Type 0
AreLinesBehind decimals None lines = lines ≡ []
AreLinesBehind decimals (Some text) lines = AreScriptsLines decimals text lines

-- the lines of the model, and the scripts' behind them
pub record AreCheckLines (decimals : Bool) (model : List ℕ) (scripts : Option (List ℕ)) (lines : List ℕ) : Type 0 where
  pub first : List ℕ
  pub behind : List ℕ
  pub of_model : AreModelLines decimals model first
  pub of_scripts : AreLinesBehind decimals scripts behind
  pub lines_are : lines ≡ first ++ behind

-- there are lines, or there are none
abbrev pub HasLines : Bool → List ℕ → Type 0
HasLines true lines = lines ≢ []
HasLines false lines = lines ≡ []

-- the warnings about the scripts, if there are any
abbrev pub AreWarningsOf : Option (List ℕ) → List ℕ → Type 0
AreWarningsOf None warnings = warnings ≡ []
AreWarningsOf (Some text) warnings = AreWarnings warnings

-- the output of a check: the lines of all faults, if there are any, and warnings behind them
pub record IsCheckOutput (decimals : Bool) (model : List ℕ) (scripts : Option (List ℕ)) (faulty : Bool)
    (output : List ℕ) : Type 0 where
  pub lines : List ℕ
  pub warnings : List ℕ
  pub of_faults : AreCheckLines decimals model scripts lines
  pub faulty_is : HasLines faulty lines
  pub of_warnings : AreWarningsOf scripts warnings
  pub output_is : output ≡ lines ++ warnings

-- the model is read, and then the scripts, if there are any
abbrev pub reading_of : List ℕ → Option (List ℕ) → List Step
reading_of model None = Step.Read model ∷ []
reading_of model (Some scripts) = Step.Read model ∷ Step.Read scripts ∷ []

-- some of the steps, from the first on
abbrev pub AreFirstOf : List Step → List Step → Type 0
AreFirstOf all steps = (n : ℕ) × (steps ≡ take n all)

-- a property of the texts of these files, if they are known
abbrev pub OfFiles : Folder → List ℕ → Option (List ℕ) → (List ℕ → Option (List ℕ) → Type 0) → Type 0
OfFiles texts model None P = IfSome (texts model) (λ document. P document None)
OfFiles texts model (Some scripts) P =
    IfSome (texts model) (λ document. IfSome (texts scripts) (λ commands. P document (Some commands)))
