-- Why a run of a document and scripts has no output.
use Rattle.std.specs.Prelude.{◌≡◌, ◌≢◌, ℕ, List, Bool, true, false}
use Rattle.city_model.specs.CityMap.{CityValue}
use Rattle.city_doc.specs.declared.fault.ReadFault.{ReadFault}
use Rattle.city_scripts.specs.declared.fault.ScriptFault.{ScriptFault}
use Rattle.city_tokens.specs.document.Cities.{IsAdmitted}
use Rattle.city_doc.specs.document.Faults.{DocumentFault}
use Rattle.city_scripts.specs.Faults.{ScriptTextFault}
use Rattle.city_desk.specs.declared.fault.RunFault.{RunFault}

-- The document is judged before the scripts. A fault of neither text says nothing of the texts
abbrev pub IsRunFault : List ℕ → List ℕ → RunFault → Type 0
IsRunFault document scripts (RunFault.Read f) = (f ≢ ReadFault.OutOfMemory) × DocumentFault document f
IsRunFault document scripts (RunFault.Script f) =
    (f ≢ ScriptFault.OutOfMemory) × ((city : CityValue) × IsAdmitted document city)
    × ScriptTextFault scripts f
IsRunFault document scripts RunFault.OutOfMemory = Unit {0}
IsRunFault document scripts RunFault.NoPlace = Unit {0}
IsRunFault document scripts RunFault.Unfinished = Unit {0}
IsRunFault document scripts RunFault.Mixed = Unit {0}

-- whether the fault needs several workers or viewers
abbrev pub is_of_crew : RunFault → Bool
is_of_crew (RunFault.Read f) = false
is_of_crew (RunFault.Script f) = false
is_of_crew RunFault.OutOfMemory = false
is_of_crew RunFault.NoPlace = true
is_of_crew RunFault.Unfinished = true
is_of_crew RunFault.Mixed = true

-- only the two texts or memory are at fault
abbrev pub IsSerialFault : List ℕ → List ℕ → RunFault → Type 0
IsSerialFault document scripts f = IsRunFault document scripts f × (is_of_crew f ≡ false)

-- a document's `OutOfMemory` is the run's
abbrev pub fault_of_document : ReadFault → RunFault
fault_of_document ReadFault.OutOfMemory = RunFault.OutOfMemory
fault_of_document f = RunFault.Read f

abbrev pub fault_of_scripts : ScriptFault → RunFault
fault_of_scripts ScriptFault.OutOfMemory = RunFault.OutOfMemory
fault_of_scripts f = RunFault.Script f
