-- Faults of the two texts of a run are the run's.
use Rattle.city_desk.proofs.Prelude.{◌≡◌, ℕ, List, Result, Ok, Err, refl, CityValue}
use Rattle.std.specs.Result.{IfErr, IsErrAnd}
use Rattle.city_doc.specs.declared.fault.ReadFault.{ReadFault}
use Rattle.city_scripts.specs.declared.fault.ScriptFault.{ScriptFault}
use Rattle.city_tokens.specs.document.Cities.{IsAdmitted}
use Rattle.city_doc.specs.document.Faults.{DocumentFault}
use Rattle.city_scripts.specs.Faults.{ScriptTextFault}
use Rattle.city_desk.specs.RunFaults.{IsSerialFault, fault_of_document, fault_of_scripts}

-- a fault of a text is the run's fault, and want of memory for the text is the run's
pub document_fault : (document scripts : List ℕ) (f : ReadFault) → DocumentFault document f
    → IsSerialFault document scripts (fault_of_document f)
document_fault document scripts ReadFault.OutOfMemory fault = (tt, refl)
document_fault document scripts f fault = (((λ e. absurd (cc)), fault), refl)

pub scripts_fault : (document scripts : List ℕ) (city : CityValue) (f : ScriptFault) → IsAdmitted document city
    → ScriptTextFault scripts f → IsSerialFault document scripts (fault_of_scripts f)
scripts_fault document scripts city ScriptFault.OutOfMemory stands fault = (tt, refl)
scripts_fault document scripts city f stands fault = (((λ e. absurd (cc)), (city, stands), fault), refl)

-- an error equal to a value has its property
pub of_error : {T E : Type 0} (e : E) (Q : E → Type 0) (r : Result T E) → IsErrAnd r (λ x. x ≡ e) → Q e → IfErr r Q
of_error e Q (Ok v) is q = tt
of_error e Q (Err x) is q = rw is q
