-- The words for a fault of serving, and the line to report it.
use Rattle.std.specs.Prelude.{ℕ, List, ◌++◌, codes}
use Rattle.city_desk.specs.FaultTexts.{run_fault_text}
use Rattle.city_serve.specs.declared.fault.ServeFault.{ServeFault}

abbrev pub serve_fault_text : ServeFault → List ℕ
serve_fault_text ServeFault.Read = codes "cannot read"
serve_fault_text (ServeFault.Run f) = run_fault_text f
serve_fault_text ServeFault.Write = codes "cannot write"
serve_fault_text ServeFault.InUse = codes "file in use"
serve_fault_text ServeFault.Changed = codes "model changed"

abbrev pub fault_text : ServeFault → List ℕ
fault_text f = codes "cityed: " ++ serve_fault_text f
