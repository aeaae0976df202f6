-- The texts that are read, given enough memory.
use Rattle.std.specs.Prelude.{◌≡◌, ℕ, List}
use Rattle.city_doc.specs.declared.fault.ReadFault.{ReadFault}
use Rattle.city_doc.specs.declared.fault.ReadFault.TheVariants.{OutOfMemory}
use Rattle.city_doc.specs.document.Faults.{DocumentFault}

-- the text has no fault but `OutOfMemory`
abbrev pub IsAccepted : List ℕ → Type 0
IsAccepted text = (f : ReadFault) → DocumentFault text f → f ≡ OutOfMemory
