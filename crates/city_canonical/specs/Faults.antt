-- The faults of each step, as faults of this crate.
use Rattle.city_decimals.specs.declared.fault.DecimalsFault.{DecimalsFault}
use Rattle.city_decimals.specs.declared.fault.DecimalsFault.TheVariants as decimals
use Rattle.city_doc.specs.declared.fault.ReadFault.{ReadFault}
use Rattle.city_doc.specs.declared.fault.ReadFault.TheVariants as doc
use Rattle.city_canonical.specs.declared.fault.CanonicalFault.{CanonicalFault}
use Rattle.city_canonical.specs.declared.fault.CanonicalFault.TheVariants.{OutOfMemory, NotJson, NotModel}

abbrev pub fault_of : DecimalsFault → CanonicalFault
fault_of decimals.OutOfMemory = OutOfMemory
fault_of decimals.NotJson = NotJson

abbrev pub read_fault_of : ReadFault → CanonicalFault
read_fault_of doc.OutOfMemory = OutOfMemory
read_fault_of f = NotModel f
