-- The faults of a reader of JSON, as faults of this crate.
use Rattle.json.specs.declared.error.Error.{Error}
use Rattle.json.specs.declared.error.Error.TheVariants as json
use Rattle.city_decimals.specs.declared.fault.DecimalsFault.{DecimalsFault}
use Rattle.city_decimals.specs.declared.fault.DecimalsFault.TheVariants.{OutOfMemory, NotJson}

abbrev pub fault_of : Error → DecimalsFault
fault_of json.OutOfMemory = OutOfMemory
fault_of json.Invalid = NotJson
fault_of json.TooLong = NotJson
fault_of json.DuplicateKey = NotJson
