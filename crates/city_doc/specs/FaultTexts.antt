-- The texts of faults: number, name and the things named, as JSON texts.
use Rattle.std.specs.Prelude.{ℕ, List, ◌++◌, codes}
use Rattle.json.specs.Print.{quoted}
use Rattle.city_doc.specs.declared.fault.ReadFault.{ReadFault}

abbrev pub read_fault_text : ReadFault → List ℕ
read_fault_text ReadFault.OutOfMemory = codes "out of memory"
read_fault_text ReadFault.TooLong = codes "model: 1 TooLong"
read_fault_text ReadFault.NotJson = codes "model: 2 NotJson"
read_fault_text ReadFault.NotWhole = codes "model: 3 NotWhole"
read_fault_text (ReadFault.NotCityJson member) = codes "model: 4 NotCityJson " ++ quoted member
read_fault_text (ReadFault.UnknownType id) = codes "model: 5 UnknownType " ++ quoted id
read_fault_text (ReadFault.Unsupported id name) =
    codes "model: 6 Unsupported " ++ quoted id ++ codes " " ++ quoted name
read_fault_text (ReadFault.BadGeometry id) = codes "model: 7 BadGeometry " ++ quoted id
read_fault_text (ReadFault.BadVertex id) = codes "model: 8 BadVertex " ++ quoted id
read_fault_text (ReadFault.BadRing id) = codes "model: 9 BadRing " ++ quoted id
read_fault_text (ReadFault.Relations id) = codes "model: 10 Relations " ++ quoted id
read_fault_text (ReadFault.OpenShell id) = codes "model: 11 OpenShell " ++ quoted id
