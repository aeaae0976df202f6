-- The content of the line of a document's fault.
use Rattle.std.specs.Prelude.{ℕ, List, codes}
use Rattle.serde_json.specs.Data.{Data}
use Rattle.city_doc.specs.declared.fault.ReadFault.{ReadFault}
use Rattle.city_doc.specs.declared.fault.ReadFault.TheVariants.{OutOfMemory, TooLong, NotJson, NotWhole}
use Rattle.city_doc.specs.declared.fault.ReadFault.TheVariants.{NotCityJson, UnknownType, Unsupported}
use Rattle.city_doc.specs.declared.fault.ReadFault.TheVariants.{BadGeometry, BadVertex, BadRing, Relations}
use Rattle.city_doc.specs.declared.fault.ReadFault.TheVariants.{OpenShell}
use Rattle.city_doc.specs.document.Faults.{rank_of}
use Rattle.city_diagnostics.specs.Lines.{HasText, TellsFault}

abbrev pub name_of : ReadFault → List ℕ
name_of OutOfMemory = codes "OutOfMemory"
name_of TooLong = codes "TooLong"
name_of NotJson = codes "NotJson"
name_of NotWhole = codes "NotWhole"
name_of (NotCityJson member) = codes "NotCityJson"
name_of (UnknownType id) = codes "UnknownType"
name_of (Unsupported id name) = codes "Unsupported"
name_of (BadGeometry id) = codes "BadGeometry"
name_of (BadVertex id) = codes "BadVertex"
name_of (BadRing id) = codes "BadRing"
name_of (Relations id) = codes "Relations"
name_of (OpenShell id) = codes "OpenShell"

-- the details of the fault are told
abbrev pub TellsNamed : ReadFault → Data → Type 0
TellsNamed OutOfMemory d = Unit {0}
TellsNamed TooLong d = Unit {0}
TellsNamed NotJson d = Unit {0}
TellsNamed NotWhole d = Unit {0}
TellsNamed (NotCityJson member) d = HasText (codes "member") member d
TellsNamed (UnknownType id) d = HasText (codes "id") id d
TellsNamed (Unsupported id name) d = HasText (codes "id") id d × HasText (codes "name") name d
TellsNamed (BadGeometry id) d = HasText (codes "id") id d
TellsNamed (BadVertex id) d = HasText (codes "id") id d
TellsNamed (BadRing id) d = HasText (codes "id") id d
TellsNamed (Relations id) d = HasText (codes "id") id d
TellsNamed (OpenShell id) d = HasText (codes "id") id d

-- the fault of a document is told
pub record Tells (f : ReadFault) (d : Data) : Type 0 where
  pub fault : TellsFault (codes "model") (rank_of f) (name_of f) d
  pub named : TellsNamed f d
