-- The members common to each fault's line, put over its details.
use Rattle.std.specs.Prelude.{ℕ, List, codes}
use Rattle.serde_json.specs.Data.{Members, put, string, number, unsigned}
use Rattle.city_doc.specs.declared.fault.ReadFault.{ReadFault}
use Rattle.city_doc.specs.declared.fault.ReadFault.TheVariants.{OutOfMemory, TooLong, NotJson, NotWhole}
use Rattle.city_doc.specs.declared.fault.ReadFault.TheVariants.{NotCityJson, UnknownType, Unsupported}
use Rattle.city_doc.specs.declared.fault.ReadFault.TheVariants.{BadGeometry, BadVertex, BadRing, Relations}
use Rattle.city_doc.specs.declared.fault.ReadFault.TheVariants.{OpenShell}
use Rattle.city_scripts.specs.declared.fault.ScriptFault.{ScriptFault}

-- with the kind of the faulty text, the fault's number and its name
abbrev pub with_head : List ℕ → ℕ → List ℕ → Members → Members
with_head kind n name ms =
    put (codes "fault") (string name)
    (put (codes "number") (number (unsigned n)) (put (codes "text") (string kind) ms))

abbrev pub with_id : List ℕ → Members → Members
with_id id ms = put (codes "id") (string id) ms

-- with the details of the fault
abbrev pub with_named : ReadFault → Members → Members
with_named OutOfMemory ms = ms
with_named TooLong ms = ms
with_named NotJson ms = ms
with_named NotWhole ms = ms
with_named (NotCityJson member) ms = put (codes "member") (string member) ms
with_named (UnknownType id) ms = with_id id ms
with_named (Unsupported id name) ms = put (codes "name") (string name) (with_id id ms)
with_named (BadGeometry id) ms = with_id id ms
with_named (BadVertex id) ms = with_id id ms
with_named (BadRing id) ms = with_id id ms
with_named (Relations id) ms = with_id id ms
with_named (OpenShell id) ms = with_id id ms

-- with the numbers of a script and of a command in it
abbrev pub with_place : ℕ → ℕ → Members → Members
with_place n i ms =
    put (codes "command") (number (unsigned i)) (put (codes "script") (number (unsigned n)) ms)

-- with the details of the fault of scripts
abbrev pub with_script_named : ScriptFault → Members → Members
with_script_named ScriptFault.OutOfMemory ms = ms
with_script_named ScriptFault.TooLong ms = ms
with_script_named ScriptFault.NotJson ms = ms
with_script_named ScriptFault.NotWhole ms = ms
with_script_named ScriptFault.NotScripts ms = ms
with_script_named (ScriptFault.BadScript n) ms = put (codes "script") (number (unsigned n)) ms
with_script_named ScriptFault.TooMany ms = ms
with_script_named (ScriptFault.BadCommand n i) ms = with_place n i ms
with_script_named (ScriptFault.BadVertex n i) ms = with_place n i ms
