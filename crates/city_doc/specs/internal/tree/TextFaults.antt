-- The faults of a text, alone and as faults of a document.
use Rattle.std.specs.Prelude.{ℕ, List}
use Rattle.city_doc.specs.declared.fault.ReadFault.{ReadFault}
use Rattle.city_doc.specs.declared.tree.parse.TextFault.{TextFault}
use Rattle.city_doc.specs.declared.tree.parse.TextFault.TheVariants.{OutOfMemory, TooLong, NotJson, NotWhole}
use Rattle.city_tokens.specs.tree.Texts.{IsTooLong, IsNoJson, HasOtherNumber}

-- why a text has no tree of whole numbers; `OutOfMemory` may be answered for any text
abbrev pub IsRefused : List ℕ → TextFault → Type 0
IsRefused text OutOfMemory = Unit {0}
IsRefused text TooLong = IsTooLong text
IsRefused text NotJson = IsNoJson text
IsRefused text NotWhole = HasOtherNumber text

abbrev pub read_fault : TextFault → ReadFault
read_fault OutOfMemory = ReadFault.OutOfMemory
read_fault TooLong = ReadFault.TooLong
read_fault NotJson = ReadFault.NotJson
read_fault NotWhole = ReadFault.NotWhole
