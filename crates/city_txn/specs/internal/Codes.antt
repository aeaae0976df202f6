-- Codes of a city's objects and of undo logs: with them a proof tells two stores apart.
use Rattle.std.specs.Coded.{Coded, coded_list, coded_ℕ}
use Rattle.std.specs.FinMap.{code}
use Rattle.city_model.specs.CityMap.{Objects}
use Rattle.city_model.specs.contracts.object.Object as object
use Rattle.city_txn.specs.contracts.undo_logs.Entry as entry
use Rattle.city_txn.specs.declared.undo_logs.Entry.{Entry}

abbrev pub coded_objects : Coded Objects
coded_objects = code (coded_list coded_ℕ) object.the_row.coded

abbrev pub coded_entries : Coded Entry
coded_entries = entry.the_row.coded
