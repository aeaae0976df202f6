use Rattle.city_doc.proofs.Prelude.{ids_left}
use Rattle.city_doc.proofs.document.IdSets.{IsFilling}
use Rattle.city_doc.proofs.document.indexed.id_set.Given as goal

abbrev pub invariant-loop-id : goal.invariant-loop-id
invariant-loop-id l = IsFilling (ids_left l.fn.ids) l.set.keys (ids_left l.id-iterator) l.once
