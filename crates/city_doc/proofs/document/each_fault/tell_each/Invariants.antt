use Rattle.city_doc.proofs.Prelude.{◌≡◌}
use Rattle.city_doc.specs.internal.document.Told.{told, told_behind}
use Rattle.city_doc.proofs.document.each_fault.tell_each.Given as goal

abbrev pub invariant-loop-id : goal.invariant-loop-id
invariant-loop-id g l =
    told_behind l.first_only l.initial.faults.items (told (g.S.Search.found l.search) l.objects.entries)
    ≡ told_behind l.first_only l.faults.items (told (g.S.Search.found l.search) l.id-iterator)
