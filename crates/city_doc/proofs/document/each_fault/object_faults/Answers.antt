use Rattle.city_doc.specs.internal.document.ReadObjects.{built_in}
use Rattle.city_doc.specs.internal.document.Told.{told, unknown_type, unsupported, bad_geometry, bad_vertex, bad_ring}
use Rattle.city_doc.specs.internal.document.Told.{relations, open_shell}
use Rattle.city_doc.proofs.document.Begun.{behind_seven}
use Rattle.city_doc.proofs.document.each_fault.object_faults.Goals as goal

pub returns : goal.returns
returns c =
    let es = c.args.objects.now.entries in
    let all = behind_seven c.args.first_only (told unknown_type es) (told unsupported es) (told bad_geometry es)
    (told bad_vertex es) (told bad_ring es) (told (relations (built_in es)) es) (told open_shell es) in
    rw (c.in_ok-tell_each-7.ensures, c.in_ok-tell_each-6.ensures, c.in_ok-tell_each-5.ensures)
    (rw (c.in_ok-tell_each-4.ensures, c.in_ok-tell_each-3.ensures, c.in_ok-tell_each-2.ensures)
    (rw (c.in_ok-tell_each.ensures, c.new-faults.ensures.items) all))
