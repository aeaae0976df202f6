use Rattle.city_doc.proofs.Prelude.{◌≡◌, members_view, all_objects}
use Rattle.city_doc.proofs.document.top.all_objects.Given as goal

abbrev pub invariant-loop-member : goal.invariant-loop-member
invariant-loop-member l = all_objects (members_view l.members.entries) ≡ all_objects (members_view l.member-iterator)
