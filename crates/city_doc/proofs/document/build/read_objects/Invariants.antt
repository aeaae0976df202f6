use Rattle.city_doc.proofs.Prelude.{members_view}
use Rattle.city_doc.proofs.document.ReadObjects.{IsReading}
use Rattle.city_doc.proofs.document.build.read_objects.Given as goal

abbrev pub invariant-loop-name : goal.invariant-loop-name
invariant-loop-name l = IsReading l.points (members_view l.fn.members.entries) l.listed.items l.name-iterator
