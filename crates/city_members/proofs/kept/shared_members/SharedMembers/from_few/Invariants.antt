use Rattle.city_members.proofs.Prelude.{◌≡◌, ◌++◌}
use Rattle.std.specs.Vec.Iter.{into_iter_items}
use Rattle.city_members.specs.internal.KeptValues.{members_data}
use Rattle.city_members.proofs.kept.shared_members.SharedMembers.from_few.Given as goal

abbrev pub invariant-loop-member : goal.invariant-loop-member
invariant-loop-member l = members_data (l.items.items ++ into_iter_items l.member-iterator) ≡ l.fn.few
