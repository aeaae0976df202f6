use Rattle.city_tokens.proofs.Prelude.{◌+◌, ◌*◌, length, map}
use Rattle.city_members.specs.internal.KeptValues.{value_data, members_built}
use Rattle.city_tokens.proofs.Reading.{AreRead, AreFound}
use Rattle.city_tokens.proofs.value.+value.Given as goal

abbrev pub decreases-read_value : goal.decreases-read_value
decreases-read_value l = 3 * l.depth

abbrev pub decreases-read_items : goal.decreases-read_items
decreases-read_items l = 3 * l.depth + 1

abbrev pub decreases-read_members : goal.decreases-read_members
decreases-read_members l = 3 * l.depth + 1

abbrev pub invariant-read_items-items : goal.invariant-read_items-items
invariant-read_items-items l = AreRead l.depth l.initial.reader l.reader (map value_data l.found.items)

abbrev pub decreases-read_items-items : goal.decreases-read_items-items
decreases-read_items-items l = length l.reader

abbrev pub invariant-read_members-members : goal.invariant-read_members-members
invariant-read_members-members l = AreFound l.depth l.initial.reader l.reader (members_built l.found)

abbrev pub decreases-read_members-members : goal.decreases-read_members-members
decreases-read_members-members l = length l.reader
