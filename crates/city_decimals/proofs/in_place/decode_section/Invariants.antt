use Rattle.city_decimals.proofs.Sections.{IsDecodedSoFar}
use Rattle.city_decimals.proofs.in_place.decode_section.Given as goal

abbrev pub invariant-loop-tag : goal.invariant-loop-tag
invariant-loop-tag l = IsDecodedSoFar l.fn.text l.from l.to l.count l.text l.at l.end l.left

abbrev pub decreases-loop-tag : goal.decreases-loop-tag
decreases-loop-tag l = l.left
