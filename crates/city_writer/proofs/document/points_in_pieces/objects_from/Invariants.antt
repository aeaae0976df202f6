use Rattle.city_writer.proofs.Prelude.{◌≡◌, drop}
use Rattle.city_writer.proofs.document.points_in_pieces.objects_from.Given as goal

-- the objects still to pass
abbrev pub invariant-passed : goal.invariant-passed
invariant-passed l = drop l.from l.left ≡ drop l.initial.from l.initial.left

abbrev pub decreases-passed : goal.decreases-passed
decreases-passed l = l.from
