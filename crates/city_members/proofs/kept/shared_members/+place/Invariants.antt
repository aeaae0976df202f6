use Rattle.city_members.proofs.Prelude.{length}
use Rattle.city_members.proofs.kept.shared_members.+place.Given as goal

abbrev pub decreases-place : goal.decreases-place
decreases-place l = length l.tree.now
