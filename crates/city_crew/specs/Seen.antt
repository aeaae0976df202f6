-- The changes seen by the viewers of a run.
use Rattle.std.specs.Prelude.{◌≡◌, ◌≤◌, ◌<◌, ℕ, List, length, take, All}
use Rattle.std.specs.Global.{Vec}
use Rattle.city_model.specs.declared.end.End.{End}
use Rattle.city_model.specs.SerialEnds.{commits_in}
use Rattle.city_crew.specs.Rising.{Rises, last_of}

-- there are so many viewers; each had a first look, saw more and more changes, and at last as many as there are
-- commits
pub record AreSeen (viewers commits : ℕ) (seen : List (Vec ℕ)) : Type 0 where
  pub one_each : length seen ≡ viewers
  pub looked : All (λ s. 0 < length s.items) seen
  pub rising : All (λ s. Rises s.items) seen
  pub at_last : All (λ s. last_of s.items ≡ commits) seen

-- the number of changes is the number of commits in some prefix of the ends
abbrev pub OfFirstEnds : List End → ℕ → Type 0
OfFirstEnds ends changes = (n : ℕ) × (n ≤ length ends) × (commits_in (take n ends) ≡ changes)
