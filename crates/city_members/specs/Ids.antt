-- Texts as ids: when two are the same, and which stand in a list.
use Rattle.std.specs.Prelude.{ℕ, List, Bool}
use Rattle.std.specs.List.{list_any}
use Rattle.std.specs.Ordering.{nat_cmp, is_eq}
use Rattle.std.specs.Cmp.Lexicographic.{slice_cmp}

abbrev pub same_id : List ℕ → List ℕ → Bool
same_id id other = is_eq (slice_cmp nat_cmp id other)

abbrev pub has_id : List (List ℕ) → List ℕ → Bool
has_id ids id = list_any (same_id id) ids
