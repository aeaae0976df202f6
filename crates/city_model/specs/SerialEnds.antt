-- How scripts end: by a commit, out of memory, and one after the other in their order.
use Rattle.std.specs.Prelude.{◌≡◌, ◌+◌, ℕ, List, [], ◌∷◌, Bool, true, false, count_by}
use Rattle.city_model.specs.declared.end.End.{End}
use Rattle.city_model.specs.declared.end.Outcome.{Outcome}

-- the script ended out of memory
abbrev pub is_no_memory : Outcome → Bool
is_no_memory (Outcome.NoMemory i) = true
is_no_memory outcome = false

abbrev pub is_commit : Outcome → Bool
is_commit Outcome.Committed = true
is_commit outcome = false

-- how many of the ends are commits
abbrev pub commits_in : List End → ℕ
commits_in ends = count_by (λ e. is_commit e.outcome) ends

-- from place k on, the end at each place is of the script of the same number, began at that place, and isn't out of
-- memory
abbrev pub IsSerialFrom : ℕ → List End → Type 0
IsSerialFrom k [] = Unit {0}
IsSerialFrom k (e ∷ es) =
    (e.script ≡ k) × (e.since ≡ k) × (is_no_memory e.outcome ≡ false) × IsSerialFrom (k + 1) es
