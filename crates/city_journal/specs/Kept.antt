-- What is told of lines, and what a crash may leave of them.
use Rattle.std.specs.Prelude.{◌≡◌, ◌≤◌, ℕ, List, [], ◌∷◌, ◌++◌, Option, Some, None, length, take}
use Rattle.city_journal.specs.Lines.{AreLines, lines_text, whole_lines}

-- The file has these lines and nothing else. Whatever a crash leaves has the first of them, those that were told among
-- them: none of these is lost, none comes in part or twice, and none that isn't there comes.
pub record Holds {F : Type 0} (seen : F → Option (List ℕ)) (may_leave : F → List ℕ → Type 0) (file : F)
    (lines : List (List ℕ)) (told : ℕ) : Type 0 where
  pub has : seen file ≡ Some (lines_text lines)
  pub are_lines : AreLines lines
  pub fits : told ≤ length lines
  pub left : (c : List ℕ) → may_leave file c
      → (n : ℕ) × (told ≤ n) × (n ≤ length lines) × (whole_lines c ≡ take n lines)

-- the file gains one line of this kind, which nobody was told of
abbrev pub Gains : {F : Type 0} → (List ℕ → Type 0) → (F → Option (List ℕ)) → (F → List ℕ → Type 0) → F → F → Type 0
Gains P seen may_leave old new = (lines : List (List ℕ)) (told : ℕ) → Holds seen may_leave old lines told
    → (line : List ℕ) × P line × Holds seen may_leave new (lines ++ line ∷ []) told

-- the file has the lines that it had
abbrev pub Stays : {F : Type 0} → (F → Option (List ℕ)) → (F → List ℕ → Type 0) → F → F → Type 0
Stays seen may_leave old new = (lines : List (List ℕ)) (told : ℕ) → Holds seen may_leave old lines told
    → Holds seen may_leave new lines told

-- the file has the lines that it had, and all of them may be told
abbrev pub MayTell : {F : Type 0} → (F → Option (List ℕ)) → (F → List ℕ → Type 0) → F → F → Type 0
MayTell seen may_leave old new = (lines : List (List ℕ)) (told : ℕ) → Holds seen may_leave old lines told
    → Holds seen may_leave new lines (length lines)

-- where there is a file, it goes over into one by this relation
abbrev pub GoesBy : {F : Type 0} → (F → F → Type 0) → Option F → Option F → Type 0
GoesBy R None new = new ≡ None
GoesBy R (Some old) None = ⊥
GoesBy R (Some old) (Some new) = R old new
