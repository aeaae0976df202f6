-- The words of a diagnostic, and the text of what is told of a refused command.
use Rattle.std.specs.Prelude.{◌≡◌, ◌≢◌, ℕ, List, [], ◌∷◌, false, Some, codes}
use Rattle.serde_json.specs.Data.{Data, Members, object, put, string}
use Rattle.serde_json.specs.Find.{get}
use Rattle.serde_json.specs.Written.{compact_text, has_float}
use Rattle.city_members.specs.Members.{AreOrdered}

-- the words, or others if there are none
abbrev pub words_or : List ℕ → List ℕ → List ℕ
words_or others [] = others
words_or others (x ∷ xs) = x ∷ xs

abbrev pub told_message : List ℕ → List ℕ
told_message message = words_or (codes "It isn't as it should be.") message

abbrev pub told_cure : List ℕ → List ℕ
told_cure cure = words_or (codes "Correct it, or leave it out.") cure

-- with a message and a cure
abbrev pub worded : List ℕ → List ℕ → Members → Members
worded message cure ms =
    put (codes "cure") (string (told_cure cure)) (put (codes "message") (string (told_message message)) ms)

-- the member of this name is a text, and not an empty one
abbrev pub HasWords : List ℕ → Data → Type 0
HasWords name d = (text : List ℕ) × (text ≢ []) × (get name d ≡ Some (string text))

-- the compact text of an object with a message and a cure. The names ascend, so none is repeated; no number is a
-- float, so each has its text
pub record IsWhyOf (members : Members) (text : List ℕ) : Type 0 where
  pub message : HasWords (codes "message") (object members)
  pub cure : HasWords (codes "cure") (object members)
  pub names_ascend : AreOrdered members
  pub has_no_float : has_float (object members) ≡ false
  pub has_its_text : text ≡ compact_text (object members)

abbrev pub IsWhy : List ℕ → Type 0
IsWhy text = (members : Members) × IsWhyOf members text
