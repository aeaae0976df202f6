-- Lines for faults: each the compact text of a JSON object, and a newline.
use Rattle.std.specs.Prelude.{◌≡◌, ◌≢◌, ◌==◌, ℕ, List, [], ◌∷◌, ◌++◌, Bool, true, false, not, Some, codes}
use Rattle.std.specs.List.{list_all}
use Rattle.serde_json.specs.Data.{Data, Members, object, string, number, unsigned}
use Rattle.serde_json.specs.Find.{get}
use Rattle.serde_json.specs.Written.{compact_text, has_float}
use Rattle.city_members.specs.Members.{AreOrdered}

-- ---- one line

abbrev pub is_one_line : List ℕ → Bool
is_one_line text = list_all (λ byte. not (byte == 10)) text

-- the line of an object with these members: its compact text and a newline. The names ascend, so none is repeated; no
-- number is a float, so each has its text
pub record IsLineOfMembers (members : Members) (line : List ℕ) : Type 0 where
  pub names_ascend : AreOrdered members
  pub has_no_float : has_float (object members) ≡ false
  pub has_no_newline : is_one_line (compact_text (object members)) ≡ true
  pub has_its_text : line ≡ compact_text (object members) ++ 10 ∷ []

-- the line of some object with property P
abbrev pub IsLineOf : (Data → Type 0) → List ℕ → Type 0
IsLineOf P line = (ms : Members) × P (object ms) × IsLineOfMembers ms line

-- ---- the content of a line

-- the member of this name is this text
abbrev pub HasText : List ℕ → List ℕ → Data → Type 0
HasText name text d = get name d ≡ Some (string text)

-- the member of this name is this number
abbrev pub HasNumber : List ℕ → ℕ → Data → Type 0
HasNumber name n d = get name d ≡ Some (number (unsigned n))

-- the member of this name is some text, and not an empty one
abbrev pub HasWords : List ℕ → Data → Type 0
HasWords name d = (text : List ℕ) × (text ≢ []) × HasText name text d

-- a fault of this number and name, in a text of this kind, with a message and a cure
pub record TellsFault (kind : List ℕ) (n : ℕ) (name : List ℕ) (d : Data) : Type 0 where
  pub text : HasText (codes "text") kind d
  pub number : HasNumber (codes "number") n d
  pub fault : HasText (codes "fault") name d
  pub message : HasWords (codes "message") d
  pub cure : HasWords (codes "cure") d

-- ---- all lines

-- one line for each fault, in order
abbrev pub AreLinesOf : {F : Type 0} → (F → Data → Type 0) → List F → List ℕ → Type 0
AreLinesOf tells [] lines = lines ≡ []
AreLinesOf tells (f ∷ fs) lines =
    (line : List ℕ) × (rest : List ℕ) × IsLineOf (tells f) line × AreLinesOf tells fs rest × (lines ≡ line ++ rest)

-- the first line is of some object with property P
abbrev pub FirstLineIs : (Data → Type 0) → List ℕ → Type 0
FirstLineIs P lines = (line : List ℕ) × (rest : List ℕ) × IsLineOf P line × (lines ≡ line ++ rest)
