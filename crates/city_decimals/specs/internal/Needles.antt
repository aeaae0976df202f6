-- Texts in which some bytes occur nowhere.
use Rattle.std.specs.Prelude.{◌≡◌, ℕ, List, ◌++◌, length, codes}

-- these bytes occur nowhere in the text
abbrev pub Lacks : List ℕ → List ℕ → Type 0
Lacks needle text = (a b : List ℕ) → text ≡ a ++ (needle ++ b) → ⊥

-- wherever these bytes occur in the text, it is here
abbrev pub IsOnly : List ℕ → List ℕ → ℕ → Type 0
IsOnly needle text at = (a b : List ℕ) → text ≡ a ++ (needle ++ b) → length a ≡ at

-- the tag as a name, with its colon
abbrev pub tag_name : List ℕ
tag_name = codes "\"#\":"

-- the name of the attributes, and an array under it
abbrev pub attributes_array : List ℕ
attributes_array = codes "\"attributes\":["
