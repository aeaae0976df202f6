-- Lists as they are written, and lists of whole numbers.
use Rattle.std.specs.Prelude.{ℕ, ℤ, List, [], ◌∷◌, map}
use Rattle.serde_json.specs.Data.{Data, array, number, Members, put}
use Rattle.serde_json.specs.Find.{of_integer}
use Rattle.serde_json.specs.View.{items_of}

-- an array with an item for each value
abbrev pub list_data : {A : Type 0} → (A → Data) → List A → Data
list_data f xs = array (items_of (map f xs))

-- the members with a list, unless it is empty
abbrev pub put_list : {A : Type 0} → List ℕ → (A → Data) → List A → Members → Members
put_list name f [] ms = ms
put_list name f (x ∷ xs) ms = put name (list_data f (x ∷ xs)) ms

abbrev pub integer_data : ℤ → Data
integer_data n = number (of_integer n)

abbrev pub triple_data : List ℤ → Data
triple_data xs = list_data integer_data xs
