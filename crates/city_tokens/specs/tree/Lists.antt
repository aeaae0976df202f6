-- Lists, read from arrays.
use Rattle.std.specs.Prelude.{List, [], ◌∷◌, Option, Some, None, option_map, option_and_then}
use Rattle.serde_json.specs.Data.{Data, Items, no_items, item}
use Rattle.serde_json.specs.Find.{as_array}

abbrev pub read_items : {A : Type 0} → (Data → Option A) → Items → Option (List A)
read_items read no_items = Some []
read_items read (item d ds) = option_and_then (λ x. option_map (λ xs. x ∷ xs) (read_items read ds)) (read d)

-- an array, with each item read
abbrev pub list_of : {A : Type 0} → (Data → Option A) → Data → Option (List A)
list_of read d = option_and_then (read_items read) (as_array d)

-- the same, with the empty list for an absent member
abbrev pub list_or_absent : {A : Type 0} → (Data → Option A) → Option Data → Option (List A)
list_or_absent read None = Some []
list_or_absent read (Some d) = list_of read d

abbrev pub items_list : Items → List Data
items_list no_items = []
items_list (item d ds) = d ∷ items_list ds

-- the items of an array
abbrev pub array_of : Data → Option (List Data)
array_of d = option_map items_list (as_array d)

-- each item as read, if all can be read
abbrev pub all_read : {A B : Type 0} → (A → Option B) → List A → Option (List B)
all_read read [] = Some []
all_read read (x ∷ xs) = option_and_then (λ y. option_map (λ ys. y ∷ ys) (all_read read xs)) (read x)
