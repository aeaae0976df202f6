-- Values as read, and their trees: alone, as items of an array, or as members.
use Rattle.std.specs.Prelude.{◌≡◌, ℕ, List, [], ◌∷◌, Option, Some, None}
use Rattle.json.specs.Token.{Token}
use Rattle.serde_json.specs.Data.{Data, array, Members, put}
use Rattle.serde_json.specs.Find.{as_str}
use Rattle.serde_json.specs.View.{items_of}
use Rattle.city_tokens.specs.internal.Taken.{IsValue}

-- two lists of one length, related item by item
abbrev pub Pairs : {A B : Type 0} → (A → B → Type 0) → List A → List B → Type 0
Pairs R [] [] = Unit {0}
Pairs R (x ∷ xs) (y ∷ ys) = R x y × Pairs R xs ys
Pairs R _ _ = ⊥

-- an array; the list stands for it, item by item
abbrev pub IsArrayOf : {A : Type 0} → (A → Data → Type 0) → List A → Data → Type 0
IsArrayOf R xs d = (ds : List Data) × (d ≡ array (items_of ds)) × Pairs R xs ds

-- the value read of a member, if it was met
abbrev pub IsSlot : {A : Type 0} → (A → Data → Type 0) → Option A → Option Data → Type 0
IsSlot R None member = Unit {0}
IsSlot R (Some x) member = (d : Data) × (member ≡ Some d) × R x d

-- the list of a member; empty if the member is absent
abbrev pub IsListSlot : {A : Type 0} → (A → Data → Type 0) → List A → Option Data → Type 0
IsListSlot R xs None = xs ≡ []
IsListSlot R xs (Some d) = IsArrayOf R xs d

abbrev pub IsString : List ℕ → Data → Type 0
IsString s d = as_str d ≡ Some s

-- the tokens begin with a value, and this stands for it
abbrev pub IsReadAs : {A : Type 0} → (A → Data → Type 0) → A → ℕ → List Token → List Token → Type 0
IsReadAs R x depth old new = (d : Data) × IsValue depth old d new × R x d

-- the member of a name was read: the new value stands for it and the members so far, the kept ones among them
abbrev pub IsTaken : {A : Type 0} → (A → Members → Members → Type 0) → A → A → List ℕ → ℕ → List Token → List Token
    → Type 0
IsTaken stands old new name depth before after =
    (d : Data) × IsValue depth before d after
    × ((found kept : Members) → stands old found kept → stands new (put name d found) kept)

-- the member of a name is one to be kept
abbrev pub IsPassed : {A : Type 0} → (A → Members → Members → Type 0) → A → A → List ℕ → List Token → List Token
    → Type 0
IsPassed stands old new name before after =
    (after ≡ before)
    × ((d : Data) (found kept : Members) → stands old found kept → stands new (put name d found) (put name d kept))
