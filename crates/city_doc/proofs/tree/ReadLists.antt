-- Lists read from the items of an array.
use Rattle.city_doc.proofs.Prelude.{◌≡◌, List, ◌∷◌, ◌++◌, Option, Some, arith, [], Data, Items, item, read_items}
use Rattle.city_doc.proofs.Prelude.{all_read, map_grown}
use Rattle.std.proofs.Common.{option_map}

-- one more item of the rest has been read
pub read_items-step : {X : Type 0} (read : Data → Option X) (all : Option (List X)) (done next : List X)
    (left more : Items) (d : Data) (x : X)
    → all ≡ option_map (λ xs. done ++ xs) (read_items read left) → left ≡ item d more → read d ≡ Some x
    → next ≡ done ++ x ∷ []
    → all ≡ option_map (λ xs. next ++ xs) (read_items read more)
read_items-step read all done next left more d x is split one grown = grind (arith, map_grown)

pub all_read-step : {A B : Type 0} (read : A → Option B) (all : Option (List B)) (done next : List B)
    (left more : List A) (d : A) (x : B)
    → all ≡ option_map (λ xs. done ++ xs) (all_read read left) → left ≡ d ∷ more → read d ≡ Some x
    → next ≡ done ++ x ∷ []
    → all ≡ option_map (λ xs. next ++ xs) (all_read read more)
all_read-step read all done next left more d x is split one grown = grind (arith, map_grown)
