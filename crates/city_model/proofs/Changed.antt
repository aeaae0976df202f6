-- A changed map at an id.
use Rattle.city_model.proofs.Prelude.{arith, ◌≡◌, ℕ, List, [], ◌∷◌, true, false, Option, None, refl, ap, if◌then◌else◌}
use Rattle.city_model.proofs.Prelude.{option_map, keys_of, or_parts, Object, Entries, CityMap, found_in, changed}
use Rattle.city_model.proofs.Prelude.{same_id, has_id, attached, deleted, without_child}

pub at_absent : (es : Entries) (id : List ℕ) → has_id (keys_of es) id ≡ false → found_in es id ≡ None
at_absent [] id h = refl
at_absent (e ∷ es) id h = grind (arith, or_parts, at_absent es id)

pub changed_apart : (m : CityMap) (id : List ℕ) (w : Option Object) (q : List ℕ) → same_id id q ≡ false
    → changed m id w q ≡ m q
changed_apart m id w q h = ap (λ b. if b then w else m q) h

pub changed_there : (m : CityMap) (id : List ℕ) (w : Option Object) (q : List ℕ) → same_id id q ≡ true
    → changed m id w q ≡ w
changed_there m id w q h = ap (λ b. if b then w else m q) h

pub attached_apart : (m : CityMap) (child parent q : List ℕ) → same_id child q ≡ false → same_id parent q ≡ false
    → attached m child parent q ≡ m q
attached_apart m child parent q h k = rw (k, h) refl

pub deleted_apart : (m : CityMap) (id q : List ℕ) → same_id id q ≡ false
    → deleted m id q ≡ option_map (without_child id) (m q)
deleted_apart m id q h = rw h refl
