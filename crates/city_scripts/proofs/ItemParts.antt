-- Items that all have the form of a script, and their parts.
use Rattle.city_scripts.proofs.Prelude.{◌≡◌, ℕ, zero, suc, List, [], ◌∷◌, length, Bool, Option, Some, refl, sym}
use Rattle.city_scripts.proofs.Prelude.{◌∙◌, ap, arith, slice_get, list_any, Data, all_read, ScriptParts, parts_of}
use Rattle.std.proofs.Common.{ap₂}
use Rattle.std.specs.Prelude.{◌||◌, nat_lt}
use Rattle.city_scripts.specs.AllFaults.{HasAt, is_overlong, are_too_many}
use Rattle.city_scripts.specs.Faults as parts
use Rattle.city_tokens.specs.script.Scripts.{max_commands, max_scripts}
use Rattle.city_tokens.specs.script.Scripts as scripts

read_first : {A B : Type 0} (read : A → Option B) (x : A) (xs : List A) (ys : List B)
    → all_read read (x ∷ xs) ≡ Some ys
    → (y : B) × (rest : List B) × (read x ≡ Some y) × (all_read read xs ≡ Some rest) × (ys ≡ y ∷ rest)
read_first read x xs ys h = grind arith

-- the parts of the item at an index stand at the same index
pub all_read-at : {A B : Type 0} (read : A → Option B) (xs : List A) (ys : List B) (n : ℕ) (x : A)
    → all_read read xs ≡ Some ys → slice_get xs n ≡ Some x
    → (y : B) × (slice_get ys n ≡ Some y) × (read x ≡ Some y)
all_read-at read [] ys n x h at = absurd (let none : ⊥ = cc in none)
all_read-at read (z ∷ xs) ys zero x h at =
    let r = read_first read z xs ys h in
    let same : z ≡ x = cc in
    (r.0, ap (λ ys. slice_get ys 0) r.4, ap read (sym same) ∙ r.2)
all_read-at read (z ∷ xs) ys (suc n) x h at =
    let r = read_first read z xs ys h in
    let k = all_read-at read xs r.1 n x r.3 at in
    (k.0, ap (λ ys. slice_get ys (suc n)) r.4 ∙ k.1, k.2)

pub all_read-back : {A B : Type 0} (read : A → Option B) (xs : List A) (ys : List B) (n : ℕ) (y : B)
    → all_read read xs ≡ Some ys → slice_get ys n ≡ Some y
    → (x : A) × (slice_get xs n ≡ Some x) × (read x ≡ Some y)
all_read-back read [] ys n y h at = absurd (let none : ⊥ = grind arith in none)
all_read-back read (z ∷ xs) ys zero y h at =
    let r = read_first read z xs ys h in
    let same : r.0 ≡ y = grind (arith, r.4, at) in
    (z, refl, r.2 ∙ ap Some same)
all_read-back read (z ∷ xs) ys (suc n) y h at =
    let r = read_first read z xs ys h in
    let k = all_read-back read xs r.1 n y r.3 (sym (ap (λ ys. slice_get ys (suc n)) r.4) ∙ at) in
    (k.0, k.1, k.2)

as_many : (ds : List Data) (ps : List ScriptParts) → all_read parts_of ds ≡ Some ps → length ps ≡ length ds
as_many [] ps h = grind arith
as_many (d ∷ ds) ps h = grind (arith, as_many ds)

overlong_alike : (ds : List Data) (ps : List ScriptParts) → all_read parts_of ds ≡ Some ps
    → list_any (λ d. is_overlong (parts_of d)) ds ≡ list_any (λ p. nat_lt max_commands (length p.commands)) ps
overlong_alike [] ps h = grind arith
overlong_alike (d ∷ ds) ps h =
    let r = read_first parts_of d ds ps h in
    ap₂ (λ a b. a || b) (ap is_overlong r.2) (overlong_alike ds r.1 r.3)
    ∙ ap (list_any (λ p. nat_lt max_commands (length p.commands))) (sym r.4)

-- there are too many items if there are too many parts
pub too_many_alike : (ds : List Data) (ps : List ScriptParts) → all_read parts_of ds ≡ Some ps
    → are_too_many ds ≡ scripts.are_too_many ps
too_many_alike ds ps h =
    ap₂ (λ a b. a || b) (ap (nat_lt max_scripts) (sym (as_many ds ps h))) (overlong_alike ds ps h)

pub none_bad : (ds : List Data) (ps : List ScriptParts) (n : ℕ) → all_read parts_of ds ≡ Some ps
    → parts.IsBadScript ds n → ⊥
none_bad ds ps n h (d, at, none) =
    let k = all_read-at parts_of ds ps n d h at in
    let both = sym none ∙ k.2 in
    cc

module _ (test : ℕ → Data → Bool) (ds : List Data) (ps : List ScriptParts) (h : all_read parts_of ds ≡ Some ps)
    (n i : ℕ) where
  pub in_parts : HasAt test ds n i → parts.HasAt test ps n i
  in_parts (s, p, d, at, is, there, has) =
      let k = all_read-at parts_of ds ps n s h at in
      let same : k.0 ≡ p = grind (arith, k.2, is) in
      (p, d, k.1 ∙ ap Some same, there, has)

  pub in_items : parts.HasAt test ps n i → HasAt test ds n i
  in_items (p, d, at, there, has) =
      let k = all_read-back parts_of ds ps n p h at in
      (k.0, p, d, k.1, k.2, there, has)
