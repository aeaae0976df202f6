-- The members that are left of a list.
use Rattle.city_lines.proofs.Prelude.{◌≡◌, ◌+◌, ◌<◌, ℕ, List, drop, drop-cons, get_or, length, add-one, suc, refl}
use Rattle.city_lines.proofs.Prelude.{subst, sym, inl, inr, ◌≢◌}
use Rattle.city_lines.proofs.Prelude.{HasMember, HasNone, Member, Name}

-- what holds of the members from here on holds of all
abbrev pub IsCarried : Name → List Member → ℕ → Type 0
IsCarried name ms i =
    ((text : List ℕ) → HasMember name text (drop i ms) → HasMember name text ms)
    × (HasNone name (drop i ms) → HasNone name ms)

pub found_here : (name : Name) (ms : List Member) (i : ℕ) (d : Member) → i < length ms → IsCarried name ms i
    → (get_or ms i d).name ≡ name → HasMember name (get_or ms i d).text.now ms
found_here name ms i d within carried same =
    carried.0 _ (subst (HasMember name (get_or ms i d).text.now) (sym (drop-cons ms i d within)) (inl (same, refl)))

passed_next : (name : Name) (ms : List Member) (i : ℕ) (d : Member) → i < length ms → IsCarried name ms i
    → (get_or ms i d).name ≢ name → IsCarried name ms (suc i)
passed_next name ms i d within carried other = (
  (λ text h. carried.0 text (subst (HasMember name text) (sym (drop-cons ms i d within)) (inr h))),
  (λ h. carried.1 (subst (HasNone name) (sym (drop-cons ms i d within)) (other, h))),
)

pub passed_here : (name : Name) (ms : List Member) (i : ℕ) (d : Member) → i < length ms → IsCarried name ms i
    → (get_or ms i d).name ≢ name → IsCarried name ms (i + 1)
passed_here name ms i d within carried other =
    subst (λ k. IsCarried name ms k) (sym (add-one i)) (passed_next name ms i d within carried other)
