-- The writes of a plan worked through: one more made ready, and one more written.
use Rattle.city_txn.proofs.Prelude.{arith, ◌≡◌, ◌||◌, ℕ, ◌+◌, ◌<◌, List, [], ◌∷◌, ◌++◌, length, take, get_or, Bool}
use Rattle.city_txn.proofs.Prelude.{true, false, Option, Some, refl, ap, sym, ◌∙◌, if◌then◌else◌, nat_cmp, slice_cmp}
use Rattle.city_txn.proofs.Prelude.{is_at, is_some-lookup, list_any, list_any-append, Object, same_id, Change, write_in}
use Rattle.city_txn.proofs.Prelude.{AreOf, same_id_true, same_id_itself, same_id_back, Write, own_write, State}
use Rattle.city_txn.proofs.Prelude.{written_with, MayReserve, Touches, plans}
use Rattle.std.proofs.lemmas.List.Folds.{list_any_more, list_any_at}
use Rattle.city_model.specs.CityMap.{CityMap}

listed : (ws : Change) (q : List ℕ) → plans ws q ≡ list_any (λ w. same_id q w.0) ws
listed [] q = refl
listed (w ∷ ws) q = ap (λ b. same_id q w.0 || b) (listed ws q)

-- ---- made ready

pub plans_more : (ws : Change) (n : ℕ) (w : List ℕ × Option Object) (q : List ℕ) → n < length ws → w ≡ get_or ws n w
    → plans (take (n + 1) ws) q ≡ (plans (take n ws) q || same_id q w.0)
plans_more ws n w q lt is = let e = list_any_more (λ x. same_id q x.0) ws n w lt in grind (arith, listed)

pub planned : (ws : Change) (n : ℕ) (w : List ℕ × Option Object) → n < length ws → w ≡ get_or ws n w → (q : List ℕ)
    → same_id w.0 q ≡ true → plans ws q ≡ true
planned ws n w lt is q e = listed ws q
    ∙ list_any_at (λ x. same_id q x.0) ws n w lt (ap (λ x. same_id q x.0) (sym is) ∙ same_id_back q w.0 ∙ e)

-- nobody else has come to have the next one
pub may_reserve_next : (v u : State) (s : ℕ) (ids : List ℕ → Bool) (id : List ℕ) → MayReserve v s ids
    → Touches s ids v u → ((q : List ℕ) → same_id id q ≡ true → ids q ≡ true) → MayReserve u s (same_id id)
may_reserve_next v u s ids id may touches among = grind arith

-- ---- writes, from the last to the first

plans_last : (ws : Change) (p : List ℕ × Option Object) (q : List ℕ)
    → plans (ws ++ p ∷ []) q ≡ (plans ws q || same_id q p.0)
plans_last ws p q = let e = list_any-append (λ x. same_id q x.0) ws (p ∷ []) in grind (arith, listed)

pub plans_before : (all ws : Change) (p : List ℕ × Option Object) (q : List ℕ) → all ≡ ws ++ p ∷ [] → plans ws q ≡ true
    → plans all q ≡ true
plans_before all ws p q e h = let l = plans_last ws p q in grind arith

pub plans_this : (all ws : Change) (p : List ℕ × Option Object) → all ≡ ws ++ p ∷ [] → plans all p.0 ≡ true
plans_this all ws p e = grind (arith, plans_last, same_id_itself)

pub written_last : (ws : Change) (p : List ℕ × Option Object) (s : ℕ) (q : List ℕ) (x y : Option Write)
    → y ≡ (if same_id p.0 q then Some (s, p.1) else x)
    → written_with s (write_in ws q) y ≡ written_with s (write_in (ws ++ p ∷ []) q) x
written_last [] p s q x y is = let back = same_id_back p.0 q in grind arith
written_last (w ∷ ws) p s q x y is = let rest = written_last ws p s q x y is in grind arith

-- of a plan for f
pub written_planned : (f : CityMap) (ws : Change) → AreOf f ws → (s : ℕ) (q : List ℕ) (x : Option Write)
    → written_with s (write_in ws q) x ≡ (if plans ws q then Some (s, f q) else x)
written_planned f [] of s q x = refl
written_planned f (w ∷ ws) of s q x =
    let rest = written_planned f ws of.1 s q x in let at = same_id_true q w.0 in let first = of.0 in grind arith

-- if each planned id is noted, the transaction's writes at ids not noted stay
pub unnoted_stays : (ws : Change) (s : ℕ) (q : List ℕ) (noted : Bool) (x y : Option Write)
    → (plans ws q ≡ true → noted ≡ true) → noted ≡ false → y ≡ written_with s (write_in ws q) x
    → own_write s y ≡ own_write s x
unnoted_stays ws s q noted x y planned unnoted is =
    let e = is_some-lookup (is_at (slice_cmp nat_cmp q)) ws in grind arith
