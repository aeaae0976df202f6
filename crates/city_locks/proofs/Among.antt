-- Among the holders of one id: their modes after a holder is added or taken out, and that they stay lawful.
use Rattle.city_locks.proofs.Prelude.{◌≡◌, ◌≢◌, ℕ, ◌==◌, cond, true, false, List, [], ◌∷◌, ◌++◌, take, drop, None, Some}
use Rattle.city_locks.proofs.Prelude.{refl, arith, ◌+◌, list_any, list_all, Mode, Granted, Holder, stronger}
use Rattle.city_locks.proofs.Prelude.{in_conflict, gives_way, answer_among, mode_among, with_holder, without}
use Rattle.std.proofs.Common.{◌⊎◌, inl, is_some}
use Rattle.city_model.specs.declared.mode.Mode.TheVariants.{Shared, Exclusive}

-- ---- the modes after a holder was added, or taken out
pub mode_with : (hs : List Holder) (s : ℕ) (m : Mode) (t : ℕ) →
    mode_among (with_holder hs s m) t ≡ cond (s == t) (Some (stronger m (mode_among hs s))) (mode_among hs t)
mode_with [] s m t = refl
mode_with (h ∷ hs) s m t = grind (arith, mode_with hs s m t)

pub mode_without : (hs : List Holder) (s t : ℕ) → mode_among (without hs s) t ≡ cond (s == t) None (mode_among hs t)
mode_without [] s t = grind arith
mode_without (h ∷ hs) s t = grind (arith, mode_without hs s t)

-- without a stamp that isn't among them, they stay
pub without_absent : (hs : List Holder) (s : ℕ) → mode_among hs s ≡ None → without hs s ≡ hs
without_absent [] s h = refl
without_absent (x ∷ xs) s h = grind (arith, without_absent xs s)

-- if no other is among them, none is left
pub without_others : (hs : List Holder) (s : ℕ) → ((t : ℕ) → is_some (mode_among hs t) ≡ true → t ≡ s)
    → without hs s ≡ []
without_others [] s h = refl
without_others (x ∷ xs) s h =
    grind (arith, h x.stamp, without_others xs s (λ t k. let there = h t in grind arith))

-- taken out twice, as once
pub without_twice : (hs : List Holder) (s : ℕ) → without (without hs s) s ≡ without hs s
without_twice hs s = grind (arith, without_absent, mode_without)

-- a loop with the stamp at place i
pub with_holder_here : (hs : List Holder) (i s : ℕ) (m : Mode) (h : Holder) (d : List Holder) → d ≡ h ∷ drop (i + 1) hs
    → (h.stamp == s) ≡ true →
    take i hs ++ with_holder d s m ≡ with_holder hs s m →
    take i hs ++ (record { stamp = s; mode = stronger m (Some h.mode) }) ∷ drop (i + 1) hs ≡ with_holder hs s m
with_holder_here hs i s m h d e k g = grind arith

-- ---- one exclusive holder and no other, or shared holders only
abbrev pub LawfulAmong : List Holder → Type 0
LawfulAmong hs = (s t : ℕ) → s ≢ t → mode_among hs s ≡ Some Exclusive → mode_among hs t ≡ None

pub granted_clear : (hs : List Holder) (s : ℕ) (m : Mode) → answer_among hs s m ≡ Granted
    → list_any (in_conflict s m) hs ≡ false
granted_clear hs s m h = grind arith

-- if no holder is in conflict, another has no mode, or both are shared
none_or_shared : (hs : List Holder) (s : ℕ) (m : Mode) (t : ℕ) → (t == s) ≡ false
    → list_any (in_conflict s m) hs ≡ false
    → (mode_among hs t ≡ None) ⊎ ((mode_among hs t ≡ Some Shared) × (m ≡ Shared))
none_or_shared [] s m t ne h = inl refl
none_or_shared (x ∷ xs) s m t ne h = grind (arith, none_or_shared xs s m t ne)

pub lawful_with : (hs : List Holder) (s : ℕ) (m : Mode) → LawfulAmong hs → answer_among hs s m ≡ Granted
    → LawfulAmong (with_holder hs s m)
lawful_with hs s m l a r t ne x =
    let clear : list_any (in_conflict s m) hs ≡ false = granted_clear hs s m a in
    let other = λ (u : ℕ). none_or_shared hs s m u in
    grind (arith, mode_with hs s m t, mode_with hs s m r, l r t ne, l s t, other t, other r)

pub lawful_without : (hs : List Holder) (s : ℕ) → LawfulAmong hs → LawfulAmong (without hs s)
lawful_without hs s l r t ne x = grind (arith, mode_without)

-- ---- the locks gained by a stamp change none of its own answers
any_with : (s : ℕ) (n : Mode) (hs : List Holder) (m : Mode)
    → list_any (in_conflict s n) (with_holder hs s m) ≡ list_any (in_conflict s n) hs
any_with s n [] m = grind arith
any_with s n (h ∷ hs) m = grind (arith, any_with s n hs m)

all_with : (s : ℕ) (n : Mode) (hs : List Holder) (m : Mode)
    → list_all (gives_way s n) (with_holder hs s m) ≡ list_all (gives_way s n) hs
all_with s n [] m = grind arith
all_with s n (h ∷ hs) m = grind (arith, all_with s n hs m)

pub own_answers : (s : ℕ) (n : Mode) (hs : List Holder) (m : Mode)
    → answer_among (with_holder hs s m) s n ≡ answer_among hs s n
own_answers s n hs m = grind (arith, any_with, all_with)
