-- Each stamp stands once among the holders of an id, so its mode there says all; and the answer, by the modes.
use Rattle.city_locks.proofs.Prelude.{◌≡◌, ℕ, ◌<◌, cond, true, false, List, [], ◌∷◌, Some, refl, arith, list_any}
use Rattle.city_locks.proofs.Prelude.{list_all, Mode, Answer, Granted, Wait, Die, Holder, in_conflict, gives_way}
use Rattle.city_locks.proofs.Prelude.{mode_among, with_holder, without, Locks, holders_of, answer_of, mode_of}
use Rattle.city_locks.proofs.Prelude.{IsInConflict, IsWaitDie}
use Rattle.std.proofs.Common.{Bool, not}
use Rattle.std.proofs.lemmas.Bool.{false≢true}
use Rattle.city_members.proofs.Ids.{bool_cases}
use Rattle.city_locks.specs.Holders.{Once}
use Rattle.city_locks.proofs.Among.{mode_with, mode_without}

pub once_with : (hs : List Holder) (s : ℕ) (m : Mode) → Once hs → Once (with_holder hs s m)
once_with [] s m o = (refl, tt)
once_with (h ∷ hs) s m o = grind (arith, mode_with hs s m h.stamp, once_with hs s m)

pub once_without : (hs : List Holder) (s : ℕ) → Once hs → Once (without hs s)
once_without [] s o = tt
once_without (h ∷ hs) s o = grind (arith, mode_without hs s h.stamp, once_without hs s)

-- ---- tests of all holders, by the modes of the stamps
abbrev Found : (Holder → Bool) → List Holder → Type 0
Found p hs =
    (t : ℕ) × ((held : Mode) × ((mode_among hs t ≡ Some held) × (p (record { stamp = t; mode = held }) ≡ true)))

found : (p : Holder → Bool) (hs : List Holder) → Once hs → list_any p hs ≡ true → Found p hs
found p [] o h = absurd (false≢true h)
found p (x ∷ xs) o h = bool_cases (p x)
    (λ e. (x.stamp, (x.mode, (grind arith, e))))
    (λ e. let f : Found p xs = found p xs o.1 (grind arith) in
    (f.0, (f.1.0, (grind arith, f.1.1.1))))

any_at : (p : Holder → Bool) (hs : List Holder) (t : ℕ) (held : Mode) → mode_among hs t ≡ Some held
    → p (record { stamp = t; mode = held }) ≡ true → list_any p hs ≡ true
any_at p [] t held h e = cc
any_at p (x ∷ xs) t held h e = grind (arith, any_at p xs t held)

all_is : (p : Holder → Bool) (hs : List Holder) → list_all p hs ≡ not (list_any (λ h. not (p h)) hs)
all_is p [] = refl
all_is p (x ∷ xs) = grind (arith, all_is p xs)

-- ---- the answer, by the stamps in conflict

-- wait-die, if one test finds a stamp in conflict, and another that all of these are younger
told : (P : ℕ → Type 0) (s : ℕ) (any all : Bool) (a : Answer) → a ≡ cond any (cond all Wait Die) Granted
    → (any ≡ true → (t : ℕ) × P t) → ((t : ℕ) → P t → any ≡ true) → (all ≡ false → (t : ℕ) × (P t × (t < s)))
    → (all ≡ true → (t : ℕ) → P t → s < t) → IsWaitDie P s a
told P s any all a is some one older younger = grind arith

module _ (v : Locks) (id : List ℕ) (s : ℕ) (m : Mode) where
  of_holder : (t : ℕ) (held : Mode) → mode_of v t id ≡ Some held
      → in_conflict s m (record { stamp = t; mode = held }) ≡ true → IsInConflict v s id m t
  of_holder t held holds conflict = grind arith

  to_holder : (t : ℕ) (c : IsInConflict v s id m t) → in_conflict s m (record { stamp = t; mode = c.held }) ≡ true
  to_holder t c = grind arith

  conflict_found : Once (holders_of v id) → list_any (in_conflict s m) (holders_of v id) ≡ true
      → (t : ℕ) × IsInConflict v s id m t
  conflict_found o h = let f = found (in_conflict s m) (holders_of v id) o h in search (arith, of_holder)

  conflict_any : (t : ℕ) → IsInConflict v s id m t → list_any (in_conflict s m) (holders_of v id) ≡ true
  conflict_any t c = search (arith, any_at, to_holder)

  older_found : Once (holders_of v id) → list_all (gives_way s m) (holders_of v id) ≡ false
      → (t : ℕ) × (IsInConflict v s id m t × (t < s))
  older_found o h =
      let f = found (λ x. not (gives_way s m x)) (holders_of v id) o (grind (arith, all_is)) in
      (f.0, (of_holder f.0 f.1.0 f.1.1.0 (grind arith), grind arith))

  younger_all : list_all (gives_way s m) (holders_of v id) ≡ true → (t : ℕ) → IsInConflict v s id m t → s < t
  younger_all a t c = grind (arith, all_is, any_at, to_holder)

  pub wait_die : (a : Answer) → Once (holders_of v id) → a ≡ answer_of v s id m → IsWaitDie (IsInConflict v s id m) s a
  wait_die a o h =
      told (IsInConflict v s id m) s _ _ a h (conflict_found o) conflict_any (older_found o) younger_all

-- the same of a table equal to u
pub wait_die_seen : {v u : Locks} {id : List ℕ} {s : ℕ} {m : Mode} {a : Answer} → v ≡ u → Once (holders_of v id) →
    a ≡ answer_of v s id m → IsWaitDie (IsInConflict u s id m) s a
wait_die_seen {v} {u} {id} {s} {m} {a} e o h = rw (← e) (wait_die v id s m a o h)
