-- Locks asked for in turn: one granted, and the locks after it.
use Rattle.city_locks.proofs.Prelude.{◌≡◌, ◌==◌, ◌&&◌, ℕ, List, [], ◌∷◌, true, None, Some, refl, ap, ◌≢◌, arith, Result}
use Rattle.city_locks.proofs.Prelude.{Ok, cond, same_id, same_id_true, same_id_itself, same_id_back, Mode, Answer}
use Rattle.city_locks.proofs.Prelude.{Granted, Wait, Die, stronger, Locks, mode_of, answer_of, Lawful, first_answer}
use Rattle.city_locks.proofs.Prelude.{first_ungranted, Asked, IsInConflict, IsWaitDie}
use Rattle.std.proofs.Common.{is_some, IsErr, Option}
use Rattle.std.specs.Prelude.{IfSome}
use Rattle.city_model.proofs.History.{more_held}
use Rattle.city_model.specs.Standing.{Lock, covers}
use Rattle.city_locks.specs.Asking.{held_in, granted_before, MoreLocks, GainsFirst, IsBlocked, HoldsLock}
use Rattle.std.proofs.lemmas.Result.{IfOk-weaker}

-- ---- the locks of a list

-- if all are granted, all are before the first not granted
pub all_granted : (hs : Locks) (s : ℕ) (ls : List Lock) → first_answer hs s ls ≡ Granted → granted_before hs s ls ≡ ls
all_granted hs s [] e = refl
all_granted hs s (l ∷ ls) e = let rest = all_granted hs s ls in grind arith

-- the answer to a lock, or Granted
abbrev pub answer_to : Locks → ℕ → Option Lock → Answer
answer_to hs s None = Granted
answer_to hs s (Some l) = answer_of hs s l.0 l.1

-- the first answer is the answer to the first lock not granted
pub first_answered : (hs : Locks) (s : ℕ) (ls : List Lock) →
    (first_answer hs s ls ≡ answer_to hs s (first_ungranted hs s ls))
    × IfSome (first_ungranted hs s ls) (λ l. answer_of hs s l.0 l.1 ≢ Granted)
first_answered hs s [] = (refl, tt)
first_answered hs s (l ∷ ls) = let rest = first_answered hs s ls in grind arith

-- locks with the same answers to a stamp
same_asked : (s : ℕ) (hs ks : Locks) (ls : List Lock)
    → ((q : List ℕ) (n : Mode) → answer_of ks s q n ≡ answer_of hs s q n)
    → (first_answer ks s ls ≡ first_answer hs s ls) × (granted_before ks s ls ≡ granted_before hs s ls)
same_asked s hs ks [] own = grind arith
same_asked s hs ks (l ∷ ls) own = grind arith

-- nothing is gained
pub gains_nothing : (s : ℕ) (ls : List Lock) (hs : Locks) → GainsFirst s ls hs hs
gains_nothing s ls hs = grind arith

-- ---- the holder of a lock refused to the stamp

pub blocked_weaker : (P Q : ℕ → Type 0) (s : ℕ) → ((t : ℕ) → s ≢ t → P t → Q t) → (a : Answer) → IsBlocked P s a
    → IsBlocked Q s a
blocked_weaker P Q s f a b = grind arith

wait_die_blocked : (hs : Locks) (s : ℕ) (id : List ℕ) (m : Mode) (a : Answer) → IsWaitDie (IsInConflict hs s id m) s a
    → IsBlocked (HoldsLock hs) s a
wait_die_blocked hs s id m Granted w = tt
wait_die_blocked hs s id m Wait w =
    let found = w.wait.0 refl in
    (found.0.0, found.1 found.0.0 found.0.1, (id, ap is_some found.0.1.holds))
wait_die_blocked hs s id m Die w =
    let found = w.die.0 refl in
    (found.0, found.1.1, (id, ap is_some found.1.0.holds))

-- ---- one lock asked for, with the promises of the lock table, and then others

-- the lock table's promise for a granted lock
pub record Adds (s : ℕ) (id : List ℕ) (m : Mode) (hs ks : Locks) : Type 0 where
  pub modes : (t : ℕ) (q : List ℕ) → mode_of ks t q
      ≡ cond ((s == t) && same_id id q) (Some (stronger m (mode_of hs s id))) (mode_of hs t q)

module _ {s : ℕ} {id : List ℕ} {m : Mode} {hs ks : Locks} (adds : Adds s id m hs ks) where
  asked_held : covers (held_in ks s id) m ≡ true
  asked_held = grind (arith, adds.modes s id, same_id_itself id)

  still_held : (q : List ℕ) (b : Mode) → covers (held_in hs s q) b ≡ true → covers (held_in ks s q) b ≡ true
  still_held q b h = grind (arith, adds.modes s q, same_id_true id q)

  one_and_more : (ls : List Lock) (us : Locks) → Lawful ks
      → ((q : List ℕ) (n : Mode) → answer_of ks s q n ≡ answer_of hs s q n) → MoreLocks s ls ks us
      → MoreLocks s ((id, m) ∷ ls) hs us
  one_and_more ls us lawful own g = record {
    others = λ t q e. grind (arith, g.others t q e, adds.modes t q);
    more = λ q b x. grind (arith, g.more q b, still_held q b);
    only = λ q e. grind (arith, g.only q, adds.modes s q, same_id_back id q);
    modes = λ q e. grind (arith, g.modes q, adds.modes s q, same_id_true id q, same_id_back id q);
    lawful = λ x. g.lawful lawful;
    answers = λ q n. grind (arith, g.answers q n, own q n);
  }

  -- it is granted, and the others are asked for
  pub asked_granted : {E : Type 0} {ls : List Lock} {r : Result Answer E} {us : Locks} → answer_of hs s id m ≡ Granted
      → Lawful ks → ((q : List ℕ) (n : Mode) → answer_of ks s q n ≡ answer_of hs s q n) → Asked s ls r ks us
      → Asked s ((id, m) ∷ ls) r hs us
  asked_granted {E} {ls} {r} {us} granted lawful own a =
      let same = same_asked s hs ks ls own in
      record {
        answer = grind (arith, a.answer);
        gains = record {
          gained = (id, m) ∷ a.gains.gained;
          left = a.gains.left;
          parts = grind arith;
          held = (a.gains.locks.more id m asked_held, a.gains.held);
          locks = one_and_more a.gains.gained us lawful own a.gains.locks;
        };
        held = grind (arith, a.held, a.gains.locks.more id m asked_held);
        blocked = IfOk-weaker r (IsBlocked (HoldsLock ks) s) (IsBlocked (HoldsLock hs) s)
            (blocked_weaker (HoldsLock ks) (HoldsLock hs) s
            (λ t ne h. (h.0, grind (arith, adds.modes t h.0, h.1)))) a.blocked;
        answered = λ h.
            a.answered (grind (arith, more_held (held_in hs s) (held_in ks s) (granted_before ks s ls) still_held));
      }

module _ {s : ℕ} {id : List ℕ} {m : Mode} {hs ks : Locks} {ls : List Lock} where
  -- it isn't granted, and the others aren't asked for
  pub asked_refused : {E : Type 0} {a : Answer} → a ≡ answer_of hs s id m → a ≢ Granted
      → (answer_of hs s id m ≢ Granted → ks ≡ hs) → IsWaitDie (IsInConflict hs s id m) s a
      → Asked {E = E} s ((id, m) ∷ ls) (Ok a) hs ks
  asked_refused {E} {a} is refused same w = grind (arith, gains_nothing, wait_die_blocked hs s id m a w)

  -- no memory for it: it would be granted, and wasn't held
  pub asked_failed : {E : Type 0} {r : Result Answer E} → IsErr r → ks ≡ hs → answer_of hs s id m ≡ Granted
      → mode_of hs s id ≡ None → Asked s ((id, m) ∷ ls) r hs ks
  asked_failed {E} {r} bad same is_granted unheld = grind (arith, gains_nothing)
