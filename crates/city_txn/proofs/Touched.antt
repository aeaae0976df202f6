-- The store touched by a transaction: step by step, and at more ids.
use Rattle.city_txn.proofs.Prelude.{◌∷◌, Option, if◌then◌else◌, false, arith, rules, tests, ◌≡◌, ◌==◌, ◌||◌, ℕ, List}
use Rattle.city_txn.proofs.Prelude.{Bool, true, refl, ap, ◌∙◌, has_id, Object, same_id_itself, Entry, BeforeImage}
use Rattle.city_txn.proofs.Prelude.{State, is_reserved, ChangesWrites, Touches, reservations_of, Logs, log_of, write_of}
use Rattle.city_txn.proofs.Prelude.{unless_by}
use Rattle.city_txn.specs.UndoLog.{has_before}

pub or_cases : (a b : Bool) {A : Type 0} → (a || b) ≡ true → (a ≡ true → A) → (b ≡ true → A) → A
or_cases true b h f g = f refl
or_cases false b h f g = g h

-- ---- open stamps and reservations, if neither changed

pub reserved_by : (v w : State) (s : ℕ) (q : List ℕ) → w.opened ≡ v.opened → is_reserved w s q ≡ is_reserved v s q
reserved_by v w s q e = ap (λ o. has_id (reservations_of o s) q) e

-- ---- touched

module _ (s : ℕ) (ids : List ℕ → Bool) where
  pub touches_on : (v u w : State) → Touches s ids v u → Touches s ids u w → Touches s ids v w
  touches_on v u w a b = record {
    frame = b.frame ∙ a.frame;
    city = b.city ∙ a.city;
    opened = λ t. b.opened t ∙ a.opened t;
    writes = λ q. b.writes q ∙ a.writes q;
    logs = λ t ne. b.logs t ne ∙ a.logs t ne;
    reserved = λ t q h. let e = b.reserved t q h in let f = a.reserved t q in grind arith;
    noted = λ q h. let e = b.noted q h in let f = a.noted q in search (rules, tests);
  }

  pub touches_more : (ks : List ℕ → Bool) (v w : State) → ((q : List ℕ) → ids q ≡ true → ks q ≡ true)
      → Touches s ids v w → Touches s ks v w
  touches_more ks v w more a = grind arith

  pub touches_writes : (v w : State) → ChangesWrites v w
      → ((q : List ℕ) → unless_by s (write_of w.writes q) ≡ unless_by s (write_of v.writes q)) → Touches s ids v w
  touches_writes v w a others = grind arith

  pub touches_itself : (v : State) → Touches s ids v v
  touches_itself v = grind arith

-- its newest entry, an earlier write at an id, was taken out
module _ (s : ℕ) (v : State) (ls : Logs) (e : Entry) (id : List ℕ) (own : Option (Option Object))
    (is : e ≡ BeforeImage id own)
    (entries : (t : ℕ) → log_of v.logs t ≡ (if s == t then e ∷ log_of ls t else log_of ls t)) where
  pub undone_noted : has_before (log_of v.logs s) id ≡ true
  undone_noted = let at = entries s in grind (arith, same_id_itself)

  pub undone_touches : Touches s (λ id. false) v (record v { logs = ls })
  undone_touches = grind arith

pub changes_on : (v u w : State) → ChangesWrites v u → ChangesWrites u w → ChangesWrites v w
changes_on v u w a b = grind arith
