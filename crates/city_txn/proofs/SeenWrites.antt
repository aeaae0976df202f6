-- A transaction's snapshot, from its current writes and its writes at each mark.
use Rattle.city_txn.proofs.Prelude.{arith, ◌≡◌, ◌==◌, ◌&&◌, ◌||◌, ℕ, List, [], ◌∷◌, Bool, true, false, Option, None}
use Rattle.city_txn.proofs.Prelude.{Some, is_some}
use Rattle.city_txn.proofs.Prelude.{refl, ap, sym, ◌∙◌, subst, if◌then◌else◌, unwrap_or, Command, Reply, Exclusive}
use Rattle.city_txn.proofs.Prelude.{CityMap, Snapshot, has_id, marks_from, locks_of, IsSound, covers}
use Rattle.city_txn.proofs.Prelude.{locks_id_exclusively}
use Rattle.city_txn.proofs.Prelude.{action, answer, step, WentBack, OwnWrites, Written, own_with, written_at_mark}
use Rattle.city_txn.proofs.Prelude.{written_by, map_with}
use Rattle.city_txn.proofs.Prelude.{marks_with, CoreState, committed, view, written, snapshot, view_with, Object}
use Rattle.city_txn.proofs.Prelude.{same_id, bool_cases, from_mapped, IsWrittenUnder}
use Rattle.std.proofs.Common.{◌≢◌, not}
use Rattle.city_txn.specs.internal.Prelude.{Held, Action, Edits, Marks, GoesBack, applied, back, left, Write, own_or}
use Rattle.city_txn.specs.internal.Prelude.{reply_of, is_refusal}
use Rattle.city_txn.specs.internal.Prelude.{own_write, is_by, unless_by, write_of}
use Rattle.city_model.specs.declared.mode.Mode.{Mode}
use Rattle.city_model.specs.TraceLaw.{carried_map, carried_marks, carried}
use Rattle.city_model.proofs.ActionKinds.{IsKindOf, kind_of}
use Rattle.city_model.proofs.FrameLaw.{unwritten_stays}
use Rattle.city_model.proofs.FramedActions.{edits_locked}
use Rattle.city_txn.specs.internal.Core.{IsCovered, AreCovered}

pub own_or_is : (s : ℕ) (x : Option Write) (o : Option Object) → own_or s x o ≡ unwrap_or (own_write s x) o
own_or_is s x o = grind arith

pub seen_with : (v : CoreState) (t : ℕ) → snapshot v t ≡ view_with (committed v) (written v t)
seen_with v t = grind arith

pub seen_same : (v w : CoreState) (t : ℕ) → committed w ≡ committed v → written w t ≡ written v t
    → snapshot w t ≡ snapshot v t
seen_same v w t city e = seen_with w t ∙ (λ i. view_with (city i) (e i)) ∙ sym (seen_with v t)

pub by_own : (s : ℕ) (x : Option Write) → is_by s x ≡ is_some (own_write s x)
by_own s x = grind arith

pub own_left : (s t : ℕ) (x y : Option Write) → x ≡ unless_by s y
    → own_write t x ≡ (if s == t then None else own_write t y)
own_left s t x y e = grind arith

pub own_same : (s t : ℕ) (x y : Option Write) → (s == t) ≡ false → unless_by s x ≡ unless_by s y
    → own_write t x ≡ own_write t y
own_same s t x y ne e = grind arith

-- ---- one command

back_with : (m : CityMap) (w : Written) (name : List ℕ) (ks : List (List ℕ × OwnWrites))
    → view_with m (written_at_mark w ks) ≡ left (view_with m w) (back name (view_with m w) (marks_with m ks))
back_with m w name ks = grind arith

module _ (m : CityMap) (w : Written) (c : Command) (sound : IsSound (map_with m w.0)) where
  abbrev x : Snapshot
  x = view_with m w

  -- the writes of an edit give its map, since the others keep their objects
  edit_gives : (r : Reply) (ids : List (List ℕ)) (n : CityMap) → action x.map c ≡ Edits r ids n
      → map_with m (own_with w.0 ids n) ≡ n
  edit_gives r ids n e = let kept = λ (q : List ℕ). unwritten_stays x.map c r ids n q sound e in grind arith

  seen_as : (a : Action) → action x.map c ≡ a → view_with m (written_by a w) ≡ left x (applied x a)
  seen_as (Edits r ids n) e = ap (λ (f : CityMap). record { map = f; marks = x.marks }) (edit_gives r ids n e)
  seen_as (GoesBack name) e = back_with m w name (marks_from name w.1)
      ∙ ap (λ ks. left x (back name x ks)) (sym (from_mapped (map_with m) name w.1))
  seen_as a e = refl

  pub seen_written : view_with m (written_by (action x.map c) w) ≡ step x c
  seen_written = seen_as (action x.map c) refl

-- the writes of the command give the snapshot after it
pub step_seen : (v w : CoreState) (s : ℕ) (c : Command) → IsSound (view v s) → committed w ≡ committed v
    → written w s ≡ written_by (action (view v s) c) (written v s) → snapshot w s ≡ step (snapshot v s) c
step_seen v w s c sound city e =
    let m = committed v in
    seen_with w s ∙ (λ i. view_with (city i) (e i))
    ∙ ap (λ (x : Snapshot). view_with m (written_by (action x.map c) (written v s))) (seen_with v s)
    ∙ seen_written m (written v s) c (subst (λ (x : Snapshot). IsSound x.map) (seen_with v s) sound)
    ∙ ap (λ (x : Snapshot). step x c) (sym (seen_with v s))

-- ---- the ids that a command writes

module _ (m : CityMap) (w : Written) (c : Command) (q : List ℕ) where
  abbrev gains : Snapshot → Reply → Bool
  gains y reply = is_some (w.0 q) || (not (is_refusal reply) && locks_id_exclusively (locks_of y.map c) q)

  gained_as : (a : Action) → action (map_with m w.0) c ≡ a → IsKindOf c a
      → reply_of (applied (view_with m w) a) ≢ WentBack
      → is_some ((written_by a w).0 q) ≡ gains (view_with m w) (reply_of (applied (view_with m w) a))
  gained_as (Edits r ids n) e k ahead = let locked = edits_locked (map_with m w.0) c r ids n e in grind arith
  gained_as (GoesBack name) e k ahead = let marks = from_mapped (map_with m) name w.1 in grind arith
  gained_as a e k ahead = grind arith

  gained : answer (view_with m w) c ≢ WentBack
      → is_some ((written_by (action (map_with m w.0) c) w).0 q) ≡ gains (view_with m w) (answer (view_with m w) c)
  gained = gained_as (action (map_with m w.0) c) refl (kind_of (map_with m w.0) c)

-- unless it goes back, the command adds those that it locks exclusively, and none if it is refused or not done
pub written_gains : (v w : CoreState) (s : ℕ) (c : Command) (q : List ℕ) → answer (snapshot v s) c ≢ WentBack
    → (done : Bool) → written w s ≡ (if done then written_by (action (view v s) c) (written v s) else written v s)
    → is_by s (write_of w.writes q)
    ≡ (is_by s (write_of v.writes q)
    || (done && not (is_refusal (answer (snapshot v s) c)) && locks_id_exclusively (locks_of (view v s) c) q))
written_gains v w s c q ahead true now =
    by_own s (write_of w.writes q) ∙ ap (λ (u : Written). is_some (u.0 q)) now
    ∙ subst (λ (y : Snapshot). answer y c ≢ WentBack
    → is_some ((written_by (action y.map c) (written v s)).0 q)
    ≡ (is_some ((written v s).0 q) || (not (is_refusal (answer y c)) && locks_id_exclusively (locks_of y.map c) q)))
    (sym (seen_with v s)) (gained (committed v) (written v s) c q) ahead
    ∙ ap (λ b. b || (not (is_refusal (answer (snapshot v s) c)) && locks_id_exclusively (locks_of (view v s) c) q))
    (sym (by_own s (write_of v.writes q)))
written_gains v w s c q ahead false now =
    let new = by_own s (write_of w.writes q) in
    let old = by_own s (write_of v.writes q) in
    let same : is_some ((written w s).0 q) ≡ is_some ((written v s).0 q) = ap (λ (u : Written). is_some (u.0 q)) now in
    grind arith

-- ---- writes are under exclusive locks

pub held_exclusively : (o : Option Mode) → covers o Exclusive ≡ true → o ≡ Some Exclusive
held_exclusively o h = grind arith

module _ (held : Held) where
  covered_back : (name : List ℕ) (w : Written) (ks : List (List ℕ × OwnWrites)) → IsWrittenUnder held w
      → AreCovered held ks → IsWrittenUnder held (written_at_mark w (marks_from name ks))
  covered_back name w [] is a = is
  covered_back name w (k ∷ ks) is a = bool_cases (same_id name k.0)
      (λ e. rw e (record { own = a.0; marks = a }))
      (λ e. rw e (covered_back name w ks is a.1))

  edit_covered : (f : OwnWrites) (ids : List (List ℕ)) (n : CityMap)
      → ((q : List ℕ) → has_id ids q ≡ true → held q ≡ Some Exclusive) → IsCovered held f
      → IsCovered held (own_with f ids n)
  edit_covered f ids n locked is q h = bool_cases (has_id ids q) (locked q) (λ e. is q (rw e at h))

  -- the writes after a command are covered, if its locks are held
  covered_as : (m : CityMap) (c : Command) (a : Action) (w : Written) → action m c ≡ a
      → ((q : List ℕ) → locks_id_exclusively (locks_of m c) q ≡ true → held q ≡ Some Exclusive)
      → IsWrittenUnder held w → IsWrittenUnder held (written_by a w)
  covered_as m c (Edits r ids n) w e locked is = record {
    own = edit_covered w.0 ids n (λ q h. locked q (ap (λ ks. has_id ks q) (edits_locked m c r ids n e) ∙ h)) is.own;
    marks = is.marks;
  }
  covered_as m c (Marks name) w e locked is = record { own = is.own; marks = (is.own, is.marks) }
  covered_as m c (GoesBack name) w e locked is = covered_back name w w.1 is is.marks
  covered_as m c a w e locked is = is

  pub covered_next : (m : CityMap) (c : Command) (w : Written)
      → ((q : List ℕ) → locks_id_exclusively (locks_of m c) q ≡ true → held q ≡ Some Exclusive)
      → IsWrittenUnder held w → IsWrittenUnder held (written_by (action m c) w)
  covered_next m c w locked is = covered_as m c (action m c) w refl locked is

-- with more locks it still is
module _ (held more : Held) (keeps : (q : List ℕ) → held q ≡ Some Exclusive → more q ≡ Some Exclusive) where
  all_covered : (ks : List (List ℕ × OwnWrites)) → AreCovered held ks → AreCovered more ks
  all_covered [] a = tt
  all_covered (k ∷ ks) a = (λ q h. keeps q (a.0 q h), all_covered ks a.1)

  pub covered_still : (w : Written) → IsWrittenUnder held w → IsWrittenUnder more w
  covered_still w is = record { own = λ q h. keeps q (is.own q h); marks = all_covered w.1 is.marks }

-- ---- a snapshot over another committed map, equal to it at the exclusive locks

module _ (held : Held) (m n : CityMap) (agree : (q : List ℕ) → held q ≡ Some Exclusive → m q ≡ n q) where
  map_carried : (f : OwnWrites) → IsCovered held f → carried_map held n (map_with m f) ≡ map_with n f
  map_carried f is = grind arith

  all_carried : (ks : List (List ℕ × OwnWrites)) → AreCovered held ks
      → carried_marks held n (marks_with m ks) ≡ marks_with n ks
  all_carried [] a = refl
  all_carried (k ∷ ks) a = λ i. (k.0, map_carried k.1 a.0 i) ∷ all_carried ks a.1 i

  pub view_carried : (w : Written) → IsWrittenUnder held w → carried held n (view_with m w) ≡ view_with n w
  view_carried w is = λ i. record { map = map_carried w.0 is.own i; marks = all_carried w.1 is.marks i }
