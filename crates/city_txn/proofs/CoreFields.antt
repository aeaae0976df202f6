-- From one core to another: the snapshots, and the others' state; and a core by its fields, new, with one more
-- transaction open, and with one over.
use Rattle.city_txn.proofs.Prelude.{arith, ◌≡◌, ◌==◌, ℕ, List, Bool, true, false, is_some, ap, sym, ◌∙◌, subst, ◌||◌}
use Rattle.city_txn.proofs.Prelude.{[], refl, rules, tests, None, Some, if◌then◌else◌, false≢true, eq-eqb}
use Rattle.city_txn.proofs.Prelude.{is_some-lookup, CityMap, unmarked, IsSound, IsLawful, Answered, mode_of, CoreState}
use Rattle.city_txn.proofs.Prelude.{committed, view, written, snapshot, is_open, held, StandsUnderLocks, view_with}
use Rattle.city_txn.proofs.Prelude.{Exclusive, Snapshot, IsTraceUnderLocks, Locks, bool_cases, Kept, IsConsistent}
use Rattle.city_txn.proofs.Prelude.{core_state, IsCore}
use Rattle.std.proofs.Common.{cond}
use Rattle.std.proofs.lemmas.Bool.{eqb-false}
use Rattle.city_txn.specs.internal.Prelude.{IsSoundView, Lawful, KeepsOthers, Objects, object_at, HasNoOrphan, Inside}
use Rattle.city_txn.specs.internal.Prelude.{write_of, own_write, log_of, own, IsTransactionEnd, IsRolledBack, State}
use Rattle.city_txn.specs.internal.Prelude.{is_begun, Begins, is_reserved, Forgets}
use Rattle.city_model.proofs.History.{follows_sound}
use Rattle.city_model.specs.declared.frame.Frame.{Frame}
use Rattle.city_model.proofs.Carried.{history_kept}
use Rattle.city_txn.specs.internal.Core.{kept, nothing, written_of, Stands, IsKept}
use Rattle.city_txn.proofs.SeenWrites.{seen_with, seen_same, own_or_is, own_left, view_carried}
use Rattle.city_txn.proofs.AtOneId.{tied}

-- each snapshot is sound
pub sound_seen : (v : CoreState) (s : ℕ) → IsConsistent v → IsSoundView (snapshot v s)
sound_seen v s c =
    subst IsSoundView (sym (seen_with v s))
    (follows_sound (held v s) (unmarked (committed v)) (c.each s).done (view_with (committed v) (written v s))
    (c.city.0, tt) (c.each s).stands)

pub sound_view : (v : CoreState) (s : ℕ) → IsConsistent v → IsSound (view v s)
sound_view v s c = (sound_seen v s c).0

-- only an open one holds locks
pub open_only : (v : CoreState) → IsConsistent v → (t : ℕ) (q : List ℕ) → is_some (mode_of v.locks t q) ≡ true
    → is_open v t ≡ true
open_only v c t q h = bool_cases (is_open v t)
    (λ e. e)
    (λ e. absurd (false≢true (sym (ap (λ (k : Kept). is_some (k.held q)) ((c.each t).shut e)) ∙ h)))

-- the state of a transaction that did nothing
pub kept_nothing : (m : CityMap) (opened : Bool) → IsKept m (nothing opened)
kept_nothing m opened = grind arith

pub to_kept : (v : CoreState) (t : ℕ) (done : List Answered) → StandsUnderLocks v t done
    → Stands (committed v) (kept v t) done
to_kept v t done f = grind arith

pub from_kept : (v : CoreState) (t : ℕ) (done : List Answered) → Stands (committed v) (kept v t) done
    → StandsUnderLocks v t done
from_kept v t done f = grind arith

pub at_stamp : (P : ℕ → Type 0) (s : ℕ) → P s → ((t : ℕ) → (s == t) ≡ false → P t) → (t : ℕ) → P t
at_stamp P s here beside t = grind arith

-- the others' state stays, and their commands stand
pub record LeavesOthers (s : ℕ) (v w : CoreState) : Type 0 where
  pub frame : w.frame ≡ v.frame
  pub beside : (t : ℕ) → (s == t) ≡ false → kept w t ≡ kept v t
  pub stands : (t : ℕ) → (s == t) ≡ false → (done : List Answered) → Stands (committed v) (kept v t) done
      → Stands (committed w) (kept v t) done

module _ (s : ℕ) (v w : CoreState) where
  -- they stand if the committed city stays
  pub leaves_others : w.frame ≡ v.frame → committed w ≡ committed v
      → ((t : ℕ) → (s == t) ≡ false → kept w t ≡ kept v t) → LeavesOthers s v w
  leaves_others frame city beside = grind arith

  module _ (k : LeavesOthers s v w) where
    pub written_beside : (t : ℕ) → (s == t) ≡ false → written w t ≡ written v t
    written_beside t ne = ap written_of (k.beside t ne)

    pub seen_beside : committed w ≡ committed v → (t : ℕ) → (s == t) ≡ false → snapshot w t ≡ snapshot v t
    seen_beside city t ne = seen_same v w t city (written_beside t ne)

    pub keeps : KeepsOthers s v w
    keeps = grind (arith, to_kept, from_kept)

    pub consistent : IsConsistent v → Lawful w.locks → IsLawful (committed w) → IsKept (committed w) (kept w s)
        → IsConsistent w
    consistent c lawful city own = record {
      lawful = lawful;
      city = city;
      each = at_stamp (λ t. IsKept (committed w) (kept w t)) s own (λ t ne.
          let each = c.each t in
          subst (IsKept (committed w)) (sym (k.beside t ne)) (record {
            covered = each.covered;
            shut = each.shut;
            done = each.done;
            stands = k.stands t ne each.done each.stands;
          }));
    }

-- ---- open stamps

pub open_is : (a : Inside) (s : ℕ) → is_open (core_state a) s ≡ is_begun a.store s
open_is a s = grind (arith, tied, is_some-lookup)

-- ---- new

pub opened_core : (a : Inside) (frame : Frame) (city : Objects) → a.store
    ≡ record { frame = frame; city = city; writes = []; opened = []; logs = [] }
    → a.locks ≡ [] → IsLawful (object_at city) → IsCore a
opened_core a frame city e f l =
    subst IsCore (λ i. record { store = sym e i; locks = sym f i }) (record {
      state = record {
        lawful = λ s t id ne e. refl;
        city = l;
        each = λ s. kept_nothing (object_at city) false;
      };
      reserved = λ t q h. absurd (false≢true h);
    })

-- ---- one transaction opened, or over

pub record Begun (s : ℕ) (v : CoreState) (b : Inside) : Type 0 where
  pub core : IsCore b
  pub fresh : kept (core_state b) s ≡ nothing true
  pub own : StandsUnderLocks (core_state b) s []
  pub keeps : KeepsOthers s v (core_state b)

-- the state of a transaction that is over, or unchanged
abbrev left_over : Bool → Kept → Kept
left_over over k = record {
  own = λ q. if over then None else k.own q;
  log = if over then [] else k.log;
  opened = if over then false else k.opened;
  held = λ q. cond over None (k.held q);
}

-- of a core the store is st after a call about the transaction s
module _ {a : Inside} (k : IsCore a) (s : ℕ) (st : State) where
  abbrev v : CoreState
  v = core_state a

  -- ---- begun

  module _ (begins : Begins s a.store st) where
    abbrev begun_inside : Inside
    begun_inside = record { store = st; locks = a.locks }

    begun_at : (t : ℕ) (new : Bool) → (s == t) ≡ new
        → kept (core_state begun_inside) t ≡ record (kept v t) { opened = new || is_open v t }
    begun_at t new e i = record {
      own = λ q. own_write t (write_of (begins.writes i) q);
      log = log_of (begins.logs i) t;
      opened = (open_is begun_inside t ∙ begins.opened t ∙ (λ j. e j || sym (open_is a t) j)) i;
      held = held v t;
    }

    pub begun : {u : CoreState} → v ≡ u → is_open u s ≡ false → Begun s u begun_inside
    begun known shut =
        let m = object_at st.city in
        let left : LeavesOthers s v (core_state begun_inside) =
        leaves_others s v (core_state begun_inside) begins.frame (ap object_at begins.city) (λ t. begun_at t false) in
        let fresh : kept (core_state begun_inside) s ≡ nothing true = begun_at s true (eq-eqb s s refl)
        ∙ ap (λ (x : Kept). record x { opened = true }) ((k.state.each s).shut (ap (λ u. is_open u s) known ∙ shut)) in
        subst (λ u. Begun s u begun_inside) known (record {
          core = record {
            state = consistent s v (core_state begun_inside) left k.state k.state.lawful
                (subst (λ es. IsLawful (object_at es)) (sym begins.city) k.state.city)
                (subst (IsKept m) (sym fresh) (kept_nothing m true));
            reserved = grind arith;
          };
          fresh = fresh;
          own = from_kept (core_state begun_inside) s [] (subst (λ (x : Kept). Stands m x []) (sym fresh) refl);
          keeps = keeps s v (core_state begun_inside) left;
        })

  -- ---- over: the locks are ks then
  module _ (ks : Locks) (f : Forgets s a.store st)
      (modes : (t : ℕ) (q : List ℕ) → mode_of ks t q ≡ cond (s == t) None (mode_of a.locks t q))
      (lawful : Lawful ks) where
    abbrev b : Inside
    b = record { store = st; locks = ks }

    abbrev w : CoreState
    w = core_state b

    kept_at : (t : ℕ) (over : Bool) → (s == t) ≡ over → kept w t ≡ left_over over (kept v t)
    kept_at t over e = (λ i. record {
      own = λ q. own_left s t (write_of st.writes q) (write_of a.store.writes q) (f.writes q) i;
      log = f.logs t i;
      opened = (open_is b t ∙ f.opened t ∙ ap (λ c. if s == t then false else c) (sym (open_is a t))) i;
      held = λ q. modes t q i;
    }) ∙ ap (λ o. left_over o (kept v t)) e

    beside : (t : ℕ) → (s == t) ≡ false → kept w t ≡ kept v t
    beside t = kept_at t false

    gone : kept w s ≡ nothing false
    gone = kept_at s true (eq-eqb s s refl)

    reserved_left : (t : ℕ) (q : List ℕ) → is_reserved st t q ≡ true → mode_of ks t q ≡ Some Exclusive
    reserved_left t q h = grind arith

    module _ (left : LeavesOthers s v w) where
      over : IsTransactionEnd s v w
      over = record {
        writes = f.writes;
        marks = f.logs;
        locks = modes;
        closed = ap (λ (x : Kept). x.opened) gone;
        keeps = keeps s v w left;
      }

      core_left : IsLawful (committed w) → IsCore b
      core_left city = search (rules, tests, consistent, kept_nothing, gone, reserved_left)

    -- ---- a commit

    module _ (city : committed w ≡ view v s) where
      -- at an id locked by another, s wrote nothing
      agree : (t : ℕ) → (s == t) ≡ false → (q : List ℕ) → is_some (held v t q) ≡ true → committed v q ≡ committed w q
      agree t ne q h =
          let mine = (k.state.each s).covered.own q in
          let apart = k.state.lawful s t q (eqb-false s t ne) in
          let none : own v s q ≡ None = grind arith in
          let here = ap (λ (m : CityMap). m q) city in
          grind (arith, own_or_is)

      stands_committed : (t : ℕ) → (s == t) ≡ false → (done : List Answered) → Stands (committed v) (kept v t) done
          → Stands (committed w) (kept v t) done
      stands_committed t ne done stands =
          let each = k.state.each t in
          let carried = view_carried (held v t) (committed v) (committed w)
          (λ q e. agree t ne q (ap is_some e)) (written v t) each.covered in
          subst (λ (x : Snapshot). IsTraceUnderLocks (held v t) (unmarked (committed w)) done x) carried
          (history_kept (held v t) (committed v) (committed w) done (view_with (committed v) (written v t))
          k.state.city.0 (subst IsSound (sym city) (sound_view v s k.state)) (agree t ne) stands)

      pub committed_core : {u : CoreState} → v ≡ u → HasNoOrphan (view u s) → IsCore b × IsTransactionEnd s u w
      committed_core known orphans =
          let here = subst (λ u. HasNoOrphan (view u s)) (sym known) orphans in
          let left : LeavesOthers s v w = record { frame = f.frame; beside = beside; stands = stands_committed } in (
            core_left left (subst IsLawful (sym city) (sound_view v s k.state, here)),
            subst (λ u. IsTransactionEnd s u w) known (over left),
          )

    -- ---- an abort

    pub undone_core : {u : CoreState} → v ≡ u → committed w ≡ committed v → IsCore b × IsRolledBack s u w
    undone_core known city =
        let left : LeavesOthers s v w = leaves_others s v w f.frame city beside in
        let undone : IsRolledBack s v w =
        record { city = city; views = seen_beside s v w left city; over = over left } in
        (core_left left (subst IsLawful (sym city) k.state.city), subst (λ u. IsRolledBack s u w) known undone)
