-- A call of the core: its locks gained, and its command done on the store.
use Rattle.city_txn.proofs.Prelude.{arith, ◌≡◌, ℕ, List, [], ◌∷◌, ◌++◌, Bool, true, false, Some, Result, Ok, refl, ap}
use Rattle.city_txn.proofs.Prelude.{sym, ◌∙◌, subst, false≢true, Command, Reply, WentBack, Exclusive, CityMap, Snapshot}
use Rattle.city_txn.proofs.Prelude.{unmarked, locks_of, IsLawful, Lock, Answered, IsTraceUnderLocks, covers}
use Rattle.city_txn.proofs.Prelude.{locks_id_exclusively, action, answer, step, Locks, mode_of, Written, CoreState}
use Rattle.city_txn.proofs.Prelude.{committed, written, snapshot, is_open, held, StandsUnderLocks, refused_stays}
use Rattle.city_txn.proofs.Prelude.{core_state, IsCore, IsWrittenUnder, written_by, IsPerform}
use Rattle.std.proofs.Common.{◌≢◌, Err}
use Rattle.std.specs.Prelude.{if◌then◌else◌, IfOk, IfErr, OnOk, IsOk}
use Rattle.std.proofs.lemmas.Result.{on_ok_weaker}
use Rattle.city_txn.specs.internal.Prelude.{Answers, effect, is_end, AllHeld, Answer, Granted, held_in, granted_before}
use Rattle.city_txn.specs.internal.Prelude.{GainsFirst, IsBlocked, HoldsLock, Asked, Step, TxnFault, NotOpen}
use Rattle.city_txn.specs.internal.Prelude.{OutOfMemory}
use Rattle.city_txn.specs.internal.Prelude.{Inside, write_of, answer_in, granted_in, step_of, is_done, with_step, IsAct}
use Rattle.city_txn.specs.internal.Prelude.{State, store_written, Touches}
use Rattle.city_model.proofs.GoingOn.{effect_is}
use Rattle.city_txn.specs.internal.Performing.{MayPerform}
use Rattle.city_txn.proofs.CoreFields.{open_is, sound_view, open_only, to_kept, from_kept, LeavesOthers, leaves_others}
use Rattle.city_txn.proofs.CoreFields.{written_beside, seen_beside, keeps, consistent}
use Rattle.city_locks.proofs.LocksAsked.{all_granted, gains_nothing, blocked_weaker}
use Rattle.city_txn.proofs.PerformDone.{went_back}
use Rattle.city_txn.proofs.SeenWrites.{seen_same, step_seen, written_gains, own_same, held_exclusively, covered_next}
use Rattle.city_txn.proofs.SeenWrites.{covered_still}
use Rattle.city_txn.proofs.Touched.{touches_itself, touches_more}
use Rattle.city_model.proofs.History as history
use Rattle.city_txn.specs.declared.txn_core.Step.TheVariants as steps

done_replied : (a : Answer) (r reply : Reply) → steps.Done r ≡ step_of a reply → reply ≡ r
done_replied a r reply e = grind arith

-- a call by the transaction s, open or not, to do the command c; u is the core's state
pub record Call (s : ℕ) (c : Command) (was_open : Bool) (a : Inside) (u : CoreState) : Type 0 where
  pub core : IsCore a
  pub known : core_state a ≡ u
  pub opened : is_open u s ≡ was_open
  pub no_end : is_end c ≡ false

-- after it: a core again, with the effect of the command
pub record Acted (s : ℕ) (c : Command) (result : Result Step TxnFault) (u : CoreState) (b : Inside) : Type 0 where
  pub core : IsCore b
  pub acted : IsAct s c result u (core_state b)

module _ {s : ℕ} {c : Command} {was_open : Bool} {a : Inside} {u : CoreState} (call : Call s c was_open a u) where
  abbrev k : IsCore a
  k = call.core

  abbrev v : CoreState
  v = core_state a

  -- the transaction's snapshot, the locks of the command, and its reply
  abbrev x : Snapshot
  x = snapshot v s

  abbrev ls : List Lock
  ls = locks_of x.map c

  abbrev reply : Reply
  reply = answer x c

  abbrev written_if : Bool → Written
  written_if done = if done then written_by (action x.map c) (written v s) else written v s

  abbrev holds : Locks → List ℕ → Bool
  holds ks q = covers (held_in ks s q) Exclusive

  -- the locks are ks then
  module _ {ks : Locks} (gains : GainsFirst s (granted_in v s c) a.locks ks) where
    still_exclusive : (t : ℕ) (q : List ℕ) → mode_of a.locks t q ≡ Some Exclusive → mode_of ks t q ≡ Some Exclusive
    still_exclusive t q = grind arith

    still_covered : IsWrittenUnder (held_in ks s) (written v s)
    still_covered = covered_still (held v s) (held_in ks s) (still_exclusive s) (written v s) (k.state.each s).covered

    covered : (done : Bool) → (done ≡ true → AllHeld (held_in ks s) ls)
        → IsWrittenUnder (held_in ks s) (written_if done)
    covered true all = covered_next (held_in ks s) x.map c (written v s)
        (λ q h. held_exclusively (mode_of ks s q) (history.held_exclusively (held_in ks s) ls q (all refl) h))
        still_covered
    covered false all = still_covered

    -- and the store is st, touched under exclusive locks only
    module _ (st : State) (touches : Touches s (holds ks) a.store st) where
      abbrev b : Inside
      b = record { store = st; locks = ks }

      abbrev w : CoreState
      w = core_state b

      opened_still : (t : ℕ) → is_open w t ≡ is_open v t
      opened_still t = open_is b t ∙ touches.opened t ∙ sym (open_is a t)

      left : LeavesOthers s v w
      left = leaves_others s v w touches.frame touches.city (λ t ne i. record {
        own = λ q. own_same s t (write_of st.writes q) (write_of a.store.writes q) ne (touches.writes q) i;
        log = touches.logs t ne i;
        opened = opened_still t i;
        held = λ q. gains.locks.others t q ne i;
      })

      sees : (done : Bool) → written w s ≡ written_if done → snapshot w s ≡ (if done then step x c else x)
      sees true now = step_seen v w s c (sound_view v s k.state) touches.city now
      sees false now = seen_same v w s touches.city now

      module _ (done : List Answered) (stood : StandsUnderLocks v s done) where
        stands_still : snapshot w s ≡ x → StandsUnderLocks w s done
        stands_still same =
            history.follows_same (held v s) (held w s) (unmarked (committed v)) (unmarked (committed w)) done x
            (snapshot w s) gains.locks.more (λ i. unmarked (sym touches.city i)) (sym same) stood

        stands_with : (result : Result Step TxnFault) → written w s ≡ written_if (is_done result)
            → (is_done result ≡ true → AllHeld (held_in ks s) ls)
            → IfOk result (λ made. made ≡ step_of (answer_in v s c) reply)
            → StandsUnderLocks w s (with_step result c done)
        stands_with (Ok (steps.Done r)) now all made =
            let does : effect x c ≡ Answers r (snapshot w s) = effect_is x c call.no_end
            ∙ (λ i. Answers (done_replied (answer_in v s c) r reply made i) (sym (sees true now) i)) in
            subst (λ (m : CityMap). IsTraceUnderLocks (held w s) (unmarked m) (done ++ (c, r) ∷ []) (snapshot w s))
            (sym touches.city)
            (history.follows_more (held v s) (held w s) (unmarked (committed v)) done x c r (snapshot w s)
            gains.locks.more stood (all refl) does)
        stands_with (Ok steps.Wait) now all made = stands_still (sees false now)
        stands_with (Ok steps.Die) now all made = stands_still (sees false now)
        stands_with (Err e) now all made = stands_still (sees false now)

      module _ (result : Result Step TxnFault) (now : written w s ≡ written_if (is_done result))
          (all : is_done result ≡ true → AllHeld (held_in ks s) ls)
          (made : IfOk result (λ step. step ≡ step_of (answer_in v s c) reply)) where
        acts : IfErr result (λ e. e ≡ (if is_open v s then OutOfMemory else NotOpen s))
            → (is_open v s ≡ false → (result ≡ Err (NotOpen s)) × (w ≡ v))
            → (is_open v s ≡ true → answer_in v s c ≢ Granted → AllHeld (held v s) (granted_in v s c) → IsOk result)
            → (is_open v s ≡ true → reply ≡ WentBack → IsOk result)
            → OnOk result (IsBlocked (λ t. is_open v t ≡ true) s (answer_in v s c))
            → OnOk result (AllHeld (held w s) (granted_in v s c)) → IsAct s c result v w
        acts fault not_open answered found blocked granted = record {
          reply = reply;
          after = step x c;
          does = effect_is x c call.no_end;
          step = made;
          fault = fault;
          not_open = not_open;
          answered = answered;
          found = found;
          blocked = blocked;
          sees = sees (is_done result) now;
          city = touches.city;
          views = seen_beside s v w left touches.city;
          opened = opened_still s;
          locks = gains;
          granted = granted;
          writes = now;
          gained = λ q ahead. written_gains v w s c q ahead (is_done result) now;
          unwritten = touches.writes;
          others = written_beside s v w left;
          own = λ done stood. stands_with done stood result now all made;
          refused = λ h done stood. stands_still done stood
              (let e = sees (is_done result) now in let stays = refused_stays x c h in grind arith);
          keeps = keeps s v w left;
        }

        core_then : is_open v s ≡ true → IsCore b
        core_then here =
            let each = k.state.each s in
            let stood : StandsUnderLocks v s each.done = from_kept v s each.done each.stands in
            record {
              state = consistent s v w left k.state (gains.locks.lawful k.state.lawful)
                  (subst IsLawful (sym touches.city) k.state.city) (record {
                    covered = subst (IsWrittenUnder (held_in ks s)) (sym now) (covered (is_done result) all);
                    shut = λ e. absurd (false≢true (sym e ∙ opened_still s ∙ here));
                    done = with_step result c each.done;
                    stands = to_kept w s (with_step result c each.done)
                        (stands_with each.done stood result now all made);
                  });
              reserved = λ t q h.
                  let r = touches.reserved t q h in
                  let e = k.reserved t q in
                  let f = still_exclusive t q in
                  grind arith;
            }

  pub not_open_acted : was_open ≡ false → IsAct s c (Err (NotOpen s)) u u
  not_open_acted shut = grind (arith, acts, gains_nothing, touches_itself)

  -- ---- of an open stamp: its locks are asked for, and its command may be done on the store

  module _ (opened : was_open ≡ true) where
    is_here : is_open v s ≡ true
    is_here = ap (λ u. is_open u s) call.known ∙ call.opened ∙ opened

    acted : {E : Type 0} {r : Result Answer E} {ks : Locks} (ask : Asked s ls r a.locks ks) (st : State)
        → Touches s (holds ks) a.store st → (result : Result Step TxnFault)
        → store_written st s ≡ written_if (is_done result) → (is_done result ≡ true → AllHeld (held_in ks s) ls)
        → IfOk result (λ step. step ≡ step_of (answer_in v s c) reply) → IfErr result (λ e. e ≡ OutOfMemory)
        → (answer_in v s c ≢ Granted → AllHeld (held v s) (granted_in v s c) → IsOk result)
        → (reply ≡ WentBack → IsOk result) → OnOk result (IsBlocked (HoldsLock a.locks) s (answer_in v s c))
        → OnOk result (AllHeld (held_in ks s) (granted_in v s c))
        → Acted s c result u (record { store = st; locks = ks })
    acted {E} {r} {ks} ask st touches result now all made fault answered found blocked granted = record {
      core = core_then ask.gains st touches result now all made is_here;
      acted = subst (λ u. IsAct s c result u (core_state (record { store = st; locks = ks }))) call.known
          (acts ask.gains st touches result now all made (grind (arith, is_here)) (grind (arith, is_here))
          (λ e. answered)
          (λ e. found)
          (on_ok_weaker result (blocked_weaker (HoldsLock a.locks) (λ t. is_open v t ≡ true) s
          (λ t ne h. open_only v k.state t h.0 h.1) (answer_in v s c)) blocked) granted);
    }

    pub asked_failed : {E : Type 0} {e : E} {ks : Locks} → Asked s ls (Err e) a.locks ks
        → Acted s c (Err OutOfMemory) u (record { store = a.store; locks = ks })
    asked_failed {E} {e} {ks} ask =
        acted ask a.store (touches_itself s (holds ks) a.store) (Err OutOfMemory) refl (λ e. absurd (false≢true e)) tt
        refl (λ n. ask.answered)
        (λ h. ask.answered
        (subst (λ ls. AllHeld (held v s) (granted_before a.locks s ls)) (sym (went_back x c h).1) tt)) tt tt

    module _ {E : Type 0} {y : Answer} {ks : Locks} (ask : Asked {E = E} s ls (Ok y) a.locks ks) where
      blocked : IsBlocked (HoldsLock a.locks) s (answer_in v s c)
      blocked = subst (IsBlocked (HoldsLock a.locks) s) ask.answer ask.blocked

      -- a lock isn't granted
      pub asked_refused : (z : Answer) → y ≡ z → is_done (Ok (step_of z reply)) ≡ false
          → Acted s c (Ok (step_of z reply)) u (record { store = a.store; locks = ks })
      asked_refused z is idle =
          acted ask a.store (touches_itself s (holds ks) a.store) (Ok (step_of z reply)) (sym (ap written_if idle))
          (λ e. absurd (false≢true (sym idle ∙ e))) (ap (λ b. step_of b reply) (sym is ∙ ask.answer)) tt (λ n h. refl)
          (λ h. refl) blocked ask.held

      -- all are granted
      module _ (granted : y ≡ Granted) where
        all : AllHeld (held_in ks s) ls
        all = subst (AllHeld (held_in ks s)) (all_granted a.locks s ls (sym ask.answer ∙ granted)) ask.held

        -- no other than s has reserved an id of the locks
        pub may_perform : MayPerform a.store s c
        may_perform = record {
          sound = sound_view v s k.state;
          locked = record {
            opened = sym (open_is a s) ∙ is_here;
            alone = λ q h t r.
                let held = history.held_named (held_in ks s) ls q all h in
                let apart = ask.gains.locks.lawful k.state.lawful t s q in
                grind (arith, still_exclusive, k.reserved);
          };
        }

        on_store : (st : State) → Touches s (locks_id_exclusively ls) a.store st → Touches s (holds ks) a.store st
        on_store st = touches_more s (locks_id_exclusively ls) (holds ks) a.store st
            (λ q. history.held_exclusively (held_in ks s) ls q all)

        pub perform_failed : {F : Type 0} {e : F} {st : State} → IsPerform s c (Err e) a.store st
            → Acted s c (Err OutOfMemory) u (record { store = st; locks = ks })
        perform_failed {F} {e} {st} p =
            acted ask st (on_store st p.touches) (Err OutOfMemory) p.written (λ e. absurd (false≢true e)) tt refl
            (λ n h. absurd (n (sym ask.answer ∙ granted))) p.found tt tt

        pub performed : {F : Type 0} {r : Reply} {st : State} → IsPerform {E = F} s c (Ok r) a.store st
            → Acted s c (Ok (steps.Done r)) u (record { store = st; locks = ks })
        performed {F} {r} {st} p =
            acted ask st (on_store st p.touches) (Ok (steps.Done r)) p.written (λ e. all)
            (ap steps.Done p.reply ∙ ap (λ a. step_of a reply) (sym granted ∙ ask.answer)) tt (λ n h. refl) (λ h. refl)
            blocked ask.held
