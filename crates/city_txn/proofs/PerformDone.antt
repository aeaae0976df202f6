-- A command done on the store, by its action.
use Rattle.city_txn.proofs.Prelude.{arith, ◌≡◌, ℕ, List, [], Bool, true, false, Some, Result, Ok, refl, ap, sym}
use Rattle.city_txn.proofs.Prelude.{◌∙◌, subst, false≢true, Command, Reply, WentBack, CityMap, Snapshot, marks_from}
use Rattle.city_txn.proofs.Prelude.{locks_of}
use Rattle.city_txn.proofs.Prelude.{locks_id_exclusively, action, answer, written_at_mark, written_by, own_with}
use Rattle.city_txn.proofs.Prelude.{map_with}
use Rattle.city_txn.proofs.Prelude.{marks_with, from_mapped, keys_of, IsPerform, written_with, write_in}
use Rattle.std.proofs.Common.{IsErr, if◌then◌else◌}
use Rattle.city_txn.specs.internal.Prelude.{Refused, NoMark, Change, Action, Refuses, Edits, applied, reply_of}
use Rattle.city_txn.specs.internal.Prelude.{is_mark, write_of, own_write, Logs, log_of, has_mark, State, store_own}
use Rattle.city_txn.specs.internal.Prelude.{store_written, store_committed, store_view, MayReserve, Touches}
use Rattle.city_model.specs.declared.command.Cause.{Cause}
use Rattle.city_model.specs.declared.plan.Plan.{Plan}
use Rattle.city_model.specs.internal.Plans.{AreWritesOf, IsPlan}
use Rattle.city_model.proofs.ActionKinds.{IsKindOf, kind_of}
use Rattle.city_model.proofs.FrameLaw.{exclusive_is_named}
use Rattle.city_model.proofs.FramedActions.{edits_locked}
use Rattle.city_txn.specs.internal.Performing.{MayPerform, plans as writes_of, seen}
use Rattle.city_txn.proofs.PlanWritten.{written_planned}
use Rattle.city_txn.proofs.Touched.{touches_itself, touches_more}
use Rattle.city_txn.proofs.UndoLogs.{no_mark_from, mark_is_there}
use Rattle.city_model.specs.declared.command.Command.TheVariants as commands
use Rattle.city_model.specs.declared.plan.Plan.TheVariants as plans

-- ---- who went back

went_as : (x : Snapshot) (c : Command) (a : Action) → IsKindOf c a → reply_of (applied x a) ≡ WentBack
    → (is_mark c ≡ true) × (locks_of x.map c ≡ [])
went_as x c a k e = grind arith

-- a command with the reply WentBack locks nothing
pub went_back : (x : Snapshot) (c : Command) → answer x c ≡ WentBack → (is_mark c ≡ true) × (locks_of x.map c ≡ [])
went_back x c e = went_as x c (action x.map c) (kind_of x.map c) e

not_back : (x : Snapshot) (c : Command) → is_mark c ≡ false → answer x c ≡ WentBack → ⊥
not_back x c leaves e = false≢true (sym leaves ∙ (went_back x c e).0)

-- without memory a command writes nothing
failed : {E : Type 0} (s : ℕ) (c : Command) (v w : State) → (answer (seen v s) c ≡ WentBack → ⊥)
    → store_written w s ≡ store_written v s → Touches s (locks_id_exclusively (locks_of (store_view v s) c)) v w
    → (result : Result Reply E) → IsErr result → IsPerform s c result v w
failed s c v w not_back same touches result is_failed = grind arith

-- ---- going back, if the logs have the mark or not

module _ (s : ℕ) (name : List ℕ) (v : State) (logs : Logs) (is : logs ≡ v.logs) (there : Bool)
    (tells : there ≡ has_mark (log_of logs s) name) where
  there_is : has_mark (log_of v.logs s) name ≡ there
  there_is = ap (λ ls. has_mark (log_of ls s) name) (sym is) ∙ sym tells

  -- the marks of the snapshot, from the newest of the name on
  seen_from : marks_from name (seen v s).marks
      ≡ marks_with (store_committed v) (marks_from name (store_written v s).1)
  seen_from = from_mapped (map_with (store_committed v)) name (store_written v s).1

  module _ (missing : there ≡ false) where
    none : marks_from name (store_written v s).1 ≡ []
    none = no_mark_from (log_of v.logs s) (store_own v s) name (there_is ∙ missing)

    refused : answer (seen v s) (commands.Back name) ≡ Refused (NoMark name)
    refused = grind (arith, seen_from, none)

    pub back_failed : {E : Type 0} (result : Result Reply E) → IsErr result
        → IsPerform s (commands.Back name) result v v
    back_failed = grind (arith, failed, refused, touches_itself)

    pub back_refused : {E : Type 0} (copy : List ℕ) → copy ≡ name
        → IsPerform {E = E} s (commands.Back name) (Ok (Refused (NoMark copy))) v v
    back_refused copy is = grind (arith, refused, none, touches_itself)

  pub back_performed : {E : Type 0} (w : State) → there ≡ true
      → store_written w s ≡ written_at_mark (store_written v s) (marks_from name (store_written v s).1)
      → Touches s (λ id. false) v w → IsPerform {E = E} s (commands.Back name) (Ok WentBack) v w
  back_performed w found at_mark touches =
      let there = mark_is_there (log_of v.logs s) (store_own v s) name (there_is ∙ found) in grind (arith, seen_from)

-- ---- a command without effect on the marks

module _ (s : ℕ) (c : Command) (v : State) where
  abbrev x : Snapshot
  x = seen v s

  abbrev locked : List ℕ → Bool
  locked = locks_id_exclusively (locks_of x.map c)

  -- the reply of its action
  reply_as : (a : Action) → action x.map c ≡ a → reply_of (applied x a) ≡ answer x c
  reply_as a e = ap (λ k. reply_of (applied x k)) (sym e)

  written_as : (a : Action) → action x.map c ≡ a
      → written_by a (store_written v s) ≡ written_by (action x.map c) (store_written v s)
  written_as a e = ap (λ k. written_by k (store_written v s)) (sym e)

  module _ (leaves : is_mark c ≡ false) where
    pub unplanned_performed : {E : Type 0} (result : Result Reply E) → IsErr result → IsPerform s c result v v
    unplanned_performed = failed s c v v (not_back x c leaves) refl (touches_itself s locked v)

    module _ (plan : Plan) (planned : IsPlan x.map c plan) where
      pub refused_performed : {E : Type 0} (cause : Cause) → plan ≡ plans.Refused cause
          → IsPerform {E = E} s c (Ok (Refused cause)) v v
      refused_performed cause is =
          let e : action x.map c ≡ Refuses cause = subst (IsPlan x.map c) is planned in record {
            reply = reply_as (Refuses cause) e;
            found = λ _. refl;
            written = written_as (Refuses cause) e;
            touches = touches_itself s locked v;
          }

      module _ (r : Reply) (change : Change) (is : plan ≡ plans.Writes r change) where
        of_plan : AreWritesOf x.map c r change
        of_plan = subst (IsPlan x.map c) is planned

        -- the ids of the change are locked exclusively
        among : (q : List ℕ) → writes_of change q ≡ true → locked q ≡ true
        among q h = let e = edits_locked x.map c r (keys_of change) of_plan.after of_plan.edits in grind arith

        pub may_write : MayPerform v s c → MayReserve v s (writes_of change)
        may_write may = record {
          opened = may.locked.opened;
          alone = λ q h. may.locked.alone q (exclusive_is_named (locks_of x.map c) q (among q h));
        }

        -- w is the store with the plan written, or for want of memory without it
        module _ (w : State) (touches : Touches s (writes_of change) v w)
            (marks : (store_written w s).1 ≡ (store_written v s).1) where
          touched : Touches s locked v w
          touched = touches_more s (writes_of change) locked v w among touches

          pub unwritten_performed : {E : Type 0} (result : Result Reply E) → IsErr result
              → ((q : List ℕ) → write_of w.writes q ≡ write_of v.writes q) → IsPerform s c result v w
          unwritten_performed result is_failed same =
              failed s c v w (not_back x c leaves) (λ i. (λ q. own_write s (same q i), marks i)) touched result
              is_failed

          pub written_performed : {E : Type 0}
              → ((q : List ℕ) → write_of w.writes q ≡ written_with s (write_in change q) (write_of v.writes q))
              → IsPerform {E = E} s c (Ok r) v w
          written_performed done =
              let n = of_plan.after in
              let a = Edits r (keys_of change) n in
              let own_next : (q : List ℕ) → store_own w s q ≡ own_with (store_own v s) (keys_of change) n q =
              λ q. let e = done q in
              let planned_to = written_planned n change of_plan.objects s q (write_of v.writes q) in grind arith in
              record {
                reply = reply_as a of_plan.edits;
                found = λ _. refl;
                written = (λ i. (λ q. own_next q i, marks i)) ∙ written_as a of_plan.edits;
                touches = touched;
              }
