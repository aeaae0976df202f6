-- The step of an attempt, by the answer of the core.
use Rattle.city_scheduler.proofs.Prelude.{◌≡◌, ℕ, true, false, List, [], ◌∷◌, ◌++◌, length, Option, Result, Ok, refl}
use Rattle.city_scheduler.proofs.Prelude.{ap, sym, subst, ◌∙◌, arith, IfSome, false≢true, Command, Reply, Outcome}
use Rattle.city_scheduler.proofs.Prelude.{object_at, CityValue, IsLawful, is_refusal, Change, after_changes, is_end}
use Rattle.city_scheduler.proofs.Prelude.{is_commit, is_no_memory, Answer, TxnFault, CoreState, committed, snapshot}
use Rattle.city_scheduler.proofs.Prelude.{is_open, StandsUnderLocks, KeepsOthers, IsRolledBack, answer_in}
use Rattle.city_scheduler.proofs.Prelude.{CommandOutcome}
use Rattle.city_scheduler.proofs.Prelude.{Progress, Idle, progress_to, AttemptEnded, HasStepped, shown_more}
use Rattle.city_model.specs.declared.command.Command.TheVariants.{Abort}
use Rattle.city_model.specs.declared.command.Cause.{Cause}
use Rattle.city_model.specs.Meaning.{Answers}
use Rattle.city_model.proofs.Endings.{aborts}
use Rattle.city_model.proofs.Refused.{refused_does}
use Rattle.city_locks.specs.declared.answer.Answer.TheVariants.{Granted, Wait, Die}
use Rattle.city_txn.specs.declared.txn_core.Step.{Step}
use Rattle.city_txn.specs.Acting.{IsAct, step_of, with_step, EndsIn}
use Rattle.city_txn.specs.Changing.{IsChangeOf}
use Rattle.city_locks.specs.Asking.{IsBlocked}
use Rattle.city_scheduler.proofs.Shelved.{if_some_to}
use Rattle.city_model.specs.declared.command.Reply.TheVariants as replies
use Rattle.city_txn.specs.declared.txn_core.Step.TheVariants as steps
use Rattle.city_scheduler.specs.declared.turn.Turn.TheVariants as turns

keeps_both : {stamp : ℕ} {u v w : CoreState} → KeepsOthers stamp u v → KeepsOthers stamp v w → KeepsOthers stamp u w
keeps_both k l = record {
  frame = l.frame ∙ k.frame;
  opened = λ t ne. l.opened t ne ∙ k.opened t ne;
  others = λ t done ne h. l.others t done ne (k.others t done ne h);
}

-- ---- the answers of the core

by_done : (a : Answer) (reply r : Reply) → step_of a reply ≡ steps.Done r → (a ≡ Granted) × (reply ≡ r)
by_done a reply r e = grind arith

by_wait : (a : Answer) (reply : Reply) → step_of a reply ≡ steps.Wait → a ≡ Wait
by_wait a reply e = grind arith

by_die : (a : Answer) (reply : Reply) → step_of a reply ≡ steps.Die → a ≡ Die
by_die a reply e = grind arith

-- ---- a transaction that ended without a commit

pub gave_up : {stamp number : ℕ} {command : Command} {v w : CoreState} {changes : List Change} (outcome : Outcome)
    → is_commit outcome ≡ false → EndsIn v stamp command number outcome
    → (is_end command ≡ false → is_no_memory outcome ≡ false → answer_in v stamp command ≡ Granted)
    → is_open w stamp ≡ false → KeepsOthers stamp v w → committed w ≡ committed v
    → AttemptEnded stamp command number outcome v w changes changes
gave_up outcome none ends granted closed keeps city =
    record { ends = ends; granted = granted; closed = closed; keeps = keeps; publishes = rw none (city, refl) }

pub aborted : {stamp number : ℕ} {command : Command} {v w : CoreState} {changes : List Change} → command ≡ Abort
    → IsRolledBack stamp v w → AttemptEnded stamp command number Outcome.Aborted v w changes changes
aborted {stamp} {number} {command} {v} {w} {changes} is undone =
    rw is (gave_up Outcome.Aborted refl (aborts (snapshot v stamp)) (λ e _. absurd (false≢true (sym e)))
    undone.over.closed undone.over.keeps undone.city)

-- ---- a command other than a commit or an abort

module _ {stamp : ℕ} {command : Command} {p q : Progress} {v w : CoreState} {changes : List Change}
    (goes_on : is_end command ≡ false) where
  module _ {step : Step} (k : IsAct stamp command (Ok step) v w) where
    pub replied : {reply : Reply} → step ≡ steps.Done reply → is_open v stamp ≡ true → is_refusal reply ≡ false
        → q ≡ progress_to p.phase (p.replies.list ++ reply ∷ []) p.replies.room
        → HasStepped stamp command (CommandOutcome.GoesOn turns.Replied) p q v w changes changes
    replied {reply} is opened unrefused heard =
        let by = by_done (answer_in v stamp command) k.reply reply (sym k.step ∙ is) in
        record {
          so = record {
            goes_on = goes_on;
            granted = by.0;
            reply = reply;
            after = k.after;
            does = k.does ∙ ap (λ r. Answers r k.after) by.1;
            unrefused = unrefused;
            heard = heard;
            opened = k.opened ∙ opened;
            stands = λ done h. subst (λ (s : Step). StandsUnderLocks w stamp (with_step (Ok s) command done)) is
                (k.own done h);
          };
          keeps = k.keeps;
          city = k.city;
          changes = refl;
        }

    pub waits : step ≡ steps.Wait → is_open v stamp ≡ true → q ≡ p
        → HasStepped stamp command (CommandOutcome.GoesOn turns.Waits) p q v w changes changes
    waits is opened same =
        let by = by_wait (answer_in v stamp command) k.reply (sym k.step ∙ is) in
        record {
          so = record {
            goes_on = goes_on;
            waits = by;
            blocked = subst (IsBlocked (λ t. is_open v t ≡ true) stamp) by k.blocked;
            same = same;
            opened = k.opened ∙ opened;
            stands = λ done h. subst (λ (s : Step). StandsUnderLocks w stamp (with_step (Ok s) command done)) is
                (k.own done h);
          };
          keeps = k.keeps;
          city = k.city;
          changes = refl;
        }

    pub dies : {x : CoreState} → step ≡ steps.Die → IsRolledBack stamp w x
        → q ≡ progress_to (Idle stamp) [] p.replies.room
        → HasStepped stamp command (CommandOutcome.GoesOn turns.Died) p q v x changes changes
    dies {x} is undone idle =
        let by = by_die (answer_in v stamp command) k.reply (sym k.step ∙ is) in
        record {
          so = record {
            goes_on = goes_on;
            dies = by;
            blocked = subst (IsBlocked (λ t. is_open v t ≡ true) stamp) by k.blocked;
            idle = idle;
            closed = undone.over.closed;
          };
          keeps = keeps_both k.keeps undone.over.keeps;
          city = undone.city ∙ k.city;
          changes = refl;
        }

    pub refused : {x : CoreState} {number : ℕ} {reply : Reply} {cause : Cause} → step ≡ steps.Done reply
        → reply ≡ replies.Refused cause → IsRolledBack stamp w x → number ≡ length p.replies.list → q ≡ p
        → HasStepped stamp command (CommandOutcome.Ends (Outcome.Refused number cause)) p q v x changes changes
    refused {x} {number} {reply} {cause} is refusal undone count same =
        let by = by_done (answer_in v stamp command) k.reply reply (sym k.step ∙ is) in
        let does = refused_does (snapshot v stamp) command cause k.after
        (k.does ∙ ap (λ r. Answers r k.after) (by.1 ∙ refusal)) in (
          same,
          gave_up (Outcome.Refused number cause) refl (count, does) (λ _ _. by.0) undone.over.closed
              (keeps_both k.keeps undone.over.keeps) (undone.city ∙ k.city),
        )

  pub unheard : {x : CoreState} {number : ℕ} {result : Result Step TxnFault} → IsAct stamp command result v w
      → IsRolledBack stamp w x → number ≡ length p.replies.list → q ≡ p
      → HasStepped stamp command (CommandOutcome.Ends (Outcome.NoMemory number)) p q v x changes changes
  unheard {x} {number} k undone count same = (
    same,
    gave_up (Outcome.NoMemory number) refl count (λ _ e. absurd (false≢true (sym e))) undone.over.closed
        (keeps_both k.keeps undone.over.keeps) (undone.city ∙ k.city),
  )

-- ---- a commit

-- the shelf may take the change
pub may_take : (v : CoreState) (stamp : ℕ) (change : Change) (list : List Change) (base : Option CityValue)
    → IsChangeOf v stamp change
    → IfSome base (λ city. after_changes (object_at city.1) list ≡ committed v)
    → IfSome base (λ city. IsLawful (after_changes (object_at city.1) (list ++ change ∷ [])))
may_take v stamp change list base k =
    if_some_to base (λ city. after_changes (object_at city.1) list ≡ committed v)
    (λ city. IsLawful (after_changes (object_at city.1) (list ++ change ∷ [])))
    (λ city same. rw (shown_more (object_at city.1) list change, same, k.makes_view) k.lawful)
