-- The first lock of a command not granted, with the holders of its id, and the answer to the command's locks.
use Rattle.city_txn.proofs.Prelude.{◌≡◌, ℕ, List, true, None, Some, ap, sym, ◌∙◌, subst, arith, Command, CoreState}
use Rattle.city_txn.proofs.Prelude.{locks_of, view}
use Rattle.std.specs.Prelude.{IfSome, ◌≢◌}
use Rattle.std.specs.List.{list_all}
use Rattle.city_model.specs.declared.mode.Mode.{Mode}
use Rattle.city_locks.specs.declared.holders.Holder.{Holder}
use Rattle.city_locks.specs.Holders.{answer_among, gives_way, Once}
use Rattle.city_locks.specs.Locks.{HoldOnce, holders_of, answer_of}
use Rattle.city_locks.proofs.LocksAsked.{answer_to, first_answered}
use Rattle.city_txn.specs.internal.Prelude.{Granted, Wait, answer_in}
use Rattle.city_txn.specs.declared.txn_core.Conflict.{Conflict}
use Rattle.city_txn.specs.Acting.{ungranted_in, IsConflict}

younger_among : (hs : List Holder) (s : ℕ) (m : Mode) → answer_among hs s m ≡ Wait
    → list_all (gives_way s m) hs ≡ true
younger_among hs s m h = grind arith

module _ (v : CoreState) (s : ℕ) (command : Command) where
  pub none_in_conflict : None ≡ ungranted_in v s command → answer_in v s command ≡ Granted
  none_in_conflict none =
      (first_answered v.locks s (locks_of (view v s) command)).0 ∙ ap (answer_to v.locks s) (sym none)

  pub is_conflict : (c : Conflict) → Some (c.id.now, c.mode) ≡ ungranted_in v s command
      → c.holders.now ≡ holders_of v.locks c.id.now → HoldOnce v.locks → IsConflict v s command c
  is_conflict c first held once =
      let told = first_answered v.locks s (locks_of (view v s) command) in
      let same = ap (λ (hs : List Holder). answer_among hs s c.mode) (sym held) in
      let answer : answer_in v s command ≡ answer_among c.holders.now s c.mode =
      told.0 ∙ ap (answer_to v.locks s) (sym first) ∙ same in
      record {
        first = sym first;
        held = held;
        once = subst Once (sym held) (once c.id.now);
        answer = answer;
        refused = λ g.
            subst (λ l. IfSome l (λ l. answer_of v.locks s l.0 l.1 ≢ Granted)) (sym first) told.1
            (same ∙ sym answer ∙ g);
        younger = λ w. younger_among c.holders.now s c.mode (sym answer ∙ w);
      }
