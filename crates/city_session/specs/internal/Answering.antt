-- The answer to a command of an open transaction.
use Rattle.std.specs.Prelude.{◌≡◌, ℕ, Bool, true, false, Ok, Err}
use Rattle.city_model.specs.declared.command.Command.{Command}
use Rattle.city_txn.specs.declared.txn_core.Step.TheVariants as steps
use Rattle.city_txn.specs.declared.txn_core.TxnFault.TheVariants.{OutOfMemory}
use Rattle.city_txn.specs.Acting.{IsAct}
use Rattle.city_txn.specs.CoreState.{CoreState}
use Rattle.city_session.specs.declared.acted.Acted.{Acted}
use Rattle.city_session.specs.declared.acted.Acted.TheVariants as acted

-- the answer is the core's, unless the transaction is full: then nothing is done
abbrev pub IsAnsweredIn : ℕ → Command → Bool → Acted → CoreState → CoreState → Type 0
IsAnsweredIn stamp command full (acted.Replied reply) c d =
    (full ≡ false) × IsAct stamp command (Ok (steps.Done reply)) c d
IsAnsweredIn stamp command full acted.Waits c d = (full ≡ false) × IsAct stamp command (Ok steps.Wait) c d
IsAnsweredIn stamp command full acted.Dies c d = (full ≡ false) × IsAct stamp command (Ok steps.Die) c d
IsAnsweredIn stamp command full acted.TooMany c d = (full ≡ true) × (d ≡ c)
IsAnsweredIn stamp command full acted.NoMemory c d = (full ≡ false) × IsAct stamp command (Err OutOfMemory) c d
