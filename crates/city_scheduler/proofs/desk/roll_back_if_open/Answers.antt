use Rattle.city_scheduler.proofs.Prelude.{◌≡◌, ℕ, Result, Ok, Err, ap, TxnFault, CoreState, committed, IsRolledBack}
use Rattle.city_scheduler.proofs.Prelude.{KeepsCity}
use Rattle.std.specs.Prelude.{OnOk, OnErr}
use Rattle.city_scheduler.proofs.desk.roll_back_if_open.Goals as goal

-- a roll-back keeps the core's city
city_kept : (stamp : ℕ) (v w : CoreState) (result : Result (Unit {0}) TxnFault)
    → OnOk result (IsRolledBack stamp v w) → OnErr result (w ≡ v) → KeepsCity v w
city_kept stamp v w (Ok x) undone same = record { frame = undone.over.keeps.frame; city = undone.city }
city_kept stamp v w (Err e) undone same =
    record { frame = ap (λ (x : CoreState). x.frame) same; city = ap committed same }

pub returns-clause-keeps : goal.returns-clause-keeps
returns-clause-keeps c =
    city_kept c.args.stamp c.args.core.now c.abort.new.self c.abort.result c.abort.ensures.undone c.abort.ensures.err
