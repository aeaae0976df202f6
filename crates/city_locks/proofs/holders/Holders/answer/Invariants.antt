use Rattle.city_locks.proofs.Prelude.{◌≡◌, ◌||◌, cond, drop, list_any, list_all, Granted, Wait, Die, in_conflict}
use Rattle.city_locks.proofs.Prelude.{gives_way, answer_among}
use Rattle.city_locks.proofs.holders.Holders.answer.Given as goal

abbrev pub invariant-loop-holder : goal.invariant-loop-holder
invariant-loop-holder l =
    cond (l.waits || list_any (in_conflict l.stamp l.mode) (drop l.holder-index l.holder-items))
    (cond (list_all (gives_way l.stamp l.mode) (drop l.holder-index l.holder-items)) Wait Die)
    Granted
    ≡ answer_among l.self l.stamp l.mode
