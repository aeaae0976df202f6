use Rattle.std.proofs.Common.{rules}
use Rattle.std.proofs.lemmas.Map.Steps.{set_value_same}
use Rattle.city_session.proofs.Recorded.{full_told}
use Rattle.city_session.proofs.growing.Growing.act.Goals as goal

-- the transaction as it was, written back
pub returns-clause-full : goal.returns-clause-full
returns-clause-full c full =
    let same = full_told c.args.stamp c.args.command.now c.in-Some.transaction.now c.args.core.now c.act.new.core
    c.act.result c.act.ensures.answered c.act.ensures.told (search rules) in
    search (rules, set_value_same)
