use Rattle.std.proofs.Common.{◌++◌, take}
use Rattle.city_journal.proofs.InOrder.{restart_leads}
use Rattle.city_journal.proofs.replaying.restart.Goals as goal

pub returns-clause-committed : goal.returns-clause-committed
returns-clause-committed c = λ base version told more bytes l r first numbers at.
    let found = c.in_ok-commits.ensures.found in
    restart_leads c.args.decimals found.0 c.args.journal.now.commits.items c.in_ok-commits.commits.now
    (told ++ take r.count more) first c.args.city c.replay.result found.2 r.commits numbers (at found.0 found.1)
    c.replay.ensures.noted
