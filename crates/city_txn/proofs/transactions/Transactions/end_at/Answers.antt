use Rattle.city_txn.proofs.StoreChanged.{ended_at}
use Rattle.city_txn.proofs.transactions.Transactions.end_at.Goals as goal

pub returns-then-alone-clause-became : goal.returns-then-alone-clause-became
returns-then-alone-clause-became c =
    ended_at c.args.end c.args.ids.now (c.requires.alone c.if-alone.true) c.end_all.ensures.became
