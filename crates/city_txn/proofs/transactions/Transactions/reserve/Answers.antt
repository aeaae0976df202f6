use Rattle.city_txn.proofs.StoreChanged.{taken_back}
use Rattle.city_txn.proofs.transactions.Transactions.reserve.Goals as goal

pub returns-in_default-clause-became : goal.returns-in_default-clause-became
returns-in_default-clause-became c =
    taken_back c.args.stamp c.args.id.now c.requires c.in_ok-add_image.ensures.became c.end.ensures.became
