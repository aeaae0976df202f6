use Rattle.city_txn.proofs.Prelude.{◌≡◌, None, arith, object_at, image_at}
use Rattle.std.proofs.Common.{is_none}
use Rattle.city_txn.specs.internal.Images.{image_put}
use Rattle.city_txn.proofs.FirstWrites.{first_taken_back}
use Rattle.city_txn.proofs.transactions.Transactions.put.Goals as goal

pub returns-in-Err-clause-became : goal.returns-in-Err-clause-became
returns-in-Err-clause-became c =
    let none : image_at c.args.self.now.images c.args.id ≡ None =
    let first = c.in_ok-is_first.ensures.first in let test = c.if-not-is_first.false in grind arith in
    first_taken_back c.args.stamp c.args.id c.args.object
    (image_put c.args.stamp (object_at c.args.city.now.1 c.args.id) (is_none c.args.object)
    (image_at c.args.self.now.images c.args.id))
    none c.in_ok-is_first.ensures.became (rw c.in-Err.ensures.back at c.end.ensures.became)
