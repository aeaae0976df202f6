use Rattle.city_txn.proofs.AtOneId.{room_copied, put_back_all}
use Rattle.city_txn.proofs.store.Store.committed_city.Goals as goal

pub end_all-requires : goal.end_all-requires
end_all-requires c =
    room_copied c.self.inside c.self.invariant c.in_ok-written.written.images c.in_ok-city.ensures
    c.in_ok-written.ensures

pub returns : goal.returns
returns c =
    put_back_all c.self.inside c.self.invariant c.self.view_is c.in_ok-city.ensures c.in_ok-written.ensures
    c.end_all.ensures.became
