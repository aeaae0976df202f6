use Rattle.city_locks.proofs.Prelude.{◌≡◌, ◌∙◌, sym, ap, [], without, holders_of}
use Rattle.std.proofs.Common.{unwrap_or}
use Rattle.city_locks.proofs.Ids.{same_at_id}
use Rattle.city_locks.proofs.holders_by_id.remove_holder.Goals as goal

pub returns-in-None-clause-after : goal.returns-in-None-clause-after
returns-in-None-clause-after c q =
    let none : holders_of c.args.held.now.entries c.args.id.now ≡ [] =
    ap (λ o. unwrap_or o []) (sym c.in-None.ensures.value) in
    let same : c.get_mut.follows.lender-at-none.entries ≡ c.args.held.now.entries =
    ap (λ m. m.entries) c.get_mut.follows.holds-at-none in
    ap (λ es. holders_of es q) same
    ∙ same_at_id (holders_of c.args.held.now.entries)
    (without (holders_of c.args.held.now.entries c.args.id.now) c.args.stamp) c.args.id.now q
    (ap (λ hs. without hs c.args.stamp) none ∙ sym none)
