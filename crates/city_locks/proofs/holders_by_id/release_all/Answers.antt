use Rattle.city_locks.proofs.Prelude.{◌≡◌, ◌∙◌, sym, ap, [], arith, holders_of}
use Rattle.city_locks.proofs.Among.{without_others, without_absent}
use Rattle.city_locks.proofs.holders_by_id.release_all.Goals as goal

-- the table is empty, and nobody but the stamp was a holder
pub returns-then-alone : goal.returns-then-alone
returns-then-alone c q =
    let none : holders_of c.clear.new.self.entries q ≡ [] = ap (λ es. holders_of es q) c.clear.ensures.empty in
    none ∙ sym (without_others (holders_of c.args.held.now.entries q) c.args.stamp
    (λ t. c.requires.alone c.if-alone.true t q))

pub returns-else-alone : goal.returns-else-alone
returns-else-alone c q =
    let each = c.release_each.ensures q in
    let listed = c.requires.listed q in
    let absent = without_absent (holders_of c.args.held.now.entries q) c.args.stamp in
    grind arith
