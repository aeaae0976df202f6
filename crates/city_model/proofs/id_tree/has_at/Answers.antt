use Rattle.city_model.proofs.Prelude.{◌≡◌, true, sym, rules, same_id}
use Rattle.city_model.proofs.IdTrees.{entry_stands}
use Rattle.city_model.proofs.id_tree.has_at.Goals as goal

pub returns-in-Some-clause-there : goal.returns-in-Some-clause-there
returns-in-Some-clause-there c = λ there.
    let same : same_id c.args.id.now c.in-Some.item.now.id ≡ true = search rules in
    entry_stands c.args.entries.now c.args.id.now c.args.at c.in-Some.item.now (sym c.in-Some.ensures) same
