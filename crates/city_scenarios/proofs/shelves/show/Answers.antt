use Rattle.std.proofs.Common.{List, [], ◌∷◌, ◌++◌, sym, subst}
use Rattle.city_model.specs.CityMap.{object_at}
use Rattle.city_model.specs.Relations.{IsLawful}
use Rattle.city_model.specs.Runs.{Change, after_changes}
use Rattle.city_scenarios.proofs.shelves.show.Goals as goal

pub append-requires-clause-lawful : goal.append-requires-clause-lawful
append-requires-clause-lawful g c =
    subst (λ (taken : List Change). IsLawful (after_changes (object_at c.args.poster.opening.1)
    (taken ++ c.args.change ∷ []))) (sym c.requires.taken) c.requires.after
