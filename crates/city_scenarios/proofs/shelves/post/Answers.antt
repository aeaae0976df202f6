use Rattle.std.proofs.Common.{ap, sym, subst}
use Rattle.city_model.specs.CityMap.{CityValue, object_at}
use Rattle.city_model.specs.Relations.{IsLawful}
use Rattle.city_model.specs.Runs.{after_change}
use Rattle.city_board.specs.BoardValues.{PosterValue}
use Rattle.city_scenarios.proofs.shelves.post.Goals as goal

pub show-requires-clause-after : goal.show-requires-clause-after
show-requires-clause-after g c =
    subst (λ (city : CityValue). IsLawful (after_change (object_at city.1) c.args.change))
    (sym (ap (λ (p : PosterValue). p.opening) c.in-Ok.ensures.poster)) c.requires.after
