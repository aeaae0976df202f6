use Rattle.city_decimals.proofs.Prelude.{rules, take_all, length-drop, drop-append-le}
use Rattle.std.proofs.lemmas.List.{drop_all}
use Rattle.city_decimals.proofs.Copies.{whole_written}
use Rattle.city_decimals.proofs.copier.Copier.finish.Goals as goal

pub returns-clause-ok : goal.returns-clause-ok
returns-clause-ok c = search (rules, drop-append-le, take_all, length-drop, drop_all, whole_written)
