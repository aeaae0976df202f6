use Rattle.city_locks.proofs.Prelude.{rules}
use Rattle.std.proofs.Common.{add-one, eq-eqb, drop-cons}
use Rattle.std.proofs.lemmas.List.{set_split}
use Rattle.city_locks.proofs.Among.{with_holder_here}
use Rattle.city_locks.proofs.holders.Holders.grant.Goals as goal

pub returns-then-holder-stamp-clause-ok : goal.returns-then-holder-stamp-clause-ok
returns-then-holder-stamp-clause-ok c = search (rules, add-one, drop-cons, eq-eqb, set_split, with_holder_here)
