use Rattle.city_model.proofs.Prelude.{rules}
use Rattle.city_model.proofs.Lawfulness.{all_faultless, faultless_by, faultless_all, faulty_entry}
use Rattle.city_model.proofs.is_lawful.is_faultless.Goals as goal

pub returns-then-faulty-clause-only_then : goal.returns-then-faulty-clause-only_then
returns-then-faulty-clause-only_then c = search (rules, faulty_entry, faultless_all)

pub returns-clause-faultless : goal.returns-clause-faultless
returns-clause-faultless c = search (rules, faultless_by, all_faultless)
