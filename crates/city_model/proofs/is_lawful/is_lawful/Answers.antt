use Rattle.city_model.proofs.Prelude.{object_at}
use Rattle.city_model.proofs.Lawfulness.{lawful_by, faultless_of_lawful, misrelated_unlawful}
use Rattle.city_model.proofs.is_lawful.is_lawful.Goals as goal

pub returns-in-Some-clause-only_then : goal.returns-in-Some-clause-only_then
returns-in-Some-clause-only_then c =
    λ lawful. absurd
    (misrelated_unlawful (object_at c.args.city.now.1) c.in-Some.field-0.now c.in-Some.ensures.fault.0 lawful)

pub returns-in_ok-faultless-in-None-clause-lawful : goal.returns-in_ok-faultless-in-None-clause-lawful
returns-in_ok-faultless-in-None-clause-lawful c =
    λ b. lawful_by (object_at c.args.city.now.1) c.in-None.ensures.none (c.in_ok-faultless-in-None.ensures.faultless b)

pub returns-in_ok-faultless-in-None-clause-only_then : goal.returns-in_ok-faultless-in-None-clause-only_then
returns-in_ok-faultless-in-None-clause-only_then c =
    λ lawful. c.in_ok-faultless-in-None.ensures.only_then (faultless_of_lawful (object_at c.args.city.now.1) lawful)
