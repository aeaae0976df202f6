use Rattle.std.proofs.Common.{◌≡◌, ℕ, Option, Some, subst}
use Rattle.std.proofs.lemmas.Result.{IfOk-weaker}
use Rattle.city_lines.specs.Told.{whole_model}
use Rattle.city_model.specs.CityMap.{CityValue}
use Rattle.city_server.specs.Answered.{IsTold}
use Rattle.city_server.proofs.telling.Telling.written.Goals as goal

pub returns-in-Some : goal.returns-in-Some
returns-in-Some c =
    let whole : Some (c.in-Some.city.now, c.in-Some.version) ≡ whole_model c.args.form c.args.answer.now.what =
    cc (c.in-Some.ensures, c.in-Some.city-is, c.in-Some.version-is) in
    IfOk-weaker c.model_line.result _ _
    (λ v h. subst (λ (m : Option (CityValue × ℕ)).
    IsTold c.args.self.now.decimals c.args.self.now.line c.args.form c.args.answer.now m v.items) whole
    (h c.args.form))
    c.model_line.ensures
