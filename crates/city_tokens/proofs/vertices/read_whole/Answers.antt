use Rattle.city_tokens.proofs.Prelude.{◌≡◌, w64, ap, rules, to_z, of_z, number, of_integer}
use Rattle.city_tokens.proofs.Reading.{seen_value, whole_value}
use Rattle.city_tokens.proofs.vertices.read_whole.Goals as goal

pub returns-clause-value : goal.returns-clause-value
returns-clause-value c depth =
    let n = c.in_ok-n.n in
    let same : to_z w64 (of_z w64 n) ≡ n = search rules in
    let taken = c.in_ok-n.ensures in
    seen_value taken.1 (ap (λ x. number (of_integer x)) same)
    (whole_value depth taken.0 n c.whole.new.self taken.2.0 taken.2.1)
