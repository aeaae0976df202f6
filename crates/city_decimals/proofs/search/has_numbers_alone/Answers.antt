use Rattle.city_decimals.proofs.Prelude.{rules, ◌++◌, ◌∷◌, ◌∙◌, [], ap, sym, refl, arith, Some, None}
use Rattle.memchr.specs.Find.{FindsNeedle}
use Rattle.city_decimals.proofs.Needles.{lacks_before, lacks_found}
use Rattle.city_decimals.specs.internal.Needles.{tag_name}
use Rattle.city_decimals.specs.internal.Found.{number_begin}
use Rattle.city_decimals.proofs.search.has_numbers_alone.Goals as goal

pub loop-at-preserved : goal.loop-at-preserved
loop-at-preserved c =
    let l = c.loop-at in
    let n = c.in-Some-behind_number.ensures in
    let found : FindsNeedle l.rest.now tag_name 0 (Some c.in-Some.at) = search rules in
    let lacks = lacks_before l.rest.now tag_name c.in-Some.at found (omega arith) n.before
    (number_begin ++ (n.number ++ 34 ∷ 125 ∷ c.in-Some-behind_number.behind.now)) n.text_is (omega (arith, n.place)) in
    λ p are is. l.invariant ((n.before, n.number) ∷ p.0, p.1) (lacks, n.is, n.plain, are)
    (ap (λ t. n.before ++ (number_begin ++ (n.number ++ 34 ∷ 125 ∷ t))) is ∙ sym n.text_is)

pub returns : goal.returns
returns c =
    let l = c.loop-at in
    let none : FindsNeedle l.rest.now tag_name 0 None = search rules in
    λ e. l.invariant ([], l.rest.now) (lacks_found l.rest.now tag_name None none refl) refl
