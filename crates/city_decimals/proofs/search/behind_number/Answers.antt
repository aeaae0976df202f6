use Rattle.city_decimals.proofs.Prelude.{rules, refl, ap, ◌∙◌, ◌≡◌, ◌-◌, ◌++◌, ◌∷◌, [], length, drop, take, take_all}
use Rattle.city_decimals.proofs.Prelude.{length-drop, length-take, sym, arith}
use Rattle.std.proofs.lemmas.List.{take-append-drop}
use Rattle.city_decimals.proofs.Copies.{plain_text}
use Rattle.city_decimals.proofs.Needles.{begins_so}
use Rattle.city_decimals.specs.internal.Found.{number_begin}
use Rattle.city_decimals.proofs.search.behind_number.Goals as goal

pub returns : goal.returns
returns c =
    let text = c.args.text.now in
    let n = c.args.at - 1 in
    let encoded = take (length text - n) (drop n text) in
    let end = c.split_at.result.1.now in
    let number = c.split_at.result.0.now in
    let inside = take (length encoded - 6) (drop 6 encoded) in
    let parts : inside ≡ number ++ end = search rules in
    let first : encoded ≡ number_begin ++ inside = begins_so encoded number_begin inside 6 (length encoded - 6) refl
    (search rules) (search rules) refl refl in
    let last : end ≡ (34 ∷ 125 ∷ []) ++ take (length end - 2) (drop 2 end)
    = begins_so end (34 ∷ 125 ∷ []) _ 2 (length end - 2) refl (search rules) (search rules) refl refl in
    let same : encoded ≡ drop n text = take_all (length text - n) (drop n text) (omega (arith, length-drop n text)) in
    record {
      before = take n text;
      number = number;
      is = search rules;
      plain = plain_text number (search rules);
      place = search (rules, arith, length-take);
      text_is = sym (take-append-drop n text) ∙ ap (λ t. take n text ++ t) (sym same ∙ first
          ∙ ap (λ t. number_begin ++ t) (parts ∙ ap (λ t. number ++ t) last));
    }
