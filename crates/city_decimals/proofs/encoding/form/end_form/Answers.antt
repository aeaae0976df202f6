use Rattle.city_decimals.proofs.Prelude.{common_steps, ◌≡◌, List, [], ◌∷◌, ◌++◌, sym, ap, ◌∙◌, arith, codes}
use Rattle.city_decimals.proofs.Prelude.{on_ok_weaker, decimal_digit, Token, json_tokens, tokens_after}
use Rattle.json.specs.Token.{end_object, key}
use Rattle.city_decimals.specs.Shapes.{three}
use Rattle.city_decimals.proofs.encoding.form.end_form.Goals as goal

flat : (a t u : List Token) (k l e : Token)
    → ((((a ++ k ∷ []) ++ t) ++ l ∷ []) ++ u) ++ e ∷ [] ≡ a ++ k ∷ (t ++ l ∷ (u ++ e ∷ []))
flat a t u k l e = grind (arith, common_steps)

pub returns-in_ok-write_three-in-Framed-2-clause-tokens : goal.returns-in_ok-write_three-in-Framed-2-clause-tokens
returns-in_ok-write_three-in-Framed-2-clause-tokens c =
    let ones = json_tokens (three (codes "1")) in
    let nones = json_tokens (three (codes "0")) in
    let a = c.args.out.now.tokens in
    let first = c.in_ok-write_three-in-Framed.ensures.tokens
    ∙ ap (λ s. c.key.new.self.tokens ++ json_tokens (three s)) (decimal_digit 1 (omega arith))
    ∙ ap (λ ts. ts ++ ones) c.in_ok-key-in-Framed.ensures.ok in
    let second = c.in_ok-write_three-in-Framed-2.ensures.tokens
    ∙ ap (λ s. c.key-in-Framed.new.self.tokens ++ json_tokens (three s)) (decimal_digit 0 (omega arith))
    ∙ ap (λ ts. ts ++ nones) (c.in_ok-key-in-Framed-2.ensures.ok
    ∙ ap (λ ts. ts ++ key (codes "translate") ∷ []) first) in
    on_ok_weaker c.end_object.result (λ e. e ∙ ap (λ ts. ts ++ end_object ∷ []) second
    ∙ flat a ones nones (key (codes "scale")) (key (codes "translate")) end_object
    ∙ ap (λ w. a ++ tokens_after w) (sym c.in-Framed.is)) c.end_object.ensures.ok
