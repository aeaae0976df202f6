use Rattle.city_diagnostics.proofs.Prelude.{◌≡◌, ◌∙◌, ◌∷◌, ◌++◌, [], ℕ, List, ap, arith, Data, object, view-Object}
use Rattle.city_diagnostics.proofs.Prelude.{compact_text, has_float, false, string_bytes, subst}
use Rattle.city_diagnostics.proofs.OneLine.{text_stays}
use Rattle.city_diagnostics.proofs.line.line_of.Goals as goal

pub returns : goal.returns
returns c =
    let line = string_bytes c.in_ok-line.line in
    let seen = view-Object c.into_members.result ∙ ap object c.into_members.ensures.members in
    let P : Data → Type 0 = λ d. has_float d ≡ false → line ≡ compact_text d in
    let text = subst P seen c.in_ok-line.ensures.text c.into_members.ensures.no_float in
    let pushed : string_bytes c.push_str.new.self ≡ line ++ 10 ∷ [] = grind arith in
    record {
      names_ascend = c.into_members.ensures.ordered;
      has_no_float = c.into_members.ensures.no_float;
      has_no_newline = text_stays (object c.args.details);
      has_its_text = pushed ∙ ap (λ (s : List ℕ). s ++ 10 ∷ []) text;
    }
