use Rattle.city_details.proofs.Prelude.{◌≡◌, ◌∙◌, ap, codes, subst, sym, false, string_bytes, Data, Members, object}
use Rattle.city_details.proofs.Prelude.{compact_text, has_float, view-Object}
use Rattle.city_details.proofs.Words.{has_message, has_cure}
use Rattle.city_details.specs.Why.{HasWords}
use Rattle.city_details.proofs.refusal_text.text_of.Goals as goal

pub returns : goal.returns
returns c =
    let ms = c.in_ok-details.details in
    let text = string_bytes c.in_ok-text.text in
    let seen = view-Object c.into_members.result ∙ ap object c.into_members.ensures.members in
    let P : Data → Type 0 = λ d. has_float d ≡ false → text ≡ compact_text d in (
      ms,
      record {
        message =
            subst (λ (m : Members). HasWords (codes "message") (object m)) (sym c.in_ok-details.ensures)
            (has_message (string_bytes c.in_ok-placed.placed.message) c.in_ok-placed.placed.cure.now
            c.in_ok-placed.placed.details);
        cure =
            subst (λ (m : Members). HasWords (codes "cure") (object m)) (sym c.in_ok-details.ensures)
            (has_cure (string_bytes c.in_ok-placed.placed.message) c.in_ok-placed.placed.cure.now
            c.in_ok-placed.placed.details);
        names_ascend = c.into_members.ensures.ordered;
        has_no_float = c.into_members.ensures.no_float;
        has_its_text = subst P seen c.in_ok-text.ensures.text c.into_members.ensures.no_float;
      },
    )
