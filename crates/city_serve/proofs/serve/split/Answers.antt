use Rattle.city_serve.proofs.Prelude.{is_newline, document_part, take, length, ap, ◌∙◌, position_or_len, length-take}
use Rattle.std.proofs.lemmas.List.{take_min}
use Rattle.city_serve.proofs.serve.split.Goals as goal

pub returns-clause-document : goal.returns-clause-document
returns-clause-document c =
    let all = c.args.input.items in
    let at = position_or_len is_newline all in
    c.truncate.ensures.items
    ∙ ap (λ xs. take (length xs) all) (c.cut.ensures.document ∙ ap document_part c.as_slice.ensures.value)
    ∙ ap (λ n. take n all) (length-take at all)
    ∙ take_min at all
