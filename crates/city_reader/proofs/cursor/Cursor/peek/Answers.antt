use Rattle.std.proofs.Common.{◌≡◌, drop, sym, ap, ◌∙◌}
use Rattle.std.proofs.lemmas.List.{drop-drop}
use Rattle.std.specs.List.{prefix_len}
use Rattle.json.specs.Word.{head, is_space}
use Rattle.json.specs.Lex.{between, lex}
use Rattle.city_reader.proofs.Blanks.{lex-blanks, after_blanks}
use Rattle.city_reader.proofs.cursor.Cursor.peek.Goals as goal

pub returns-clause-same : goal.returns-clause-same
returns-clause-same c =
    let a = c.self.inside in
    let d = a.text.now in
    let t = drop a.at d in
    let next : drop c.blanks_end-self-inside.result d ≡ drop (prefix_len is_space t) t =
    rw (c.blanks_end-self-inside.ensures.value, c.as_bytes-bytes.ensures.value)
    (sym (drop-drop (prefix_len is_space t) a.at d)) in
    ap (lex between) next ∙ lex-blanks t ∙ ap (lex between) c.self.view_is

pub returns-clause-end : goal.returns-clause-end
returns-clause-end c e =
    let a = c.self.inside in
    let d = a.text.now in
    let t = drop a.at d in
    let next : drop c.blanks_end-self-inside.result d ≡ drop (prefix_len is_space t) t =
    rw (c.blanks_end-self-inside.ensures.value, c.as_bytes-bytes.ensures.value)
    (sym (drop-drop (prefix_len is_space t) a.at d)) in
    let seen : head (drop c.blanks_end-self-inside.result d) ≡ 32 =
    ap (λ b. head (drop c.blanks_end-self-inside.result b)) (sym c.as_bytes-bytes.ensures.value)
    ∙ sym c.byte_at.ensures.head ∙ e in
    next ∙ after_blanks t (ap head (sym next) ∙ seen)
