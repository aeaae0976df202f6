use Rattle.std.proofs.Common.{◌≡◌, ◌∙◌, ◌∷◌, ap, subst, sym}
use Rattle.json.specs.Lex.{tokens}
use Rattle.json.specs.Token.{string}
use Rattle.city_journal.specs.Names.{IsAtName}
use Rattle.city_journal.proofs.NameRead.{is_some_ok}
use Rattle.city_journal.proofs.line_parts.name_of.Goals as goal

pub returns-clause-written : goal.returns-clause-written
returns-clause-written c = λ has.
    let t = string has.name ∷ has.rest in
    let all = c.in_ok-reader.ensures.ok ∙ ap tokens c.in-Ok.ensures.cases.0 in
    let passed = c.is_at_name.ensures.written t (subst (λ ts. IsAtName ts t) (sym all) has.at_name) in
    is_some_ok c.next_text.result (λ n. n ≡ has.name) (c.next_text.ensures.written has.name has.rest passed.1)
