use Rattle.std.proofs.Common.{◌≡◌, ◌+◌, ◌∷◌, drop, sym, ap, ◌∙◌, arith}
use Rattle.std.proofs.lemmas.List.{drop-drop, length-drop}
use Rattle.json.specs.Word.{head}
use Rattle.json.specs.Lex.{class, operator_lexeme, between, lex}
use Rattle.city_reader.proofs.Lexemes.{operator_some, lex-operator}
use Rattle.city_reader.proofs.cursor.Cursor.skip.Goals as goal

pub invariant_of-self : goal.invariant_of-self
invariant_of-self c =
    let a = c.self.inside in
    let d = a.text.now in
    let kind = ap (λ t. class (head t)) c.self.view_is ∙ c.requires in
    let some = operator_some (drop a.at d) kind in
    record { utf8 = c.self.invariant.utf8; within = omega (arith, some, length-drop a.at d) }

pub returns : goal.returns
returns c =
    let old = c.args.self.now in
    let a = c.self.inside in
    let next : drop 1 old ≡ drop (a.at + 1) a.text.now =
    ap (drop 1) (sym c.self.view_is) ∙ drop-drop 1 a.at a.text.now in
    lex-operator old c.requires ∙ ap (λ t. operator_lexeme (head old) ∷ lex between t) next
