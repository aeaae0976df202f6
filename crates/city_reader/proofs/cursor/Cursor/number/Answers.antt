use Rattle.std.proofs.Common.{drop, Some, sym, subst}
use Rattle.json.specs.Token.{number}
use Rattle.json.specs.Lex.{token}
use Rattle.city_reader.specs.Cursor.{IsLexeme}
use Rattle.city_reader.specs.Numbers.{AfterWholeNumber}
use Rattle.city_reader.proofs.Places.{number_at}
use Rattle.city_reader.proofs.cursor.Cursor.number.Goals as goal

pub returns : goal.returns
returns c =
    let a = c.self.inside in
    let d = a.text.now in
    let end = c.in_ok-end.end in
    let found : AfterWholeNumber d a.at (Some end) = rw (← c.as_bytes-2.ensures.value) c.in_ok-end.ensures in
    let read = number_at d a.at end found.0 found.2 found.3 in
    subst (λ t. IsLexeme t (token (number c.range.result.now)) (drop end d)) c.self.view_is
    (subst (λ s. IsLexeme (drop a.at d) (token (number s)) (drop end d)) (sym c.range.ensures.value) read)
