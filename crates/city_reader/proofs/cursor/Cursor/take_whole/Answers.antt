use Rattle.std.proofs.Common.{◌≡◌, ◌+◌, ◌-◌, length, take, drop, w64, sym, ap, ◌∙◌, subst, arith, rules, take_all}
use Rattle.std.proofs.Common.{length-drop, drop-drop}
use mir.Val.{of_z, to_z}
use Rattle.json.specs.Token.{number}
use Rattle.json.specs.Lex.{token}
use Rattle.json.specs.Word.{head}
use Rattle.city_reader.specs.Cursor.{IsLexeme}
use Rattle.city_reader.specs.Numbers.{IsSmallWhole}
use Rattle.city_reader.proofs.Lexemes.{lex-front}
use Rattle.city_reader.proofs.cursor.Cursor.take_whole.Goals as goal

pub returns : goal.returns
returns c =
    let a = c.self.inside in
    let d = a.text.now in
    let t = c.args.self.now in
    let n = c.in_ok-n in
    let same : to_z w64 (of_z w64 n.n) ≡ n.n = search rules in
    let whole : take (length d - a.at) (drop a.at d) ≡ t =
    take_all (length d - a.at) (drop a.at d) (omega (arith, length-drop a.at d)) ∙ c.self.view_is in
    let read : IsSmallWhole t n.len n.n = rw (← whole, ← c.as_bytes.ensures.value) n.ensures.whole in
    let next : n.next ≡ head (drop n.len t) = rw (← whole, ← c.as_bytes.ensures.value) n.ensures.next in
    let left : drop n.len t ≡ drop (a.at + n.len) d = ap (drop n.len) (sym c.self.view_is) ∙ drop-drop n.len a.at d in
    let one = lex-front t n.len read.1 read.2 in
    (take n.len t, subst (IsLexeme t (token (number (take n.len t)))) left one, rw same read.3, next ∙ ap head left)
