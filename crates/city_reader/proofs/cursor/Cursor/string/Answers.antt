use Rattle.std.proofs.Common.{◌≡◌, ℕ, List, ◌+◌, drop, get_or, sym, ap, ◌∙◌, subst, arith}
use Rattle.std.proofs.lemmas.Str.{IsCharBoundary-after_ascii}
use Rattle.std.specs.List.{prefix_len}
use Rattle.json.specs.Token.{string}
use Rattle.json.specs.Word.{head}
use Rattle.json.specs.Lex.{token}
use Rattle.json.specs.Run.{is_plain}
use Rattle.json.specs.Written.{PlainBetween}
use Rattle.city_reader.specs.Cursor.{IsLexeme}
use Rattle.city_reader.proofs.Lanes.{plain_run}
use Rattle.city_reader.proofs.Places.{byte_at, head_at, string_at}
use Rattle.city_reader.proofs.cursor.Cursor.string.Goals as goal

pub range-requires-clause-start_boundary : goal.range-requires-clause-start_boundary
range-requires-clause-start_boundary c some =
    let a = c.self.inside in
    let first : get_or a.text.now a.at 32 ≡ 34 = sym (head_at a.text.now a.at) ∙ ap head c.self.view_is ∙ c.requires in
    let q = byte_at a.text.now a.at 34 (omega arith) first in
    IsCharBoundary-after_ascii a.text.now a.at c.self.invariant.utf8 q.within (omega (arith, q.byte))

pub returns : goal.returns
returns c =
    let a = c.self.inside in
    let d = a.text.now in
    let stop = c.plain_end-stop in
    let first : get_or d a.at 32 ≡ 34 = sym (head_at d a.at) ∙ ap head c.self.view_is ∙ c.requires in
    let last : get_or d stop.result 32 ≡ 34 =
    omega (arith, c.byte_at.ensures.value, ap (λ t. get_or t stop.result 32) c.as_bytes-2.ensures.value) in
    let same = ap (λ (t : List ℕ). a.at + 1 + prefix_len is_plain (drop (a.at + 1) t)) c.as_bytes.ensures.value in
    let end = stop.ensures.value ∙ same in
    let plain = subst (PlainBetween d (a.at + 1)) (sym end) (plain_run d (a.at + 1)) in
    let found = string_at d a.at stop.result first last (omega (arith, end)) plain in
    subst (λ t. IsLexeme t (token (string c.range.result.now)) (drop (stop.result + 1) d)) c.self.view_is
    (subst (λ s. IsLexeme (drop a.at d) (token (string s)) (drop (stop.result + 1) d))
    (sym c.range.ensures.value) found)
