use Rattle.std.proofs.Common.{◌≡◌, ◌+◌, ◌-◌, drop, take, length, true, sym, ◌∙◌, arith}
use Rattle.std.proofs.lemmas.List.{drop-drop, take_all, length-drop}
use Rattle.std.specs.Str.{bytes_eq}
use Rattle.json.specs.Word.{ends_word}
use Rattle.city_reader.proofs.Places.{word_at}
use Rattle.city_reader.proofs.cursor.Cursor.word.Goals as goal

pub returns : goal.returns
returns c =
    let a = c.self.inside in
    let d = a.text.now in
    let name = c.args.name.now in
    let whole : take (length d - a.at) (drop a.at d) ≡ drop a.at d =
    take_all (length d - a.at) (drop a.at d) (omega (arith, length-drop a.at d)) in
    let same : bytes_eq name (take (length name) (drop a.at d)) ≡ true =
    rw (← whole, ← c.as_bytes.ensures.value) (sym c.starts_with.ensures.value ∙ c.if-not-starts_with.false) in
    let ended : ends_word (drop (a.at + length name) d) ≡ true =
    rw (← drop-drop (length name) a.at d, ← whole, ← c.as_bytes.ensures.value, ← c.byte_at.ensures.head)
    (sym c.is_delimiter.ensures ∙ c.if-not-is_delimiter.false) in
    (sym c.self.view_is ∙ word_at d name a.at c.self.invariant.within same, ended)
