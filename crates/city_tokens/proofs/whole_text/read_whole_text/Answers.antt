use Rattle.city_tokens.proofs.Prelude.{◌≤◌, length, ap, arith, value}
use Rattle.json.specs.Lex.{tokens}
use Rattle.city_tokens.specs.tree.Texts.{max_text}
use Rattle.city_tokens.proofs.Conversions.{whole_read}
use Rattle.city_tokens.proofs.whole_text.read_whole_text.Goals as goal

pub returns : goal.returns
returns g c =
    let read = c.in_ok-read.ensures in
    let short : length c.args.bytes.now ≤ max_text = grind arith in
    let text = c.in-Ok.ensures.cases in
    let v = rw (ap tokens text.0) at read.1 in
    (read.0, (short, (text.1, whole_read (value 127 (tokens c.args.bytes.now)) read.0 v.read)), v.whole, read.2)
