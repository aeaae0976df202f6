use Rattle.std.proofs.Common.{◌≡◌, ◌<◌, drop, true, arith}
use Rattle.json.specs.Word.{ends_word}
use Rattle.city_reader.proofs.SmallNumbers.{alone, needless}
use Rattle.city_reader.proofs.small.stands_alone.Goals as goal

pub returns : goal.returns
returns c h =
    let t = c.args.text.now in
    let n = c.args.count in
    let d = c.requires.digits in
    let some : 0 < n = omega arith in
    let ended : ends_word (drop n t) ≡ true = grind (arith, c.requires.next, c.ends_number.ensures) in
    (some, d.0, alone t n d.0 d.1 some (needless t n d.0 d.1 c.requires.zero some) ended, ended)
