use Rattle.city_texts.proofs.Prelude.{◌≡◌, Some, arith, read_key}
use Rattle.city_tokens.proofs.Reading.{member_shorter}
use Rattle.city_texts.proofs.part.Tuple2IdUnresolvedObjectPart.next_part.Goals as goal

pub returns-clause-shorter : goal.returns-clause-shorter
returns-clause-shorter c =
    let named : read_key c.args.reader.now ≡ Some (Some c.in_ok-name.name.now, c.next_key.new.self) = grind arith in
    member_shorter _ named c.in_ok-object.ensures.1
