use Rattle.city_reader.proofs.Turns.{number_next, true_next, false_next, null_next}
use Rattle.city_reader.proofs.plain.word.Goals as goal

pub returns-in_ok-word-in-116 : goal.returns-in_ok-word-in-116
returns-in_ok-word-in-116 c p may =
    let passed = c.in_ok-word-in-116.ensures in
    true_next c.args.cursor.now c.word.new.self p passed.1 may passed.0

pub returns-in_ok-word-in-102 : goal.returns-in_ok-word-in-102
returns-in_ok-word-in-102 c p may =
    let passed = c.in_ok-word-in-102.ensures in
    false_next c.args.cursor.now c.word-in-102.new.self p passed.1 may passed.0

pub returns-in_ok-word-in-110 : goal.returns-in_ok-word-in-110
returns-in_ok-word-in-110 c p may =
    let passed = c.in_ok-word-in-110.ensures in
    null_next c.args.cursor.now c.word-in-110.new.self p passed.1 may passed.0

pub returns-in_ok-number-in_default : goal.returns-in_ok-number-in_default
returns-in_ok-number-in_default c p may =
    number_next c.args.cursor.now c.number.new.self _ p c.in_ok-number-in_default.ensures may
