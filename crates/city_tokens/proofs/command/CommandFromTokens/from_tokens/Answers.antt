use Rattle.city_tokens.proofs.Prelude.{refl, ap, IfSome_then, token_of, string}
use Rattle.city_tokens.proofs.Reading.{seen_token, string_value}
use Rattle.city_tokens.proofs.command.CommandFromTokens.from_tokens.Goals as goal

pub returns-in-String : goal.returns-in-String
returns-in-String c =
    let word = c.in-String.word.now in
    let seen = seen_token c.in_ok-word.ensures (ap token_of c.in-String.is) refl
    (string_value c.args.depth word c.next.new.self) in
    IfSome_then c.word_command.result c.word_command.ensures (λ x is. (string word, seen, is))
