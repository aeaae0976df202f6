use Rattle.city_tokens.proofs.Prelude.{refl, ap, token_of}
use Rattle.city_tokens.proofs.Reading.{seen_token, string_value}
use Rattle.city_tokens.proofs.text.read_str.Goals as goal

pub returns-in-String : goal.returns-in-String
returns-in-String c depth =
    seen_token c.in_ok-text.ensures (ap token_of c.in-String.is) refl (string_value depth _ _)
