use Rattle.city_texts.proofs.Prelude.{IfSome_then}
use Rattle.city_tokens.proofs.Reading.{value_shorter}
use Rattle.city_texts.proofs.part.ScriptPart.next_part.Goals as goal

pub returns-clause-shorter : goal.returns-clause-shorter
returns-clause-shorter c =
    IfSome_then c.from_tokens.result c.from_tokens.ensures (λ s h. value_shorter _ _ _ h.0 h.1)
