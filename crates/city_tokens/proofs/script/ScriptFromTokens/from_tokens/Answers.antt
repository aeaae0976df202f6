use Rattle.city_tokens.proofs.Prelude.{None, refl, IfSome_then, object, no_members}
use Rattle.city_tokens.proofs.script.ScriptFromTokens.from_tokens.Goals as goal

pub returns : goal.returns
returns c =
    let read = c.in_ok-parts.ensures in
    let begun = read.2 (None, None, None, refl, tt, tt, c.new.ensures) in
    IfSome_then c.script_of.result c.script_of.ensures (λ s made. (object read.0, read.1, made read.0 no_members begun))
