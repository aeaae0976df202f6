use Rattle.city_decimals.proofs.Prelude.{sym, subst, IfSome, IsCopied, changed}
use Rattle.city_decimals.proofs.Copied.{number_copied, some_weaker}
use Rattle.city_decimals.proofs.CompactForms.{number_encoded}
use Rattle.city_decimals.proofs.compact.copy_number.Goals as goal

pub returns-in-Encode-clause-copied : goal.returns-in-Encode-clause-copied
returns-in-Encode-clause-copied c =
    let a = c.args.copier.now in
    let b = c.encode_number.new.copier in
    subst (λ w. IfSome c.encode_number.result (λ _. IsCopied (changed w) c.args.depth a b)) (sym c.in-Encode.is)
    (some_weaker c.encode_number.result (λ _ n. number_encoded c.args.depth a b n) c.encode_number.ensures.number)

pub returns-in-Decode-clause-copied : goal.returns-in-Decode-clause-copied
returns-in-Decode-clause-copied c =
    let a = c.args.copier.now in
    let b = c.pass_number.new.self in
    subst (λ w. IfSome c.pass_number.result (λ _. IsCopied (changed w) c.args.depth a b)) (sym c.in-Decode.is)
    (some_weaker c.pass_number.result (λ _ n. number_copied c.args.depth a b n) c.pass_number.ensures.moves)
