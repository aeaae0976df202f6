use Rattle.city_serve.proofs.Prelude.{inr, subst}
use Rattle.city_decimals.specs.declared.fault.DecimalsFault.{DecimalsFault}
use Rattle.city_decimals.specs.Texts.{IsDecimalsFault}
use Rattle.city_serve.proofs.Given.{refused_whole}
use Rattle.city_serve.proofs.decimals.encode_text.Goals as goal

pub returns-in-Err-NotJson-clause-whole : goal.returns-in-Err-NotJson-clause-whole
returns-in-Err-NotJson-clause-whole c =
    let none = subst (IsDecimalsFault c.as_slice.result.now) c.in-Err-NotJson.field-0-is c.in-Err-NotJson.ensures.fault
    in
    refused_whole c.args.text.now.bytes.items
    (inr (subst (λ t. IsDecimalsFault t DecimalsFault.NotJson) c.as_slice.ensures.value none))
