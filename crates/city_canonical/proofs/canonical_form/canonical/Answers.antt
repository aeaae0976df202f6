use Rattle.city_canonical.proofs.Prelude.{subst, ◌∙◌, DocumentFault, IsTextOfCity, IsDecoded, IsDecimalsFault}
use Rattle.std.proofs.lemmas.Result.{err_from_is_err_and}
use Rattle.city_canonical.proofs.Texts.{same_text, read_fault, decode_fault}
use Rattle.city_canonical.proofs.canonical_form.canonical.Goals as goal

pub returns-clause-same : goal.returns-clause-same
returns-clause-same c =
    let city = c.in_ok-city.city in
    let admitted = c.in_ok-city.ensures.admitted in
    let read = subst (λ t. IsTextOfCity t city) c.as_slice.ensures.value (admitted.0, admitted.1.1, admitted.3) in
    let decoded = subst (λ t. IsDecoded t c.in_ok-out.out.items) c.as_slice-2.ensures.value c.in_ok-out.ensures.decoded
    in
    same_text c.args.bytes.now c.in_ok-encoded.encoded.items c.in_ok-written.written.items c.in_ok-out.out.items city
    c.in_ok-encoded.ensures.encoded read c.in_ok-written.ensures.tokens c.in_ok-written.ensures.in_range decoded
    c.in_ok-out.ensures.utf8

pub returns-clause-canonical : goal.returns-clause-canonical
returns-clause-canonical c =
    let city = c.in_ok-city.city in
    let admitted = c.in_ok-city.ensures.admitted in
    let read = subst (λ t. IsTextOfCity t city) c.as_slice.ensures.value (admitted.0, admitted.1.1, admitted.3) in
    let text = c.as_slice-2.ensures.value ∙ c.in_ok-written.ensures.text in
    let decoded = subst (λ t. IsDecoded t c.in_ok-out.out.items) text c.in_ok-out.ensures.decoded in
    (c.in_ok-encoded.encoded.items, city, c.in_ok-encoded.ensures.encoded, read, decoded)

pub returns-in_err-city-clause-fault : goal.returns-in_err-city-clause-fault
returns-in_err-city-clause-fault c =
    let p = err_from_is_err_and c.from_residual-in_err-city.result c.from_residual-in_err-city.ensures.1 in
    let f = c.in_err-city.field-0.0 in
    let text = c.in_ok-encoded.encoded.items in
    rw (p.1, p.2)
    (read_fault c.args.bytes.now text f c.in_ok-encoded.ensures.encoded
    (subst (λ t. DocumentFault t f) c.as_slice.ensures.value c.in_err-city.ensures.fault))

pub returns-in_err-out-clause-fault : goal.returns-in_err-out-clause-fault
returns-in_err-out-clause-fault c =
    let p = err_from_is_err_and c.from_residual-in_err-out.result c.from_residual-in_err-out.ensures.1 in
    let city = c.in_ok-city.city in
    let f = c.in_err-out.field-0.0 in
    let written = c.in_ok-written.written.items in
    let admitted = c.in_ok-city.ensures.admitted in
    let stands = c.in_ok-written.ensures.rewritten c.as_slice.result.now (admitted.0, admitted.1.1, admitted.3) in
    rw (p.1, p.2)
    (decode_fault c.args.bytes.now written city f stands c.in_ok-written.ensures.tokens
    (subst (λ t. IsDecimalsFault t f) c.as_slice-2.ensures.value c.in_err-out.ensures.fault))
