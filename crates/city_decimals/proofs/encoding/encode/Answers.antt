use Rattle.city_decimals.proofs.Prelude.{rules, ◌≡◌, ℕ, List, max_depth, document, IsDecoded, Encode}
use Rattle.std.proofs.lemmas.Result.{IfOk-weaker}
use Rattle.city_decimals.proofs.Changes.{IsBehind, alone}
use Rattle.city_decimals.proofs.Texts.{lossless, whole_text, text_read}
use Rattle.city_decimals.proofs.encoding.encode.Goals as goal

pub returns-clause-lossless : goal.returns-clause-lossless
returns-clause-lossless c =
    IfOk-weaker c.transcode_onto.result (λ v. IsBehind max_depth Encode c.args.bytes.now c.in_ok-out.out.items v.items)
    (λ v. (back : List ℕ) → IsDecoded v.items back → document back ≡ document c.args.bytes.now)
    (λ v h. let made = alone max_depth Encode c.args.bytes.now c.in_ok-out.out.items v.items
    c.in_ok-out.ensures.items h in
    lossless c.args.bytes.now made.0.j made.0.value.1 made.0.numbers made.0.shallow v.items made.0.out_is)
    c.transcode_onto.ensures.changed

pub returns-clause-whole : goal.returns-clause-whole
returns-clause-whole c = search (rules, alone, whole_text)

pub returns-clause-read : goal.returns-clause-read
returns-clause-read c = search (rules, alone, text_read)
