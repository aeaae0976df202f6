use Rattle.city_doc.proofs.Prelude.{[], ◌∷◌, ◌++◌, refl, sym, ap, ◌∙◌, append_assoc, append-nil, has_written_of_eq}
use Rattle.city_doc.proofs.Prelude.{encode_utf8, escape}
use Rattle.std.proofs.Output.{has_written_append}
use Rattle.std.proofs.lemmas.Grind.{flat_map-append}
use Rattle.std.proofs.lemmas.List.{nil_from_length}
use Rattle.json.specs.Print.{escape_byte}
use Rattle.city_doc.proofs.fault.quoted.QuotedDisplay.fmt.Goals as goal

pub loop-c-preserved : goal.loop-c-preserved
loop-c-preserved g c = λ plain.
    let now = rw c.in-Some.ensures.steps.0 at (c.loop-c.invariant plain) in
    let char = encode_utf8 c.in-Some.c in (
      now.0 ++ escape char,
      has_written_append _ _ _ _ _ _ now.1 (c.in_ok-write_escaped.ensures now.1.plain refl),
      simp append_assoc (rw (flat_map-append escape_byte char) at now.2),
    )

pub returns-clause-writes : goal.returns-clause-writes
returns-clause-writes g c = λ plain ok.
    let now = rw (nil_from_length _ c.in-None.ensures.steps.0.0) at (c.loop-c.invariant plain) in
    has_written_of_eq _ _ _ _ _ (ap (λ l. l ++ 34 ∷ []) (sym (append-nil now.0) ∙ now.2))
    (has_written_append _ _ _ _ _ _ now.1 (c.write_str-2.ensures.writes now.1.plain ok))
