use Rattle.city_decimals.proofs.Prelude.{◌-◌, subst, sym, ap, take, length}
use Rattle.city_decimals.proofs.Sections.{behind_front, behind_inside, sections_decoded}
use Rattle.city_decimals.specs.internal.Sections.{HasNumbersAlone}
use Rattle.city_decimals.proofs.in_place.decode_sections.Goals as goal

pub decode_section-end-requires-2-clause-numbers : goal.decode_section-end-requires-2-clause-numbers
decode_section-end-requires-2-clause-numbers c =
    let f = c.args.frame.now in
    let same = behind_front c.args.report c.args.text.now _ _ f c.requires _ _ c.decode_section-lines.ensures
    c.decode_section-end.ensures in
    subst HasNumbersAlone (sym (ap (take (f.end - f.inside)) same)) c.requires.inside_alone

pub decode_section-end-requires-3-clause-numbers : goal.decode_section-end-requires-3-clause-numbers
decode_section-end-requires-3-clause-numbers c =
    let f = c.args.frame.now in
    let same = behind_inside c.args.report c.args.text.now _ _ f c.requires _ _ c.decode_section-lines.ensures
    c.decode_section-end.ensures _ _ c.decode_section-end-2.ensures in
    subst HasNumbersAlone (sym (ap (take (length c.args.text.now - f.behind)) same)) c.requires.behind_alone

pub returns-clause-decoded : goal.returns-clause-decoded
returns-clause-decoded c =
    sections_decoded c.args.report c.args.text.now _ _ c.args.frame.now c.requires _ _ c.decode_section-lines.ensures
    c.decode_section-end.ensures _ _ c.decode_section-end-2.ensures _ _ c.decode_section-end-3.ensures
