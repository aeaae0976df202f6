use Rattle.city_lines.proofs.Prelude.{◌∙◌, ◌∷◌, ◌++◌, ap, option_map, codes, key, line_text}
use Rattle.city_lines.proofs.Begun.{line_ended}
use Rattle.city_lines.proofs.error.append_error.Goals as goal

pub returns : goal.returns
returns c =
    let e = c.args.error.now in
    let bytes = c.args.bytes.items in
    let told = c.in_ok-write_fault.ensures.told in (
      told.0,
      c.in_ok-written.ensures
          ∙ line_ended bytes (option_map (λ h. h.now) c.hand_of.result) e.tag c.in_ok-out.out c.write_fault.new.out _
          c.in_ok-out.ensures
          c.in_ok-write_fault.ensures.before told.1
          ∙ ap (λ h. bytes ++ line_text h e.tag (key (codes "error") ∷ told.0)) c.hand_of.ensures,
    )
