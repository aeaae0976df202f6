use Rattle.std.proofs.Common.{◌∙◌, ap, option_copied, subst}
use Rattle.city_journal.specs.LineTexts.{commit_text}
use Rattle.city_journal.specs.Names.{KeyFits}
use Rattle.city_journal.proofs.write_line.commit_line.Goals as goal

pub returns-in-Ok : goal.returns-in-Ok
returns-in-Ok c =
    let e = c.args.entry.now in
    let key = option_copied c.args.key in
    record {
      key = key;
      script = c.in_ok-script.script.items;
      time = c.args.time;
      is_script = c.in_ok-script.ensures;
      named = subst (KeyFits key) c.as_slice.ensures.value (c.in_ok-fits_key.ensures c.if-not-branch.false);
      fits = c.in-Ok.ensures.fits;
      is_line = c.in-Ok.ensures.text
          ∙ ap (λ s. commit_text e.by.now key s c.args.time e.version) c.as_slice-2.ensures.value;
    }
