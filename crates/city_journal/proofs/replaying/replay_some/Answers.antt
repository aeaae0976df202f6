use Rattle.std.proofs.Common.{rules, ◌≡◌, ◌∙◌, sym, subst, length, arith, take_all}
use Rattle.std.proofs.lemmas.List.{length-map}
use Rattle.city_model.specs.Relations.{IsLawful}
use Rattle.city_journal.proofs.replaying.replay_some.Goals as goal

pub returns-in-None-clause-leads : goal.returns-in-None-clause-leads
returns-in-None-clause-leads c =
    let same : length c.in-Ok.scripts ≡ length c.args.commits.now = search rules in
    record {
      text = c.in_ok-text.text.items;
      is_array = c.in_ok-text.ensures;
      read = c.in-Ok.scripts;
      is_read = rw c.as_slice.ensures.value at c.in-Ok.ensures.read;
      each_read = same ∙ sym (length-map c.args.commits.now _);
      ends = c.in_ok-finished.finished.ends;
      in_turn = c.in_ok-finished.ensures.in_turn;
      serial = c.in_ok-finished.ensures.fits;
      each_ended = c.in_ok-finished.ensures.each_once;
      committed = rw c.as_slice-2.ensures at c.in-None.ensures;
      leads = c.in_ok-finished.ensures.model;
    }

pub returns-in-None-clause-lawful : goal.returns-in-None-clause-lawful
returns-in-None-clause-lawful c =
    let ends = c.in_ok-finished.finished.ends in
    let all = rw (take_all (length ends) ends (omega arith)) at (c.in_ok-finished.ensures.lawful (length ends)) in
    subst IsLawful (sym c.in_ok-finished.ensures.model) all
