use Rattle.city_scripts.proofs.Prelude.{map, view, sym, ◌∙◌}
use Rattle.std.proofs.lemmas.List.{length-map}
use Rattle.city_scripts.proofs.Told.{all_told}
use Rattle.city_scripts.proofs.all_faults.item_faults.Goals as goal

pub returns : goal.returns
returns c =
    let ds = map view c.args.items.items in
    let many = c.in_ok-tell_too_many.ensures ds (length-map _ _ ∙ sym c.args.items.ok.0 ∙ sym c.len-count.ensures)
    (rw c.as_slice.ensures.value c.in_ok-forms.ensures.forms) in
    rw (
      c.in_ok-tell_each-2.ensures,
      c.in_ok-tell_each.ensures,
      many,
      c.in_ok-forms.ensures.told,
      c.new-faults.ensures.items,
    )
    (rw (c.as_slice-3.ensures.value, c.as_slice-2.ensures.value, c.in_ok-forms.ensures.forms) (all_told ds))
