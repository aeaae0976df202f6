-- The faults of a reshape. Its geometry stands in its own tree.
use Rattle.city_scripts.proofs.Prelude.{◌≡◌, ℕ, List, Bool, Some, sym, ap, ◌∙◌, Data, is_bad_command, is_bad_geometry}
use Rattle.city_scripts.proofs.Prelude.{has_bad_vertex, names_bad_vertex}
use Rattle.city_scripts.specs.CommandFaults.{is_no_good_form, form_names_bad_vertex}
use Rattle.city_tokens.specs.script.CommandForms.{ReshapeForm, form_of}
use Rattle.city_tokens.proofs.Laws.{form_owns}

module _ (d tree : Data) (id : List ℕ) (form : form_of d ≡ Some (ReshapeForm id tree)) where
  pub reshape_bad : (bad : Bool) → bad ≡ is_bad_geometry d → bad ≡ is_bad_command d
  reshape_bad bad is =
      is ∙ sym (ap is_no_good_form form ∙ ap is_bad_geometry (form_owns d (ReshapeForm id tree) form))

  pub reshape_misplaced : (count : ℕ) (bad : Bool) → bad ≡ has_bad_vertex count d → bad ≡ names_bad_vertex count d
  reshape_misplaced count bad is =
      is ∙ sym (ap (form_names_bad_vertex count) form
      ∙ ap (has_bad_vertex count) (form_owns d (ReshapeForm id tree) form))
