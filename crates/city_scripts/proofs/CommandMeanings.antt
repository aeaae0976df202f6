-- Trees with a command.
use Rattle.city_scripts.proofs.Prelude.{◌≡◌, ℕ, List, length, true, false, Option, Some, refl, arith, true≢false, None}
use Rattle.city_scripts.proofs.Prelude.{ap, option_and_then, option_map, codes, is_none, is_some, Data, Members, get}
use Rattle.city_scripts.proofs.Prelude.{as_object, Point, Command, Body, is_integral, has_bad_vertex, is_unknown_type}
use Rattle.city_scripts.proofs.Prelude.{is_bad_geometry, is_bad_command, names_bad_vertex, command_of, body_of, kept_if}
use Rattle.city_scripts.proofs.Prelude.{get-integral, as_object-integral, and_then_some}
use Rattle.std.specs.Prelude.{◌||◌}
use Rattle.std.proofs.lemmas.Bool.{not-false, or_parts}
use Rattle.city_model.specs.declared.command.Command.TheVariants.{Put, Add, Set, Expect, Reshape}
use Rattle.city_members.specs.Kept.{kept_at_attributes}
use Rattle.city_doc.specs.object.Faults.{unsupported_name}
use Rattle.city_scripts.specs.CommandFaults.{is_bad_object, is_no_good_form, has_bad_object, has_bad_geometry}
use Rattle.city_scripts.specs.CommandFaults.{names_vertex_beyond, form_names_bad_vertex}
use Rattle.city_tokens.specs.script.CommandForms.{CommandForm, PutForm, AddForm, SetForm, ExpectForm, ReshapeForm}
use Rattle.city_tokens.specs.script.CommandForms.{form_of, object_tree, geometry_tree}
use Rattle.city_tokens.specs.script.Commands.{unrelated_body, command_of_form, names_relations}
use Rattle.city_tokens.proofs.Laws.{owns, form_owns}
use Rattle.city_doc.proofs.Laws.{some_of}
use Rattle.city_doc.proofs.Laws.{body_of-some, geometries_some}

-- the parts of an object of a right form
pub record IsGood (d : Data) : Type 0 where
  pub is_object : is_none (as_object d) ≡ false
  pub unrelated : names_relations d ≡ false
  pub known : is_unknown_type d ≡ false
  pub supported : is_some (unsupported_name d) ≡ false
  pub formed : is_bad_geometry d ≡ false

pub good : (d : Data) → is_bad_object d ≡ false → IsGood d
good d h = grind (arith, or_parts)

-- an object of a right form has a body, if its positions have points
pub body_of-good : (points : List Point) (d : Data) → is_integral d ≡ true → is_bad_object d ≡ false
    → has_bad_vertex (length points) d ≡ false → (b : Body) × (body_of points d ≡ Some b)
body_of-good points d integral h placed =
    let g = good d h in
    body_of-some points d (record {
      integral = integral;
      is_object = grind (arith, g.is_object);
      known = g.known;
      supported = g.supported;
      placed = placed;
    })

-- an object without relations
unrelated_some : (points : List Point) (tree : Data) → is_integral tree ≡ true → is_bad_object tree ≡ false
    → has_bad_vertex (length points) tree ≡ false → (b : Body) × (unrelated_body points tree ≡ Some b)
unrelated_some points tree integral fine placed =
    let r = body_of-good points tree integral fine placed in
    (r.0, rw ((good tree fine).unrelated) r.1)

-- attributes of whole numbers may be kept
attributes_kept : (d : Data) (named : Members) → is_integral d ≡ true
    → option_and_then as_object (get (codes "attributes") d) ≡ Some named
    → kept_if kept_at_attributes named ≡ Some named
attributes_kept d named integral own =
    let r = and_then_some as_object (get (codes "attributes") d) named own in
    let whole = as_object-integral r.0 named (get-integral (codes "attributes") d r.0 integral r.1) r.2 in
    rw whole refl

-- a form without a fault, if its positions have points
record IsGoodForm (count : ℕ) (f : CommandForm) : Type 0 where
  pub read : (has_bad_object (object_tree f) || has_bad_geometry (geometry_tree f)) ≡ false
  pub placed : (names_vertex_beyond count (object_tree f) || names_vertex_beyond count (geometry_tree f)) ≡ false

form_some : (points : List Point) (d : Data) (f : CommandForm) → is_integral d ≡ true → owns d f
    → IsGoodForm (length points) f → (c : Command) × (command_of_form points f ≡ Some c)
form_some points d (PutForm id tree) integral own h =
    let r = unrelated_some points tree (get-integral (codes "object") d tree integral own)
    (or_parts _ _ h.read).0 (or_parts _ _ h.placed).0 in
    (Put id r.0, ap (option_map (Put id)) r.1)
form_some points d (AddForm id tree) integral own h =
    let r = unrelated_some points tree (get-integral (codes "object") d tree integral own)
    (or_parts _ _ h.read).0 (or_parts _ _ h.placed).0 in
    (Add id r.0, ap (option_map (Add id)) r.1)
form_some points d (SetForm id named) integral own h =
    (Set id named, ap (option_map (Set id)) (attributes_kept d named integral own))
form_some points d (ExpectForm id named) integral own h =
    (Expect id named, ap (option_map (Expect id)) (attributes_kept d named integral own))
form_some points d (ReshapeForm id tree) integral own h =
    let gs = geometries_some points (get (codes "geometry") tree)
    (λ g. get-integral (codes "geometry") tree g (rw own integral)) (not-false _ h.placed) in
    (Reshape id gs.0, ap (option_map (Reshape id)) gs.1)
form_some points d f integral own h = some_of (command_of_form points f) refl

some_command : (points : List Point) (d : Data) (o : Option CommandForm) → is_integral d ≡ true
    → ((f : CommandForm) → o ≡ Some f → owns d f) → is_no_good_form o ≡ false
    → form_names_bad_vertex (length points) o ≡ false
    → (c : Command) × (option_and_then (command_of_form points) o ≡ Some c)
some_command points d None integral own fine placed = absurd (true≢false fine)
some_command points d (Some f) integral own fine placed =
    form_some points d f integral (own f refl) (record { read = fine; placed = placed })

pub command_of-some : (points : List Point) (d : Data) → is_integral d ≡ true → is_bad_command d ≡ false
    → names_bad_vertex (length points) d ≡ false → (c : Command) × (command_of points d ≡ Some c)
command_of-some points d integral fine placed = some_command points d (form_of d) integral (form_owns d) fine placed
