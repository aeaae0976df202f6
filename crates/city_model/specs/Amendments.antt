-- An edit of one object; its type and its relations stay.
use Rattle.std.specs.Prelude.{ℕ, List, Option, Some, None, Result, Ok, Err, if◌then◌else◌}
use Rattle.serde_json.specs.Data.{Members}
use Rattle.city_model.specs.declared.object.Object.{Object}
use Rattle.city_model.specs.declared.object.Body.{Body}
use Rattle.city_model.specs.declared.object.Geometry.{Geometry}
use Rattle.city_model.specs.declared.command.Cause.{Cause}
use Rattle.city_model.specs.declared.command.Cause.TheVariants.{TypeFixed, BadAttributes}
use Rattle.city_members.specs.Attributes.{attributes_in, with_set, with_unset}
use Rattle.city_model.specs.Relations.{same_type}
use Rattle.city_model.specs.Shells.{body_fault, geometry_fault}

pub data Amendment : Type 0 where
  -- another body
  NewBody : Body → Amendment
  -- attributes with their values
  Setting : Members → Amendment
  -- names of attributes to take out
  Unsetting : List (List ℕ) → Amendment
  -- other geometries
  Reshaping : List Geometry → Amendment

-- the fault of its geometries
abbrev pub amendment_fault : Amendment → Option Cause
amendment_fault (NewBody body) = body_fault body
amendment_fault (Setting named) = None
amendment_fault (Unsetting names) = None
amendment_fault (Reshaping geometry) = geometry_fault geometry

-- the body with other kept members
abbrev pub with_extra : Body → Members → Body
with_extra body extra = record { kind = body.kind; geometry = body.geometry; extra = extra }

-- the body with its kept members made from its attributes, if these are an object or absent
abbrev pub with_extra_by : List ℕ → Body → (Members → Members) → Option Members → Result Body Cause
with_extra_by id body made None = Err (BadAttributes id)
with_extra_by id body made (Some found) = Ok (with_extra body (made found))

-- the body of the object of this id after the amendment, or why it isn't amended
abbrev pub amended_body : List ℕ → Amendment → Body → Result Body Cause
amended_body id (NewBody new) body = if same_type body.kind new.kind then Ok new else Err (TypeFixed id)
amended_body id (Setting named) body = with_extra_by id body (with_set body.extra named) (attributes_in body.extra)
amended_body id (Unsetting names) body = with_extra_by id body (with_unset body.extra names) (attributes_in body.extra)
amended_body id (Reshaping geometry) body =
    Ok (record { kind = body.kind; geometry = geometry; extra = body.extra })

-- an object with these relations
abbrev pub related_as : Object → Result Body Cause → Result Object Cause
related_as o (Ok body) = Ok (record { body = body; parents = o.parents; children = o.children })
related_as o (Err cause) = Err cause

-- the object of this id after the amendment, or why it isn't amended
abbrev pub amended : List ℕ → Amendment → Object → Result Object Cause
amended id amendment o = related_as o (amended_body id amendment o.body)
