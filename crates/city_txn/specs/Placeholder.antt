-- The object that keeps the room of an absent one.
use Rattle.std.specs.Prelude.{[]}
use Rattle.serde_json.specs.Data.{no_members}
use Rattle.city_model.specs.declared.object.Object.{Object}
use Rattle.city_model.specs.declared.object_type.ObjectType.TheVariants.{GenericCityObject}

-- it stands in the city at a reserved id without object
abbrev pub placeholder : Object
placeholder = record {
  body = record { kind = GenericCityObject; geometry = []; extra = no_members };
  parents = [];
  children = [];
}
