-- Objects in their order.
use Rattle.std.specs.Prelude.{List, [], ◌∷◌, flat_map}
use Rattle.serde_json.specs.Data.{Members, no_members, member}
use Rattle.city_model.specs.declared.object.Point.{Point}
use Rattle.city_model.specs.CityMap.{Entries}
use Rattle.city_writer.specs.Pool.{object_points}
use Rattle.city_writer.specs.object.Canonical.{object_data}

-- their members as they are written, each under its id
abbrev pub in_turn : List Point → Entries → Members
in_turn pool [] = no_members
in_turn pool (e ∷ es) = member e.0 (object_data pool e.1) (in_turn pool es)

-- their points, as they are met
abbrev pub entry_points : Entries → List Point
entry_points es = flat_map (λ e. object_points e.1) es
