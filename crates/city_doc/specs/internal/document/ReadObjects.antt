-- What the trees of a document's objects show, and the city of these objects.
use Rattle.std.specs.Prelude.{ℕ, List, [], ◌∷◌, length, Option, Some, option_and_then, option_map, codes}
use Rattle.std.specs.Ordering.{nat_cmp}
use Rattle.std.specs.Cmp.Lexicographic.{slice_cmp}
use Rattle.std.specs.FinMap.{entries}
use Rattle.std.specs.Map.{lookup}
use Rattle.std.specs.BTreeMap.{is_at}
use Rattle.serde_json.specs.Data.{Data, Members, no_members, member}
use Rattle.serde_json.specs.Find.{get_member, as_object}
use Rattle.city_model.specs.declared.frame.Frame.{Frame}
use Rattle.city_model.specs.declared.object.Point.{Point}
use Rattle.city_model.specs.CityMap.{CityMap, CityValue, Entries}
use Rattle.city_members.specs.Members.{without}
use Rattle.city_doc.specs.declared.document.indexed.ReadObject.{ReadObject}
use Rattle.city_doc.specs.document.AllFaults.{is_misplaced}
use Rattle.city_doc.specs.document.CityFaults.{lenient_object_of}
use Rattle.city_doc.specs.object.Faults.{is_unknown_type, unsupported_name, is_bad_geometry, has_bad_list}
use Rattle.city_tokens.specs.document.FramesOfRest.{frame_of_rest}

abbrev pub read_of : List Point → Data → ReadObject
read_of points d = record {
  has_unknown_type = is_unknown_type d;
  unsupported = unsupported_name d;
  has_bad_geometry = is_bad_geometry d;
  is_misplaced = is_misplaced (length points) d;
  has_bad_list = has_bad_list d;
  object = lenient_object_of points d;
}

-- ids, and what the trees of their objects show
abbrev pub ReadEntries : Type 0
ReadEntries = List (List ℕ × ReadObject)

abbrev pub read_entries : List Point → Members → ReadEntries
read_entries points no_members = []
read_entries points (member id d ms) = (id, read_of points d) ∷ read_entries points ms

-- the object of an id, if it can be built
abbrev pub built_in : ReadEntries → CityMap
built_in es id = option_and_then (λ r. r.object) (lookup (is_at (slice_cmp nat_cmp id)) es)

-- all objects, if each can be built
abbrev pub all_built : ReadEntries → Option Entries
all_built [] = Some []
all_built (e ∷ es) = option_and_then (λ o. option_map (λ os. (e.0, o) ∷ os) (all_built es)) e.1.object

-- ---- the city

-- the objects of the top, and its other members
abbrev pub objects_among : Members → Option (Members × Members)
objects_among top = option_map (λ ms. (ms, without (codes "CityObjects") top))
    (option_and_then as_object (get_member (codes "CityObjects") top))

abbrev pub objects_taken : Data → Option (Members × Members)
objects_taken d = option_and_then objects_among (as_object d)

-- a city's frame, and its objects as they are listed
abbrev pub listed : CityValue → Frame × Entries
listed c = (c.0, entries c.1)

abbrev pub city_from : ReadEntries → Members → Option (Frame × Entries)
city_from es rest = option_and_then (λ os. option_map (λ frame. (frame, os)) (frame_of_rest rest)) (all_built es)
