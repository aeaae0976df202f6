-- The city of a document.
use Rattle.std.specs.Prelude.{◌≡◌, ◌&&◌, ℕ, List, [], ◌∷◌, Bool, true, Option, Some, None, option_and_then}
use Rattle.std.specs.Prelude.{option_map, codes, if◌then◌else◌}
use Rattle.std.specs.FinMap.{from_entries}
use Rattle.serde_json.specs.Data.{Data, Members, no_members, member}
use Rattle.serde_json.specs.Find.{get, as_object}
use Rattle.city_model.specs.declared.object.Point.{Point}
use Rattle.city_model.specs.CityMap.{Objects, CityValue, Entries, object_at}
use Rattle.city_model.specs.Relations.{IsLawful}
use Rattle.city_members.specs.Integral.{is_integral}
use Rattle.city_tokens.specs.object.Bodies.{object_of}
use Rattle.city_tokens.specs.tree.Members.{is_text}
use Rattle.city_tokens.specs.document.Frames.{frame_of}
use Rattle.city_tokens.specs.tree.Steps.{◌>>=◌}
use Rattle.city_tokens.specs.tree.Texts.{IsText, HasTree}
use Rattle.city_tokens.specs.tree.Triples.{points_of}

abbrev pub is_city_json : Data → Bool
is_city_json d =
    is_text (codes "CityJSON") (get (codes "type") d) && is_text (codes "2.0") (get (codes "version") d)

-- the points of the vertices
abbrev pub points_in : Data → Option (List Point)
points_in d = option_and_then points_of (get (codes "vertices") d)

abbrev pub entries_of : List Point → Members → Option Entries
entries_of points no_members = Some []
entries_of points (member id d ms) = do
  object ← object_of points d
  option_map (λ es. (id, object) ∷ es) (entries_of points ms)

abbrev pub entries_in : List Point → Data → Option Entries
entries_in points d = do
  objects ← option_and_then as_object (get (codes "CityObjects") d)
  entries_of points objects

-- the objects by their ids; of two of one id the first counts
abbrev pub objects_of : Entries → Objects
objects_of entries = from_entries entries

-- the city of a tree with the form of a document; whether the city is lawful is judged apart
abbrev pub city_of : Data → Option CityValue
city_of d =
    if is_city_json d then (do
      points ← points_in d
      entries ← entries_in points d
      option_map (λ frame. (frame, objects_of entries)) (frame_of d))
    else None

-- the text, however long, is JSON, and its tree stands for this city; `IsAdmitted` judges its length too
abbrev pub IsTextOfCity : List ℕ → CityValue → Type 0
IsTextOfCity text city = (d : Data) × IsText text d × (city_of d ≡ Some city)

-- the text isn't too long, its numbers are whole, and it stands for this lawful city
abbrev pub IsAdmitted : List ℕ → CityValue → Type 0
IsAdmitted text city =
    (d : Data) × HasTree text d × (is_integral d ≡ true) × (city_of d ≡ Some city) × IsLawful (object_at city.1)
