-- The top of a document: its first wrong member (CityJSON 2.0, sections 2 and 4).
use Rattle.std.specs.Prelude.{◌&&◌, ℕ, List, [], ◌∷◌, Bool, true, false, Option, Some, None, option_and_then, codes}
use Rattle.std.specs.Prelude.{is_some, if◌then◌else◌}
use Rattle.serde_json.specs.Data.{Data, Members, no_members, member}
use Rattle.serde_json.specs.Find.{get, as_object}
use Rattle.city_members.specs.Kept.{is_empty_object_or_absent}
use Rattle.city_tokens.specs.tree.Members.{is_text}
use Rattle.city_tokens.specs.tree.Triples.{are_triples}
use Rattle.city_tokens.specs.document.Frames.{triple_at}

abbrev pub has_triple : List ℕ → Data → Bool
has_triple name d = is_some (triple_at name d)

abbrev pub is_transform : Option Data → Bool
is_transform None = false
is_transform (Some d) = has_triple (codes "scale") d && has_triple (codes "translate") d

abbrev pub all_objects : Members → Bool
all_objects no_members = true
all_objects (member id d ms) = is_some (as_object d) && all_objects ms

abbrev pub are_all_objects : Option Members → Bool
are_all_objects None = false
are_all_objects (Some ms) = all_objects ms

abbrev pub are_objects : Option Data → Bool
are_objects o = are_all_objects (option_and_then as_object o)

abbrev pub are_vertices : Option Data → Bool
are_vertices None = false
are_vertices (Some d) = are_triples d

-- the judged members, in their order, and whether each is right
abbrev pub judged : Data → List (List ℕ × Bool)
judged d =
    (codes "type", is_text (codes "CityJSON") (get (codes "type") d))
    ∷ (codes "version", is_text (codes "2.0") (get (codes "version") d))
    ∷ (codes "transform", is_transform (get (codes "transform") d))
    ∷ (codes "CityObjects", are_objects (get (codes "CityObjects") d))
    ∷ (codes "vertices", are_vertices (get (codes "vertices") d))
    ∷ (codes "extensions", is_empty_object_or_absent (get (codes "extensions") d)) ∷ []

abbrev pub first_wrong : List (List ℕ × Bool) → Option (List ℕ)
first_wrong [] = None
first_wrong (m ∷ ms) = if m.1 then first_wrong ms else Some m.0

-- the first wrong member
abbrev pub wrong_member : Data → Option (List ℕ)
wrong_member d = first_wrong (judged d)
