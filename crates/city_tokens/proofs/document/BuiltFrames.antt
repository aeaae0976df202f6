-- A frame is the one built, in any order of its parts; and the city of a top.
use Rattle.city_tokens.proofs.Prelude.{◌≡◌, Option, Some, codes, refl, ap, ◌∙◌, arith, List, [], ◌∷◌, true}
use Rattle.city_tokens.proofs.Prelude.{option_and_then, Data, object, Members, get_member, get_member-without, items_of}
use Rattle.city_tokens.proofs.Prelude.{Point, Entries, without, Vertex, entries_of, objects_of, IsVertex, points_of}
use Rattle.city_tokens.proofs.Prelude.{Pairs, IsArrayOf, read_items}
use Rattle.std.specs.Prelude.{option_map, ◌&&◌}
use Rattle.city_members.specs.Kept.{kept_at_top}
use Rattle.city_tokens.specs.document.Frames.{triple_at, more_of, without_top_members, frame_of}
use Rattle.city_tokens.specs.document.FramesOfRest.{frame_of_rest, without_rest_members}
use Rattle.city_tokens.specs.internal.Frames.{built_frame}
use Rattle.city_tokens.specs.tree.Members.{kept_if, is_text}
use Rattle.city_model.specs.declared.frame.Frame.{Frame}
use Rattle.city_tokens.specs.document.Cities.{city_of}
use Rattle.city_tokens.proofs.tree.Puts.{without-swap, without-twice}
use Rattle.city_tokens.specs.tree.Triples as triples

module _ {T S R M E F : Type 0} (scale : T → Option S) (translate : T → Option R) (more : T → Option M)
    (made : S → R → M → E → F)
  where
    extra_first : (t : Option T) (e : Option E)
        → option_and_then
        (λ t. option_and_then
        (λ s. option_and_then (λ r. option_and_then (λ m. option_map (λ e. made s r m e) e) (more t)) (translate t))
        (scale t)) t
        ≡ option_and_then
        (λ e. option_and_then
        (λ t. option_and_then (λ s. option_and_then (λ r. option_map (λ m. made s r m e) (more t)) (translate t))
        (scale t)) t) e
    extra_first t e = grind arith

pub frame_is : (d : Data) → frame_of d ≡ built_frame d
frame_is (object ms) =
    let extra = kept_if kept_at_top (without_top_members ms) in
    let same = get_member-without (codes "transform") (codes "CityObjects") ms refl in
    rw same (extra_first (triple_at (codes "scale")) (triple_at (codes "translate")) more_of
    (λ s t m e. record { scale = s; translate = t; more = m; extra = e }) (get_member (codes "transform") ms) extra)
frame_is _ = refl

-- the other members
abbrev others : Members → Members
others found = without (codes "vertices") (without (codes "CityObjects") found)

top_without : (rest : Members) → without_rest_members (without (codes "vertices") rest) ≡ without_rest_members rest
top_without rest = search (arith, without-swap, without-twice)

-- the frame doesn't ask for the vertices
frame_same : (rest : Members) → frame_of_rest (without (codes "vertices") rest) ≡ frame_of_rest rest
frame_same rest = search (arith, top_without, get_member-without)

-- the points
points_read : (vs : List Vertex) (ds : List Data) → Pairs IsVertex vs ds
    → read_items triples.point_of (items_of ds) ≡ Some (points_of vs)
points_read [] [] h = refl
points_read (v ∷ vs) (d ∷ ds) h = rw (h.0, points_read vs ds h.1) refl
points_read _ _ h = absurd h

pub vertices_read : (vs : List Vertex) (d : Data) → IsArrayOf IsVertex vs d → triples.points_of d ≡ Some (points_of vs)
vertices_read vs d h = ap triples.points_of h.1 ∙ points_read vs h.0 h.2

-- the city
pub city_read : (found rest objects : Members) (vertices : Data) (points : List Point) (es : Entries) (frame : Frame)
    → rest ≡ others found
    → (is_text (codes "CityJSON") (get_member (codes "type") rest) && is_text (codes "2.0")
    (get_member (codes "version") rest)) ≡ true
    → get_member (codes "vertices") found ≡ Some vertices → triples.points_of vertices ≡ Some points
    → get_member (codes "CityObjects") found ≡ Some (object objects) → entries_of points objects ≡ Some es
    → frame_of_rest rest ≡ Some frame → city_of (object found) ≡ Some (frame, objects_of es)
city_read found rest objects vertices points es frame is right at_vertices has_points at_objects has_entries has_frame =
    grind (arith, get_member-without, frame_is, frame_same)
