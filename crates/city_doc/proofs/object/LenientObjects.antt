-- The object of a tree, after its lists of ids were taken out.
use Rattle.city_doc.proofs.Prelude.{◌≡◌, ℕ, List, false, Option, Some, None, refl, sym, ap, ◌∙◌, arith, codes, Data}
use Rattle.city_doc.proofs.Prelude.{object, Members, get, get_member, as_str, as_object, Body, Point, same_id, without}
use Rattle.city_doc.proofs.Prelude.{get_member-without, list_or_absent, without_object_members, body_of, or_empty}
use Rattle.city_doc.proofs.Prelude.{lenient_object_of, object_members}
use Rattle.city_doc.proofs.document.Right.{get-object}
use Rattle.city_doc.proofs.document.KeptMembers.{left_without}

-- the members but both lists
abbrev unlisted : Members → Members
unlisted ms = without (codes "children") (without (codes "parents") ms)

kept_same : (ms : Members) → without_object_members (unlisted ms) ≡ without_object_members ms
kept_same ms =
    left_without object_members (codes "children") (without (codes "parents") ms) refl
    ∙ left_without object_members (codes "parents") ms refl

get-unlisted : (name : List ℕ) (d : Data) (ms : Members) → as_object d ≡ Some ms
    → same_id name (codes "children") ≡ false → same_id name (codes "parents") ≡ false
    → get_member name (unlisted ms) ≡ get name d
get-unlisted name d ms is_object apart other = rw (get-object name d ms is_object) (simp get_member-without)

body-unlisted : (points : List Point) (d : Data) (ms : Members) → as_object d ≡ Some ms
    → body_of points (object (unlisted ms)) ≡ body_of points d
body-unlisted points d ms is_object =
    rw (
      is_object,
      get-unlisted (codes "type") d ms is_object refl refl,
      get-unlisted (codes "geometry") d ms is_object refl refl,
      kept_same ms,
    ) refl

-- of an object without its lists, taken out one after the other
module _ (points : List Point) (d : Data) (ms after left : Members) (parents children : Option Data)
    (is_object : as_object d ≡ Some ms) (has_parents : parents ≡ get_member (codes "parents") ms)
    (is_after : after ≡ without (codes "parents") ms) (has_children : children ≡ get_member (codes "children") after)
    (is_left : left ≡ without (codes "children") after) where
  body_left : body_of points (object left) ≡ body_of points d
  body_left = ap (λ x. body_of points (object x)) (is_left ∙ ap (without (codes "children")) is_after)
      ∙ body-unlisted points d ms is_object

  pub lenient_missing : body_of points (object left) ≡ None → None ≡ lenient_object_of points d
  lenient_missing none = rw (sym body_left ∙ none) refl

  pub lenient_read : (body : Body) (ps cs : List (List ℕ)) → body_of points (object left) ≡ Some body
      → ps ≡ or_empty (list_or_absent as_str parents) → cs ≡ or_empty (list_or_absent as_str children)
      → Some (record { body = body; parents = ps; children = cs }) ≡ lenient_object_of points d
  lenient_read body ps cs is_body are_parents are_children =
      let first = get-object (codes "parents") d ms is_object in
      let second = get-object (codes "children") d ms is_object in
      let stays = get_member-without (codes "children") (codes "parents") ms refl in
      let whole = body_left in
      grind arith
