-- The tree of a city with a frame has a framed transform.
use Rattle.std.proofs.Common.{◌≡◌, ℕ, ℤ, pos, List, Some, Ordering, Less, Equal, Greater, refl, sym, ap, ap₂, ◌∙◌}
use Rattle.std.proofs.Common.{arith}
use Rattle.std.specs.Prelude.{codes}
use Rattle.std.specs.FinMap.{entries}
use Rattle.std.proofs.lemmas.Map.Lookups.{exact_bytes}
use Rattle.std.specs.Fmt.{digits}
use Rattle.json.proofs.Found.{Some_inj}
use Rattle.std.specs.Cmp.Lexicographic.{slice_cmp}
use Rattle.std.specs.Ordering.{nat_cmp}
use Rattle.json.specs.Json as json
use Rattle.serde_json.specs.Data.{Data, string, object, Members, no_members, member, put}
use Rattle.serde_json.specs.Find.{get_member}
use Rattle.serde_json.specs.Written.{outline, members_outline}
use Rattle.serde_json.proofs.Views.{get_member-put, get_member-put_other}
use Rattle.city_decimals.specs.Lines.{IsFramedTop, joined}
use Rattle.city_decimals.specs.Shapes.{framed}
use Rattle.city_model.specs.CityMap.{CityValue}
use Rattle.city_members.specs.Members.{members_count}
use Rattle.city_model.specs.declared.frame.Frame.{Frame}
use Rattle.city_writer.specs.document.Canonical.{transform_data, tree_of}
use Rattle.city_writer.specs.Pool.{pool_of}
use Rattle.city_writer.specs.object.Canonical.{objects_data}
use Rattle.city_writer.specs.shape.Vertices.{vertices_data}
use Rattle.city_writer.specs.tree.Lists.{triple_data}
use Rattle.city_serve.specs.internal.Framed.{HasFrame, three_of}

-- a member that is found stands between others
abbrev IsBetween : List ℕ → Data → json.Members → Type 0
IsBetween k d ms = (before behind : json.Members) × (ms ≡ joined before (json.member k (outline d) behind))

found_between : (k : List ℕ) (d : Data) (ms : Members) → get_member k ms ≡ Some d → IsBetween k d (members_outline ms)
found_between k d no_members found = absurd (cc)
found_between k d (member l e ms) found = at (slice_cmp nat_cmp k l) refl (λ h. found_between k d ms h)
  where
    later : IsBetween k d (members_outline ms) → IsBetween k d (members_outline (member l e ms))
    later (before, behind, is) =
        (json.member l (outline e) before, behind, ap (json.member l (outline e)) is)

    at : (o : Ordering) → slice_cmp nat_cmp k l ≡ o → (get_member k ms ≡ Some d → IsBetween k d (members_outline ms))
        → IsBetween k d (members_outline (member l e ms))
    at Less is rest = later (rest (rw is at found))
    at Equal is rest =
        let same : e ≡ d = Some_inj e d (rw is at found) in (
          json.no_members,
          members_outline ms,
          ap₂ (λ n v. json.member n (outline v) (members_outline ms))
              (sym (exact_bytes k l is)) same,
        )
    at Greater is rest = later (rest (rw is at found))

-- one member that is found is all
pub one_found : (k : List ℕ) (inside ms : Members) → members_count ms ≡ 1 → get_member k ms ≡ Some (object inside)
    → ms ≡ member k (object inside) no_members
one_found k inside no_members one found = absurd (cc)
one_found k inside (member l e (member m d ms)) one found = absurd (omega arith)
one_found k inside (member l e no_members) one found = at (slice_cmp nat_cmp k l) refl
  where
    at : (o : Ordering) → slice_cmp nat_cmp k l ≡ o → member l e no_members ≡ member k (object inside) no_members
    at Less is = absurd (cc (rw is at found))
    at Equal is = ap₂ (λ n v. member n v no_members) (sym (exact_bytes k l is)) (Some_inj e (object inside)
        (rw is at found))
    at Greater is = absurd (cc (rw is at found))

frame_outline : (f : Frame) → HasFrame f
    → (inside : json.Members) × (outline (transform_data f) ≡ framed (json.object inside))
unfolding digits
frame_outline f ((inside, more), scale, translate) =
    let made = λ (m : Members) (s t : List ℤ). outline (object (put (codes "translate") (triple_data t)
    (put (codes "scale") (triple_data s) m))) in (
      members_outline inside,
      ap (λ m. made m f.scale f.translate) more
          ∙ ap (λ s. made (member (codes "#") (object inside) no_members) s f.translate) scale
          ∙ ap (λ t. made (member (codes "#") (object inside) no_members) (three_of (pos 1)) t) translate,
    )

found_under : (name a b : List ℕ) (t o v : Data) (ms : Members) → (name ≡ a → ⊥) → (name ≡ b → ⊥)
    → get_member name (put a o (put b v (put name t ms))) ≡ Some t
found_under name a b t o v ms other_a other_b =
    get_member-put_other name a o (put b v (put name t ms)) other_a
    ∙ get_member-put_other name b v (put name t ms) other_b ∙ get_member-put name t ms

framed_members : (f : Frame) (o v : Data) (ms : Members) → HasFrame f
    → IsFramedTop (json.object (members_outline (put (codes "CityObjects") o (put (codes "vertices") v
    (put (codes "transform") (transform_data f) ms)))))
framed_members f o v ms h =
    let name = codes "transform" in
    let all = put (codes "CityObjects") o (put (codes "vertices") v (put name (transform_data f) ms)) in
    let found = found_under name (codes "CityObjects") (codes "vertices") (transform_data f) o v ms
    (λ e. absurd (cc)) (λ e. absurd (cc)) in
    let between = found_between name (transform_data f) all found in
    let frame = frame_outline f h in (
      between.0,
      frame.0,
      between.1,
      ap json.object between.2 ∙ ap (λ j. json.object (joined between.0
          (json.member name j between.1))) frame.1,
    )

pub framed_tree : (c : CityValue) → HasFrame c.0 → IsFramedTop (outline (tree_of c))
framed_tree c h =
    framed_members c.0 (objects_data (pool_of c) (entries c.1)) (vertices_data (pool_of c))
    (put (codes "version") (string (codes "2.0")) (put (codes "type") (string (codes "CityJSON")) c.0.extra)) h
