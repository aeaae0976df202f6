-- Members put in among the ones found: the place of each, and the kept ones.
use Rattle.city_tokens.proofs.Prelude.{arith, ◌≡◌, ℕ, List, [], ◌∷◌, true, false, Option, None, Some, Less, Equal}
use Rattle.city_tokens.proofs.Prelude.{nat_cmp, option_map}
use Rattle.city_tokens.proofs.Prelude.{refl, sym, ◌∙◌, codes, if◌then◌else◌, slice_cmp, exact_bytes, Data, Members}
use Rattle.city_tokens.proofs.Prelude.{no_members, member, put, get_member, same_id, has_id, without, without_each}
use Rattle.city_tokens.proofs.Prelude.{AllAbove, AreOrdered, by_id, same_id_back, IsListSlot, IsArrayOf, IsString}
use Rattle.city_tokens.proofs.Prelude.{IsReadAs, IsTaken, IsPassed, Token, Geometry, ObjectParts, IsGeometry}
use Rattle.city_tokens.proofs.Prelude.{IsObjectSoFar}
use Rattle.std.proofs.lemmas.Bool.{or_parts}
use Rattle.serde_json.proofs.Views.{get_member-put}
use Rattle.city_tokens.specs.internal.Standing.{IsSlot}
use Rattle.city_tokens.specs.internal.Taken.{IsValue}
use Rattle.city_tokens.proofs.tree.Puts.{get_member-put_apart, without-absent, without-put_own}
use Rattle.city_members.proofs.KeptIn.{put_back}
use Rattle.city_members.specs.internal.KeptIn.{with_value}
use Rattle.city_members.specs.internal.KeptValues.{value_data}
use Rattle.city_members.specs.declared.kept.kept_value.KeptValue.{KeptValue}
use Rattle.city_members.proofs.Puts.{all_above_lower, put_first, ordered_put}
use Rattle.city_members.specs.Kept.{geometry_members}
use Rattle.city_model.specs.declared.object_type.ObjectType.{ObjectType}
use Rattle.city_model.specs.declared.shape_type.ShapeType.{ShapeType}
use Rattle.city_tokens.specs.internal.Geometries.{IsKind, AreBoundaries, IsGeometrySoFar}
use Rattle.city_tokens.specs.internal.Objects.{IsType}
use Rattle.city_tokens.specs.declared.boundaries.Boundaries.{Boundaries}
use Rattle.city_tokens.specs.declared.geometry.GeometryParts.{GeometryParts}

-- members taken out
above_without : (a n : List ℕ) (ms : Members) → AllAbove a ms → AllAbove a (without n ms)
above_without a n no_members h = tt
above_without a n (member k d ms) h =
    elim (same_id n k) as (λ b. AllAbove a (if b then without n ms else member k d (without n ms)))
    [ true ↦ above_without a n ms h.1 | false ↦ (h.0, above_without a n ms h.1) ]

-- ascending names still ascend
pub ordered_without : (n : List ℕ) (ms : Members) → AreOrdered ms → AreOrdered (without n ms)
ordered_without n no_members h = tt
ordered_without n (member k d ms) h =
    elim (same_id n k) as (λ b. AreOrdered (if b then without n ms else member k d (without n ms)))
    [ true ↦ ordered_without n ms h.1 | false ↦ (above_without k n ms h.0, ordered_without n ms h.1) ]

-- the members of another name are taken out before or after
pub without-put_apart : (m n : List ℕ) (d : Data) (ms : Members) → same_id m n ≡ false → AreOrdered ms
    → without m (put n d ms) ≡ put n d (without m ms)
without-put_apart m n d no_members apart h = rw apart refl
without-put_apart m n d (member l e ms) apart h =
    let first : slice_cmp nat_cmp n l ≡ Less → put n d (without m ms) ≡ member n d (without m ms) =
    λ is. put_first n d (without m ms) (above_without n m ms (all_above_lower n l ms is h.0)) in
    let same : slice_cmp nat_cmp n l ≡ Equal → same_id m l ≡ false = λ is. rw (exact_bytes n l is) at apart in
    grind (arith, without-put_apart m n d ms apart h.1)

-- a member of one of the names isn't there
pub put_own : (ns : List (List ℕ)) (name : List ℕ) (d : Data) (ms : Members) → AreOrdered ms → has_id ns name ≡ true
    → without_each ns (put name d ms) ≡ without_each ns ms
put_own [] name d ms h is = absurd (cc)
put_own (n ∷ ns) name d ms h is =
    by_id name n (λ e. rw (e, without-put_own n d ms) refl)
    (λ apart. rw (without-put_apart n name d ms (same_id_back n name ∙ apart) h)
    (put_own ns name d (without n ms) (ordered_without n ms h) (rw apart at is)))

-- a member of another name is
pub put_kept : (ns : List (List ℕ)) (name : List ℕ) (d : Data) (ms : Members) → AreOrdered ms → has_id ns name ≡ false
    → without_each ns (put name d ms) ≡ put name d (without_each ns ms)
put_kept [] name d ms h is = refl
put_kept (n ∷ ns) name d ms h is =
    let parts = or_parts (same_id name n) (has_id ns name) is in
    rw (without-put_apart n name d ms (same_id_back n name ∙ parts.0) h)
    (put_kept ns name d (without n ms) (ordered_without n ms h) parts.1)

pub kept_more : (ns : List (List ℕ)) (name : List ℕ) (d : Data) (found kept : Members) → has_id ns name ≡ false
    → AreOrdered found → kept ≡ without_each ns found → put name d kept ≡ without_each ns (put name d found)
kept_more ns name d found kept apart h is = rw is (sym (put_kept ns name d found h apart))

pub other_name : (name n : List ℕ) → (name ≡ n → ⊥) → same_id name n ≡ false
other_name name n other = by_id name n (λ e. absurd (other e)) (λ apart. apart)

pub apart_back : (name n : List ℕ) → (name ≡ n → ⊥) → same_id n name ≡ false
apart_back name n other = same_id_back n name ∙ other_name name n other

-- the value read of a member
pub slot_here : {A : Type 0} (R : A → Data → Type 0) (x : A) (name : List ℕ) (d : Data) (ms : Members) → R x d
    → IsSlot R (Some x) (get_member name (put name d ms))
slot_here R x name d ms h = (d, get_member-put name d ms, h)

pub slot_other : {A : Type 0} (R : A → Data → Type 0) (slot : Option A) (q name : List ℕ) (d : Data) (ms : Members)
    → same_id q name ≡ false → IsSlot R slot (get_member q ms)
    → IsSlot R slot (get_member q (put name d ms))
slot_other R slot q name d ms apart h = rw (get_member-put_apart q name d ms apart) h

pub list_here : {A : Type 0} (R : A → Data → Type 0) (xs : List A) (name : List ℕ) (d : Data) (ms : Members)
    → IsArrayOf R xs d → IsListSlot R xs (get_member name (put name d ms))
list_here R xs name d ms h = rw (get_member-put name d ms) h

pub list_other : {A : Type 0} (R : A → Data → Type 0) (xs : List A) (q name : List ℕ) (d : Data) (ms : Members)
    → same_id q name ≡ false → IsListSlot R xs (get_member q ms)
    → IsListSlot R xs (get_member q (put name d ms))
list_other R xs q name d ms apart h = rw (get_member-put_apart q name d ms apart) h

-- the member itself
pub member_here : (o : Option Data) (name : List ℕ) (d : Data) (ms : Members) → o ≡ Some d
    → o ≡ get_member name (put name d ms)
member_here o name d ms h = h ∙ sym (get_member-put name d ms)

pub member_other : (o : Option Data) (q name : List ℕ) (d : Data) (ms : Members) → same_id q name ≡ false
    → o ≡ get_member q ms → o ≡ get_member q (put name d ms)
member_other o q name d ms apart h = h ∙ sym (get_member-put_apart q name d ms apart)

-- attributes taken out are put back
pub own_back : (own : Option KeptValue) (ms : Members) → AreOrdered ms
    → option_map value_data own ≡ get_member (codes "attributes") ms
    → with_value (without (codes "attributes") ms) own ≡ ms
own_back None ms h is = without-absent (codes "attributes") ms (sym is)
own_back (Some v) ms h is = put_back (codes "attributes") (value_data v) ms h (sym is)

-- members so far, and one more of a literal name
pub ruleset put_in = (slot_here, slot_other, list_here, list_other, member_other, ordered_put, put_own)

pub ruleset kept_in = (slot_other, list_other, member_other, ordered_put, kept_more, apart_back)

abbrev object_names : List (List ℕ)
object_names =
    codes "type" ∷ codes "geometry" ∷ codes "parents" ∷ codes "children" ∷ codes "attributes" ∷ []

module _ {old : ObjectParts} {name : List ℕ} {depth : ℕ} {before after : List Token} where
  pub object_kind : {k : ObjectType} → name ≡ codes "type" → IsReadAs IsType k depth before after
      → IsTaken IsObjectSoFar old (record old { kind = Some k }) name depth before after
  object_kind named read = (read.0, read.1, λ found kept h. rw named (search (put_in, h, read)))

  pub object_geometry : {gs : List Geometry} → name ≡ codes "geometry"
      → IsReadAs (IsArrayOf IsGeometry) gs depth before after
      → IsTaken IsObjectSoFar old (record old { geometry = gs }) name depth before after
  object_geometry named read = (read.0, read.1, λ found kept h. rw named (search (put_in, h, read)))

  pub object_parents : {ids : List (List ℕ)} → name ≡ codes "parents"
      → IsReadAs (IsArrayOf IsString) ids depth before after
      → IsTaken IsObjectSoFar old (record old { parents = ids }) name depth before after
  object_parents named read = (read.0, read.1, λ found kept h. rw named (search (put_in, h, read)))

  pub object_children : {ids : List (List ℕ)} → name ≡ codes "children"
      → IsReadAs (IsArrayOf IsString) ids depth before after
      → IsTaken IsObjectSoFar old (record old { children = ids }) name depth before after
  object_children named read = (read.0, read.1, λ found kept h. rw named (search (put_in, h, read)))

  pub object_attributes : {v : KeptValue} → name ≡ codes "attributes" → IsValue depth before (value_data v) after
      → IsTaken IsObjectSoFar old (record old { attributes = Some v }) name depth before after
  object_attributes {v = v} named read =
      (value_data v, read, λ found kept h. rw named (search (put_in, put_own object_names, member_here, h)))

pub object_kept : {old : ObjectParts} {name : List ℕ} {before : List Token} → (name ≡ codes "type" → ⊥)
    → (name ≡ codes "geometry" → ⊥) → (name ≡ codes "parents" → ⊥) → (name ≡ codes "children" → ⊥)
    → (name ≡ codes "attributes" → ⊥) → IsPassed IsObjectSoFar old old name before before
object_kept {name = name} type geometry parents children attributes =
    let o = other_name name in
    let others : has_id object_names name ≡ false =
    rw (o _ type, o _ geometry, o _ parents, o _ children, o _ attributes) refl in
    (refl, λ d found kept h. search (kept_in, kept_more object_names, others, h))

module _ {old : GeometryParts} {name : List ℕ} {depth : ℕ} {before after : List Token} where
  pub geometry_kind : {k : ShapeType} → name ≡ codes "type" → IsReadAs IsKind k depth before after
      → IsTaken IsGeometrySoFar old (record old { kind = Some k }) name depth before after
  geometry_kind named read = (read.0, read.1, λ found kept h. rw named (search (put_in, h, read)))

  pub geometry_lod : {lod : List ℕ} → name ≡ codes "lod" → IsReadAs IsString lod depth before after
      → IsTaken IsGeometrySoFar old (record old { lod = Some lod }) name depth before after
  geometry_lod named read = (read.0, read.1, λ found kept h. rw named (search (put_in, h, read)))

  pub geometry_boundaries : {b : Boundaries} → name ≡ codes "boundaries" → IsReadAs AreBoundaries b depth before after
      → IsTaken IsGeometrySoFar old (record old { boundaries = Some b }) name depth before after
  geometry_boundaries named read = (read.0, read.1, λ found kept h. rw named (search (put_in, h, read)))

pub geometry_kept : {old : GeometryParts} {name : List ℕ} {before : List Token} → (name ≡ codes "type" → ⊥)
    → (name ≡ codes "lod" → ⊥) → (name ≡ codes "boundaries" → ⊥)
    → IsPassed IsGeometrySoFar old old name before before
geometry_kept {name = name} type lod boundaries =
    let o = other_name name in
    let others : has_id geometry_members name ≡ false = rw (o _ type, o _ lod, o _ boundaries) refl in
    (refl, λ d found kept h. search (kept_in, others, h))
