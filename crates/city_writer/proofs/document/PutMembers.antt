-- An object written part by part: kept members before each of its own, and the rest after the last.
use Rattle.city_writer.proofs.Prelude.{◌≡◌, ℕ, zero, suc, List, [], ◌∷◌, ◌++◌, Option, Some, None, true, refl, sym, ap}
use Rattle.city_writer.proofs.Prelude.{◌∙◌, subst, rules, Result, on_ok_weaker, Token, begin_object, Data}
use Rattle.city_writer.proofs.Prelude.{object, Members, no_members, get_member, CityValue, kept_at_object}
use Rattle.city_writer.proofs.Prelude.{kept_at_geometry, kept_at_transform, kept_at_top, AreOrdered, Frame, Body}
use Rattle.city_writer.proofs.Prelude.{Geometry}
use Rattle.city_writer.proofs.Prelude.{Object, Point, pool_of, without_repeats, with_points, transform_data}
use Rattle.city_writer.proofs.Prelude.{numbered_tree}
use Rattle.city_writer.proofs.Prelude.{tree_of, object_data, geometry_data, members_from, tokens_of}
use Rattle.city_writer.proofs.Prelude.{closing_members, ReadsBack, MembersReadBack}
use Rattle.std.proofs.Common.{◌-◌, OnOk, Ok, Err}
use Rattle.city_writer.proofs.tree.Among.{puts, AreAbove, IsLeft, begun, own_written, value_written, end_written}
use Rattle.city_writer.proofs.tree.Among.{AllReadBack, ordered_from, none_from, own_read}
use Rattle.city_writer.proofs.document.Lacking.{geometry_members_lacking, object_members_lacking}
use Rattle.city_writer.proofs.pool.Repeats.{pool_is_without_repeats}
use Rattle.city_writer.proofs.document.Lacking.{transform_members_lacking, top_members_lacking}
pub use Rattle.city_writer.specs.internal.tree.OwnMembers.{written}
use Rattle.city_writer.specs.internal.tree.OwnMembers.{Own, part}
use Rattle.city_writer.specs.script.Commands.{body_data}
use Rattle.city_writer.proofs.document.OwnMembers.{geometry_own, object_own, object_puts, transform_own}
use Rattle.city_writer.proofs.document.OwnMembers.{unrelated_own, unrelated_puts}
use Rattle.city_writer.proofs.document.OwnMembers.{transform_puts, city_own, city_puts}

-- its own names ascend, and no kept member has one of them
abbrev pub AreApart : Members → Own → Type 0
AreApart kept [] = Unit {0}
AreApart kept (o ∷ own) = (get_member o.0 kept ≡ None) × AreAbove o.0 own × AreApart kept own

-- the data is an object of its own members among kept ones
pub record IsPut (kept : Members) (own : Own) (d : Data) : Type 0 where
  pub is : d ≡ object (puts own kept)
  pub ordered : AreOrdered kept
  pub apart : AreApart kept own

-- consequences of a call's success
pub on_ok : {T E P Q : Type 0} (r : Result T E) → OnOk r P → (P → Q) → OnOk r Q
on_ok r h f = on_ok_weaker r f h

pub both_ok : {T E P Q R : Type 0} (r : Result T E) → OnOk r P → OnOk r Q → (P → Q → R) → OnOk r R
both_ok (Ok x) p q f = f p q
both_ok (Err e) p q f = tt

-- ---- its tokens

apart_from : (m : List ℕ) (kept : Members) (own : Own) → AreApart kept own → AreApart (members_from m kept) own
apart_from m kept [] apart = tt
apart_from m kept (o ∷ own) apart = (none_from m o.0 kept apart.0, apart.1, apart_from m kept own apart.2)

module _ {whole : List Token} where
  part_left : (n : ℕ) {kept : Members} {m : List ℕ} (o : Option Data) {own : Own} {out : List Token}
      → AreOrdered kept → get_member m kept ≡ None → AreAbove m own → IsLeft whole out kept ((m, o) ∷ own)
      → IsLeft whole (part kept n m o out) (members_from m kept) own
  part_left zero (Some d) ordered none above left = value_written ordered none above _ _ left refl refl
  part_left zero None ordered none above left = own_written ordered none above _ left refl
  part_left (suc n) o ordered none above left = own_written ordered none above _ left refl

  written_left : (n : ℕ) (kept : Members) (own : Own) {out : List Token} → AreOrdered kept → AreApart kept own
      → IsLeft whole out kept own → written kept n own out ≡ whole
  written_left n kept [] ordered apart left = end_written _ left refl
  written_left n kept (o ∷ own) ordered apart left =
      written_left (n - 1) (members_from o.0 kept) own (ordered_from o.0 kept ordered)
      (apart_from o.0 kept own apart.2) (part_left n o.1 ordered apart.0 apart.1 left)

pub put_written : {kept : Members} {own : Own} {d : Data} (n : ℕ) (old : List Token) → IsPut kept own d
    → written kept n own (old ++ begin_object ∷ []) ≡ old ++ tokens_of d
put_written {kept} {own} n old put =
    written_left n kept own put.ordered put.apart (begun kept own old _ refl)
    ∙ ap (λ d. old ++ tokens_of d) (sym put.is)

-- the same after other tokens, of an object without kept members
pub after_written : (own : Own) (out : List Token) → AreApart no_members own
    → written no_members 0 own out ≡ out ++ closing_members (puts own no_members)
after_written own out apart =
    let ordered : AreOrdered no_members = tt in
    written_left 0 no_members own ordered apart (record { same = refl })

-- ---- read again

pub put_reads : {kept : Members} {own : Own} {d : Data} → IsPut kept own d → MembersReadBack kept
    → AllReadBack own → ReadsBack d
put_reads {kept} {own} put reads each =
    subst ReadsBack (sym put.is) (own_read own kept put.ordered reads each)

-- ---- geometries, objects, transforms and cities

-- points added to an empty pool
pub all_pooled : (first pool points : List Point) → first ≡ [] → pool ≡ with_points first points
    → pool ≡ without_repeats points
all_pooled first pool points none added =
    added ∙ ap (λ ps. with_points ps points) none ∙ pool_is_without_repeats points

pub geometry_put : (pool : List Point) (g : Geometry) (kept : Members) → kept ≡ g.extra → AreOrdered g.extra
    → kept_at_geometry g.extra ≡ true → IsPut kept (geometry_own pool g) (geometry_data pool g)
geometry_put pool g kept same ordered keeps =
    let lacks = geometry_members_lacking g.extra keeps in
    rw same (record { is = refl; ordered = ordered; apart = search rules })

pub object_put : (pool : List Point) (o : Object) (body : Body) (kept : Members) → body ≡ o.body → kept ≡ body.extra
    → AreOrdered body.extra → kept_at_object body.extra ≡ true → IsPut kept (object_own pool o) (object_data pool o)
object_put pool o body kept is same ordered keeps =
    let lacks = object_members_lacking body.extra keeps in
    rw same (record {
      is = object_puts pool o ∙ ap (λ b. object (puts (object_own pool o) b.extra)) (sym is);
      ordered = ordered;
      apart = search rules;
    })

pub unrelated_put : (pool : List Point) (body : Body) (kept : Members) → kept ≡ body.extra → AreOrdered body.extra
    → kept_at_object body.extra ≡ true → IsPut kept (unrelated_own pool body) (body_data pool body)
unrelated_put pool body kept same ordered keeps =
    let lacks = object_members_lacking body.extra keeps in
    rw same (record { is = unrelated_puts pool body; ordered = ordered; apart = search rules })

pub transform_put : (f : Frame) (kept : Members) → kept ≡ f.more → AreOrdered f.more
    → kept_at_transform f.more ≡ true → IsPut kept (transform_own f) (transform_data f)
transform_put f kept same ordered keeps =
    let lacks = transform_members_lacking f.more keeps in
    rw same (record { is = transform_puts f; ordered = ordered; apart = search rules })

pub city_put : (pool : List Point) (city : CityValue) (frame : Frame) (kept : Members) → pool ≡ pool_of city
    → frame ≡ city.0 → kept ≡ frame.extra → AreOrdered frame.extra → kept_at_top frame.extra ≡ true
    → IsPut kept (city_own pool city) (tree_of city)
city_put pool city frame kept pooled is same ordered keeps =
    let lacks = top_members_lacking frame.extra keeps in
    rw same (record {
      is = ap (λ ps. numbered_tree ps city) (sym pooled) ∙ city_puts pool city
          ∙ ap (λ f. object (puts (city_own pool city) f.extra)) (sym is);
      ordered = ordered;
      apart = search rules;
    })
