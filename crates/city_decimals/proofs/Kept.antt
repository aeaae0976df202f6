-- A value kept by the editor is decoded to the original.
use Rattle.city_decimals.proofs.Prelude.{arith, ◌≡◌, ℕ, List, Bool, true, false, cond, Option, Some, None, Ordering}
use Rattle.city_decimals.proofs.Prelude.{nat_cmp, refl, ap, ap₂, ◌∙◌, subst, codes, option_map, option_and_then}
use Rattle.city_decimals.proofs.Prelude.{match_ordering, slice_cmp, bytes_eq-Decides, HasNumbers, ItemsHaveNumbers}
use Rattle.city_decimals.proofs.Prelude.{MembersHaveNumbers, Num, Data, put, number_of, of_json, of_items, of_members}
use Rattle.city_decimals.proofs.Prelude.{is_written_so, is_whole, is_number, is_end, tag, is_shielded, is_frame}
use Rattle.city_decimals.proofs.Prelude.{in_form, framed, only, tagged, encoded, encoded_items, encoded_members}
use Rattle.city_decimals.proofs.Prelude.{number_under, number_in, number_or, out_of_form, decoded, decoded_items}
use Rattle.city_decimals.proofs.Prelude.{decoded_members, Plain, Shielded}
use Rattle.std.proofs.Common.{Less, Equal, Greater}
use Rattle.std.proofs.lemmas.Map.Lookups.{exact_bytes}
use Rattle.serde_json.specs.Data.{null, boolean, number, string, array, object, Items, no_items, item, Members}
use Rattle.serde_json.specs.Data.{no_members, member}
use Rattle.serde_json.specs.Written.{outline, items_outline, members_outline}
use Rattle.city_decimals.specs.Arranged.{arranged, arranged_items, arranged_members}
use Rattle.city_decimals.specs.Kept.{IsKept}
use Rattle.city_decimals.proofs.Bools.{contradiction}
use Rattle.city_decimals.proofs.RoundTrip.{number_back, shield_is}
use Rattle.json.specs.Json as json
use Rattle.city_decimals.specs.Arranged as spec

-- ---- members, one after another

-- no member is a text under the tag
abbrev pub ArePlain : Members → Type 0
ArePlain no_members = Unit {0}
ArePlain (member k d ms) = (number_under k (outline d) ≡ None) × ArePlain ms

pub plain_encodes_none : (ms : Members) → ArePlain ms → number_in (members_outline ms) ≡ None
plain_encodes_none no_members h = refl
plain_encodes_none (member k d no_members) h = h.0
plain_encodes_none (member k d (member l e ms)) h = refl

plain_at : (o : Ordering) (k l : List ℕ) (d e : Data) (ms : Members) → slice_cmp nat_cmp k l ≡ o
    → number_under k (outline d) ≡ None → ArePlain (member l e ms) → ArePlain (put k d ms)
    → ArePlain (match_ordering o (member k d (member l e ms)) (member l d ms) (member l e (put k d ms)))
plain_at Less k l d e ms at h hs rest = (h, hs)
plain_at Equal k l d e ms at h hs rest = (subst (λ n. number_under n (outline d) ≡ None) (exact_bytes k l at) h, hs.1)
plain_at Greater k l d e ms at h hs rest = (hs.0, rest)

pub plain_put : (k : List ℕ) (d : Data) (ms : Members) → number_under k (outline d) ≡ None → ArePlain ms
    → ArePlain (put k d ms)
plain_put k d no_members h hs = (h, tt)
plain_put k d (member l e ms) h hs =
    plain_at (slice_cmp nat_cmp k l) k l d e ms refl h hs (plain_put k d ms h hs.1)

-- the decoded value at the name k
abbrev pub value_at : List ℕ → Data → json.Json
value_at k d = out_of_form false k (outline d) (decoded (outline d))

decoded_at : (o : Ordering) (k l : List ℕ) (d e : Data) (ms : Members) → slice_cmp nat_cmp k l ≡ o
    → decoded_members false (members_outline (put k d ms))
    ≡ spec.put k (value_at k d) (decoded_members false (members_outline ms))
    → decoded_members false (members_outline (match_ordering o (member k d (member l e ms)) (member l d ms)
    (member l e (put k d ms))))
    ≡ match_ordering o (json.member k (value_at k d) (json.member l (value_at l e) (decoded_members false
    (members_outline ms)))) (json.member l (value_at k d) (decoded_members false (members_outline ms)))
    (json.member l (value_at l e) (spec.put k (value_at k d) (decoded_members false (members_outline ms))))
decoded_at Less k l d e ms at rest = refl
decoded_at Equal k l d e ms at rest = grind (arith, exact_bytes k l at)
decoded_at Greater k l d e ms at rest = ap (json.member l (value_at l e)) rest

pub decoded_put : (k : List ℕ) (d : Data) (ms : Members)
    → decoded_members false (members_outline (put k d ms))
    ≡ spec.put k (value_at k d) (decoded_members false (members_outline ms))
decoded_put k d no_members = refl
decoded_put k d (member l e ms) = decoded_at (slice_cmp nat_cmp k l) k l d e ms refl (decoded_put k d ms)

-- ---- one member

pub same_form : (k : List ℕ) (j : json.Json) → is_shielded k (arranged j) ≡ is_shielded k j
same_form k j = grind arith

-- a value as read, for a member of the name k
pub record IsKeptAt (k : List ℕ) (c j : json.Json) : Type 0 where
  pub d : Data
  pub read : of_json c ≡ Some d
  pub back : value_at k d ≡ arranged j
  pub plain : number_under k (outline d) ≡ None

pub kept_at : (k : List ℕ) (j : json.Json) (b : Bool) → is_shielded k j ≡ b → IsKept j
    → IsKeptAt k (in_form (cond b Shielded Plain) (encoded j)) j
kept_at k j true e i =
    let r = json.array (json.item (decoded (outline i.d)) json.no_items) in
    record {
      d = array (item i.d no_items);
      read = ap (λ o. option_map array (option_and_then (λ d. option_map (item d) (Some no_items)) o)) i.read;
      back = ap (λ b. cond b (only r) r) (shield_is k (decoded (outline i.d)) (ap (is_shielded k) i.back
          ∙ same_form k j ∙ e)) ∙ i.back;
      plain = refl;
    }
kept_at k j false e i = grind arith

-- ---- values

record AreKept (js : json.Items) : Type 0 where
  ds : Items
  read : of_items (encoded_items js) ≡ Some ds
  back : decoded_items (items_outline ds) ≡ arranged_items js

pub record AreKeptAfter (found : Members) (ready : json.Members) (ms : json.Members) : Type 0 where
  pub ds : Members
  pub read : of_members (encoded_members false ms) found ≡ Some ds
  pub back : decoded_members false (members_outline ds) ≡ arranged_members ms ready
  pub plain : ArePlain ds

number_found : (s : List ℕ) (o : Option Num) → number_of s ≡ o → is_written_so s o ≡ true
    → (d : Data) × (option_map number (number_of s) ≡ Some d) × (decoded (outline d) ≡ json.number s)
number_found s None is h = contradiction h
number_found s (Some n) is h = (number n, ap (option_map number) is, search (arith, bytes_eq-Decides))

number_kept : (s : List ℕ) (b : Bool) → is_whole s ≡ b → is_number s ≡ true
    → (d : Data) × (of_json (cond b (json.number s) (tagged s)) ≡ Some d) × (decoded (outline d) ≡ json.number s)
number_kept s true e h = number_found s (number_of s) refl e
number_kept s false e h = (object (member tag (string s) no_members), refl, number_back false s h)

mutual
  pub kept : (j : json.Json) → HasNumbers j → IsKept j
  kept json.null h = record { d = null; read = refl; back = refl }
  kept (json.boolean b) h = record { d = boolean b; read = refl; back = refl }
  kept (json.number s) h = let k = number_kept s (is_whole s) refl (ap is_end h) in
      record { d = k.0; read = k.1; back = k.2 }
  kept (json.string s) h = record { d = string s; read = refl; back = refl }
  kept (json.array js) h = let k = items_kept js h in
      record { d = array k.ds; read = ap (option_map array) k.read; back = ap json.array k.back }
  kept (json.object ms) h =
      let k = members_kept ms h no_members json.no_members refl tt in
      record {
        d = object k.ds;
        read = ap (option_map object) k.read;
        back = ap (λ o. number_or o (decoded_members false (members_outline k.ds)))
            (plain_encodes_none k.ds k.plain) ∙ ap json.object k.back;
      }

  items_kept : (js : json.Items) → ItemsHaveNumbers js → AreKept js
  items_kept json.no_items h = record { ds = no_items; read = refl; back = refl }
  items_kept (json.item j js) h =
      let i = kept j h.0 in
      let k = items_kept js h.1 in
      record {
        ds = item i.d k.ds;
        read = ap (option_and_then (λ d. option_map (item d) (of_items (encoded_items js)))) i.read
            ∙ ap (option_map (item i.d)) k.read;
        back = ap₂ json.item i.back k.back;
      }

  pub members_kept : (ms : json.Members) → MembersHaveNumbers ms → (found : Members) (ready : json.Members)
      → decoded_members false (members_outline found) ≡ ready → ArePlain found → AreKeptAfter found ready ms
  members_kept json.no_members h found ready same plain = record { ds = found; read = refl; back = same; plain = plain }
  members_kept (json.member k j ms) h found ready same plain =
      let m = kept_at k j (is_shielded k j) refl (kept j h.0) in
      let rest = members_kept ms h.1 (put k m.d found) (spec.put k (arranged j) ready) (decoded_put k m.d found
      ∙ ap₂ (spec.put k) m.back same) (plain_put k m.d found m.plain plain) in
      record {
        ds = rest.ds;
        read = ap (option_and_then (λ d. of_members (encoded_members false ms) (put k d found))) m.read ∙ rest.read;
        back = rest.back;
        plain = rest.plain;
      }

-- ---- a transform

pub transform_kept : (j : json.Json) → HasNumbers j → is_frame j ≡ true → (d : Data)
    → of_json (encoded j) ≡ Some d
    → out_of_form true (codes "transform") (framed (outline d)) (decoded (framed (outline d))) ≡ arranged j
transform_kept j h frame d e = search (arith, kept)
