-- Trees read by their resolved parts: objects, bodies of commands, and commands.
use Rattle.city_tokens.proofs.Prelude.{◌≡◌, ℕ, List, [], ◌∷◌, Option, Some, None, refl, sym, Bool, true, false, codes}
use Rattle.city_tokens.proofs.Prelude.{Data, array, no_items, Members, put, get, get_member, as_str, items_of, Geometry}
use Rattle.city_tokens.proofs.Prelude.{Point, object_of, geometry_of, IsGeometry, IsObject, IsObjectSoFar, IsResolved}
use Rattle.city_tokens.proofs.Prelude.{Pairs, IsArrayOf, IsListSlot, IsString, IsTaken, IsPassed, read_items, list_of}
use Rattle.city_tokens.proofs.Prelude.{Token, Object, Body, ObjectParts, IsCommand, Command, command_of}
use Rattle.city_tokens.specs.tree.Lists.{list_or_absent}
use Rattle.std.specs.Bool.{MatchBool}
use Rattle.city_tokens.specs.internal.Commands.{IsBody, IsBodySoFar}
use Rattle.city_tokens.specs.script.Commands.{unrelated_body}
use Rattle.city_tokens.proofs.Members.{apart_back}
use Rattle.city_tokens.proofs.tree.Puts.{get_member-put_apart}
use Rattle.city_model.specs.declared.command.Command.TheVariants.{Put, Add, Reshape}

module _ {A : Type 0} (R : A → Data → Type 0) (reads : Data → Option A) where
  items_resolved : (xs ys : List A) (ds : List Data) → Pairs R xs ds → Pairs (IsResolved R reads) xs ys
      → read_items reads (items_of ds) ≡ Some ys
  items_resolved [] [] [] h p = refl
  items_resolved (x ∷ xs) (y ∷ ys) (d ∷ ds) h p = rw (p.0 d h.0, items_resolved xs ys ds h.1 p.1) refl
  items_resolved _ _ _ h p = search

  pub array_resolved : (xs ys : List A) → Pairs (IsResolved R reads) xs ys
      → IsResolved (IsArrayOf R) (list_of reads) xs ys
  array_resolved xs ys p d h = rw h.1 (items_resolved xs ys h.0 h.2 p)

  pub slot_resolved : (xs ys : List A) (member : Option Data) → IsResolved (IsArrayOf R) (list_of reads) xs ys
      → IsListSlot R xs member → list_or_absent reads member ≡ Some ys
  slot_resolved xs ys None p h = p (array no_items) ([], refl, rw h tt)
  slot_resolved xs ys (Some d) p h = p d h

strings_same : (xs : List (List ℕ)) → Pairs (IsResolved IsString as_str) xs xs
strings_same [] = tt
strings_same (x ∷ xs) = (λ d h. h, strings_same xs)

pub strings_read : (xs : List (List ℕ)) (member : Option Data) → IsListSlot IsString xs member
    → list_or_absent as_str member ≡ Some xs
strings_read xs member h =
    slot_resolved IsString as_str xs xs member (array_resolved IsString as_str xs xs (strings_same xs)) h

-- an object with resolved geometries
pub object_resolved : (points : List Point) (o : Object) (geometry : List Geometry)
    → IsResolved (IsArrayOf IsGeometry) (list_of (geometry_of points)) o.body.geometry geometry → (d : Data)
    → IsObject o d → object_of points d ≡ Some (record o { body = record (o.body) { geometry = geometry } })
object_resolved points o geometry resolved d h =
    let shaped = slot_resolved IsGeometry (geometry_of points) o.body.geometry geometry _ resolved h.geometry in
    let parents = strings_read o.parents _ h.parents in
    let children = strings_read o.children _ h.children in
    rw (h.is, h.kind, shaped, h.extra, parents, children) refl

-- a name is still absent with the member of another
absent : (q name : List ℕ) (d : Data) (ms : Members) → (name ≡ q → ⊥) → get_member q ms ≡ None
    → get_member q (put name d ms) ≡ None
absent q name d ms other none = rw (get_member-put_apart q name d ms (apart_back name q other)) none

-- the member of a name other than a relation's was read as an object's, or is to be kept
pub body_taken : (taken : Bool) (old new : ObjectParts) (name : List ℕ) (depth : ℕ) (before after : List Token)
    → (name ≡ codes "parents" → ⊥) → (name ≡ codes "children" → ⊥)
    → MatchBool taken (IsTaken IsObjectSoFar old new name depth before after)
    (IsPassed IsObjectSoFar old new name before after)
    → MatchBool taken (IsTaken IsBodySoFar (record { object = old }) (record { object = new }) name depth before after)
    (IsPassed IsBodySoFar (record { object = old }) (record { object = new }) name before after)
body_taken true old new name depth before after parents children h =
    (h.0, h.1, λ found kept was. search (h.2 found kept was.0, absent))
body_taken false old new name depth before after parents children h =
    (h.0, λ d found kept was. search (h.1 d found kept was.0, absent))

module _ (points : List Point) (b : Body) (new : List Geometry)
    (resolved : IsResolved (IsArrayOf IsGeometry) (list_of (geometry_of points)) b.geometry new) where
  -- the body of a tree, its geometries resolved
  body_resolved : (d : Data) → IsBody b d → unrelated_body points d ≡ Some (record b { geometry = new })
  body_resolved d h =
      let o = h.2 in
      let shaped = slot_resolved IsGeometry (geometry_of points) b.geometry new _ resolved o.geometry in
      rw (h.3, o.is, o.kind, shaped, o.extra) refl

  -- commands of such a body
  pub put_resolved : (c : Command) (id : List ℕ) → c ≡ Put id b
      → IsResolved IsCommand (command_of points) c (Put id (record b { geometry = new }))
  put_resolved c id is d h =
      let put : IsCommand (Put id b) d = rw is at h in
      rw (put.1, body_resolved put.0 put.2) refl

  pub add_resolved : (c : Command) (id : List ℕ) → c ≡ Add id b
      → IsResolved IsCommand (command_of points) c (Add id (record b { geometry = new }))
  add_resolved c id is d h =
      let add : IsCommand (Add id b) d = rw is at h in
      rw (add.1, body_resolved add.0 add.2) refl

-- such a body
pub body_is : (b new : Body) → new.kind ≡ b.kind → new.extra ≡ b.extra → record b { geometry = new.geometry } ≡ new
body_is b new kind extra = λ i. record { kind = sym kind i; geometry = new.geometry; extra = sym extra i }

-- a command of geometries alone
pub reshape_resolved : (points : List Point) (c : Command) (id : List ℕ) (old new : List Geometry) → c ≡ Reshape id old
    → IsResolved (IsArrayOf IsGeometry) (list_of (geometry_of points)) old new
    → IsResolved IsCommand (command_of points) c (Reshape id new)
reshape_resolved points c id old new is resolved d h =
    let reshape : IsCommand (Reshape id old) d = rw is at h in
    let member = get (codes "geometry") reshape.0 in
    rw (reshape.1, slot_resolved IsGeometry (geometry_of points) old new member resolved reshape.2) refl

-- a command without any
pub unresolved : (points : List Point) (c : Command) → ((id : List ℕ) (b : Body) → c ≡ Put id b → ⊥)
    → ((id : List ℕ) (b : Body) → c ≡ Add id b → ⊥) → ((id : List ℕ) (gs : List Geometry) → c ≡ Reshape id gs → ⊥)
    → IsResolved IsCommand (command_of points) c c
unresolved points (Put id b) put add reshape d h = absurd (put id b refl)
unresolved points (Add id b) put add reshape d h = absurd (add id b refl)
unresolved points (Reshape id gs) put add reshape d h = absurd (reshape id gs refl)
unresolved points c put add reshape d h = h points
