-- The value of a store at an id, from its city and its images there; a new store, and one at rest.
use Rattle.city_txn.proofs.Prelude.{arith, ◌≡◌, ◌==◌, ℕ, List, [], ◌∷◌, true, false, Option, None, Some, refl, ap, sym}
use Rattle.city_txn.proofs.Prelude.{◌∙◌, ◌||◌, keys_of, nat_cmp, slice_cmp, is_at, list_any, false≢true, eq-eqb, Object}
use Rattle.city_txn.proofs.Prelude.{object_at, has_id, same_id, same_id_true, UndoImage, Inside, committed_at, write_at}
use Rattle.city_txn.proofs.Prelude.{writer_of, write_of, is_by, own_or, State, store_committed, store_view, state_of}
use Rattle.city_txn.proofs.Prelude.{is_writer, IsInPlace, image_at, reservations_of, Bool, if◌then◌else◌, is_some}
use Rattle.std.proofs.Common.{Less}
use Rattle.std.specs.Map.{lookup}
use Rattle.std.specs.Cmp.{unsigned_tied, eq_by_cmp_equiv}
use Rattle.std.specs.Ordering.{eq_by_cmp}
use Rattle.std.specs.FinMap.{entries}
use Rattle.std.specs.List.{AllByRecursion}
use Rattle.std.specs.List.Sorted.{IsStrictlySortedBy}
use Rattle.std.proofs.lemmas.Cmp.{nat_list_cmp_total}
use Rattle.std.proofs.lemmas.Map.{lookup-none}
use Rattle.std.proofs.lemmas.Map.Keys.{IsDistinct-from_sorted, sorted_tail}
use Rattle.std.proofs.lemmas.Map.Entries.{none_past_head}
use Rattle.city_model.proofs.Objects.{at_entries, entries_ascend, at_sorted, same_objects}
use Rattle.city_model.specs.CityMap.{CityValue}
use Rattle.city_txn.specs.Writes.{made_by}
use Rattle.city_txn.specs.internal.Images.{is_orphan_written}
use Rattle.city_txn.specs.internal.InPlace.{IsPlain}
use Rattle.city_txn.specs.internal.Reserved.{Became, HasRoom}
use Rattle.city_txn.specs.internal.Ending.{left_at_end}
use Rattle.city_txn.specs.internal.Transactions.{Images}
use Rattle.city_txn.specs.declared.end.End.TheVariants.{RollBack}

-- a map's keys are tested as numbers are
pub tied : (s t : ℕ) → is_at (nat_cmp s) t ≡ (s == t)
tied s t = unsigned_tied s t

-- ---- lists made of lists

abbrev pub through : {X Y : Type 0} → (X → Option Y) → Option X → Option Y
through f None = None
through f (Some x) = f x

pub at_made : {X Y : Type 0} (f : List ℕ → X → Option Y) (es : List (List ℕ × X)) (q : List ℕ)
    → IsStrictlySortedBy (slice_cmp nat_cmp) (keys_of es) →
    lookup (is_at (slice_cmp nat_cmp q)) (made_by f es) ≡ through (f q) (lookup (is_at (slice_cmp nat_cmp q)) es)
at_made f [] q s = refl
at_made f (e ∷ es) q s =
    let rest = at_made f es q (sorted_tail (slice_cmp nat_cmp) e.0 (keys_of es) s) in
    let none = λ (t : same_id q e.0 ≡ true). lookup-none (is_at (slice_cmp nat_cmp q)) es
    (none_past_head {eq = eq_by_cmp (slice_cmp nat_cmp)} (eq_by_cmp_equiv nat_list_cmp_total) q e es
    (IsDistinct-from_sorted (slice_cmp nat_cmp) (keys_of (e ∷ es)) s) t) in
    let is = same_id_true q e.0 in
    grind arith

-- and ascend if they do
above_made : {X Y : Type 0} (f : List ℕ → X → Option Y) (k : List ℕ) (es : List (List ℕ × X))
    → AllByRecursion (λ j. slice_cmp nat_cmp k j ≡ Less) (keys_of es)
    → AllByRecursion (λ j. slice_cmp nat_cmp k j ≡ Less) (keys_of (made_by f es))
above_made f k [] a = tt
above_made f k (e ∷ es) a = let rest = above_made f k es a.1 in let first = a.0 in grind arith

pub sorted_made : {X Y : Type 0} (f : List ℕ → X → Option Y) (es : List (List ℕ × X))
    → IsStrictlySortedBy (slice_cmp nat_cmp) (keys_of es)
    → IsStrictlySortedBy (slice_cmp nat_cmp) (keys_of (made_by f es))
unfolding IsStrictlySortedBy
sorted_made f [] s = s
sorted_made f (e ∷ es) s =
    let rest = sorted_made f es s.1 in let first = above_made f e.0 es s.0 in grind arith

-- ---- the value at an id

-- the object in the one city
abbrev pub here : Inside → List ℕ → Option Object
here a q = object_at a.city.1 q

-- and the image
abbrev pub image : Inside → List ℕ → Option UndoImage
image a q = image_at a.transactions.images q

module _ (a : Inside) (k : IsInPlace a) (q : List ℕ) where
  pub city_is : store_committed (state_of a) q ≡ committed_at (here a q) (image a q)
  city_is =
      ap (λ f. f q)
      (at_sorted (made_by (λ r o. committed_at (Some o) (image a r)) (entries a.city.1))
      (sorted_made (λ r o. committed_at (Some o) (image a r)) (entries a.city.1) (entries_ascend a.city.1)))
      ∙ at_made (λ r o. committed_at (Some o) (image a r)) (entries a.city.1) q (entries_ascend a.city.1)
      ∙ ap (λ f. through (λ o. committed_at (Some o) (image a q)) (f q)) (sym (at_entries a.city.1))
      ∙ (let room = k.has_room q in grind arith)

  pub writes_is : write_of (state_of a).writes q ≡ write_at (here a q) (image a q)
  writes_is =
      let made = at_made (λ r i. write_at (here a r) (Some i)) a.transactions.images.entries q k.ordered in grind arith

  pub view_is : (s : ℕ)
      → store_view (state_of a) s q ≡ own_or s (write_at (here a q) (image a q)) (committed_at (here a q) (image a q))
  view_is s = λ i. own_or s (writes_is i) (city_is i)

-- the committed object of a store with the state v and the image o there
pub committed_seen : (a : Inside) → IsInPlace a → {v : State} → state_of a ≡ v → (q : List ℕ) {o : Option UndoImage}
    → o ≡ image a q → committed_at (here a q) o ≡ store_committed v q
committed_seen a k seen q is =
    ap (committed_at (here a q)) is ∙ sym (city_is a k q) ∙ ap (λ (u : State). store_committed u q) seen

-- and of a store with the state v and the image o there
module _ (a : Inside) (k : IsInPlace a) {v : State} (seen : state_of a ≡ v) (q : List ℕ) {o : Option UndoImage}
    (is : o ≡ image a q) (s : ℕ) where
  pub by_seen : is_by s (write_at (here a q) o) ≡ is_by s (write_of v.writes q)
  by_seen = let was = writes_is a k q in grind arith

  pub view_seen : own_or s (write_at (here a q) o) (committed_at (here a q) o) ≡ store_view v s q
  view_seen = let was = view_is a k q s in grind arith

-- ---- orphans maybe written

pub plain_at : {may : Bool} (city : CityValue) (images : Images) → IsPlain may city images → may ≡ false → (q : List ℕ)
    → is_orphan_written (write_at (object_at city.1 q) (image_at images q)) ≡ false
unfolding IsPlain
plain_at city images p = p

pub plain_by : {may : Bool} (city : CityValue) (images : Images) → (may ≡ false → (q : List ℕ)
    → is_orphan_written (write_at (object_at city.1 q) (image_at images q)) ≡ false) → IsPlain may city images
unfolding IsPlain
plain_by city images p = p

-- one of two objects stands at an id
pub one_of_plain : (b : Bool) (x y : Option Object) {z : Option Object} (i j : Option UndoImage) {k : Option UndoImage}
    → z ≡ (if b then x else y)
    → k ≡ (if b then i else j) → is_orphan_written (write_at x i) ≡ false → is_orphan_written (write_at y j) ≡ false
    → is_orphan_written (write_at z k) ≡ false
one_of_plain true x y i j e f g h = (λ n. is_orphan_written (write_at (e n) (f n))) ∙ g
one_of_plain false x y i j e f g h = (λ n. is_orphan_written (write_at (e n) (f n))) ∙ h

-- ---- a new store, and one at rest

pub new_in_place : (a : Inside) → a.transactions.images.entries ≡ [] → a.transactions.reservations.entries ≡ []
    → a.logs ≡ []
    → IsInPlace a
unfolding IsStrictlySortedBy IsPlain
new_in_place a none shut unlogged = record {
  ordered = rw none tt;
  has_room = λ id h. grind arith;
  listed = λ s id. grind arith;
  noted = λ s id h. grind arith;
  plain = λ h id. grind arith;
}

pub unwritten : (i : Option UndoImage) → ((s : ℕ) → is_writer s (writer_of i) ≡ false) → i ≡ None
unwritten None h = refl
unwritten (Some i) h = absurd (false≢true (sym (h i.by) ∙ eq-eqb i.by i.by refl))

-- if no transaction is open, the city is as it stands
pub idle_city : (a : Inside) → IsInPlace a → a.transactions.reservations.entries ≡ [] → (state_of a).city ≡ a.city.1
idle_city a k shut = same_objects (state_of a).city a.city.1 (λ i q. (city_is a k q
    ∙ ap (committed_at (here a q)) (unwritten (image a q)
    (λ s. sym (k.listed s q) ∙ ap (λ reservations. has_id (reservations_of reservations s) q) shut))) i)

-- ---- copies of the city and of the images

here_copied : (a : Inside) {b : CityValue} → b ≡ a.city → (q : List ℕ) → object_at b.1 q ≡ here a q
here_copied a copied q = ap (λ (o : CityValue). object_at o.1 q) copied

image_copied : (a : Inside) (m : Images) → m.entries ≡ a.transactions.images.entries → (q : List ℕ)
    → image_at m q ≡ image a q
image_copied a m images q = ap (λ es. lookup (is_at (slice_cmp nat_cmp q)) es) images

-- each image has room in the copy
pub room_copied : (a : Inside) → IsInPlace a → {b : CityValue} (m : Images) → b ≡ a.city
    → m.entries ≡ a.transactions.images.entries → (q : List ℕ) → is_some (image_at m q) ≡ true → HasRoom b q
room_copied a k m copied images q some =
    let room = k.has_room q in let there = here_copied a copied q in let same = image_copied a m images q in grind arith

-- if all images are put back into the one city, it is the committed one
pub put_back_all : (a : Inside) → IsInPlace a → {v : State} → state_of a ≡ v → {b c : CityValue} {m n : Images}
    → b ≡ a.city → m.entries ≡ a.transactions.images.entries
    → Became (λ q. is_some (image_at m q)) (λ q. left_at_end RollBack (object_at b.1 q) (image_at m q)) (λ q. None)
    b c m n
    → c ≡ (v.frame, v.city)
put_back_all a k seen {b} {c} {m} copied images t =
    let at : (q : List ℕ) → object_at c.1 q ≡ store_committed (state_of a) q =
    λ q.
    let is = t.object_is q in let was = city_is a k q in let there = here_copied a copied q in
    let same = image_copied a m images q in grind arith in
    let objects : c.1 ≡ (state_of a).city = same_objects c.1 (state_of a).city (λ i q. at q i) in
    (λ i. ((t.frame ∙ ap (λ (o : CityValue). o.0) copied) i, objects i)) ∙ ap (λ (u : State). (u.frame, u.city)) seen

-- the state of a new one
pub new_state : (a : Inside) → a.transactions.images.entries ≡ [] → a.transactions.reservations.entries ≡ []
    → a.logs ≡ []
    → state_of a ≡ record { frame = a.city.0; city = a.city.1; writes = []; opened = []; logs = [] }
new_state a none shut unlogged = λ i. record {
  frame = a.city.0;
  city = idle_city a (new_in_place a none shut unlogged) shut i;
  writes = made_by (λ r j. write_at (here a r) (Some j)) (none i);
  opened = shut i;
  logs = unlogged i;
}

-- if no stamp is open, the list is empty
pub none_open : {X : Type 0} (es : List (ℕ × X)) → ((t : ℕ) → list_any (λ s. t == s) (keys_of es) ≡ false) → es ≡ []
none_open [] h = refl
none_open (e ∷ es) h =
    absurd (false≢true (sym (h e.0) ∙ ap (λ b. b || list_any (λ s. e.0 == s) (keys_of es)) (eq-eqb e.0 e.0 refl)))
