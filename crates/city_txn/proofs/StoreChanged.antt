-- A city and its undo images, changed at some ids, and their store: an id written, or reserved, or a transaction ended.
use Rattle.city_txn.proofs.Prelude.{◌<◌, ◌+◌, length, take, get_or, arith, if◌then◌else◌, unwrap_or, ◌==◌, ◌&&◌, ◌||◌}
use Rattle.city_txn.proofs.Prelude.{[], ◌∷◌, ◌++◌, ◌≡◌, ℕ, List, Bool, true, false, Option, None, Some, is_some, refl}
use Rattle.city_txn.proofs.Prelude.{ap, sym, ◌∙◌, subst, false≢true, eq-eqb, list_any-append, has_id, object_at}
use Rattle.city_txn.proofs.Prelude.{same_id, Object, same_id_true, same_id_itself, same_id_back, left_at_end}
use Rattle.city_txn.proofs.Prelude.{MayReserve, Touches, store_written, image_at, reservations_of, Inside, UndoImage}
use Rattle.city_txn.proofs.Prelude.{committed_at, write_at, writer_of, has_id_more, State, store_committed, is_reserved}
use Rattle.city_txn.proofs.Prelude.{OthersWritesStay, Logs, log_of, marked, state_of, is_writer, IsInPlace, Became}
use Rattle.city_txn.proofs.Prelude.{Write, write_of, own_write, slice_cmp, nat_cmp}
use Rattle.std.proofs.Common.{is_none, ◌⊎◌, inl, inr}
use Rattle.std.proofs.lemmas.Bool.{eqb-true}
use Rattle.std.specs.BTreeMap.{IsOrdered, is_at}
use Rattle.std.specs.Map.{lookup}
use Rattle.city_model.specs.CityMap.{CityMap, CityValue, Objects, changed}
use Rattle.city_txn.specs.internal.Ending.{EndedBut, map_at_end}
use Rattle.city_txn.specs.internal.State.{Forgets, WritesOne, is_begun}
use Rattle.city_txn.specs.internal.Transactions.{Images, Reservations, listed_by}
use Rattle.city_txn.specs.declared.end.End.{End}
use Rattle.city_txn.specs.declared.transactions.Transactions.{Transactions}
use Rattle.city_txn.specs.internal.Images.{unwritten_image, is_orphan_written}
use Rattle.city_txn.specs.UndoLog.{OwnWrites}
use Rattle.city_txn.proofs.AtOneId.{here, image, city_is, writes_is, view_is, unwritten}
use Rattle.city_txn.proofs.AtOneId.{plain_at, plain_by, one_of_plain}
use Rattle.city_txn.specs.internal.InPlace.{IsPlain}
use Rattle.city_txn.specs.Placeholder.{placeholder}
use Rattle.city_txn.specs.declared.end.End.TheVariants.{Commit, RollBack}

-- ---- a city and its images

-- the objects after one was set
pub set_at : (objects new : Objects) (id : List ℕ) (x : Option Object)
    → object_at new ≡ changed (object_at objects) id x
    → (q : List ℕ) → object_at new q ≡ changed (object_at objects) id x q
set_at objects new id x e q = ap (λ m. m q) e

-- ids ended one after another
pub one_more_ended : (f : Option Object → Option UndoImage → Option Object) → ((x : Option Object) → f x None ≡ x)
    → {a b c : CityValue} {m n k : Images} (ids : List (List ℕ)) (i : ℕ) (id : List ℕ) → i < length ids
    → id ≡ get_or ids i id
    → Became (has_id (take i ids)) (λ q. f (object_at a.1 q) (image_at m q)) (λ q. None) a b m n
    → Became (same_id id) (λ q. f (object_at b.1 id) (image_at n id)) (λ q. None) b c n k
    → Became (has_id (take (i + 1) ids)) (λ q. f (object_at a.1 q) (image_at m q)) (λ q. None) a c m k
one_more_ended f ended ids i id lt is before one =
    let more = λ (q : List ℕ). has_id_more ids i id q lt is in grind (arith, same_id_true)

-- all ids with an image ended, one after another
pub none_ended : (end : End) (a : CityValue) (m : Images) → EndedBut end a a m m
none_ended end a m = record { frame = refl; objects = λ q. grind arith; images = λ q h. refl }

pub one_ended : (end : End) {a b c : CityValue} {m n k : Images} (id : List ℕ) (i : UndoImage) → EndedBut end a b m n
    → image_at n id ≡ Some i → ((q : List ℕ) → image_at k q ≡ (if same_id id q then None else image_at n q))
    → c.0 ≡ b.0
    → ((q : List ℕ) → object_at c.1 q ≡ changed (object_at b.1) id (left_at_end end (object_at b.1 id) (Some i)) q)
    → EndedBut end a c m k
one_ended end id i before is taken frame after = record {
  frame = frame ∙ before.frame;
  objects = λ q.
      let x = after q in let t = taken q in let y = before.objects q in let at = same_id_true id q in
      let here = before.images id in let z = before.objects id in grind arith;
  images = λ q h. let t = taken q in let y = before.images q in grind arith;
}

pub all_ended : (end : End) {a c : CityValue} {m n k : Images} → EndedBut end a c m n → n.entries ≡ []
    → k.entries ≡ n.entries → IsOrdered (slice_cmp nat_cmp) k
    → Became (λ q. is_some (image_at m q)) (λ q. left_at_end end (object_at a.1 q) (image_at m q)) (λ q. None) a c m k
all_ended end {m = m} {n} {k} ended empty same ordered =
    let none = λ (q : List ℕ). ap (λ es. lookup (is_at (slice_cmp nat_cmp q)) es) empty in
    let still = λ (q : List ℕ). ap (λ es. lookup (is_at (slice_cmp nat_cmp q)) es) (same ∙ empty) in
    record {
      frame = ended.frame;
      object_is = λ q. let x = ended.objects q in let t = none q in grind arith;
      image_is = λ q. let t = none q in let u = still q in grind arith;
      ordered = λ h. ordered;
    }

-- if these are all the ids with an image
pub ended_at : (end : End) (ids : List (List ℕ)) {a c : CityValue} {m k : Images}
    → ((q : List ℕ) → is_some (image_at m q) ≡ true → has_id ids q ≡ true)
    → Became (λ q. is_some (image_at m q)) (λ q. left_at_end end (object_at a.1 q) (image_at m q)) (λ q. None) a c m k
    → Became (has_id ids) (λ q. left_at_end end (object_at a.1 q) (image_at m q)) (λ q. None) a c m k
ended_at end ids all became = record {
  frame = became.frame;
  object_is = λ q. let x = became.object_is q in let t = all q in grind arith;
  image_is = λ q. let x = became.image_is q in let t = all q in grind arith;
  ordered = became.ordered;
}

-- a reservation taken back
pub taken_back : (s : ℕ) (id : List ℕ) {a b c : CityValue} {m n k : Images}
    → image_at m id ≡ None
    → Became (same_id id) (λ q. Some (unwrap_or (object_at a.1 id) placeholder))
    (λ q. Some (unwritten_image s (is_none (object_at a.1 id)))) a b m n
    → Became (same_id id) (λ q. left_at_end RollBack (object_at b.1 id) (image_at n id)) (λ q. None) b c n k
    → Became (λ q. false) (λ q. Some (unwrap_or (object_at a.1 id) placeholder))
    (λ q. Some (unwritten_image s (is_none (object_at a.1 id)))) a c m k
taken_back s id none add back = grind (arith, same_id_true)

-- ---- a store of these

module _ (b : Inside) (k : IsInPlace b) where
  -- the committed city then
  committed_is : (m : CityMap) → ((q : List ℕ) → committed_at (here b q) (image b q) ≡ m q)
      → store_committed (state_of b) ≡ m
  committed_is m at = λ j q. (city_is b k q ∙ at q) j

-- ---- one id written

-- the write of s at an id reserved by it became w; the committed object and the reservation stay
pub record Rewrites (x : Option Object) (i : Option UndoImage) (y : Option Object) (j : Option UndoImage)
    (w : Option Write) : Type 0 where
  pub room : is_some y ≡ true
  pub committed : committed_at y j ≡ committed_at x i
  pub write : write_at y j ≡ w
  pub writer : writer_of j ≡ writer_of i

-- the store then
pub record OwnWritten (v : State) (b : Inside) (s : ℕ) (id : List ℕ) (w : Option Write) : Type 0 where
  pub in_place : IsInPlace b
  pub one : WritesOne id w v (state_of b)
  pub others : OthersWritesStay s v (state_of b)

pub own_written : (a : Inside) (k : IsInPlace a) {v : State} (seen : state_of a ≡ v) (s : ℕ) (id : List ℕ)
    (reserved : is_reserved v s id ≡ true) (city : CityValue) (all : Transactions)
    {x : Option Object} {i : Option UndoImage}
    → Became (same_id id) (λ q. x) (λ q. i) a.city city a.transactions.images all.images
    → all.reservations ≡ a.transactions.reservations → (w : Option Write) (may : Bool)
    → (may ≡ false → (a.may_have_orphan ≡ false) × (is_orphan_written w ≡ false))
    → (is_writer s (writer_of (image a id)) ≡ true → is_some (here a id) ≡ true
    → Rewrites (here a id) (image a id) x i w)
    → OwnWritten v (record a { city = city; transactions = all; may_have_orphan = may }) s id w
own_written a k seen s id reserved city all {x} {i} t reservations w may plain rewrites =
    let b : Inside = record a { city = city; transactions = all; may_have_orphan = may } in
    let mine : is_writer s (writer_of (image a id)) ≡ true =
    sym (k.listed s id) ∙ ap (λ (u : State). is_reserved u s id) seen ∙ reserved in
    let r = rewrites mine (let room = k.has_room id in grind arith) in
    let opened = ap (λ u. u.entries) reservations in
    let same : (r : ℕ) (q : List ℕ) → is_reserved (state_of b) r q ≡ is_reserved (state_of a) r q =
    λ r q. ap (λ es. has_id (reservations_of es r) q) opened in
    let unorphaned : IsPlain may city all.images =
    plain_by city all.images (λ h q. one_of_plain (same_id id q) _ _ _ _ (t.object_is q) (t.image_is q)
    (ap is_orphan_written r.write ∙ (plain h).1) (plain_at a.city a.transactions.images k.plain (plain h).0 q)) in
    let in_place : IsInPlace b = grind (arith, same_id_true) in
    subst (λ (u : State). OwnWritten u b s id w) seen (record {
      in_place = in_place;
      one = record {
        only = record {
          frame = t.frame;
          city = committed_is b in_place (store_committed (state_of a)) (λ q.
              let y = t.object_is q in let j = t.image_is q in let e = r.committed in let at = same_id_true id q in
              let was = city_is a k q in grind arith);
          opened = opened;
          logs = refl;
        };
        writes = λ q. let was = writes_is a k q in let is = writes_is b in_place q in grind arith;
      };
      others = λ q. let was = writes_is a k q in let is = writes_is b in_place q in grind (arith, same_id_true);
    })

-- ---- an id newly reserved

-- the store after s has newly reserved the id, if it has, and its write there became w
pub record FirstWritten (v : State) (b : Inside) (has : Bool) (s : ℕ) (id : List ℕ) (w : Option Write) : Type 0 where
  pub in_place : IsInPlace b
  pub touches : Touches s (same_id id) v (state_of b)
  pub writes : (q : List ℕ) → write_of (state_of b).writes q ≡ (if has && same_id id q then w else write_of v.writes q)
  pub logs : (state_of b).logs ≡ v.logs
  pub more : (t : ℕ) (q : List ℕ)
      → is_reserved (state_of b) t q ≡ ((has && ((s == t) && same_id id q)) || is_reserved v t q)

-- x stands at the id then, with the image i
module _ (a : Inside) (k : IsInPlace a) {v : State} (seen : state_of a ≡ v) (s : ℕ) (id : List ℕ)
    (is_opened : is_begun v s ≡ true) (absent : image a id ≡ None) (has : Bool) (city : CityValue) (all : Transactions)
    {x : Option Object} {i : UndoImage}
    (t : Became (λ q. has && same_id id q) (λ q. x) (λ q. Some i) a.city city a.transactions.images all.images)
    (listed : (r : ℕ) → listed_by all.reservations.entries r
    ≡ (if has && (s == r) then Some (reservations_of a.transactions.reservations.entries s ++ id ∷ [])
    else listed_by a.transactions.reservations.entries r)) (may : Bool) (w : Option Write)
    (plain : may ≡ false → (a.may_have_orphan ≡ false) × (is_orphan_written w ≡ false)) (by : i.by ≡ s)
    (room : is_some x ≡ true) (before : committed_at x (Some i) ≡ here a id) (writes : write_at x (Some i) ≡ w) where
  abbrev with_it : Inside
  with_it = record a { city = city; transactions = all; may_have_orphan = may }

  more_reserved : (r : ℕ) (q : List ℕ)
      → is_reserved (state_of with_it) r q ≡ ((has && ((s == r) && same_id id q)) || is_reserved (state_of a) r q)
  more_reserved r q =
      let f = list_any-append (same_id q) (reservations_of a.transactions.reservations.entries s) (id ∷ []) in
      let e = listed r in grind (arith, same_id_back)

  reserved_in_place : IsInPlace with_it
  reserved_in_place =
      let more = more_reserved in
      let plain_still : IsPlain may city all.images = plain_by city all.images (λ h q.
      one_of_plain (has && same_id id q) _ _ _ _ (t.object_is q) (t.image_is q)
      (ap is_orphan_written writes ∙ (plain h).1) (plain_at a.city a.transactions.images k.plain (plain h).0 q)) in
      grind (arith, same_id_true)

  writes_then : (q : List ℕ) → write_of (state_of with_it).writes q
      ≡ (if has && same_id id q then w else write_of (state_of a).writes q)
  writes_then q =
      let was = writes_is a k q in let is = writes_is with_it reserved_in_place q in
      let y = t.object_is q in let j = t.image_is q in grind arith

  pub first_written : FirstWritten v with_it has s id w
  first_written = subst (λ (u : State). FirstWritten u with_it has s id w) seen (record {
    in_place = reserved_in_place;
    touches = record {
      frame = t.frame;
      city = committed_is with_it reserved_in_place (store_committed (state_of a)) (λ q.
          let was = city_is a k q in let y = t.object_is q in let j = t.image_is q in let at = same_id_true id q in
          grind arith);
      opened = λ r.
          let was_open : is_begun (state_of a) s ≡ true = ap (λ (u : State). is_begun u s) seen ∙ is_opened in
          let e = listed r in grind arith;
      writes = λ q. let now = writes_then q in let was = writes_is a k q in let at = same_id_true id q in grind arith;
      logs = λ r ne. refl;
      reserved = λ r q h. let more = more_reserved r q in grind arith;
      noted = λ q h. grind arith;
    };
    writes = writes_then;
    logs = refl;
    more = more_reserved;
  })

-- it wrote nothing there
module _ {v : State} {b : Inside} {has : Bool} {s : ℕ} {id : List ℕ} (r : FirstWritten v b has s id None)
    (unwritten : write_of v.writes id ≡ None) where
  pub writes_left : (q : List ℕ) → write_of (state_of b).writes q ≡ write_of v.writes q
  writes_left q = let e = r.writes q in let at = same_id_true id q in grind arith

  pub marks_left : store_written (state_of b) s ≡ store_written v s
  marks_left i = let f : OwnWrites = λ q. own_write s (writes_left q i) in (f, marked (log_of (r.logs i) s) f)

-- ---- reserved already

only_writer : (s : ℕ) (i : Option UndoImage) → is_some i ≡ true → ((t : ℕ) → is_writer t (writer_of i) ≡ true → t ≡ s)
    → is_writer s (writer_of i) ≡ true
only_writer s None h f = absurd (false≢true h)
only_writer s (Some i) h f = eq-eqb i.by s (f i.by (eq-eqb i.by i.by refl))

pub reserved_already : (a : Inside) → IsInPlace a → {v : State} → state_of a ≡ v → (s : ℕ) (id : List ℕ)
    → MayReserve v s (same_id id) → is_some (image a id) ≡ true → (t : ℕ) (q : List ℕ)
    → is_reserved v t q ≡ (((s == t) && same_id id q) || is_reserved v t q)
reserved_already a k {v} seen s id may h t q =
    let listed : (r : ℕ) → is_reserved v r id ≡ is_writer r (writer_of (image a id)) =
    λ r. ap (λ (u : State). is_reserved u r id) (sym seen) ∙ k.listed r id in
    let mine : is_reserved v s id ≡ true = listed s
    ∙ only_writer s (image a id) h (λ r g. may.alone id (same_id_itself id) r (listed r ∙ g)) in
    let stamp = eqb-true s t in let at = same_id_true id q in grind arith

pub reserved_before : (a : Inside) → IsInPlace a → {v : State} → state_of a ≡ v → (s : ℕ) (id : List ℕ)
    → MayReserve v s (same_id id) → is_some (image a id) ≡ true → is_reserved v s id ≡ true
reserved_before a k seen s id may there =
    let mine = reserved_already a k seen s id may there s id in let itself = same_id_itself id in
    let stamp = eq-eqb s s refl in grind arith

-- ---- a stamp opened; it wasn't open before

pub opened_in_place : (a : Inside) → IsInPlace a → {v : State} → state_of a ≡ v → (s : ℕ) → is_begun v s ≡ false
    → (u : Transactions) → u.images ≡ a.transactions.images
    → ((t : ℕ) → listed_by u.reservations.entries t
    ≡ (if s == t then Some [] else listed_by a.transactions.reservations.entries t))
    → IsInPlace (record a { transactions = u })
opened_in_place a k {v} seen s shut u images opened =
    let was_shut : is_begun (state_of a) s ≡ false = ap (λ (w : State). is_begun w s) seen ∙ shut in
    let same : (t : ℕ) → reservations_of u.reservations.entries t
    ≡ reservations_of a.transactions.reservations.entries t =
    λ t. let e = opened t in grind arith in
    grind arith

-- ---- a transaction ended

pub record Ending (s : ℕ) (end : End) (v : State) (b : Inside) : Type 0 where
  pub in_place : IsInPlace b
  pub forgets : Forgets s v (state_of b)
  pub city : store_committed (state_of b) ≡ map_at_end end v s

-- who alone could have written wrote
only_listed : (i : Option UndoImage) → is_some i ≡ true → (s : ℕ) (listed : ℕ → Bool)
    → ((t : ℕ) → listed t ≡ is_writer t (writer_of i)) → ((t : ℕ) → (s == t) ≡ false → listed t ≡ false)
    → listed s ≡ true
only_listed None h s listed is others = absurd (false≢true h)
only_listed (Some i) h s listed is others =
    let by = is i.by in let own = is s in let other = others i.by in let itself = eq-eqb i.by i.by refl in
    let same = eqb-true s i.by in grind arith

-- if only the stamp to close is open, all images are at its ids
pub alone_listed : (a : Inside) → IsInPlace a → (s : ℕ) (ids : List (List ℕ)) {left : Reservations}
    → ids ≡ reservations_of a.transactions.reservations.entries s
    → ((r : ℕ) → listed_by left r ≡ (if s == r then None else listed_by a.transactions.reservations.entries r))
    → left ≡ []
    → (q : List ℕ) → is_some (image a q) ≡ true → has_id ids q ≡ true
alone_listed a k s ids are closed shut q some =
    ap (λ xs. has_id xs q) are
    ∙ only_listed (image a q) some s (λ t. has_id (reservations_of a.transactions.reservations.entries t) q)
    (λ t. k.listed t q)
    (λ t ne. let e = closed t in grind arith)

-- the stamp s is closed, and then each of its ids is ended
module _ (a : Inside) (k : IsInPlace a) {v : State} (seen : state_of a ≡ v) (s : ℕ) (end : End) (city : CityValue)
    (all : Transactions) (logs : Logs) (ids : List (List ℕ))
    (are : ids ≡ reservations_of a.transactions.reservations.entries s)
    (t : Became (has_id ids) (λ q. left_at_end end (here a q) (image a q)) (λ q. None) a.city city a.transactions.images
    all.images)
    (closed : (r : ℕ) → listed_by all.reservations.entries r
    ≡ (if s == r then None else listed_by a.transactions.reservations.entries r))
    (forgotten : (r : ℕ) → log_of logs r ≡ (if s == r then [] else log_of a.logs r)) (may : Bool)
    (plain : may ≡ false → (a.may_have_orphan ≡ false) ⊎ (all.reservations.entries ≡ [])) where
  abbrev without_it : Inside
  without_it = record a { city = city; transactions = all; logs = logs; may_have_orphan = may }

  mine : (q : List ℕ) → has_id ids q ≡ is_writer s (writer_of (image a q))
  mine q = ap (λ xs. has_id xs q) are ∙ k.listed s q

  reserved_left : (r : ℕ) (q : List ℕ)
      → is_reserved (state_of without_it) r q ≡ (if s == r then false else is_reserved (state_of a) r q)
  reserved_left r q = let e = closed r in grind arith

  listed_left : (r : ℕ) (q : List ℕ)
      → has_id (reservations_of all.reservations.entries r) q ≡ is_writer r (writer_of (image_at all.images q))
  listed_left r q =
      let m = mine q in let e = reserved_left r q in let j = t.image_is q in let was = k.listed r q in grind arith

  none_left : all.reservations.entries ≡ [] → (q : List ℕ) → image_at all.images q ≡ None
  none_left shut q = unwritten (image_at all.images q) (λ r. sym (listed_left r q)
      ∙ ap (λ reservations. has_id (reservations_of reservations r) q) shut)

  unorphaned_at : (a.may_have_orphan ≡ false) ⊎ (all.reservations.entries ≡ []) → (q : List ℕ)
      → is_orphan_written (write_at (object_at city.1 q) (image_at all.images q)) ≡ false
  unorphaned_at (inl h) q = one_of_plain (has_id ids q) _ _ _ _ (t.object_is q) (t.image_is q) refl
      (plain_at a.city a.transactions.images k.plain h q)
  unorphaned_at (inr shut) q = ap (λ i. is_orphan_written (write_at (object_at city.1 q) i)) (none_left shut q)

  ended_in_place : IsInPlace without_it
  ended_in_place =
      let m = mine in let e = reserved_left in let l = listed_left in
      let u : IsPlain may city all.images = plain_by city all.images (λ h. unorphaned_at (plain h)) in grind arith

  committed_at_end : (e : End) → Became (has_id ids) (λ q. left_at_end e (here a q) (image a q)) (λ q. None) a.city city
      a.transactions.images all.images → store_committed (state_of without_it) ≡ map_at_end e (state_of a) s
  committed_at_end Commit u = committed_is without_it ended_in_place (map_at_end Commit (state_of a) s)
      (λ q. let m = mine q in let was = view_is a k q s in grind arith)
  committed_at_end RollBack u = committed_is without_it ended_in_place (store_committed (state_of a))
      (λ q. let was = city_is a k q in grind arith)

  pub ending : Ending s end v without_it
  ending = subst (λ (w : State). Ending s end w without_it) seen (record {
    in_place = ended_in_place;
    forgets =
        let m = mine in let left = reserved_left in let was = writes_is a k in
        let is = writes_is without_it ended_in_place in grind arith;
    city = committed_at_end end t;
  })
