-- An id reserved and written at once, in a transaction without marks.
use Rattle.city_txn.proofs.Prelude.{arith, ◌≡◌, ◌==◌, ◌&&◌, ◌||◌, ◌∙◌, ℕ, List, [], ◌∷◌, ◌++◌, length, Bool, true}
use Rattle.city_txn.proofs.Prelude.{false, Option, None, Some, refl, ap, subst, if◌then◌else◌, unwrap_or, object_at}
use Rattle.city_txn.proofs.Prelude.{same_id, Object, same_id_true, same_id_back, left_at_end, image_at, reservations_of}
use Rattle.city_txn.proofs.Prelude.{Inside, UndoImage, write_at, State, state_of, IsInPlace, Became, Write, write_of}
use Rattle.city_txn.proofs.Prelude.{written_with, write_in, is_orphan_there, slice_cmp, nat_cmp, Change, plans}
use Rattle.city_txn.proofs.Prelude.{MayReserve, is_reserved, is_some, same_id_itself}
use Rattle.std.proofs.Common.{is_none, option_map}
use Rattle.std.specs.BTreeMap.{IsOrdered}
use Rattle.city_model.specs.CityMap.{CityMap, CityValue, changed}
use Rattle.city_txn.specs.Placeholder.{placeholder}
use Rattle.city_txn.specs.declared.end.End.TheVariants.{RollBack}
use Rattle.city_txn.specs.declared.transactions.Transactions.{Transactions}
use Rattle.city_txn.specs.internal.Images.{first_image, image_put, put_back, written_over}
use Rattle.city_txn.specs.internal.Transactions.{Images, listed_by}
use Rattle.city_txn.proofs.StoreChanged.{FirstWritten, first_written, OwnWritten, own_written, reserved_already}
use Rattle.city_txn.proofs.StoreChanged.{reserved_before}
use Rattle.city_txn.proofs.Touched.{touches_writes, reserved_by}
use Rattle.city_txn.proofs.AtOneId.{here, image, writes_is, plain_at}

-- ---- a city and its images

-- set in the city at an id without image, and its image kept or the object put back
pub placed : (s : ℕ) (id : List ℕ) (o : Option Object) (has : Bool) {a c : CityValue} (b : CityValue) {m n : Images}
    (key place : List ℕ) → key ≡ id → place ≡ id → b.0 ≡ a.0
    → ((q : List ℕ) → object_at b.1 q ≡ changed (object_at a.1) place (Some (unwrap_or o placeholder)) q)
    → (i : UndoImage) → i ≡ first_image s (object_at a.1 id) (is_none o) → c.0 ≡ b.0
    → ((q : List ℕ) → object_at c.1 q ≡ (if has then object_at b.1 q
    else changed (object_at b.1) key (left_at_end RollBack (object_at b.1 key) (Some i)) q))
    → ((q : List ℕ) → image_at n q ≡ (if has && same_id key q then Some i else image_at m q))
    → IsOrdered (slice_cmp nat_cmp) n
    → Became (λ q. has && same_id id q) (λ q. Some (unwrap_or o placeholder))
    (λ q. Some (first_image s (object_at a.1 id) (is_none o))) a c m n
placed s id o has b key place at_key at_place frame set i is frame_kept kept images ordered = record {
  frame = frame_kept ∙ frame;
  object_is = λ q. let x = set q in let y = kept q in let at = same_id_true id q in grind arith;
  image_is = λ q. let y = images q in grind arith;
  ordered = λ h. ordered;
}

pub none_placed : {x y : CityMap} {i j : List ℕ → Option UndoImage} (ids : List ℕ → Bool) {has : Bool}
    {a c : CityValue} {m n : Images} → has ≡ false → Became (λ q. false) x i a c m n
    → Became (λ q. has && ids q) y j a c m n
none_placed ids is t = grind arith

-- the id's old image is kept in the new one
pub kept_over : (s : ℕ) (id : List ℕ) (o : Option Object) (old : UndoImage) {a c : CityValue} {m n k : Images}
    → image_at m id ≡ Some old
    → Became (same_id id) (λ q. Some (unwrap_or o placeholder))
    (λ q. Some (first_image s (object_at a.1 id) (is_none o))) a c m n
    → ((q : List ℕ) → image_at k q ≡ (if same_id id q
    then option_map (λ i. written_over (put_back i) i.deleted old) (image_at n id) else image_at n q))
    → IsOrdered (slice_cmp nat_cmp) k
    → Became (same_id id) (λ q. Some (unwrap_or o placeholder))
    (λ q. Some (image_put s (object_at a.1 id) (is_none o) (image_at m id))) a c m k
kept_over s id o old was first kept ordered = record {
  frame = first.frame;
  object_is = first.object_is;
  image_is = λ q.
      let x = kept q in let y = first.image_is q in let z = first.image_is id in
      let at = same_id_itself id in grind arith;
  ordered = λ h. ordered;
}

-- a write at once taken back
pub first_taken_back : (s : ℕ) (id : List ℕ) (o : Option Object) (x : UndoImage) {a b c : CityValue} {m n k : Images}
    → image_at m id ≡ None
    → Became (same_id id) (λ q. Some (unwrap_or o placeholder))
    (λ q. Some (image_put s (object_at a.1 id) (is_none o) (image_at m id))) a b m n
    → Became (same_id id) (λ q. left_at_end RollBack (object_at b.1 id) (image_at n id)) (λ q. None) b c n k
    → Became (λ q. false) (λ q. Some (unwrap_or o placeholder)) (λ q. Some x) a c m k
first_taken_back s id o x none add back = grind (arith, same_id_true)

-- ---- a store of these

-- if the id was reserved before
rewritten : (v : State) (b : Inside) (has : Bool) (s : ℕ) (id : List ℕ) (x w : Option Write) → OwnWritten v b s id w
    → ((q : List ℕ) → (if same_id id q then w else write_of v.writes q)
    ≡ (if has && same_id id q then x else write_of v.writes q))
    → ((t : ℕ) (q : List ℕ) → is_reserved v t q ≡ ((has && ((s == t) && same_id id q)) || is_reserved v t q))
    → FirstWritten v b has s id x
rewritten v b has s id x w own same more = record {
  in_place = own.in_place;
  touches = touches_writes s (same_id id) v (state_of b) own.one.only own.others;
  writes = λ q. own.one.writes q ∙ same q;
  logs = own.one.only.logs;
  more = λ t q. reserved_by v (state_of b) t q own.one.only.opened ∙ more t q;
}

pub put_written : (a : Inside) (k : IsInPlace a) {v : State} (seen : state_of a ≡ v) (s : ℕ) (id : List ℕ)
    (may_reserve : MayReserve v s (same_id id)) (has : Bool) (city : CityValue) (all : Transactions) (x : Option Object)
    (o : Option UndoImage) → image a id ≡ o
    → Became (λ q. has && same_id id q) (λ q. Some (unwrap_or x placeholder))
    (λ q. Some (image_put s (here a id) (is_none x) o)) a.city city a.transactions.images all.images
    → ((r : ℕ) → listed_by all.reservations.entries r
    ≡ (if (has && is_none o) && (s == r) then Some (reservations_of a.transactions.reservations.entries s ++ id ∷ [])
    else listed_by a.transactions.reservations.entries r))
    → (is_some o ≡ true → all.reservations ≡ a.transactions.reservations) → (may : Bool)
    → (may ≡ false → (a.may_have_orphan ≡ false) × (is_orphan_there x ≡ false))
    → FirstWritten v (record a { city = city; transactions = all; may_have_orphan = may }) has s id (Some (s, x))
put_written a k seen s id may_reserve has city all x None is t listed same may plain =
    first_written a k seen s id may_reserve.opened is has city all t (λ r. let e = listed r in grind arith) may
    (Some (s, x)) plain refl refl refl (grind arith)
put_written a k {v} seen s id may_reserve true city all x (Some i) is t listed same may plain =
    let reserved = reserved_before a k seen s id may_reserve (ap is_some is) in
    rewritten v (record a { city = city; transactions = all; may_have_orphan = may }) true s id (Some (s, x))
    (Some (s, x))
    (own_written a k seen s id reserved city all t (same refl) (Some (s, x)) may plain (λ mine room. grind arith))
    (λ q. refl) (reserved_already a k seen s id may_reserve (ap is_some is))
put_written a k {v} seen s id may_reserve false city all x (Some i) is t listed same may plain =
    let reserved = reserved_before a k seen s id may_reserve (ap is_some is) in
    let w = write_at (here a id) (image a id) in
    let stays : Became (same_id id) (λ q. here a id) (λ q. image a id) a.city city a.transactions.images all.images =
    grind (arith, same_id_true) in
    rewritten v (record a { city = city; transactions = all; may_have_orphan = may }) false s id (Some (s, x)) w
    (own_written a k seen s id reserved city all stays (same refl) w may
    (λ h. ((plain h).0, plain_at a.city a.transactions.images k.plain (plain h).0 id)) (λ mine room. grind arith))
    (λ q. let was = writes_is a k id in let at = same_id_true id q in
    let same_write = ap (λ (u : State). write_of u.writes id) seen in grind arith) (λ t q. refl)

-- ---- the only write of a plan

pub only_one : (ws left : Change) (p : List ℕ × Option Object) → ws ≡ left ++ p ∷ [] → length ws ≡ 1 → ws ≡ p ∷ []
only_one ws [] p e l = e
only_one ws (x ∷ []) p e l = grind arith
only_one ws (x ∷ y ∷ ys) p e l = grind arith

pub only_planned : (ws : Change) (p : List ℕ × Option Object) → ws ≡ p ∷ [] → (q : List ℕ)
    → plans ws q ≡ same_id p.0 q
only_planned ws p e q =
    ap (λ (xs : Change). plans xs q) e
    ∙ (let b = same_id_back p.0 q in let c = same_id_back q p.0 in grind arith)

pub only_written : (ws : Change) (p : List ℕ × Option Object) → ws ≡ p ∷ [] → (s : ℕ) (has : Bool) (q : List ℕ)
    (y : Option Write) → (if has && same_id p.0 q then Some (s, p.1) else y)
    ≡ (if has then written_with s (write_in ws q) y else y)
only_written ws p is s has q y = let back = same_id_back p.0 q in grind arith
