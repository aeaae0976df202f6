-- The writes of a transaction, listed as a change, make its view of the committed map.
use Rattle.city_txn.proofs.Prelude.{arith, ◌≡◌, ℕ, ◌+◌, ◌<◌, List, length, take, get_or, Bool, true, false}
use Rattle.city_txn.proofs.Prelude.{Option, None, Some, refl, ap, sym, ◌∙◌, subst, if◌then◌else◌, unwrap_or, keys_of}
use Rattle.city_txn.proofs.Prelude.{slice_cmp, nat_cmp, is_at, is_some-lookup, false≢true, IsStrictlySortedBy, Object}
use Rattle.city_txn.proofs.Prelude.{same_id, has_id, is_orphan_there, Change, write_in, same_id_true, Inside}
use Rattle.city_txn.proofs.Prelude.{write_at, Write, write_of, own_or, own_write, is_by, state_of, IsInPlace}
use Rattle.city_txn.proofs.Prelude.{reservations_of, State, store_committed, store_own, store_view, has_id_more}
use Rattle.std.specs.Option.{option_or}
use Rattle.std.specs.Prelude.{option_map, IfSome, IfNone}
use Rattle.std.proofs.lemmas.Cmp.{nat_list_cmp_total, tied_itself}
use Rattle.std.proofs.lemmas.Map.Lookups.{exact_bytes}
use Rattle.city_model.specs.Relations.{is_orphan, HasNoOrphan, IsLeastOrphan, IsLawful}
use Rattle.city_model.proofs.ChangeLaws.{at_change}
use Rattle.city_txn.specs.CoreState.{CoreState, committed, view}
use Rattle.city_txn.specs.Changing.{change_in, IsChangeOf}
use Rattle.city_txn.specs.internal.LeastAmong.{lesser, is_below, IsLeastAmong}
use Rattle.city_txn.proofs.AtOneId.{at_made, sorted_made, here, image, by_seen, writes_is, plain_at}

-- ---- writes noted

-- with one id more
pub noted_more : (f x y : List ℕ → Option (Option Object)) (ids : List (List ℕ)) (i : ℕ) (id : List ℕ) → i < length ids
    → id ≡ get_or ids i id → ((q : List ℕ) → x q ≡ (if has_id (take i ids) q then f q else None))
    → ((q : List ℕ) → y q ≡ (if same_id id q then option_or (f id) (x q) else x q)) → (q : List ℕ)
    → y q ≡ (if has_id (take (i + 1) ids) q then f q else None)
noted_more f x y ids i id lt is before step q =
    let more = has_id_more ids i id q lt is in let was = before q in let now = step q in let at = same_id_true id q in
    grind arith

-- ---- a transaction's writes, from its view

pub own_none : (s : ℕ) (w : Option Write) → is_by s w ≡ false → own_write s w ≡ None
own_none s w h = grind arith

pub own_sees : (s : ℕ) (w : Option Write) (o : Option Object) → is_by s w ≡ true → own_write s w ≡ Some (own_or s w o)
own_sees s w o h = grind arith

there_orphan : (x : Option Object) → is_orphan_there x ≡ true → (o : Object) × (x ≡ Some o) × (is_orphan o ≡ true)
there_orphan None h = absurd (false≢true h)
there_orphan (Some o) h = (o, refl, h)

-- the store has the state v, and these ids are reserved for s: it wrote no others
module _ (a : Inside) (k : IsInPlace a) (v : State) (seen : state_of a ≡ v) (s : ℕ) (ids : List (List ℕ))
    (all : ids ≡ reservations_of a.transactions.reservations.entries s) where
  unlisted : (q : List ℕ) → has_id ids q ≡ false → store_own v s q ≡ None
  unlisted q h =
      let seen_by = by_seen a k seen q {o = image a q} refl s in let l = k.listed s q in
      grind arith

  pub all_listed : (q : List ℕ) → (if has_id ids q then store_own v s q else None) ≡ store_own v s q
  all_listed q = let none = unlisted q in grind arith

  module _ (none : HasNoOrphan (store_committed v)) where
    abbrev orphaned : List ℕ → Bool
    orphaned q = is_orphan_there (store_view v s q)

    -- an orphan was written
    orphan_listed : (q : List ℕ) → orphaned q ≡ true → has_id ids q ≡ true
    orphan_listed q h =
        let unwritten = unlisted q in let was = none q in grind arith

    module _ {Y : Type 0} (id_of : Y → List ℕ) where
      pub none_seen : (x : Option Y) → IsLeastAmong orphaned ids (option_map id_of x)
          → IfNone x (HasNoOrphan (store_view v s))
      none_seen None l = λ q o is. let listed = orphan_listed q in let below = l.below q in grind arith
      none_seen (Some y) l = tt

      pub least_seen : (x : Option Y) → IsLeastAmong orphaned ids (option_map id_of x)
          → IfSome x (λ y. IsLeastOrphan (store_view v s) (id_of y))
      least_seen None l = tt
      least_seen (Some y) l = (
        there_orphan (store_view v s (id_of y)) (l.passes (id_of y) refl),
        λ q less h. let there : orphaned q ≡ true = ap is_orphan_there h.1 ∙ h.2 in
            let below = l.below q (orphan_listed q there) there in grind arith,
      )

-- if no orphan may have been written, none is seen
pub none_written : (a : Inside) → IsInPlace a → (v : State) → state_of a ≡ v → (s : ℕ) → a.may_have_orphan ≡ false
    → HasNoOrphan (store_committed v) → HasNoOrphan (store_view v s)
none_written a k v seen s h none q o is =
    let plain = plain_at a.city a.transactions.images k.plain h q in
    let was : write_of v.writes q ≡ write_at (here a q) (image a q) =
    ap (λ (u : State). write_of u.writes q) (sym seen) ∙ writes_is a k q in
    let committed = none q o in
    grind arith

-- ---- the least of the ids that pass a test

is_below_lesser : (x : Option (List ℕ)) (id q : List ℕ) → (same_id id q ≡ false → is_below x q ≡ true)
    → is_below (Some (lesser x id)) q ≡ true
is_below_lesser None id q h = let at = same_id_true id q in let itself = tied_itself nat_list_cmp_total q in grind arith
is_below_lesser (Some m) id q h =
    let at = same_id_true id q in let itself = tied_itself nat_list_cmp_total q in
    let through = nat_list_cmp_total.trans q id m in let back = nat_list_cmp_total.antisymm id m in
    let same = exact_bytes id m in grind arith

pub one_lesser : (p : List ℕ → Bool) (ids : List (List ℕ)) (i : ℕ) (id : List ℕ) (x y : Option (List ℕ)) (b : Bool)
    → i < length ids → id ≡ get_or ids i id → p id ≡ b → y ≡ (if b then Some (lesser x id) else x)
    → IsLeastAmong p (take i ids) x → IsLeastAmong p (take (i + 1) ids) y
one_lesser p ids i id x y true lt is pass now l = subst (IsLeastAmong p (take (i + 1) ids)) (sym now) (record {
  passes = λ q h. let before = l.passes q in grind arith;
  below = λ q listed h. is_below_lesser x id q (λ other.
      let more = has_id_more ids i id q lt is in let before = l.below q in grind arith);
})
one_lesser p ids i id x y false lt is pass now l = subst (IsLeastAmong p (take (i + 1) ids)) (sym now) (record {
  passes = l.passes;
  below = λ q listed h. let more = has_id_more ids i id q lt is in let at = same_id_true id q in
      let before = l.below q in grind arith;
})

-- ---- the writes of a transaction among all of them

module _ (a : Inside) (k : IsInPlace a) (v : State) (seen : state_of a ≡ v) (s : ℕ) where
  ascend : IsStrictlySortedBy (slice_cmp nat_cmp) (keys_of v.writes)
  ascend = subst (λ (u : State). IsStrictlySortedBy (slice_cmp nat_cmp) (keys_of u.writes)) seen
      (sorted_made (λ id i. write_at (here a id) (Some i)) a.transactions.images.entries k.ordered)

  pub change_lists : (q : List ℕ) → write_in (change_in v.writes s) q ≡ own_write s (write_of v.writes q)
  change_lists q = let made = at_made (λ id w. own_write s (Some w)) v.writes q ascend in grind arith

  pub change_ascends : IsStrictlySortedBy (slice_cmp nat_cmp) (keys_of (change_in v.writes s))
  change_ascends = sorted_made (λ id w. own_write s (Some w)) v.writes ascend

-- ---- the map with the change

-- the change has the transaction's writes, in byte order
module _ (v : CoreState) (s : ℕ) (c : Change) (lists : (q : List ℕ) → write_in c q ≡ own_write s (write_of v.writes q))
    (sorted : IsStrictlySortedBy (slice_cmp nat_cmp) (keys_of c)) where
  view_over : (q : List ℕ) → view v s q ≡ unwrap_or (write_in c q) (committed v q)
  view_over q = let e = lists q in grind arith

  pub is_change_of : IsLawful (view v s) → IsChangeOf v s c
  is_change_of lawful = record {
    makes_view = λ i q. (at_change c (committed v) q sorted ∙ sym (view_over q)) i;
    ids = λ q. let is = lists q in let some = is_some-lookup (is_at (slice_cmp nat_cmp q)) c in grind arith;
    in_byte_order = sorted;
    lawful = lawful;
  }
