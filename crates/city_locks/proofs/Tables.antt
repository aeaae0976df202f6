-- A lock added to a table, and the locks of a stamp taken out.
use Rattle.city_locks.proofs.Prelude.{◌≡◌, ℕ, ◌==◌, ◌&&◌, cond, true, false, List, [], ◌∷◌, ◌++◌, None, Some, arith}
use Rattle.city_locks.proofs.Prelude.{◌+◌, ◌<◌, length, take, get_or, is_at, Mode, Granted, stronger, with_holder}
use Rattle.city_locks.proofs.Prelude.{without, same_id, has_id, Locks, holders_of, answer_of, mode_of, Lawful, ids_of}
use Rattle.city_locks.proofs.Prelude.{same_id_true, same_id_itself}
use Rattle.std.proofs.Common.{nat_cmp}
use Rattle.std.specs.Prelude.{if◌then◌else◌}
use Rattle.std.specs.BTreeMap.{BTreeMap, get}
use Rattle.city_locks.specs.Locks.{HoldOnce}
use Rattle.city_locks.specs.internal.Listing.{IsListed}
use Rattle.city_locks.proofs.Among.{mode_with, mode_without, without_absent, without_twice, lawful_with, lawful_without}
use Rattle.city_locks.proofs.Among.{own_answers}
use Rattle.city_locks.proofs.Once.{once_with, once_without}
use Rattle.city_model.proofs.IdLists.{more_has, more_has_last}
use Rattle.city_locks.proofs.Ids.{has_id_more, stamp_apart, stamp_here}

-- w is v with the lock added
pub record Adds (v w : Locks) (s : ℕ) (id : List ℕ) (m : Mode) : Type 0 where
  pub holders : (q : List ℕ) → holders_of w q ≡ cond (same_id id q) (with_holder (holders_of v id) s m) (holders_of v q)

module _ {v w : Locks} {s : ℕ} {id : List ℕ} {m : Mode} (h : Adds v w s id m) where
  pub mode_added : (t : ℕ) (q : List ℕ)
      → mode_of w t q ≡ cond ((s == t) && same_id id q) (Some (stronger m (mode_of v s id))) (mode_of v t q)
  mode_added t q = grind (arith, h.holders q, mode_with (holders_of v q) s m t, same_id_true id q)

  pub lawful_added : Lawful v → answer_of v s id m ≡ Granted → Lawful w
  lawful_added l g r t i ne x =
      let lw = lawful_with (holders_of v i) s m (λ a b. l a b i) in
      grind (arith, h.holders i, lw, same_id_true id i, l r t i ne)

  pub own_added : (q : List ℕ) (n : Mode) → answer_of w s q n ≡ answer_of v s q n
  own_added q n = grind (arith, h.holders q, own_answers s n (holders_of v q) m, same_id_true id q)

  pub once_added : HoldOnce v → HoldOnce w
  once_added o q = grind (arith, h.holders q, once_with, same_id_true)

  -- if the new lock is listed, each lock stays listed
  pub listed_added : (l : BTreeMap ℕ (List (List ℕ))) → IsListed v l → has_id (ids_of l s) id ≡ true → IsListed w l
  listed_added l i own = record {
    listed = λ t q x. grind (arith, mode_added t q, i.listed t q, same_id_true id q);
  }

-- an id listed at its stamp, last: it is there, and the others stay listed
pub listed_last : (v : Locks) (l k : BTreeMap ℕ (List (List ℕ))) (s : ℕ) (id : List ℕ) →
    ((t : ℕ) → get nat_cmp k t ≡ (if is_at (nat_cmp s) t then Some (ids_of l s ++ id ∷ []) else get nat_cmp l t))
    → IsListed v l → (has_id (ids_of k s) id ≡ true) × IsListed v k
listed_last v l k s id h i = (
  grind (arith, h s, stamp_here, more_has_last, same_id_itself),
  record { listed = λ t q x. grind (arith, h t, i.listed t q, stamp_here, stamp_apart, more_has) },
)

-- ---- the locks of a stamp taken out
pub record Frees (v w : Locks) (s : ℕ) : Type 0 where
  pub holders : (q : List ℕ) → holders_of w q ≡ without (holders_of v q) s

module _ {v w : Locks} {s : ℕ} (h : Frees v w s) where
  pub mode_freed : (t : ℕ) (q : List ℕ) → mode_of w t q ≡ cond (s == t) None (mode_of v t q)
  mode_freed t q = grind (arith, h.holders q, mode_without)

  pub lawful_freed : Lawful v → Lawful w
  lawful_freed l r t i ne x = let lw =
      lawful_without (holders_of v i) s (λ a b. l a b i) in grind (arith, h.holders i, lw)

  pub once_freed : HoldOnce v → HoldOnce w
  once_freed o q = grind (arith, h.holders q, once_without)

  -- the others' locks stay listed
  pub listed_freed : (l k : BTreeMap ℕ (List (List ℕ))) → IsListed v l
      → ((t : ℕ) → (s == t) ≡ false → ids_of k t ≡ ids_of l t) → IsListed w k
  listed_freed l k i others = record { listed = λ t q x. grind (arith, mode_freed t q, i.listed t q, others t) }

-- if all ids of the stamp were in the list, it holds nothing more
pub freed_listed : (v w : Locks) (l : BTreeMap ℕ (List (List ℕ))) (s : ℕ) → IsListed v l →
    ((q : List ℕ) → holders_of w q ≡ cond (has_id (ids_of l s) q) (without (holders_of v q) s) (holders_of v q))
    → Frees v w s
freed_listed v w l s i h = record { holders = λ q. grind (arith, h q, i.listed s q, without_absent) }

-- one more id of the list
pub release_more : (v u w : Locks) (s : ℕ) (ids : List (List ℕ)) (i : ℕ) (id : List ℕ) → i < length ids
    → id ≡ get_or ids i id →
    ((q : List ℕ) → holders_of u q ≡ cond (has_id (take i ids) q) (without (holders_of v q) s) (holders_of v q)) →
    ((q : List ℕ) → holders_of w q ≡ cond (same_id id q) (without (holders_of u id) s) (holders_of u q)) →
    (q : List ℕ) → holders_of w q ≡ cond (has_id (take (i + 1) ids) q) (without (holders_of v q) s) (holders_of v q)
release_more v u w s ids i id lt at before now q =
    grind (arith, has_id_more ids i id q lt at, before q, now q, same_id_true id q, without_twice (holders_of v q) s)
