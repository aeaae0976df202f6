-- A list's ids, put into a set one after another.
use Rattle.city_doc.proofs.Prelude.{◌≡◌, ℕ, List, ◌∷◌, Bool, true, false, [], not, cond, refl, arith, list_all, ◌&&◌}
use Rattle.city_doc.proofs.Prelude.{has_id, same_id, same_id_back}
use Rattle.std.specs.Prelude.{◌||◌}
use Rattle.city_model.specs.internal.RelationTests.{are_distinct}
use Rattle.city_doc.specs.internal.document.IdSets.{IsSetOf}

-- none of the ids is among the keys
abbrev none_in : List (List ℕ) → List (List ℕ) → Bool
none_in keys ids = list_all (λ x. not (has_id keys x)) ids

-- the keys are the ids of the list but the rest
pub record IsFilling (all keys left : List (List ℕ)) (once : Bool) : Type 0 where
  pub same : (q : List ℕ) → (has_id keys q || has_id left q) ≡ has_id all q
  pub distinct : (once && (are_distinct left && none_in keys left)) ≡ are_distinct all

none_in_more : (keys more : List (List ℕ)) (x : List ℕ) (ids : List (List ℕ))
    → ((q : List ℕ) → has_id more q ≡ cond (same_id x q) true (has_id keys q))
    → none_in more ids ≡ (not (has_id ids x) && none_in keys ids)
none_in_more keys more x [] h = refl
none_in_more keys more x (y ∷ ys) h = let here = h y in grind (arith, none_in_more keys more x ys h)

none_in_none : (ids : List (List ℕ)) → none_in [] ids ≡ true
none_in_none [] = refl
none_in_none (x ∷ xs) = none_in_none xs

all_true : (b : Bool) → (true && (b && true)) ≡ b
all_true b = grind arith

pub starts : (all keys : List (List ℕ)) → keys ≡ [] → IsFilling all keys all true
starts all keys none = rw none (record {
  same = λ q. refl;
  distinct = rw (none_in_none all) (all_true (are_distinct all));
})

turned : (a b c d t : Bool) → (a || (t || b)) ≡ c → d ≡ cond t true a → (d || b) ≡ c
turned a b c d t h k = grind arith

still_once : (once had later rest none more all : Bool) → (once && ((not later && rest) && (not had && none))) ≡ all
    → more ≡ (not later && none) → ((once && not had) && (rest && more)) ≡ all
still_once once had later rest none more all h k = grind arith

pub goes_on : (all keys more : List (List ℕ)) (x : List ℕ) (left : List (List ℕ)) (once again : Bool)
    → ((q : List ℕ) → has_id more q ≡ cond (same_id x q) true (has_id keys q))
    → again ≡ (once && not (has_id keys x)) → IsFilling all keys (x ∷ left) once → IsFilling all more left again
goes_on all keys more x left once again put is h = rw is (record {
  same = λ q. turned (has_id keys q) (has_id left q) (has_id all q) (has_id more q) (same_id q x) (h.same q)
      (rw (same_id_back q x) (put q));
  distinct = still_once once (has_id keys x) (has_id left x) (are_distinct left) (none_in keys left) (none_in more left)
      (are_distinct all) h.distinct (none_in_more keys more x left put);
})

none_left : (a b : Bool) → (a || false) ≡ b → a ≡ b
none_left a b h = grind arith

all_distinct : (a b : Bool) → (a && (true && true)) ≡ b → a ≡ b
all_distinct a b h = grind arith

pub ends : (all keys : List (List ℕ)) (once : Bool) → IsFilling all keys [] once → IsSetOf all keys once
ends all keys once h = record {
  same = λ q. none_left (has_id keys q) (has_id all q) (h.same q);
  distinct = all_distinct once (are_distinct all) h.distinct;
}
