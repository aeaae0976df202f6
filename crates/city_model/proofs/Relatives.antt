-- Parents and children in agreement, and still so when an object goes, is attached or is detached.
use Rattle.city_model.proofs.Prelude.{arith, ◌≡◌, ℕ, List, [], ◌∷◌, ◌++◌, true, false, if◌then◌else◌, same_id, has_id}
use Rattle.city_model.proofs.Prelude.{without_id, AreDistinct}
use Rattle.city_model.proofs.IdLists.{has_more, has_without, in_without, in_more, distinct_without, distinct_more}
use Rattle.city_members.proofs.Ids.{same_id_true, same_id_itself, same_id_back, by_id}

-- the parents of each id, or its children
abbrev pub Relatives : Type 0
Relatives = List ℕ → List (List ℕ)

pub record AreAgreed (parents children : Relatives) : Type 0 where
  pub parents_once : (id : List ℕ) → AreDistinct (parents id)
  pub children_once : (id : List ℕ) → AreDistinct (children id)
  pub parents_know_it : (id p : List ℕ) → has_id (parents id) p ≡ true
      → (same_id p id ≡ false) × (has_id (children p) id ≡ true)
  pub children_know_it : (id d : List ℕ) → has_id (children id) d ≡ true → has_id (parents d) id ≡ true

abbrev pub set_at : Relatives → List ℕ → List (List ℕ) → Relatives
set_at of id ids = λ q. if same_id id q then ids else of q

set_distinct : (of : Relatives) (id : List ℕ) (ids : List (List ℕ)) → ((q : List ℕ) → AreDistinct (of q))
    → AreDistinct ids → (q : List ℕ) → AreDistinct (set_at of id ids q)
set_distinct of id ids all here q = grind arith

-- relatives equal at each id agree too
pub agreed_as : (parents children others young : Relatives) → ((q : List ℕ) → others q ≡ parents q)
    → ((q : List ℕ) → young q ≡ children q) → AreAgreed parents children → AreAgreed others young
agreed_as parents children others young e f a = grind arith

-- a parent in a list with one more is an old one or the new one
pub one_more : {A : Type 0} (parents : Relatives) (child parent id p : List ℕ)
    → has_id (set_at parents child (parents child ++ parent ∷ []) id) p ≡ true
    → (has_id (parents id) p ≡ true → A) → (child ≡ id → parent ≡ p → A) → A
one_more parents child parent id p = grind (arith, in_more, same_id_true, same_id_back)

pub one_less : (parents : Relatives) (child parent id p : List ℕ)
    → has_id (set_at parents child (without_id parent (parents child)) id) p ≡ true → has_id (parents id) p ≡ true
one_less parents child parent id p = grind (arith, in_without, same_id_true)

pub none_there : (parents : Relatives) (gone id p : List ℕ) → has_id (set_at parents gone [] id) p ≡ true
    → has_id (parents id) p ≡ true
none_there parents gone id p h = grind arith

module _ (parents children : Relatives) (a : AreAgreed parents children) where
  -- ---- an object without children goes

  pub agreed_deleted : (id : List ℕ) → children id ≡ []
      → AreAgreed (set_at parents id []) (set_at (λ q. without_id id (children q)) id [])
  agreed_deleted id none = record {
    parents_once = λ q. grind (arith, a.parents_once q);
    children_once = λ q. grind (arith, distinct_without id (children q), a.children_once q);
    parents_know_it = λ d p h. grind (arith, same_id_true, same_id_back, has_without, none, a.parents_know_it d p);
    children_know_it = λ q d. search (arith, in_without);
  }

  -- ---- a child gets a parent

  module _ (child parent : List ℕ) (apart : same_id child parent ≡ false) (new : has_id (parents child) parent ≡ false)
    where
      abbrev more_parents : Relatives
      more_parents = set_at parents child (parents child ++ parent ∷ [])

      abbrev more_children : Relatives
      more_children = set_at children parent (children parent ++ child ∷ [])

      new_child : has_id (children parent) child ≡ false
      new_child = grind (arith, a.children_know_it parent child, new)

      pub agreed_attached : AreAgreed more_parents more_children
      agreed_attached = record {
        parents_once = λ q. grind (arith, distinct_more (parents child) parent, new, a.parents_once);
        children_once = λ q. grind (arith, distinct_more (children parent) child, new_child, a.children_once);
        parents_know_it = λ d p. by_id child d
            (λ is. by_id parent p
            (λ same. let back = same_id_back child parent in
            grind (arith, is, same, apart, back, same_id_itself child, same_id_itself parent, has_more))
            (λ other.
            grind (arith, is, other, same_id_itself child, same_id_back parent p, has_more, a.parents_know_it child p)))
            (λ other.
            grind (arith, other, has_more (children parent) child d, same_id_true parent p, a.parents_know_it d p));
        children_know_it = λ q d. by_id parent q
            (λ is. by_id child d
            (λ same. grind (arith, is, same, same_id_itself child, same_id_itself parent, has_more))
            (λ other. let old = a.children_know_it parent d in
            grind (arith, is, other, same_id_itself parent, same_id_back child d, has_more, old)))
            (λ other.
            grind (arith, other, has_more (parents child) parent q, same_id_true child d, a.children_know_it q d));
      }

  -- ---- a child loses a parent

  module _ (child parent : List ℕ) where
    abbrev less_parents : Relatives
    less_parents = set_at parents child (without_id parent (parents child))

    abbrev less_children : Relatives
    less_children = set_at children parent (without_id child (children parent))

    pub agreed_detached : AreAgreed less_parents less_children
    agreed_detached = record {
      parents_once = λ q. search (arith, set_distinct, distinct_without);
      children_once = λ q. grind (arith, distinct_without, a.children_once);
      parents_know_it = λ d p. by_id child d
          (λ is. grind (arith, is, same_id_itself, same_id_back, same_id_true, has_without, a.parents_know_it child p))
          (λ apart. by_id parent p
          (λ is. grind (arith, is, apart, same_id_itself parent, has_without, a.parents_know_it d parent))
          (λ other. grind (arith, apart, other, a.parents_know_it d p)));
      children_know_it = λ q d. by_id parent q
          (λ is.
          grind (arith, is, same_id_itself, same_id_back, same_id_true, has_without, a.children_know_it parent d))
          (λ apart. by_id child d
          (λ is. grind (arith, is, apart, same_id_itself child, has_without, a.children_know_it q child))
          (λ other. grind (arith, apart, other, a.children_know_it q d)));
    }
