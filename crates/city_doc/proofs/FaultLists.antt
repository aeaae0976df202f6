-- Lists of all faults with a property, each once, in order: alone, and one behind another.
use Rattle.city_doc.proofs.Prelude.{◌≡◌, ◌⊎◌, inl, inr, ℕ, List, ◌∷◌, ◌++◌, [], sym, subst, arith, refl, AllByRecursion}
use Rattle.city_doc.proofs.Prelude.{Data}
use Rattle.city_tokens.specs.tree.Texts.{IsTooLong, IsNoJson, HasTree}
use Rattle.city_doc.specs.FaultLists.{IsListed, AreOrderedBy, AreAll}
use Rattle.city_doc.proofs.OneValue.{one_tree}

-- ---- lists

pub all_listed : {F : Type 0} (P : F → Type 0) (fs : List F) → ((f : F) → IsListed fs f → P f) → AllByRecursion P fs
all_listed P [] h = tt
all_listed P (f ∷ fs) h = (h f (inl refl), all_listed P fs (λ g k. h g (inr k)))

listed_all : {F : Type 0} (P : F → Type 0) (fs : List F) (f : F) → AllByRecursion P fs → IsListed fs f → P f
listed_all P [] f h k = absurd k
listed_all P (g ∷ gs) f h (inl same) = subst P (sym same) h.0
listed_all P (g ∷ gs) f h (inr k) = listed_all P gs f h.1 k

pub before_rest : {F : Type 0} (before : F → F → Type 0) (f g : F) (fs : List F) → AreOrderedBy before (f ∷ fs)
    → IsListed fs g → before f g
before_rest before f g fs h k = listed_all (before f) fs g h.0 k

pub listed_parts : {F : Type 0} (fs gs : List F) (f : F) → IsListed (fs ++ gs) f → IsListed fs f ⊎ IsListed gs f
listed_parts [] gs f h = inr h
listed_parts (g ∷ fs) gs f (inl same) = inl (inl same)
listed_parts (g ∷ fs) gs f (inr h) = elim (listed_parts fs gs f h) [ inl k ↦ inl (inr k) | inr k ↦ inr k ]

pub listed_first : {F : Type 0} (fs gs : List F) (f : F) → IsListed fs f → IsListed (fs ++ gs) f
listed_first [] gs f h = absurd h
listed_first (g ∷ fs) gs f (inl same) = inl same
listed_first (g ∷ fs) gs f (inr h) = inr (listed_first fs gs f h)

pub listed_last : {F : Type 0} (fs gs : List F) (f : F) → IsListed gs f → IsListed (fs ++ gs) f
listed_last [] gs f h = h
listed_last (g ∷ fs) gs f h = inr (listed_last fs gs f h)

all_append : {F : Type 0} (P : F → Type 0) (fs gs : List F) → AllByRecursion P fs → AllByRecursion P gs
    → AllByRecursion P (fs ++ gs)
all_append P [] gs h k = k
all_append P (f ∷ fs) gs h k = (h.0, all_append P fs gs h.1 k)

pub ordered_append : {F : Type 0} (before : F → F → Type 0) (fs gs : List F) → AreOrderedBy before fs
    → AreOrderedBy before gs → ((f g : F) → IsListed fs f → IsListed gs g → before f g)
    → AreOrderedBy before (fs ++ gs)
ordered_append before [] gs h k between = k
ordered_append before (f ∷ fs) gs h k between = (
  all_append (before f) fs gs h.0 (all_listed (before f) gs (λ g. between f g (inl refl))),
  ordered_append before fs gs h.1 k (λ e g first. between e g (inr first)),
)

-- ---- all of something

-- equivalent properties have the same list
pub those_alike : {F : Type 0} {before : F → F → Type 0} (P Q : F → Type 0) (fs : List F) → ((f : F) → P f → Q f)
    → ((f : F) → Q f → P f) → AreAll before P fs → AreAll before Q fs
those_alike P Q fs to from h =
    record { stand = λ f k. to f (h.stand f k); all = λ f k. h.all f (from f k); in_order = h.in_order }

pub one_alone : {F : Type 0} {before : F → F → Type 0} (P : F → Type 0) (f : F) → P f → ((g : F) → P g → g ≡ f)
    → AreAll before P (f ∷ [])
one_alone P f h only = record {
  stand = λ g k. elim k [ inl same ↦ subst P (sym same) h | inr none ↦ absurd none ];
  all = λ g k. inl (only g k);
  in_order = (tt, tt);
}

pub none_there : {F : Type 0} {before : F → F → Type 0} (P : F → Type 0) → ((f : F) → P f → ⊥) → AreAll before P []
none_there P none = record { stand = λ f k. absurd k; all = none; in_order = tt }

-- all of one thing, and behind them all of another
pub those_or : {F : Type 0} {before : F → F → Type 0} (P Q : F → Type 0) (fs gs : List F)
    → ((f g : F) → P f → Q g → before f g) → AreAll before P fs → AreAll before Q gs
    → AreAll before (λ f. P f ⊎ Q f) (fs ++ gs)
those_or {before} P Q fs gs between h k = record {
  stand = λ f there. elim (listed_parts fs gs f there) [
    | inl first ↦ inl (h.stand f first)
    | inr last ↦ inr (k.stand f last)
  ];
  all = λ f m. elim m [
    | inl first ↦ listed_first fs gs f (h.all f first)
    | inr last ↦ listed_last fs gs f (k.all f last)
  ];
  in_order = ordered_append before fs gs h.in_order k.in_order
      (λ f g first last. between f g (h.stand f first) (k.stand g last));
}

-- ---- faults of texts

-- a text is too long, is no JSON, or has a tree with faults
module _ {F : Type 0} (too_long no_json : F) (InTree : Data → F → Type 0) where
  abbrev InText : List ℕ → F → Type 0
  InText text f =
      ((f ≡ too_long) × IsTooLong text)
      ⊎ (((f ≡ no_json) × IsNoJson text)
      ⊎ ((d : Data) × HasTree text d × InTree d f))

  pub tree_alone : (text : List ℕ) (d : Data) → HasTree text d → (f : F) → InText text f → InTree d f
  tree_alone text d tree f (inl k) = absurd (let long = k.1 in let short = tree.0 in omega arith)
  tree_alone text d tree f (inr (inl k)) = absurd (k.1.1 d tree.1)
  tree_alone text d tree f (inr (inr k)) = subst (λ e. InTree e f) (one_tree text k.0 d k.1.1 tree.1) k.2

  pub those_of_text : {before : F → F → Type 0} (text : List ℕ) (d : Data) (fs : List F) → HasTree text d
      → AreAll before (InTree d) fs → AreAll before (InText text) fs
  those_of_text text d fs tree h =
      those_alike (InTree d) (InText text) fs (λ f k. inr (inr (d, tree, k))) (tree_alone text d tree) h

  pub long_alone : (text : List ℕ) → IsTooLong text → (f : F) → InText text f → f ≡ too_long
  long_alone text long f (inl k) = k.0
  long_alone text long f (inr (inl k)) = absurd (let short = k.1.0 in omega arith)
  long_alone text long f (inr (inr k)) = absurd (let short = k.1.0 in omega arith)

  pub unread_alone : (text : List ℕ) → IsNoJson text → (f : F) → InText text f → f ≡ no_json
  unread_alone text none f (inl k) = absurd (let long = k.1 in let short = none.0 in omega arith)
  unread_alone text none f (inr (inl k)) = k.0
  unread_alone text none f (inr (inr k)) = absurd (none.1 k.0 k.1.1)
