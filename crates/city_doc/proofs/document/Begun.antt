-- All faults found, or the first of them alone.
use Rattle.city_doc.proofs.Prelude.{◌≡◌, ℕ, List, [], ◌∷◌, ◌++◌, Bool, true, false, true≢false, refl, sym, ap, subst}
use Rattle.city_doc.proofs.Prelude.{◌∙◌, arith, length, not, ◌&&◌, append-nil, append_assoc, ReadFault, Data}
use Rattle.city_doc.proofs.Prelude.{if◌then◌else◌}
use Rattle.std.specs.Prelude.{◌==◌}
use Rattle.std.specs.List.{slice_index_or}
use Rattle.city_tokens.specs.tree.Texts.{HasTree}
use Rattle.city_doc.specs.document.AllFaults.{AreThose, IsFaultOfTree}
use Rattle.city_doc.specs.document.Faults.{DocumentFault}
use Rattle.city_doc.specs.internal.document.Told.{told_behind, AreBegun}
use Rattle.city_doc.proofs.document.AllFaults.{first_of_all, of_text}

pub behind_done : (b : Bool) (fs gs : List ReadFault) → (b && not (length fs == 0)) ≡ true → told_behind b fs gs ≡ fs
behind_done b fs [] h = refl
behind_done b fs (g ∷ gs) h = rw h refl

behind_next : (b t : Bool) (fs : List ReadFault) (x : ReadFault) (xs ys : List ReadFault)
    → (b && not (length fs == 0)) ≡ t
    → told_behind b (told_behind b (fs ++ x ∷ []) xs) ys ≡ told_behind b (fs ++ x ∷ []) (xs ++ ys)
    → told_behind b (told_behind b fs (x ∷ xs)) ys ≡ told_behind b fs (x ∷ (xs ++ ys))
behind_next b true fs x xs ys is rest = rw is (behind_done b fs ys is)
behind_next b false fs x xs ys is rest = rw is rest

pub behind_append : (b : Bool) (fs xs ys : List ReadFault)
    → told_behind b (told_behind b fs xs) ys ≡ told_behind b fs (xs ++ ys)
behind_append b fs [] ys = refl
behind_append b fs (x ∷ xs) ys =
    behind_next b (b && not (length fs == 0)) fs x xs ys refl (behind_append b (fs ++ x ∷ []) xs ys)

-- what seven searches tell, one behind another
pub behind_seven : (b : Bool) (t u v w x y z : List ReadFault)
    → told_behind b (told_behind b (told_behind b (told_behind b (told_behind b (told_behind b (told_behind b [] t) u)
    v) w) x) y) z ≡ told_behind b [] ((((((t ++ u) ++ v) ++ w) ++ x) ++ y) ++ z)
behind_seven b t u v w x y z = simp behind_append

behind_all : (fs gs : List ReadFault) → told_behind false fs gs ≡ fs ++ gs
behind_all fs [] = sym (append-nil fs)
behind_all fs (g ∷ gs) = behind_all (fs ++ g ∷ []) gs ∙ append_assoc fs (g ∷ []) gs

begun : (b : Bool) (f : ReadFault) (fs : List ReadFault) → told_behind b [] (f ∷ fs) ≡ f ∷ (if b then [] else fs)
begun true f fs = behind_done true (f ∷ []) fs refl
begun false f fs = behind_all (f ∷ []) fs

some_there : (f : ReadFault) (fs : List ReadFault) → (length (f ∷ fs) == 0) ≡ false
some_there f fs = grind arith

-- whether a list is empty, by its length
pub emptiness : (e t : Bool) (n : ℕ) (fs : List ReadFault) → e ≡ (n == 0) → n ≡ length fs → e ≡ t
    → (length fs == 0) ≡ t
emptiness e t n fs is same h = ap (λ n. n == 0) (sym same) ∙ sym is ∙ h

pub is_done : (b : Bool) (fs : List ReadFault) → b ≡ true → (length fs == 0) ≡ false
    → (b && not (length fs == 0)) ≡ true
is_done b fs h some = rw (h, some) refl

module _ (P : ReadFault → Type 0) (b : Bool) where
  pub one_begun : (f : ReadFault) (fs : List ReadFault) → AreThose P (f ∷ []) → fs ≡ f ∷ [] → AreBegun b P fs
  one_begun f fs h is = (f, [], h, is ∙ by b)
    where
      by : (b : Bool) → f ∷ [] ≡ f ∷ (if b then [] else [])
      by true = refl
      by false = refl

  pub those_begun : (found all : List ReadFault) → AreThose P all → found ≡ told_behind b [] all
      → (length found == 0) ≡ false → AreBegun b P found
  those_begun found [] h is some = absurd (true≢false (sym (ap (λ fs. length fs == 0) is) ∙ some))
  those_begun found (f ∷ fs) h is some = (f, fs, h, is ∙ begun b f fs)

  pub none_begun : (found all : List ReadFault) → AreThose P all → found ≡ told_behind b [] all
      → (length found == 0) ≡ true → (f : ReadFault) → P f → ⊥
  none_begun found [] h is none f p = h.all f p
  none_begun found (g ∷ fs) h is none f p =
      true≢false (sym none ∙ ap (λ fs. length fs == 0) (is ∙ begun b g fs) ∙ some_there g _)

-- the first fault of a tree is the first of its text
pub first_begun : (text : List ℕ) (d : Data) (fs : List ReadFault) (f : ReadFault) → HasTree text d
    → AreBegun true (IsFaultOfTree d) fs → f ≡ slice_index_or fs 0 f → DocumentFault text f
first_begun text d fs f tree h is =
    let same : h.0 ≡ f = sym (is ∙ ap (λ fs. slice_index_or fs 0 f) h.3) in
    subst (DocumentFault text) same (first_of_all text h.0 h.1 (of_text text d (h.0 ∷ h.1) tree h.2))
