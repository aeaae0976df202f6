-- The texts of the pieces of a list, with commas between them.
use Rattle.city_writer.proofs.Prelude.{◌≡◌, ℕ, Bool, false, List, [], ◌∷◌, ◌++◌, Option, Some, None, sym, ap, ◌∙◌}
use Rattle.city_writer.proofs.Prelude.{subst, append_assoc, drop, Token}
use Rattle.std.proofs.Common.{take, ◌||◌, ◌&&◌}
use Rattle.std.proofs.lemmas.List.{take-append-drop}
use Rattle.std.specs.Str.{IsUtf8}
use Rattle.std.proofs.lemmas.Str.{IsUtf8-append, IsUtf8-nil}
use Rattle.json.specs.Print.{print, print_from, ArePrintableOrBad}
use Rattle.json.proofs.Printed.Tokens.{print_from-append}
use Rattle.city_writer.specs.internal.Pieces.{joined_by_commas, is_some_text}
use Rattle.city_writer.specs.internal.tree.Appended.{IsPrinted}
use Rattle.city_writer.proofs.EachPiece.{EachMade, holds_of_all}
use Rattle.city_writer.proofs.tree.Appended.{after, comma, printable-append, utf8_comma}

-- the tokens of the items, one item after another; a comma stands before the text of some, if it needs one
module _ {X : Type 0} (toks : List X → List Token) (none : toks [] ≡ [])
    (both : (xs ys : List X) → toks (xs ++ ys) ≡ toks xs ++ toks ys)
    (commas : (b : Bool) (xs : List X) (text : List ℕ) → text ≡ print (toks xs)
    → (comma b text ++ text ≡ print_from b (toks xs)) × (after b (toks xs) ≡ (b || is_some_text text))) where
  parted : (len : ℕ) (xs : List X) → toks (take len xs) ++ toks (drop len xs) ≡ toks xs
  parted len xs = sym (both (take len xs) (drop len xs)) ∙ ap toks (take-append-drop len xs)

  module _ {A : Type 0} (f : A → List ℕ) {P : List X → A → Type 0}
      (is_printed : (xs : List X) (a : A) → P xs a → IsPrinted (f a) (toks xs)) where
    texts_are : (b : Bool) (len : ℕ) (xs : List X) (os : List (Option A)) → EachMade len xs os P
        → joined_by_commas b os f ≡ print_from b (toks xs)
    unfolding print_from
    texts_are b len xs [] h = sym (ap (λ xs. print_from b (toks xs)) h ∙ ap (print_from b) none)
    texts_are b len xs (None ∷ os) h = absurd h.0
    texts_are b len xs (Some a ∷ os) h =
        let first = toks (take len xs) in
        let one = commas b (take len xs) (f a) (is_printed (take len xs) a h.0).text_is in
        sym (append_assoc (comma b (f a)) (f a) _)
        ∙ ap (λ t. t ++ joined_by_commas (b || is_some_text (f a)) os f) one.0
        ∙ ap (λ c. print_from b first ++ joined_by_commas c os f) (sym one.1)
        ∙ ap (λ t. print_from b first ++ t) (texts_are (after b first) len (drop len xs) os h.1)
        ∙ sym (print_from-append b first (toks (drop len xs)))
        ∙ ap (print_from b) (parted len xs)

    texts_utf8 : (b : Bool) (len : ℕ) (xs : List X) (os : List (Option A)) → EachMade len xs os P
        → IsUtf8 (joined_by_commas b os f)
    texts_utf8 b len xs [] h = IsUtf8-nil
    texts_utf8 b len xs (None ∷ os) h = absurd h.0
    texts_utf8 b len xs (Some a ∷ os) h =
        IsUtf8-append _ _ (utf8_comma (b && is_some_text (f a)))
        (IsUtf8-append (f a) _ (is_printed (take len xs) a h.0).utf8
        (texts_utf8 (b || is_some_text (f a)) len (drop len xs) os h.1))

    -- the pieces, put together, are the text of all items
    pub texts_printed : (len : ℕ) (xs : List X) (os : List (Option A)) → EachMade len xs os P
        → IsPrinted (joined_by_commas false os f) (toks xs)
    texts_printed len xs os h = record {
      text_is = texts_are false len xs os h;
      printable = holds_of_all (λ xs. ArePrintableOrBad (toks xs)) (subst ArePrintableOrBad (sym none) tt)
          (λ xs ys p q. subst ArePrintableOrBad (sym (both xs ys)) (printable-append _ _ p q))
          (λ xs a made. (is_printed xs a made).printable) len xs os h;
      utf8 = texts_utf8 false len xs os h;
    }
