-- Texts of tokens, put together.
use Rattle.city_writer.proofs.Prelude.{◌≡◌, ℕ, Bool, true, false, List, [], ◌∷◌, ◌++◌, refl, sym, ap, ◌∙◌, subst, Token}
use Rattle.city_writer.proofs.Prelude.{Members}
use Rattle.city_writer.proofs.Prelude.{no_members, member, tokens_of, tokens_of_members, end_object}
use Rattle.city_writer.proofs.Prelude.{begin_object, append_assoc}
use Rattle.city_writer.proofs.Prelude.{closing_members, object}
use Rattle.std.proofs.Common.{fold, ◌||◌, ◌&&◌, cond}
use Rattle.std.specs.Str.{IsUtf8}
use Rattle.std.proofs.lemmas.Str.{IsUtf8-append, IsUtf8-nil}
use Rattle.std.proofs.lemmas.Grind.{fold-append}
use Rattle.json.specs.Json as json
use Rattle.json.specs.Lex.{tokens}
use Rattle.json.specs.Print.{print, print_from, ends, ArePrintableOrBad}
use Rattle.json.specs.Token.{begin_array, end_array}
use Rattle.json.specs.Tree.{json_tokens, items_tokens, members_tokens}
use Rattle.json.proofs.Numbered.{ArePrintableOrBad-tokens}
use Rattle.json.proofs.Printed.Tokens.{print_from-append, ends_push}
use Rattle.json.proofs.Printed.Utf8.{IsUtf8-separator}
use Rattle.serde_json.specs.Written.{outline}
use Rattle.city_writer.specs.internal.Pieces.{is_some_text}
use Rattle.city_writer.specs.internal.tree.Appended.{IsPrinted, IsAppended}

abbrev pub after : Bool → List Token → Bool
after = fold (λ _ t. ends t)

mutual
  pub value_ends : (b : Bool) (j : json.Json) → after b (json_tokens j) ≡ true
  value_ends b json.null = refl
  value_ends b (json.boolean c) = refl
  value_ends b (json.number s) = refl
  value_ends b (json.string s) = refl
  value_ends b (json.array js) = items_end false js
  value_ends b (json.object ms) = members_end false ms

  items_end : (b : Bool) (js : json.Items) → after b (items_tokens js) ≡ true
  items_end b json.no_items = refl
  items_end b (json.item j js) =
      fold-append (λ _ t. ends t) b (json_tokens j) (items_tokens js) ∙ items_end (after b (json_tokens j)) js

  members_end : (b : Bool) (ms : json.Members) → after b (members_tokens ms) ≡ true
  members_end b json.no_members = refl
  members_end b (json.member k j ms) =
      fold-append (λ _ t. ends t) false (json_tokens j) (members_tokens ms)
      ∙ members_end (after false (json_tokens j)) ms

-- at least one member ends as a value does
after_members : (ms : Members) → after true (tokens_of_members ms) ≡ true
after_members no_members = refl
after_members (member k d ms) =
    fold-append (λ _ t. ends t) false (tokens_of d) (tokens_of_members ms)
    ∙ ap (λ b. after b (tokens_of_members ms)) (value_ends false (outline d)) ∙ after_members ms

abbrev pub comma : Bool → List ℕ → List ℕ
comma b text = cond (b && is_some_text text) (44 ∷ []) []

-- a comma stands before the text of members, if it needs one
pub members_after : (b : Bool) (ms : Members) (text : List ℕ) → text ≡ print (tokens_of_members ms)
    → (comma b text ++ text ≡ print_from b (tokens_of_members ms))
    × (after b (tokens_of_members ms) ≡ (b || is_some_text text))
unfolding print_from
members_after true no_members text is = rw is (refl, refl)
members_after false no_members text is = rw is (refl, refl)
members_after true (member k d ms) text is = rw is (refl, after_members (member k d ms))
members_after false (member k d ms) text is = rw is (refl, after_members (member k d ms))

pub utf8_comma : (b : Bool) → IsUtf8 (cond b (44 ∷ []) [])
utf8_comma true = IsUtf8-separator true Token.null
utf8_comma false = IsUtf8-nil

-- ---- printable tokens

pub printable-append : (ts us : List Token) → ArePrintableOrBad ts → ArePrintableOrBad us → ArePrintableOrBad (ts ++ us)
printable-append [] us h k = k
printable-append (t ∷ ts) us h k = (h.0, printable-append ts us h.1 k)

-- the text of a writer
pub printed : (ts : List Token) → tokens (print ts) ≡ ts → IsUtf8 (print ts) → IsPrinted (print ts) ts
printed ts again utf8 = record {
  text_is = refl;
  printable = subst ArePrintableOrBad again (ArePrintableOrBad-tokens (print ts));
  utf8 = utf8;
}

-- the text of a writer behind bytes
pub appended : (bytes before all : List ℕ) (ts us : List Token) → all ≡ before ++ print us → tokens (print us) ≡ us
    → IsUtf8 (print us) → before ≡ bytes → us ≡ ts → IsAppended bytes ts all
appended bytes before all ts us is again utf8 same_before same = record {
  text = print us;
  printed = subst (IsPrinted (print us)) same (printed us again utf8);
  all_is = rw (is, same_before) refl;
}

-- one text after another, with no comma needed between them
pub printed-append : (ts us : List Token) (a b : List ℕ) → IsPrinted a ts → IsPrinted b us
    → print_from (after false ts) us ≡ print us → IsPrinted (a ++ b) (ts ++ us)
printed-append ts us a b h k none = record {
  text_is = rw (h.text_is, k.text_is, ← none) (sym (print_from-append false ts us));
  printable = printable-append ts us h.printable k.printable;
  utf8 = IsUtf8-append a b h.utf8 k.utf8;
}

pub after_begin : (ts us : List Token) → print_from (after false (ts ++ begin_object ∷ [])) us ≡ print us
after_begin ts us = rw (ends_push false ts begin_object) refl

pub after_begin_array : (ts us : List Token) → print_from (after false (ts ++ begin_array ∷ [])) us ≡ print us
after_begin_array ts us = rw (ends_push false ts begin_array) refl

pub before_end : (b : Bool) (us : List Token) → print_from b (end_object ∷ us) ≡ print (end_object ∷ us)
unfolding print_from
before_end true us = refl
before_end false us = refl

pub before_end_array : (b : Bool) (us : List Token) → print_from b (end_array ∷ us) ≡ print (end_array ∷ us)
unfolding print_from
before_end_array true us = refl
before_end_array false us = refl

pub members-closed : (ms : Members) → closing_members ms ≡ tokens_of_members ms ++ end_object ∷ []
members-closed no_members = refl
members-closed (member k d ms) = simp (members-closed ms, append_assoc)

-- members between braces
pub object_closed : (ms : Members) (old begun inside last : List Token) → begun ≡ old ++ begin_object ∷ []
    → inside ≡ begun ++ tokens_of_members ms → last ≡ inside ++ end_object ∷ [] → last ≡ old ++ tokens_of (object ms)
object_closed ms old begun inside last begun_is inside_is last_is =
    let mine = tokens_of_members ms in
    last_is ∙ ap (λ ts. ts ++ end_object ∷ []) (inside_is ∙ ap (λ ts. ts ++ mine) begun_is)
    ∙ append_assoc (old ++ begin_object ∷ []) mine (end_object ∷ [])
    ∙ append_assoc old (begin_object ∷ []) (mine ++ end_object ∷ [])
    ∙ ap (λ ts. old ++ (begin_object ∷ ts)) (sym (members-closed ms))
