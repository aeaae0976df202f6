use Rattle.city_decimals.proofs.Prelude.{◌≡◌, List, [], ◌++◌, Some, refl, subst, arith, rules, IsUtf8, Token, Json}
use Rattle.city_decimals.proofs.Prelude.{value, tokens, print, json_tokens, top_changed, written, ℕ, true}
use Rattle.city_decimals.proofs.Prelude.{members_changed, IsChanged}
use Rattle.city_decimals.proofs.CompactTexts.{top_made}
use Rattle.city_decimals.proofs.Streams.{whole_read}
use Rattle.city_decimals.specs.internal.Compact.{IsTopCopied}
use Rattle.city_decimals.specs.internal.Newlines.{IsBody}
use Rattle.city_decimals.proofs.transcode.transcode_onto.Goals as goal

pub returns-clause-changed : goal.returns-clause-changed
returns-clause-changed c =
    let f : Json → List Token = λ j. json_tokens (top_changed c.args.way j) in
    let over : c.transcode_top.new.reader ≡ [] = grind arith in
    let read : written f [] (value c.args.depth (tokens c.args.bytes.now))
    ≡ Some (c.transcode_top.new.out.tokens, c.transcode_top.new.reader) = search rules in
    let w = whole_read c.args.depth f c.args.bytes.now _ _ over read in
    let text = print (f w.j) in
    let items : c.into_inner.result.items ≡ c.args.out.items ++ text = search (rules, w.now_is) in
    let utf8 : IsUtf8 text = subst (λ ts. IsUtf8 (print ts)) w.now_is c.into_inner.ensures.utf8 in (
      text,
      record {
        j = w.j;
        value = (c.in_ok-text.ensures.ok.1, w.is);
        numbers = w.numbers;
        shallow = w.shallow;
        out_is = refl;
      },
      utf8,
      items,
    )

pub returns-in-Ok-clause-changed : goal.returns-in-Ok-clause-changed
returns-in-Ok-clause-changed c =
    let way = c.args.way in
    let bytes = c.args.bytes.now in
    let body = c.without_newline.result.now in
    let of : IsBody bytes body = subst (λ t. IsBody t body) c.in_ok-text.ensures.ok.0 c.without_newline.ensures in
    let made : (out : List ℕ) → IsTopCopied (members_changed way true) c.args.depth body out → IsUtf8 bytes
    → IsChanged c.args.depth way bytes out = λ out. top_made way c.args.depth bytes body out of in
    search (rules, made)
