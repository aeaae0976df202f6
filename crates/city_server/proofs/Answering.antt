-- Lines answered one after another, and what is written of it.
use Rattle.std.proofs.Common.{◌≡◌, ◌+◌, ◌<◌, ◌∙◌, ◌∷◌, ◌++◌, ℕ, Bool, List, [], Option, refl, sym, ap, subst}
use Rattle.std.proofs.Common.{append_assoc, append-nil, get_or, length, take}
use Rattle.std.proofs.KnownBytes.{Appends-nil, Appends-trans}
use Rattle.std.proofs.lemmas.List.{take_more}
use Rattle.city_live.specs.Serving.{Served}
use Rattle.city_server.specs.Answered.{told_number}
use Rattle.city_server.specs.Asked.{AreAnswered, EachTold, IsAnswered}
use Rattle.city_server.specs.Sessions.{Adds, AddsAnswers, Serves, WritesOut}
use Rattle.city_server.specs.declared.telling.Telling.{Telling}

-- ---- answers told one after another

pub each_more : {A : Type 0} (P : A → List ℕ → Type 0) (xs : List A) (x : A) (o p : List ℕ) → EachTold P xs o → P x p
    → EachTold P (xs ++ x ∷ []) (o ++ p)
each_more P [] x o p h is = (p, [], is, refl, ap (λ v. v ++ p) h ∙ sym (append-nil p))
each_more P (y ∷ ys) x o p h is =
    (h.0, h.1 ++ p, h.2, each_more P ys x h.1 p h.3 is, ap (λ v. v ++ p) h.4 ∙ append_assoc h.0 h.1 p)

pub adds_none : {A : Type 0} (P : A → List ℕ → Type 0) (a : Telling) → Adds (EachTold P []) a a
adds_none P a = record { out = []; answers = sym (append-nil a.answers.items); decimals = refl; line = refl; is = refl }

pub adds_then : {A : Type 0} (P : Bool → ℕ → A → List ℕ → Type 0) (xs : List A) (x : A) {a b c : Telling}
    → Adds (EachTold (P a.decimals a.line) xs) a b → Adds (P b.decimals b.line x) b c
    → Adds (EachTold (P a.decimals a.line) (xs ++ x ∷ [])) a c
adds_then P xs x {a} {b} {c} f g = record {
  out = f.out ++ g.out;
  answers = g.answers ∙ ap (λ v. v ++ g.out) f.answers ∙ append_assoc a.answers.items f.out g.out;
  decimals = g.decimals ∙ f.decimals;
  line = g.line ∙ f.line;
  is = each_more (P a.decimals a.line) xs x f.out g.out f.is
      (subst (λ v. P a.decimals v x g.out) f.line (subst (λ v. P v b.line x g.out) f.decimals g.is));
}

-- the next of a list
pub adds_next : {A : Type 0} (P : Bool → ℕ → A → List ℕ → Type 0) (xs : List A) (i : ℕ) (x : A) {a b c : Telling}
    → i < length xs → x ≡ get_or xs i x → Adds (EachTold (P a.decimals a.line) (take i xs)) a b
    → Adds (P b.decimals b.line x) b c → Adds (EachTold (P a.decimals a.line) (take (i + 1) xs)) a c
adds_next P xs i x {a} {b} {c} lt is f g =
    subst (λ ys. Adds (EachTold (P a.decimals a.line) ys) a c)
    (sym (take_more xs i x lt ∙ ap (λ y. take i xs ++ y ∷ []) (sym is)))
    (adds_then P (take i xs) x f g)

pub adds_as : (P Q : List ℕ → Type 0) {a b : Telling} → ((out : List ℕ) → P out → Q out) → Adds P a b → Adds Q a b
adds_as P Q f h = record { out = h.out; answers = h.answers; decimals = h.decimals; line = h.line; is = f h.out h.is }

-- ---- lines of the input

pub one_answered : (decimals : Bool) (l : List ℕ) (n : ℕ) (s u : Served) (out : List ℕ)
    → IsAnswered decimals l (told_number (n + 1)) s u out
    → AreAnswered decimals (l ∷ []) n (told_number (n + 1)) s u out
one_answered decimals l n s u out is = (out, [], u, is, (refl, refl, refl), sym (append-nil out))

pub answered_then : (decimals : Bool) (ls ms : List (List ℕ)) (n m k : ℕ) (s t u : Served) (x y : List ℕ)
    → AreAnswered decimals ls n m s t x → AreAnswered decimals ms m k t u y
    → AreAnswered decimals (ls ++ ms) n k s u (x ++ y)
answered_then decimals [] ms n m k s t u x y f g =
    subst (λ v. AreAnswered decimals ms n k s u (v ++ y)) (sym f.2)
    (subst (λ v. AreAnswered decimals ms n k v u y) f.1 (subst (λ v. AreAnswered decimals ms v k t u y) f.0 g))
answered_then decimals (l ∷ ls) ms n m k s t u x y f g = (
  f.0,
  f.1 ++ y,
  f.2,
  f.3,
  answered_then decimals ls ms (told_number (n + 1)) m k f.2 t u f.1 y f.4 g,
  ap (λ v. v ++ y) f.5 ∙ append_assoc f.0 f.1 y,
)

-- a line was counted, and then its answer told
pub adds_line : (l : List ℕ) (s u : Served) {a b c : Telling} → b.line ≡ told_number (a.line + 1)
    → b.decimals ≡ a.decimals → b.answers ≡ a.answers → Adds (IsAnswered b.decimals l b.line s u) b c
    → AddsAnswers (l ∷ []) s u a c
adds_line l s u {a} {b} {c} counted same none h = record {
  out = h.out;
  answers = h.answers ∙ ap (λ v. v.items ++ h.out) none;
  decimals = h.decimals ∙ same;
  are = subst (λ v. AreAnswered a.decimals (l ∷ []) a.line v s u h.out) (sym (h.line ∙ counted))
      (one_answered a.decimals l a.line s u h.out
      (subst (λ v. IsAnswered a.decimals l v s u h.out) counted
      (subst (λ v. IsAnswered v l b.line s u h.out) same h.is)));
}

-- ---- with a writer

pub serves_none : (s : Served) (a : Telling) (w : Option (List ℕ)) → Serves [] s s a a w w
serves_none s a w = record {
  out = [];
  written = [];
  appends = Appends-nil w;
  left = append-nil a.answers.items;
  decimals = refl;
  are = (refl, refl, refl);
}

pub serves_added : {ls : List (List ℕ)} {s u : Served} {a b : Telling} (w : Option (List ℕ)) → AddsAnswers ls s u a b
    → Serves ls s u a b w w
serves_added w f = record {
  out = f.out;
  written = [];
  appends = Appends-nil w;
  left = sym f.answers;
  decimals = f.decimals;
  are = f.are;
}

pub serves_written : {ls : List (List ℕ)} {s u : Served} {a b c : Telling} {w x y : Option (List ℕ)}
    → Serves ls s u a b w x → WritesOut b c x y → Serves ls s u a c w y
serves_written {ls} {s} {u} {a} {b} {c} {w} {x} {y} f o = record {
  out = f.out;
  written = f.written ++ b.answers.items;
  appends = Appends-trans w x y f.written b.answers.items f.appends o.appends;
  left = f.left ∙ sym (append-nil (f.written ++ b.answers.items))
      ∙ ap (λ v. (f.written ++ b.answers.items) ++ v) (sym o.none_left);
  decimals = o.decimals ∙ f.decimals;
  are = subst (λ v. AreAnswered a.decimals ls a.line v s u f.out) (sym o.line) f.are;
}

pub serves_then : {ls ms : List (List ℕ)} {s t u : Served} {a b c : Telling} {w x y : Option (List ℕ)}
    → Serves ls s t a b w x → Serves ms t u b c x y → Serves (ls ++ ms) s u a c w y
serves_then {ls} {ms} {s} {t} {u} {a} {b} {c} {w} {x} {y} f g = record {
  out = f.out ++ g.out;
  written = f.written ++ g.written;
  appends = Appends-trans w x y f.written g.written f.appends g.appends;
  left = sym (append_assoc a.answers.items f.out g.out)
      ∙ ap (λ v. v ++ g.out) f.left
      ∙ append_assoc f.written b.answers.items g.out
      ∙ ap (λ v. f.written ++ v) g.left
      ∙ sym (append_assoc f.written g.written c.answers.items);
  decimals = g.decimals ∙ f.decimals;
  are = answered_then a.decimals ls ms a.line b.line c.line s t u f.out g.out f.are
      (subst (λ v. AreAnswered v ms b.line c.line t u g.out) f.decimals g.are);
}
