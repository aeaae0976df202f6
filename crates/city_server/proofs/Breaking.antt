-- Bytes of the input served up to a place, and sessions that break off.
use Rattle.std.proofs.Common.{◌≡◌, ◌≢◌, ◌∙◌, ◌∷◌, ◌++◌, ◌==◌, ℕ, Bool, List, [], Option, false, refl, sym, ap}
use Rattle.std.proofs.Common.{subst, append_assoc, append-nil, drop, take, ◌||◌}
use Rattle.std.proofs.KnownBytes.{Appends-trans}
use Rattle.std.proofs.lemmas.List.{take-append-drop}
use Rattle.std.proofs.lemmas.List.Folds.{list_any-append}
use Rattle.std.specs.List.{list_any}
use Rattle.std.specs.Prelude.{OnErr, OnOk, Result, Ok, Err}
use Rattle.city_journal.specs.Lines.{AreLines, IsLine, lines_text}
use Rattle.city_live.specs.Serving.{Served}
use Rattle.city_serve.specs.ServedTexts.{AppendsSome}
use Rattle.city_server.proofs.Answering.{answered_then, serves_added, serves_none, serves_then, serves_written}
use Rattle.city_server.specs.Asked.{AreAnswered}
use Rattle.city_server.specs.Lines.{HasBegun}
use Rattle.city_server.specs.Sessions.{BreaksOff, Serves, ServesBytes, WritesOut}
use Rattle.city_server.specs.declared.input_lines.Skip.{Skip}
use Rattle.city_server.specs.declared.telling.Telling.{Telling}

-- ---- lines

both_none : (a b c : Bool) → c ≡ (a || b) → a ≡ false → b ≡ false → c ≡ false
both_none a b c e f g = e ∙ ap (λ v. v || b) f ∙ g

pub line_and : (l m : List ℕ) → IsLine l → IsLine m → IsLine (l ++ m)
line_and l m f g = both_none _ _ _ (list_any-append (λ c. c == 10) l m) f g

pub lines_then : (ls ms : List (List ℕ)) → AreLines ls → AreLines ms → AreLines (ls ++ ms)
lines_then [] ms f g = g
lines_then (l ∷ ls) ms f g = (f.0, lines_then ls ms f.1 g)

pub text_then : (ls ms : List (List ℕ)) → lines_text (ls ++ ms) ≡ lines_text ls ++ lines_text ms
text_then [] ms = refl
text_then (l ∷ ls) ms =
    ap (λ v. (l ++ 10 ∷ []) ++ v) (text_then ls ms) ∙ sym (append_assoc (l ++ 10 ∷ []) (lines_text ls) (lines_text ms))

-- behind lines, more lines and the rest
pub bytes_then : (ls ms : List (List ℕ)) (bytes more rest : List ℕ) → bytes ≡ lines_text ls ++ more
    → more ≡ lines_text ms ++ rest → bytes ≡ lines_text (ls ++ ms) ++ rest
bytes_then ls ms bytes more rest f g =
    f ∙ ap (λ v. lines_text ls ++ v) g ∙ sym (append_assoc (lines_text ls) (lines_text ms) rest)
    ∙ ap (λ v. v ++ rest) (sym (text_then ls ms))

-- one line, with what stands behind it
pub bytes_line : (start line more : List ℕ) → start ++ (line ++ 10 ∷ more) ≡ lines_text ((start ++ line) ∷ []) ++ more
bytes_line start line more =
    sym (append_assoc start line (10 ∷ more))
    ∙ sym (append_assoc (start ++ line) (10 ∷ []) more)
    ∙ ap (λ v. v ++ more) (sym (append-nil ((start ++ line) ++ 10 ∷ [])))

pub line_whole : (line : List ℕ) → line ++ 10 ∷ [] ≡ lines_text (line ∷ []) ++ []
line_whole line = sym (append-nil (line ++ 10 ∷ [])) ∙ sym (append-nil ((line ++ 10 ∷ []) ++ []))

-- ---- a session that breaks off

-- between two lines
pub breaks_at : {ls : List (List ℕ)} {s u : Served} {a b : Telling} {w x : Option (List ℕ)} (bytes rest : List ℕ)
    → AreLines ls → bytes ≡ lines_text ls ++ rest → Serves ls s u a b w x → BreaksOff bytes s a w x
breaks_at {ls} {s} {u} {a} {b} bytes rest are is f = record {
  lines = ls;
  rest = rest;
  are_lines = are;
  bytes_are = is;
  u = u;
  number = b.line;
  out = f.out;
  are = f.are;
  written = f.written;
  unwritten = b.answers.items;
  appends = f.appends;
  first = f.left;
}

-- while answers are written
pub breaks_writing : {ls : List (List ℕ)} {s u : Served} {a b : Telling} {w x y : Option (List ℕ)} (bytes rest : List ℕ)
    → AreLines ls → bytes ≡ lines_text ls ++ rest → Serves ls s u a b w x → AppendsSome x y b.answers.items
    → BreaksOff bytes s a w y
breaks_writing {ls} {s} {u} {a} {b} {w} {x} {y} bytes rest are is f some = record {
  lines = ls;
  rest = rest;
  are_lines = are;
  bytes_are = is;
  u = u;
  number = b.line;
  out = f.out;
  are = f.are;
  written = f.written ++ take some.0 b.answers.items;
  unwritten = drop some.0 b.answers.items;
  appends = Appends-trans w x y f.written (take some.0 b.answers.items) f.appends some.1;
  first = f.left ∙ ap (λ v. f.written ++ v) (sym (take-append-drop some.0 b.answers.items))
      ∙ sym (append_assoc f.written (take some.0 b.answers.items) (drop some.0 b.answers.items));
}

-- behind lines that were served
pub breaks_then : {ls : List (List ℕ)} {s t : Served} {a b : Telling} {w x y : Option (List ℕ)} (bytes more : List ℕ)
    → AreLines ls → bytes ≡ lines_text ls ++ more → Serves ls s t a b w x → BreaksOff more t b x y
    → BreaksOff bytes s a w y
breaks_then {ls} {s} {t} {a} {b} {w} {x} {y} bytes more are is f g = record {
  lines = ls ++ g.lines;
  rest = g.rest;
  are_lines = lines_then ls g.lines are g.are_lines;
  bytes_are = bytes_then ls g.lines bytes more g.rest is g.bytes_are;
  u = g.u;
  number = g.number;
  out = f.out ++ g.out;
  are = answered_then a.decimals ls g.lines a.line b.line g.number s t g.u f.out g.out f.are
      (subst (λ v. AreAnswered v g.lines b.line g.number t g.u g.out) f.decimals g.are);
  written = f.written ++ g.written;
  unwritten = g.unwritten;
  appends = Appends-trans w x y f.written g.written f.appends g.appends;
  first = sym (append_assoc a.answers.items f.out g.out)
      ∙ ap (λ v. v ++ g.out) f.left
      ∙ append_assoc f.written b.answers.items g.out
      ∙ ap (λ v. f.written ++ v) g.first
      ∙ sym (append_assoc f.written g.written g.unwritten);
}

-- more bytes stand behind it
pub breaks_before : {s : Served} {a : Telling} {w x : Option (List ℕ)} (bytes more : List ℕ) → BreaksOff bytes s a w x
    → BreaksOff (bytes ++ more) s a w x
breaks_before bytes more f = record {
  lines = f.lines;
  rest = f.rest ++ more;
  are_lines = f.are_lines;
  bytes_are = ap (λ v. v ++ more) f.bytes_are ∙ append_assoc (lines_text f.lines) f.rest more;
  u = f.u;
  number = f.number;
  out = f.out;
  are = f.are;
  written = f.written;
  unwritten = f.unwritten;
  appends = f.appends;
  first = f.first;
}

-- ---- bytes of the input

pub bytes_begin : (start rest : List ℕ) (skip : Option Skip) (kept : List ℕ) (s : Served) (a : Telling)
    (w : Option (List ℕ)) → HasBegun skip kept start → IsLine start
    → ServesBytes (start ++ rest) rest skip kept s s a a w w
bytes_begin start rest skip kept s a w begun is = record {
  lines = [];
  last = start;
  are_lines = tt;
  last_is = is;
  bytes_are = refl;
  begun = begun;
  serves = serves_none s a w;
}

-- one more line
pub bytes_more : {bytes rest kept kept' : List ℕ} {skip skip' : Option Skip} {s t u : Served} {a b c : Telling}
    {w x y : Option (List ℕ)} (line more : List ℕ) → ServesBytes bytes rest skip kept s t a b w x
    → rest ≡ line ++ 10 ∷ more → IsLine line
    → ((start : List ℕ) → HasBegun skip kept start → Serves ((start ++ line) ∷ []) t u b c x y)
    → HasBegun skip' kept' [] → ServesBytes bytes more skip' kept' s u a c w y
bytes_more {bytes} {rest} line more f is is_line served begun = record {
  lines = f.lines ++ (f.last ++ line) ∷ [];
  last = [];
  are_lines = lines_then f.lines ((f.last ++ line) ∷ []) f.are_lines (line_and f.last line f.last_is is_line, tt);
  last_is = refl;
  bytes_are = bytes_then f.lines ((f.last ++ line) ∷ []) bytes (f.last ++ rest) more f.bytes_are
      (ap (λ v. f.last ++ v) is ∙ bytes_line f.last line more);
  begun = begun;
  serves = serves_then f.serves (served f.last f.begun);
}

-- no further line
pub bytes_kept : {bytes rest kept kept' : List ℕ} {skip skip' : Option Skip} {s t : Served} {a b : Telling}
    {w x : Option (List ℕ)} → ServesBytes bytes rest skip kept s t a b w x → IsLine rest
    → ((start : List ℕ) → HasBegun skip kept start → HasBegun skip' kept' (start ++ rest))
    → ServesBytes bytes [] skip' kept' s t a b w x
bytes_kept {bytes} {rest} f is kept = record {
  lines = f.lines;
  last = f.last ++ rest;
  are_lines = f.are_lines;
  last_is = line_and f.last rest f.last_is is;
  bytes_are = f.bytes_are ∙ ap (λ v. lines_text f.lines ++ v) (sym (append-nil (f.last ++ rest)));
  begun = kept f.last f.begun;
  serves = f.serves;
}

pub bytes_written : {bytes rest kept : List ℕ} {skip : Option Skip} {s t : Served} {a b c : Telling}
    {w x y : Option (List ℕ)} → ServesBytes bytes rest skip kept s t a b w x → WritesOut b c x y
    → ServesBytes bytes rest skip kept s t a c w y
bytes_written f o = record {
  lines = f.lines;
  last = f.last;
  are_lines = f.are_lines;
  last_is = f.last_is;
  bytes_are = f.bytes_are;
  begun = f.begun;
  serves = serves_written f.serves o;
}

-- the bytes behind the beginning of a line
behind : (ls : List (List ℕ)) (last bs cs : List ℕ) → bs ≡ lines_text ls ++ (last ++ [])
    → bs ++ cs ≡ lines_text ls ++ (last ++ cs)
behind ls last bs cs e =
    ap (λ v. v ++ cs) (e ∙ ap (λ v. lines_text ls ++ v) (append-nil last)) ∙ append_assoc (lines_text ls) last cs

-- the bytes of the next read
pub bytes_read : {bytes more kept kept' : List ℕ} {skip skip' : Option Skip} {s t u : Served} {a b c : Telling}
    {w x y : Option (List ℕ)} → ServesBytes bytes [] skip kept s t a b w x
    → ((start : List ℕ) → HasBegun skip kept start → IsLine start
    → ServesBytes (start ++ more) [] skip' kept' t u b c x y)
    → ServesBytes (bytes ++ more) [] skip' kept' s u a c w y
bytes_read {bytes} {more} f served =
    let g = served f.last f.begun f.last_is in record {
      lines = f.lines ++ g.lines;
      last = g.last;
      are_lines = lines_then f.lines g.lines f.are_lines g.are_lines;
      last_is = g.last_is;
      bytes_are = bytes_then f.lines g.lines (bytes ++ more) (f.last ++ more) (g.last ++ [])
          (behind f.lines f.last bytes more f.bytes_are) g.bytes_are;
      begun = g.begun;
      serves = serves_then f.serves g.serves;
    }

-- ---- bytes of the input, and a session that breaks off

pub breaks_in : {bytes rest kept : List ℕ} {skip : Option Skip} {s t : Served} {a b : Telling} {w x : Option (List ℕ)}
    → ServesBytes bytes rest skip kept s t a b w x → BreaksOff bytes s a w x
breaks_in {bytes} {rest} f = breaks_at bytes (f.last ++ rest) f.are_lines f.bytes_are f.serves

pub breaks_out : {bytes rest kept : List ℕ} {skip : Option Skip} {s t : Served} {a b : Telling}
    {w x y : Option (List ℕ)} → ServesBytes bytes rest skip kept s t a b w x → AppendsSome x y b.answers.items
    → BreaksOff bytes s a w y
breaks_out {bytes} {rest} f some = breaks_writing bytes (f.last ++ rest) f.are_lines f.bytes_are f.serves some

-- in the next line
pub breaks_line : {bytes rest kept : List ℕ} {skip : Option Skip} {s t : Served} {a b : Telling}
    {w x y : Option (List ℕ)} (line more : List ℕ) → ServesBytes bytes rest skip kept s t a b w x
    → rest ≡ line ++ 10 ∷ more → IsLine line
    → ((start : List ℕ) → HasBegun skip kept start → IsLine (start ++ line)
    → BreaksOff ((start ++ line) ++ 10 ∷ []) t b x y)
    → BreaksOff bytes s a w y
breaks_line {bytes} {rest} line more f is is_line broken =
    breaks_then bytes (((f.last ++ line) ++ 10 ∷ []) ++ more) f.are_lines
    (f.bytes_are ∙ ap (λ v. lines_text f.lines ++ v) (ap (λ v. f.last ++ v) is ∙ bytes_line f.last line more
    ∙ ap (λ v. v ++ more) (append-nil ((f.last ++ line) ++ 10 ∷ []))))
    f.serves
    (breaks_before ((f.last ++ line) ++ 10 ∷ []) more (broken f.last f.begun (line_and f.last line f.last_is is_line)))

-- in the bytes of the next read
pub breaks_read : {bytes more kept : List ℕ} {skip : Option Skip} {s t : Served} {a b : Telling}
    {w x y : Option (List ℕ)} → ServesBytes bytes [] skip kept s t a b w x
    → ((start : List ℕ) → HasBegun skip kept start → IsLine start → BreaksOff (start ++ more) t b x y)
    → BreaksOff (bytes ++ more) s a w y
breaks_read {bytes} {more} f broken =
    breaks_then (bytes ++ more) (f.last ++ more) f.are_lines (behind f.lines f.last bytes more f.bytes_are) f.serves
    (broken f.last f.begun f.last_is)

-- ---- the same of the same

pub bytes_same : {bytes rest kept : List ℕ} {skip : Option Skip} {s s' t t' : Served} {a a' b : Telling}
    {w x : Option (List ℕ)} → s' ≡ s → t' ≡ t → a' ≡ a → ServesBytes bytes rest skip kept s' t a' b w x
    → ServesBytes bytes rest skip kept s t' a b w x
bytes_same {bytes} {rest} {kept} {skip} {s} {s'} {t} {t'} {a} {a'} {b} {w} {x} hands then told f =
    subst (λ v. ServesBytes bytes rest skip kept v t' a b w x) hands
    (subst (λ v. ServesBytes bytes rest skip kept s' v a b w x) (sym then)
    (subst (λ v. ServesBytes bytes rest skip kept s' t v b w x) told f))

pub breaks_same : {bytes : List ℕ} {s s' : Served} {a a' : Telling} {w x : Option (List ℕ)} → s' ≡ s → a' ≡ a
    → BreaksOff bytes s' a' w x → BreaksOff bytes s a w x
breaks_same {bytes} {s} {s'} {a} {a'} {w} {x} hands told f =
    subst (λ v. BreaksOff bytes v a w x) hands (subst (λ v. BreaksOff bytes s' v w x) told f)

-- a fact of every fault
pub at_err : {X E P : Type 0} (r : Result X E) → P → OnErr r P
at_err (Ok x) p = tt
at_err (Err e) p = p

-- a fact of every success
pub at_ok : {X E P : Type 0} (r : Result X E) → P → OnOk r P
at_ok (Ok x) p = p
at_ok (Err e) p = tt
