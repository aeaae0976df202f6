-- A whole session: the lines of its input, and what the writer gets.
use Rattle.std.proofs.Common.{◌≡◌, ◌∙◌, ◌∷◌, ◌++◌, ℕ, Bool, List, [], Option, refl, sym, ap, subst, append_assoc}
use Rattle.std.proofs.Common.{append-nil}
use Rattle.std.specs.Io.KnownBytes.{Appends, Consumes, IsAtEnd}
use Rattle.city_journal.specs.Lines.{AreLines, IsLine, lines_text}
use Rattle.city_live.specs.Serving.{IsServed, Served}
use Rattle.city_serve.specs.ServedTexts.{AppendsSome}
use Rattle.city_server.proofs.Answering.{serves_added, serves_none, serves_then, serves_written}
use Rattle.city_server.proofs.Breaking.{breaks_at, breaks_before, breaks_in, breaks_then, breaks_writing, bytes_then}
use Rattle.city_server.proofs.Breaking.{lines_then}
use Rattle.city_server.specs.Asked.{AreAnswered}
use Rattle.city_server.specs.Lines.{HasBegun}
use Rattle.city_server.specs.Lived.{AreAllAnswered, AreFirstAnswered, AreLinesOf, last_line}
use Rattle.city_server.specs.Sessions.{AddsAnswers, BreaksOff, Serves, ServesBytes, WritesOut}
use Rattle.city_server.specs.declared.input_lines.Skip.{Skip}
use Rattle.city_server.specs.declared.telling.Telling.{Telling}

-- ---- the last line

last_lines : (last : List ℕ) → IsLine last → AreLines (last_line last)
last_lines [] is = tt
last_lines (c ∷ cs) is = (is, tt)

pub last_of : (last : List ℕ) → (last ≡ [] → ⊥) → last_line last ≡ last ∷ []
last_of [] none = absurd (none refl)
last_of (c ∷ cs) none = refl

-- what stands behind the last line, once it has a newline
behind_last : List ℕ → List ℕ
behind_last [] = 10 ∷ []
behind_last (c ∷ cs) = []

last_text : (last : List ℕ) → last ++ 10 ∷ [] ≡ lines_text (last_line last) ++ behind_last last
unfolding behind_last
last_text [] = refl
last_text (c ∷ cs) = sym (append-nil ((c ∷ cs) ++ 10 ∷ [])) ∙ sym (append-nil (((c ∷ cs) ++ 10 ∷ []) ++ []))

with_last : (ls : List (List ℕ)) (last bytes : List ℕ) → bytes ≡ lines_text ls ++ (last ++ [])
    → bytes ++ 10 ∷ [] ≡ lines_text (ls ++ last_line last) ++ behind_last last
with_last ls last bytes e =
    bytes_then ls (last_line last) (bytes ++ 10 ∷ []) (last ++ 10 ∷ []) (behind_last last)
    (ap (λ v. v ++ 10 ∷ []) (e ∙ ap (λ v. lines_text ls ++ v) (append-nil last))
    ∙ append_assoc (lines_text ls) last (10 ∷ []))
    (last_text last)

-- ---- a session

-- what was to be written first is written, and then the lines of some bytes and the last one are answered
pub serves_all : {bytes kept : List ℕ} {skip : Option Skip} {s t u : Served} {a b c d : Telling}
    {w x y : Option (List ℕ)} → WritesOut a b w x → (f : ServesBytes bytes [] skip kept s t b c x y)
    → AddsAnswers (last_line f.last) t u c d → Serves (f.lines ++ last_line f.last) s u a d w y
serves_all {s = s} {a = a} {w = w} {y = y} first f last =
    serves_then (serves_then (serves_written (serves_none s a w) first) f.serves) (serves_added y last)

pub all_answered : {bytes kept : List ℕ} {skip : Option Skip} {s t u : Served} {a b c d e : Telling}
    {w x y z : Option (List ℕ)} (old new : Option (List ℕ)) → a.line ≡ 0 → Consumes old new bytes → IsAtEnd new
    → WritesOut a b w x → (f : ServesBytes bytes [] skip kept s t b c x y)
    → AddsAnswers (last_line f.last) t u c d → WritesOut d e y z → IsServed u
    → AreAllAnswered a.decimals a.answers.items s old new w z
all_answered
    {bytes = bytes} {s = s} {u = u} {a = a} {e = e} {w = w} {z = z} old new zero read over first f last out served =
    let g = serves_written (serves_all first f last) out in record {
      bytes = bytes;
      read = read;
      at_end = over;
      lines = f.lines ++ last_line f.last;
      are_lines = record {
        whole = f.lines;
        last = f.last;
        are_lines = f.are_lines;
        last_is = f.last_is;
        bytes_are = f.bytes_are ∙ ap (λ v. lines_text f.lines ++ v) (append-nil f.last);
        lines_are = refl;
      };
      u = u;
      number = e.line;
      out = g.out;
      are = subst (λ v. AreAnswered a.decimals (f.lines ++ last_line f.last) v e.line s u g.out) zero g.are;
      served = served;
      written = subst (Appends w z)
          (sym (append-nil g.written) ∙ ap (λ v. g.written ++ v) (sym out.none_left) ∙ sym g.left) g.appends;
    }

pub first_answered : {s : Served} {a : Telling} {w z : Option (List ℕ)} (old new : Option (List ℕ)) (bytes : List ℕ)
    → a.line ≡ 0 → Consumes old new bytes → BreaksOff (bytes ++ 10 ∷ []) s a w z
    → AreFirstAnswered a.decimals a.answers.items s old new w z
first_answered {s} {a} old new bytes zero read f = record {
  bytes = bytes;
  read = read;
  lines = f.lines;
  rest = f.rest;
  are_lines = f.are_lines;
  bytes_are = f.bytes_are;
  u = f.u;
  number = f.number;
  out = f.out;
  are = subst (λ v. AreAnswered a.decimals f.lines v f.number s f.u f.out) zero f.are;
  written = f.written;
  unwritten = f.unwritten;
  appends = f.appends;
  first_are = f.first;
}

-- nothing was written
pub breaks_first : (s : Served) (a : Telling) (w : Option (List ℕ)) (bytes : List ℕ) → BreaksOff bytes s a w w
breaks_first s a w bytes = breaks_at bytes bytes tt refl (serves_none s a w)

-- what was to be written first broke off
pub breaks_ready : (s : Served) (a : Telling) {w x : Option (List ℕ)} (bytes : List ℕ)
    → AppendsSome w x a.answers.items → BreaksOff bytes s a w x
breaks_ready s a {w} bytes some = breaks_writing bytes bytes tt refl (serves_none s a w) some

-- it was written, and then the session broke off
pub breaks_later : {s : Served} {a b : Telling} {w x y : Option (List ℕ)} (bytes : List ℕ) → WritesOut a b w x
    → BreaksOff bytes s b x y → BreaksOff (bytes ++ 10 ∷ []) s a w y
breaks_later {s} {a} {b} {w} bytes first f =
    breaks_before bytes (10 ∷ []) (breaks_then bytes bytes tt refl (serves_written (serves_none s a w) first) f)

-- the answers of the last block broke off
pub breaks_last : {bytes kept : List ℕ} {skip : Option Skip} {s t u : Served} {a b c d : Telling}
    {w x y z : Option (List ℕ)} → WritesOut a b w x → (f : ServesBytes bytes [] skip kept s t b c x y)
    → AddsAnswers (last_line f.last) t u c d → AppendsSome y z d.answers.items → BreaksOff (bytes ++ 10 ∷ []) s a w z
breaks_last {bytes} first f last some =
    breaks_writing (bytes ++ 10 ∷ []) (behind_last f.last)
    (lines_then f.lines (last_line f.last) f.are_lines (last_lines f.last f.last_is))
    (with_last f.lines f.last bytes f.bytes_are) (serves_all first f last) some

-- ---- the end

-- what is answered whole is answered in part
pub first_of_all : {decimals : Bool} {first : List ℕ} {s : Served} {input left old new : Option (List ℕ)}
    → AreAllAnswered decimals first s input left old new → AreFirstAnswered decimals first s input left old new
first_of_all {first = first} h =
    let parts = h.are_lines in record {
      bytes = h.bytes;
      read = h.read;
      lines = h.lines;
      rest = behind_last parts.last;
      are_lines = subst AreLines (sym parts.lines_are)
          (lines_then parts.whole (last_line parts.last) parts.are_lines (last_lines parts.last parts.last_is));
      bytes_are =
          with_last parts.whole parts.last h.bytes
          (parts.bytes_are ∙ ap (λ v. lines_text parts.whole ++ v) (sym (append-nil parts.last)))
          ∙ ap (λ ls. lines_text ls ++ behind_last parts.last) (sym parts.lines_are);
      u = h.u;
      number = h.number;
      out = h.out;
      are = h.are;
      written = first ++ h.out;
      unwritten = [];
      appends = h.written;
      first_are = sym (append-nil (first ++ h.out));
    }
