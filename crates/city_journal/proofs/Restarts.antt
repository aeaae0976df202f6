-- A journal's lines that a crash left, read again.
use Rattle.std.proofs.Common.{◌≡◌, ◌∙◌, ◌+◌, ◌-◌, arith, Option, inl, inr, ℕ, zero, suc, List, [], ◌∷◌, ◌++◌, Bool}
use Rattle.std.proofs.Common.{refl, sym, ap, subst, append_assoc, append-nil, length, map, take, MatchResult, Result, Ok, Err}
use Rattle.std.proofs.lemmas.List.{map-append}
use Rattle.city_live.specs.Noting.{Noted}
use Rattle.city_journal.specs.Followed.{AreLinesOf, HoldsCommits, IsLineOf, IsSavedLine}
use Rattle.city_journal.specs.LineTexts.{base_text}
use Rattle.city_journal.specs.Lines.{AreLines, IsLine, lines_text, whole_lines}
use Rattle.city_journal.specs.Reads.{AreNext, IsJournal, IsReadAs, SoFar, all_said, begun, with_commit, with_said}
use Rattle.city_journal.specs.Restarts.{AreScriptsOf, CountUp, IsLeftOver, IsOpening, Restarts, opening_of}
use Rattle.city_journal.specs.Said.{Said, said_text}
use Rattle.city_journal.specs.Said.Said.{Committed, Saved}
use Rattle.city_journal.specs.declared.fault.JournalFault.{JournalFault}
use Rattle.city_journal.specs.declared.read.ReadJournal.{ReadJournal}
use Rattle.city_journal.proofs.Followed.{lines_both}
use Rattle.city_journal.proofs.JournalRead.{all_append, keys_leave, next_append}
use Rattle.city_journal.proofs.Kept.{take_past}
use Rattle.city_journal.proofs.Lines.{HasTorn, with_torn}

-- ---- the first of the lines

first_lines : (decimals : Bool) (lines : List (List ℕ)) (ns : List Noted) (k : ℕ) → AreLinesOf decimals lines ns
    → (m : ℕ) × AreLinesOf decimals (take k lines) (take m ns)
first_lines decimals [] ns zero h = (0, refl)
first_lines decimals [] ns (suc k) h = (0, refl)
first_lines decimals (l ∷ ls) ns zero h = (0, refl)
first_lines decimals (l ∷ ls) ns (suc k) (inl h) =
    let more = first_lines decimals ls ns k h.1 in (more.0, inl (h.0, more.1))
first_lines decimals (l ∷ ls) ns (suc k) (inr h) =
    let more = first_lines decimals ls h.1 k h.4 in
    (suc more.0, inr (h.0, take more.0 h.1, ap (take (suc more.0)) h.2, h.3, more.1))

first_count : (v : ℕ) (ns : List Noted) (m : ℕ) → CountUp v ns → CountUp v (take m ns)
first_count v [] zero h = tt
first_count v [] (suc m) h = tt
first_count v (n ∷ ns) zero h = tt
first_count v (n ∷ ns) (suc m) h = (h.0, first_count n.version ns m h.1)

first_are : (lines : List (List ℕ)) (k : ℕ) → AreLines lines → AreLines (take k lines)
first_are [] zero h = tt
first_are [] (suc k) h = tt
first_are (l ∷ ls) zero h = tt
first_are (l ∷ ls) (suc k) h = (h.0, first_are ls k h.1)

behind_are : (front back : List (List ℕ)) → AreLines (front ++ back) → AreLines back
behind_are [] back h = h
behind_are (l ∷ front) back h = behind_are front back h.1

-- ---- what they say

pub record SayCommits (decimals : Bool) (r : SoFar) (lines : List (List ℕ)) (ns : List Noted) : Type 0 where
  pub ss : List Said
  pub cs : List (List ℕ × ℕ)
  pub texts : map said_text ss ≡ lines
  pub next : AreNext r ss
  pub commits : (all_said r ss).commits ≡ r.commits ++ cs
  pub scripts : AreScriptsOf decimals cs ns

say_saved : (decimals : Bool) (r : SoFar) (l : List ℕ) (ls : List (List ℕ)) (ns : List Noted) → IsLine l
    → (is : IsSavedLine l) → SayCommits decimals (with_said r (Saved is.0)) ls ns → SayCommits decimals r (l ∷ ls) ns
say_saved decimals r l ls ns line is more = record {
  ss = Saved is.0 ∷ more.ss;
  cs = more.cs;
  texts = ap (λ x. x ∷ map said_text more.ss) (sym is.2) ∙ ap (λ x. l ∷ x) more.texts;
  next = (record { fits = is.1; is_line = subst IsLine is.2 line; follows = tt }, more.next);
  commits = more.commits;
  scripts = more.scripts;
}

say_commit : (decimals : Bool) (r : SoFar) (l : List ℕ) (ls : List (List ℕ)) (n : Noted) (ns : List Noted) → IsLine l
    → (is : IsLineOf decimals n l) → n.version ≡ r.version + 1
    → SayCommits decimals (with_commit r is.script n.version) ls ns → SayCommits decimals r (l ∷ ls) (n ∷ ns)
say_commit decimals r l ls n ns line is next more = record {
  ss = Committed n.by is.key is.script is.time n.version ∷ more.ss;
  cs = (is.script, n.version) ∷ more.cs;
  texts = ap (λ x. x ∷ map said_text more.ss) (sym is.is_line) ∙ ap (λ x. l ∷ x) more.texts;
  next = (record { fits = is.fits; is_line = subst IsLine is.is_line line; follows = (is.named, next) }, more.next);
  commits = more.commits ∙ append_assoc r.commits ((is.script, n.version) ∷ []) more.cs;
  scripts = (n, ns, is.name, refl, is.is_script, refl, more.scripts);
}

say_all : (decimals : Bool) (lines : List (List ℕ)) (ns : List Noted) (r : SoFar) → AreLines lines
    → AreLinesOf decimals lines ns → CountUp r.version ns → SayCommits decimals r lines ns
say_all decimals [] ns r are follow counts =
    record { ss = []; cs = []; texts = refl; next = tt; commits = sym (append-nil r.commits); scripts = follow }
say_all decimals (l ∷ ls) ns r are (inl h) counts =
    say_saved decimals r l ls ns are.0 h.0 (say_all decimals ls ns (with_said r (Saved h.0.0)) are.1 h.1 counts)
say_all decimals (l ∷ ls) ns r are (inr h) counts =
    let n = h.0 in
    let known = subst (CountUp r.version) h.2 counts in
    subst (SayCommits decimals r (l ∷ ls)) (sym h.2)
    (say_commit decimals r l ls n h.1 are.0 h.3 known.0
    (say_all decimals ls h.1 (with_commit r h.3.script n.version) are.1 h.4 known.1))

-- ---- a journal that was left

restart_by : {decimals : Bool} {sum : List ℕ} {version : ℕ} {told more : List Noted} {bytes : List ℕ}
    (l : IsLeftOver decimals sum version told more bytes) (m : ℕ) (cs : List (List ℕ × ℕ)) (all : SoFar)
    (torn : List ℕ) (Q : JournalFault → Type 0) (r : Result ReadJournal JournalFault)
    → MatchResult r (IsReadAs all torn bytes) Q → all.commits ≡ cs → AreScriptsOf decimals cs (told ++ take m more)
    → AreLinesOf decimals (take l.kept l.more_lines) (take m more) → MatchResult r (Restarts l) Q
restart_by l m cs all torn Q (Err f) h e scripts follow = h
restart_by {decimals} {told = told} {more = more} l m cs all torn Q (Ok j) h e scripts follow = record {
  count = m;
  follow = follow;
  commits = subst (λ x. AreScriptsOf decimals x (told ++ take m more)) (sym (ap (λ s. s.commits) h.read ∙ e)) scripts;
}

opening_more : (decimals : Bool) (sum : List ℕ) (version : ℕ) (keys ss : List Said) (ls : List (List ℕ))
    → map said_text ss ≡ ls → opening_of decimals sum version (keys ++ ss) ≡ opening_of decimals sum version keys ++ ls
opening_more decimals sum version keys ss ls e =
    ap (λ x. base_text sum decimals version ∷ x)
    (map-append said_text keys ss ∙ ap (λ x. map said_text keys ++ x) e)

-- the first lines behind those that were told
first_lines_left : (opening front back : List (List ℕ)) (k : ℕ)
    → take (length (opening ++ front) + k) (opening ++ (front ++ back)) ≡ opening ++ (front ++ take k back)
first_lines_left opening front back k =
    ap (take (length (opening ++ front) + k)) (sym (append_assoc opening front back))
    ∙ take_past (opening ++ front) back k ∙ append_assoc opening front (take k back)

module _ {decimals : Bool} {sum : List ℕ} {version : ℕ} {told more : List Noted} {bytes : List ℕ}
    (l : IsLeftOver decimals sum version told more bytes) where
  abbrev opening : List (List ℕ)
  opening = opening_of decimals sum version l.keys

  abbrev lines : List (List ℕ)
  lines = l.told_lines ++ take l.kept l.more_lines

  journal_left : (ns : List Noted) (said : SayCommits decimals (begun sum version) lines ns) (t : HasTorn bytes)
      → IsJournal decimals sum version (l.keys ++ said.ss) t.torn bytes
  journal_left ns said t = record {
    is_sum = l.opens.is_sum;
    fits = l.opens.fits;
    first = l.are_lines.0;
    next = next_append (begun sum version) l.keys said.ss l.opens.next
        (subst (λ x. AreNext x said.ss) (sym (keys_leave (begun sum version) l.keys l.opens.are_keys)) said.next);
    part = t.is;
    text = t.text ∙ ap (λ (ls : List (List ℕ)). lines_text ls ++ t.torn)
        (l.left ∙ first_lines_left opening l.told_lines l.more_lines l.kept
        ∙ sym (opening_more decimals sum version l.keys said.ss lines said.texts));
  }

  are_left : AreLines lines
  are_left =
      let behind = behind_are opening (l.told_lines ++ l.more_lines) l.are_lines in
      subst AreLines (take_past l.told_lines l.more_lines l.kept)
      (first_are (l.told_lines ++ l.more_lines) (length l.told_lines + l.kept) behind)

  counts_left : (m : ℕ) → CountUp version (told ++ take m more)
  counts_left m =
      subst (CountUp version) (take_past told more m) (first_count version (told ++ more) (length told + m) l.count_up)

  pub restart_read : (Q : JournalFault → Type 0) (r : Result ReadJournal JournalFault)
      → ((sum : List ℕ) (version : ℕ) (ss : List Said) (torn : List ℕ) → IsJournal decimals sum version ss torn bytes
      → MatchResult r (IsReadAs (all_said (begun sum version) ss) torn bytes) Q)
      → MatchResult r (Restarts l) Q
  restart_read Q r read =
      let first = first_lines decimals l.more_lines more l.kept l.are_more in
      let ns = told ++ take first.0 more in
      let follow = lines_both decimals l.told_lines (take l.kept l.more_lines) told (take first.0 more) l.are_told first.1 in
      let said = say_all decimals lines ns (begun sum version) are_left follow (counts_left first.0) in
      let t = with_torn bytes in
      let all = all_said (begun sum version) (l.keys ++ said.ss) in
      let commits : all.commits ≡ said.cs = ap (λ s. s.commits) (all_append (begun sum version) l.keys said.ss
      ∙ ap (λ s. all_said s said.ss) (keys_leave (begun sum version) l.keys l.opens.are_keys)) ∙ said.commits in
      restart_by l first.0 said.cs all t.torn Q r
      (read sum version (l.keys ++ said.ss) t.torn (journal_left ns said t)) commits said.scripts first.1

-- ---- what a crash leaves

pub left_over : {F : Type 0} (seen : F → Option (List ℕ)) (may_leave : F → List ℕ → Type 0) (decimals : Bool) (file : F)
    (sum : List ℕ) (version : ℕ) (keys : List Said) (told more : List Noted) → IsOpening sum version keys
    → CountUp version (told ++ more)
    → HoldsCommits seen may_leave decimals file (opening_of decimals sum version keys) told more
    → (c : List ℕ) → may_leave file c → IsLeftOver decimals sum version told more c
left_over seen may_leave decimals file sum version keys told more opens count_up h c now =
    let left = h.holds.left c now in
    let least = length (opening_of decimals sum version keys ++ h.told_lines) in
    let split : left.0 ≡ least + (left.0 - least) = omega (arith, left.1) in
    record {
      keys = keys;
      opens = opens;
      told_lines = h.told_lines;
      more_lines = h.more_lines;
      are_lines = h.holds.are_lines;
      are_told = h.are_told;
      are_more = h.are_more;
      count_up = count_up;
      kept = left.0 - least;
      left = left.3 ∙ ap (λ n. take n (opening_of decimals sum version keys ++ (h.told_lines ++ h.more_lines))) split;
    }
