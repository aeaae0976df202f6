-- What a crash leaves of lines.
use Rattle.std.proofs.Common.{◌≡◌, ◌+◌, ◌<◌, ◌≤◌, ◌∙◌, ◌∷◌, ◌++◌, ◌⊎◌, inl, inr, ℕ, List, [], refl, sym, ap, subst, length, take}
use Rattle.std.proofs.Common.{Option, Some, None, append-nil, arith, IfSome, is_some, true, ap₂, ◌-◌, take-add, OnOk, Result, Ok, Err}
use Rattle.std.proofs.lemmas.Bool.{cases_lt}
use Rattle.std.proofs.lemmas.List.{length-append, take_all, take-append-le, take_at, drop_at}
use Rattle.std.specs.Io.KnownBytes.{Appends, Keeps}
use Rattle.city_journal.specs.Files.{IsKept, LeavesAsBefore, LeavesFirst, LeavesMore, LeavesPart}
use Rattle.city_journal.specs.Kept.{Gains, GoesBy, MayTell, Stays}
use Rattle.city_journal.specs.Lines.{AreLines, IsLine, lines_text, whole_lines}
use Rattle.city_journal.proofs.Lines.{are_more, line_first, lines_and, more_lines, part_of_line}

-- ---- known bytes

pub appended : (new : Option (List ℕ)) (xs bs : List ℕ) → Appends (Some xs) new bs → new ≡ Some (xs ++ bs)
appended None xs bs h = absurd h
appended (Some ys) xs bs h = ap Some h

pub kept : (new : Option (List ℕ)) (xs : List ℕ) → Keeps (Some xs) new → new ≡ Some xs
kept None xs h = absurd h
kept (Some ys) xs h = ap Some h

-- ---- what is left is the first of the lines, as many as were told at least

abbrev pub IsLeft : List (List ℕ) → ℕ → List ℕ → Type 0
IsLeft lines told c = (n : ℕ) × (told ≤ n) × (n ≤ length lines) × (whole_lines c ≡ take n lines)

length_more : (lines : List (List ℕ)) (line : List ℕ) → length (lines ++ line ∷ []) ≡ length lines + 1
length_more lines line = length-append lines (line ∷ [])

more_left : (lines : List (List ℕ)) (line : List ℕ) (told : ℕ) (c : List ℕ) → IsLeft lines told c
    → IsLeft (lines ++ line ∷ []) told c
more_left lines line told c h =
    (h.0, h.1, omega (arith, h.2, length_more lines line), h.3 ∙ sym (take-append-le h.0 lines (line ∷ []) h.2))

-- all lines, and a part of another
part_left : (lines : List (List ℕ)) (line : List ℕ) (told k : ℕ) (c : List ℕ) → AreLines lines → IsLine line
    → told ≤ length lines → k ≤ length line → c ≡ lines_text lines ++ take k (line ++ 10 ∷ []) → IsLeft lines told c
part_left lines line told k c are is fits le eq = (
  length lines,
  fits,
  omega arith,
  ap whole_lines eq ∙ lines_and lines (take k (line ++ 10 ∷ [])) are
      ∙ ap (λ w. lines ++ w) (part_of_line line k is le) ∙ append-nil lines
      ∙ sym (take_all (length lines) lines (omega arith)),
)

-- all lines, and another
all_left : (lines : List (List ℕ)) (line : List ℕ) (told k : ℕ) (c : List ℕ) → AreLines lines → IsLine line
    → told ≤ length lines → length line < k → c ≡ lines_text lines ++ take k (line ++ 10 ∷ [])
    → IsLeft (lines ++ line ∷ []) told c
all_left lines line told k c are is fits lt eq =
    let all = take_all k (line ++ 10 ∷ []) (omega (arith, lt, length-append line (10 ∷ []))) in (
      length (lines ++ line ∷ []),
      omega (arith, fits, length_more lines line),
      omega arith,
      ap whole_lines (eq ∙ ap (λ t. lines_text lines ++ t) all) ∙ lines_and lines (line ++ 10 ∷ []) are
          ∙ ap (λ w. lines ++ w) (line_first line [] is)
          ∙ sym (take_all (length (lines ++ line ∷ [])) (lines ++ line ∷ []) (omega arith)),
    )

left_cut : (lines : List (List ℕ)) (line : List ℕ) (told k : ℕ) (c : List ℕ) → AreLines lines → IsLine line
    → told ≤ length lines → c ≡ lines_text lines ++ take k (line ++ 10 ∷ [])
    → (length line < k) ⊎ (k ≤ length line) → IsLeft (lines ++ line ∷ []) told c
left_cut lines line told k c are is fits eq (inl lt) = all_left lines line told k c are is fits lt eq
left_cut lines line told k c are is fits eq (inr le) =
    more_left lines line told c (part_left lines line told k c are is fits le eq)

left_more : (lines : List (List ℕ)) (line : List ℕ) (told : ℕ) (c : List ℕ) (P : Type 0) → AreLines lines → IsLine line
    → told ≤ length lines → (P → IsLeft lines told c)
    → (P ⊎ ((k : ℕ) × (k ≤ length (line ++ 10 ∷ [])) × (c ≡ lines_text lines ++ take k (line ++ 10 ∷ []))))
    → IsLeft (lines ++ line ∷ []) told c
left_more lines line told c P are is fits old (inl p) = more_left lines line told c (old p)
left_more lines line told c P are is fits old (inr (k, le, eq)) =
    left_cut lines line told k c are is fits eq (cases_lt (length line) k)

left_part : (lines : List (List ℕ)) (line : List ℕ) (told : ℕ) (c : List ℕ) (P : Type 0) → AreLines lines → IsLine line
    → told ≤ length lines → (P → IsLeft lines told c)
    → (P ⊎ ((k : ℕ) × (k < length (line ++ 10 ∷ [])) × (c ≡ lines_text lines ++ take k (line ++ 10 ∷ []))))
    → IsLeft lines told c
left_part lines line told c P are is fits old (inl p) = old p
left_part lines line told c P are is fits old (inr (k, lt, eq)) =
    part_left lines line told k c are is fits (omega (arith, lt, length-append line (10 ∷ []))) eq

-- ---- a file that keeps its first bytes

pub take_past : {X : Type 0} (xs ys : List X) (j : ℕ) → take (length xs + j) (xs ++ ys) ≡ xs ++ take j ys
take_past xs ys j = take-add (length xs) j (xs ++ ys)
    ∙ ap₂ (λ a b. a ++ take j b) (take_at xs ys (length xs) refl) (drop_at xs ys (length xs) refl)

grown_at : (synced : ℕ) (bytes more c : List ℕ) (k : ℕ) → synced ≤ k → k ≤ length (bytes ++ more)
    → c ≡ take k (bytes ++ more) → (length bytes < k) ⊎ (k ≤ length bytes)
    → LeavesFirst synced bytes c ⊎ ((j : ℕ) × (j ≤ length more) × (c ≡ bytes ++ take j more))
grown_at synced bytes more c k least most eq (inr le) =
    inl (k, least, le, eq ∙ take-append-le k bytes more le)
grown_at synced bytes more c k least most eq (inl lt) =
    let split : k ≡ length bytes + (k - length bytes) = omega (arith, lt) in
    inr (
      k - length bytes,
      omega (arith, most, length-append bytes more),
      eq ∙ ap (λ n. take n (bytes ++ more)) split ∙ take_past bytes more (k - length bytes),
    )

pub grown_left : (synced : ℕ) (bytes more new : List ℕ) → new ≡ bytes ++ more
    → LeavesMore (LeavesFirst synced bytes) (LeavesFirst synced new) bytes more
grown_left synced bytes more new grown c left =
    let known = rw grown at left in
    grown_at synced bytes more c known.0 known.1 known.2 known.3 (cases_lt (length bytes) known.0)

-- ---- files

module _ {F : Type 0} (seen : F → Option (List ℕ)) (may_leave : F → List ℕ → Type 0) (old new : F) where
  pub gains : (line : List ℕ) → IsLine line → Appends (seen old) (seen new) (line ++ 10 ∷ [])
      → IfSome (seen old) (λ s. LeavesMore (may_leave old) (may_leave new) s (line ++ 10 ∷ []))
      → Gains (λ l. l ≡ line) seen may_leave old new
  gains line is bytes left lines told h = (
    line,
    refl,
    record {
      has = appended (seen new) (lines_text lines) (line ++ 10 ∷ []) (rw h.has at bytes)
          ∙ ap Some (sym (more_lines lines line));
      are_lines = are_more lines line h.are_lines is;
      fits = omega (arith, h.fits, length-append lines (line ∷ []));
      left = λ c now. left_more lines line told c (may_leave old c) h.are_lines is h.fits (h.left c)
          ((rw h.has at left) c now);
    },
  )

  pub stays : (line : List ℕ) → IsLine line → Keeps (seen old) (seen new)
      → IfSome (seen old) (λ s. LeavesPart (may_leave old) (may_leave new) s (line ++ 10 ∷ []))
      → Stays seen may_leave old new
  stays line is bytes left lines told h = record {
    has = kept (seen new) (lines_text lines) (rw h.has at bytes);
    are_lines = h.are_lines;
    fits = h.fits;
    left = λ c now. left_part lines line told c (may_leave old c) h.are_lines is h.fits (h.left c)
        ((rw h.has at left) c now);
  }

  pub stays_unsynced : Keeps (seen old) (seen new) → LeavesAsBefore (may_leave old) (may_leave new)
      → Stays seen may_leave old new
  stays_unsynced bytes before lines told h = record {
    has = kept (seen new) (lines_text lines) (rw h.has at bytes);
    are_lines = h.are_lines;
    fits = h.fits;
    left = λ c now. h.left c (before c now);
  }

  pub may_tell : Keeps (seen old) (seen new) → IsKept (seen new) (may_leave new) → MayTell seen may_leave old new
  may_tell bytes only lines told h =
      let has : seen new ≡ Some (lines_text lines) = kept (seen new) (lines_text lines) (rw h.has at bytes) in
      let left = rw has at only in
      record {
        has = has;
        are_lines = h.are_lines;
        fits = omega arith;
        left = λ c now. (
          length lines,
          omega arith,
          omega arith,
          ap whole_lines (left c now ∙ sym (append-nil (lines_text lines))) ∙ lines_and lines [] h.are_lines
              ∙ append-nil lines ∙ sym (take_all (length lines) lines (omega arith)),
        );
      }

module _ {F : Type 0} (seen : F → Option (List ℕ)) (may_leave : F → List ℕ → Type 0) (file : F) where
  -- what is synced already may be told
  pub may_tell_synced : IsKept (seen file) (may_leave file) → MayTell seen may_leave file file
  may_tell_synced only lines told h =
      let left = rw h.has at only in
      record {
        has = h.has;
        are_lines = h.are_lines;
        fits = omega arith;
        left = λ c now. (
          length lines,
          omega arith,
          omega arith,
          ap whole_lines (left c now ∙ sym (append-nil (lines_text lines))) ∙ lines_and lines [] h.are_lines
              ∙ append-nil lines ∙ sym (take_all (length lines) lines (omega arith)),
        );
      }

  pub stays_same : Stays seen may_leave file file
  stays_same lines told h = h

-- the same where there may be no file
pub may_tell_all : {F : Type 0} (seen : F → Option (List ℕ)) (may_leave : F → List ℕ → Type 0) (file : Option F)
    → IfSome file (λ f. IsKept (seen f) (may_leave f)) → GoesBy (MayTell seen may_leave) file file
may_tell_all seen may_leave None h = refl
may_tell_all seen may_leave (Some f) h = may_tell_synced seen may_leave f h

-- what is gained is of another kind too
pub gains_also : {F : Type 0} (seen : F → Option (List ℕ)) (may_leave : F → List ℕ → Type 0) (P Q : List ℕ → Type 0)
    (old new : Option F) → (is_some old ≡ true → (l : List ℕ) → P l → Q l) → GoesBy (Gains P seen may_leave) old new
    → GoesBy (Gains Q seen may_leave) old new
gains_also seen may_leave P Q None new kinds h = h
gains_also seen may_leave P Q (Some f) None kinds h = absurd h
gains_also seen may_leave P Q (Some f) (Some g) kinds h =
    λ lines told holds. let x = h lines told holds in (x.0, kinds refl x.0 x.1, x.2)

-- the same of what is told at Ok
pub noted_as : {F T E : Type 0} (seen : F → Option (List ℕ)) (may_leave : F → List ℕ → Type 0) (Q : List ℕ → Type 0)
    (r : Result T E) (line : List ℕ) (old new : Option F) → (is_some old ≡ true → Q line)
    → OnOk r (GoesBy (Gains (λ l. l ≡ line) seen may_leave) old new) → OnOk r (GoesBy (Gains Q seen may_leave) old new)
noted_as seen may_leave Q (Ok x) line old new kind h =
    gains_also seen may_leave (λ l. l ≡ line) Q old new (λ some l e. subst Q (sym e) (kind some)) h
noted_as seen may_leave Q (Err x) line old new kind h = h

pub saved_as : {F T E : Type 0} (seen : F → Option (List ℕ)) (may_leave : F → List ℕ → Type 0) (r : Result T E)
    (x y : List ℕ) (o p new : Option F) → x ≡ y → o ≡ p → OnOk r (GoesBy (Gains (λ l. l ≡ x) seen may_leave) o new)
    → OnOk r (GoesBy (Gains (λ l. l ≡ y) seen may_leave) p new)
saved_as seen may_leave r x y o p new e f h =
    subst (λ q. OnOk r (GoesBy (Gains (λ l. l ≡ y) seen may_leave) q new)) f
    (subst (λ z. OnOk r (GoesBy (Gains (λ l. l ≡ z) seen may_leave) o new)) e h)
