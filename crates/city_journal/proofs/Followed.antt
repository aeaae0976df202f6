-- Lines that follow the commits noted.
use Rattle.std.proofs.Common.{◌≡◌, inl, inr, ℕ, List, [], ◌∷◌, ◌++◌, Bool, Option, None, Some, refl, sym, ap, subst}
use Rattle.std.proofs.Common.{◌∙◌, OnOk, Result, Ok, Err, append_assoc, append-nil, length}
use Rattle.city_live.specs.Noting.{Noted}
use Rattle.city_live.specs.Entering.{noted_by}
use Rattle.city_live.specs.declared.journal.Commands.{Commands}
use Rattle.city_live.specs.declared.journal.Commands.TheVariants as commands
use Rattle.city_live.specs.declared.journal.Entry.{Entry}
use Rattle.city_live.specs.Entering.{commands_by}
use Rattle.city_journal.specs.Entries.{IsCommitLine, script_by}
use Rattle.city_journal.specs.Followed.{AddsCommits, AreLinesOf, IsLineOf, IsSavedLine, TellsCommits}
use Rattle.city_journal.specs.Kept.{Gains, GoesBy, Holds, MayTell}

commands_same : (name : List ℕ) (cs : Commands) → (script_by name cs).1 ≡ commands_by cs
commands_same name (commands.Script s) = refl
commands_same name (commands.Each ss) = refl

pub line_of_entry : (decimals : Bool) (e : Entry) (l : List ℕ) → IsCommitLine decimals e l → IsLineOf decimals (noted_by e) l
line_of_entry decimals e l is = record {
  name = (script_by e.name.now e.commands).0;
  key = is.key;
  script = is.script;
  time = is.time;
  is_script = rw (sym (commands_same e.name.now e.commands)) is.is_script;
  named = is.named;
  fits = is.fits;
  is_line = is.is_line;
}

one_more : (decimals : Bool) (ls : List (List ℕ)) (ns : List Noted) (l : List ℕ) (n : Noted) → AreLinesOf decimals ls ns
    → IsLineOf decimals n l → AreLinesOf decimals (ls ++ l ∷ []) (ns ++ n ∷ [])
one_more decimals [] ns l n h is = inr (n, [], ap (λ x. x ++ n ∷ []) h, is, refl)
one_more decimals (x ∷ ls) ns l n (inl h) is = inl (h.0, one_more decimals ls ns l n h.1 is)
one_more decimals (x ∷ ls) ns l n (inr h) is =
    inr (h.0, h.1 ++ n ∷ [], ap (λ y. y ++ n ∷ []) h.2, h.3, one_more decimals ls h.1 l n h.4 is)

one_saved : (decimals : Bool) (ls : List (List ℕ)) (ns : List Noted) (l : List ℕ) → AreLinesOf decimals ls ns
    → IsSavedLine l → AreLinesOf decimals (ls ++ l ∷ []) ns
one_saved decimals [] ns l h is = inl (is, h)
one_saved decimals (x ∷ ls) ns l (inl h) is = inl (h.0, one_saved decimals ls ns l h.1 is)
one_saved decimals (x ∷ ls) ns l (inr h) is = inr (h.0, h.1, h.2, h.3, one_saved decimals ls h.1 l h.4 is)

-- opening lines, two parts behind them, and one more line
regrouped : (opening front back more : List (List ℕ))
    → (opening ++ (front ++ back)) ++ more ≡ opening ++ (front ++ (back ++ more))
regrouped opening front back more =
    append_assoc opening (front ++ back) more ∙ ap (λ ls. opening ++ ls) (append_assoc front back more)

module _ {F : Type 0} (seen : F → Option (List ℕ)) (may_leave : F → List ℕ → Type 0) (decimals : Bool)
    (P : List ℕ → Type 0) where
  adds_one : (n : Noted) (old new : F) → ((l : List ℕ) → P l → IsLineOf decimals n l) → Gains P seen may_leave old new
      → AddsCommits decimals (n ∷ []) seen may_leave old new
  adds_one n old new kinds gains opening told more h =
      let front = h.told_lines in
      let back = h.more_lines in
      let line = gains (opening ++ (front ++ back)) (length (opening ++ front)) h.holds in
      record {
        told_lines = front;
        more_lines = back ++ line.0 ∷ [];
        are_told = h.are_told;
        are_more = one_more decimals back more line.0 n h.are_more (kinds line.0 line.1);
        holds = subst (λ ls. Holds seen may_leave new ls (length (opening ++ front)))
            (regrouped opening front back (line.0 ∷ [])) line.2;
      }

  adds_saved : (old new : F) → ((l : List ℕ) → P l → IsSavedLine l) → Gains P seen may_leave old new
      → AddsCommits decimals [] seen may_leave old new
  adds_saved old new kinds gains opening told more h =
      let front = h.told_lines in
      let back = h.more_lines in
      let line = gains (opening ++ (front ++ back)) (length (opening ++ front)) h.holds in
      record {
        told_lines = front;
        more_lines = back ++ line.0 ∷ [];
        are_told = h.are_told;
        are_more = subst (AreLinesOf decimals (back ++ line.0 ∷ [])) (sym (append-nil more))
            (one_saved decimals back more line.0 h.are_more (kinds line.0 line.1));
        holds = subst (λ ls. Holds seen may_leave new ls (length (opening ++ front)))
            (regrouped opening front back (line.0 ∷ [])) line.2;
      }

  -- the same where there may be no file
  pub follows_one : (n : Noted) (old new : Option F) → ((l : List ℕ) → P l → IsLineOf decimals n l)
      → GoesBy (Gains P seen may_leave) old new → GoesBy (AddsCommits decimals (n ∷ []) seen may_leave) old new
  follows_one n None new kinds h = h
  follows_one n (Some f) None kinds h = absurd h
  follows_one n (Some f) (Some g) kinds h = adds_one n f g kinds h

  pub follows_saved : (old new : Option F) → ((l : List ℕ) → P l → IsSavedLine l)
      → GoesBy (Gains P seen may_leave) old new → GoesBy (AddsCommits decimals [] seen may_leave) old new
  follows_saved None new kinds h = h
  follows_saved (Some f) None kinds h = absurd h
  follows_saved (Some f) (Some g) kinds h = adds_saved f g kinds h

-- the lines of two lists of commits, one behind the other
pub lines_both : (decimals : Bool) (front back : List (List ℕ)) (told more : List Noted) → AreLinesOf decimals front told
    → AreLinesOf decimals back more → AreLinesOf decimals (front ++ back) (told ++ more)
lines_both decimals [] back told more h k = subst (λ ns. AreLinesOf decimals back (ns ++ more)) (sym h) k
lines_both decimals (l ∷ ls) back told more (inl h) k = inl (h.0, lines_both decimals ls back told more h.1 k)
lines_both decimals (l ∷ ls) back told more (inr h) k =
    inr (h.0, h.1 ++ more, ap (λ ns. ns ++ more) h.2, h.3, lines_both decimals ls back h.1 more h.4 k)

module _ {F : Type 0} (seen : F → Option (List ℕ)) (may_leave : F → List ℕ → Type 0) (decimals : Bool) where
  tells : (old new : F) → MayTell seen may_leave old new → TellsCommits decimals seen may_leave old new
  tells old new tell opening told more h =
      let all = h.told_lines ++ h.more_lines in
      record {
        told_lines = all;
        more_lines = [];
        are_told = lines_both decimals h.told_lines h.more_lines told more h.are_told h.are_more;
        are_more = refl;
        holds = subst (λ ls. Holds seen may_leave new (opening ++ ls) (length (opening ++ all))) (sym (append-nil all))
            (tell (opening ++ all) (length (opening ++ h.told_lines)) h.holds);
      }

  pub tells_all : (old new : Option F) → GoesBy (MayTell seen may_leave) old new
      → GoesBy (TellsCommits decimals seen may_leave) old new
  tells_all None new h = h
  tells_all (Some f) None h = absurd h
  tells_all (Some f) (Some g) h = tells f g h

pub also_ok : {T E A B : Type 0} (r : Result T E) → (A → B) → OnOk r A → OnOk r B
also_ok (Ok x) f h = f h
also_ok (Err e) f h = h
