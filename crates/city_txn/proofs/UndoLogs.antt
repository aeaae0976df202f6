-- Undo logs: the effect of an entry, and the marks of a snapshot.
use Rattle.city_txn.proofs.Prelude.{arith, ◌≡◌, ◌||◌, ℕ, List, [], ◌∷◌, true, false, Option, refl, ap, sym, ◌∙◌, Bool}
use Rattle.city_txn.proofs.Prelude.{list_any, false≢true, Object, same_id, same_id_true, bool_cases, Entry, BeforeImage}
use Rattle.city_txn.proofs.Prelude.{marked, is_noted, has_mark}
use Rattle.std.proofs.Common.{drop, reverse}
use Rattle.std.proofs.lemmas.List.Sorted.{list_any-IsPermutation, IsPermutation-reverse}
use Rattle.std.specs.Map.{update}
use Rattle.city_model.specs.Marks.{marks_from}
use Rattle.city_txn.specs.declared.undo_logs.Entry.TheVariants.{Mark}
use Rattle.city_txn.specs.UndoLog.{OwnWrites, Written, written_at_mark}
use Rattle.city_txn.specs.internal.LogTests.{is_at_mark, newest_undone}

-- ---- marks over other writes

-- marks stay if each changed write is noted
pub marked_same : (es : List Entry) (f g : OwnWrites) → ((q : List ℕ) → is_noted es q ≡ false → f q ≡ g q)
    → marked es f ≡ marked es g
marked_same [] f g same = refl
marked_same (Mark name ∷ es) f g same =
    let e : f ≡ g = λ i q. same q refl i in
    ap (λ (h : OwnWrites). (name, h) ∷ marked es h) e
marked_same (BeforeImage id own ∷ es) f g same = marked_same es (update same_id f id own) (update same_id g id own)
    (λ q h. let at = same q in grind arith)

-- noting the current write leaves the marks
pub noted_marked : (es : List Entry) (f : OwnWrites) (id : List ℕ) (own : Option (Option Object)) → own ≡ f id
    → marked (BeforeImage id own ∷ es) f ≡ marked es f
noted_marked es f id own is = marked_same es (update same_id f id own) f
    (λ q h. let at = same_id_true id q in grind arith)

-- ---- one entry less

pub undone_marks : (es : List Entry) (f : OwnWrites) (name : List ℕ) → is_at_mark es name ≡ false →
    marks_from name (marked (drop 1 es) (newest_undone es f)) ≡ marks_from name (marked es f)
undone_marks [] f name h = refl
undone_marks (Mark n ∷ es) f name h = rw h refl
undone_marks (BeforeImage id own ∷ es) f name h = refl

pub undone_has : (es : List Entry) (name : List ℕ) → is_at_mark es name ≡ false → has_mark es name ≡ true
    → has_mark (drop 1 es) name ≡ true
undone_has [] name h k = absurd (false≢true k)
undone_has (e ∷ es) name h k = sym (ap (λ b. b || has_mark es name) h) ∙ k

-- at the mark: the current writes are its writes, and the newer marks are gone
pub at_mark : (es : List Entry) (f : OwnWrites) (name : List ℕ) (w : Written) → is_at_mark es name ≡ true
    → written_at_mark w (marks_from name (marked es f)) ≡ (f, marked es f)
at_mark [] f name w h = absurd (false≢true h)
at_mark (Mark n ∷ es) f name w h = rw h refl
at_mark (BeforeImage id own ∷ es) f name w h = absurd (false≢true h)

-- without a mark of the name there is none to go back to
pub no_mark_from : (es : List Entry) (f : OwnWrites) (name : List ℕ) → has_mark es name ≡ false
    → marks_from name (marked es f) ≡ []
no_mark_from [] f name h = refl
no_mark_from (Mark n ∷ es) f name h = let rest = no_mark_from es f name in grind arith
no_mark_from (BeforeImage id own ∷ es) f name h = no_mark_from es (update same_id f id own) name h

-- and with one there is
pub mark_is_there : (es : List Entry) (f : OwnWrites) (name : List ℕ) → has_mark es name ≡ true →
    (k : List ℕ × OwnWrites) × (ks : List (List ℕ × OwnWrites)) × (marks_from name (marked es f) ≡ k ∷ ks)
mark_is_there [] f name h = absurd (false≢true h)
mark_is_there (Mark n ∷ es) f name h = bool_cases (same_id name n)
    (λ e. ((n, f), marked es f, rw e refl)) (λ e. rw e (mark_is_there es f name (sym (rw e refl) ∙ h)))
mark_is_there (BeforeImage id own ∷ es) f name h = mark_is_there es (update same_id f id own) name h

-- ---- logs as lists, newest last

pub any_reversed : (p : Entry → Bool) (es : List Entry) → list_any p (reverse es) ≡ list_any p es
any_reversed p es = sym (list_any-IsPermutation p es (reverse es) (IsPermutation-reverse es))
