-- The shelf's changes after one more end.
use Rattle.city_scheduler.proofs.Prelude.{◌≡◌, ◌≤◌, ℕ, ◌+◌, suc, zero, Bool, true, false, cond, List, [], ◌∷◌, ◌++◌}
use Rattle.city_scheduler.proofs.Prelude.{length, take, refl, ap, sym, subst, ◌∙◌, arith, length-append, append-nil}
use Rattle.city_scheduler.proofs.Prelude.{IfSome, Command, End, Outcome, CityMap, object_at, CityValue, Scripted}
use Rattle.city_scheduler.proofs.Prelude.{map_left, model_after, Change, after_changes, is_commit, commits_in}
use Rattle.city_scheduler.proofs.Prelude.{shown_more, CoreState, committed, view, Publishes, DeskState, IsSerial}
use Rattle.std.specs.Prelude.{Option, Some, None}
use Rattle.std.proofs.Math.Seq.{take-length}
use Rattle.std.proofs.lemmas.List.{take-append-le, take-append-drop}
use Rattle.std.proofs.lemmas.List.Sums.{sum_by-append}
use Rattle.city_model.specs.Runs.{after_change}
use Rattle.city_scheduler.specs.Serial.{AreChangesOf}

pub if_some_to : {A : Type 0} (o : Option A) (P Q : A → Type 0) → ((x : A) → P x → Q x) → IfSome o P → IfSome o Q
if_some_to None P Q f h = tt
if_some_to (Some x) P Q f h = f x h

pub none_of_none : {A : Type 0} (n : ℕ) → take {A = A} n [] ≡ []
none_of_none zero = refl
none_of_none (suc n) = refl

-- if it holds of each prefix of a list, and of the list with one more, it holds of each prefix of the longer list
first_more : {A : Type 0} (P : List A → Type 0) (xs : List A) (x : A) → ((n : ℕ) → P (take n xs)) → P (xs ++ x ∷ [])
    → (n : ℕ) → P (take n (xs ++ x ∷ []))
first_more P [] x all last zero = all 0
first_more P [] x all last (suc n) = subst P (sym (ap (λ ys. x ∷ ys) (none_of_none n))) last
first_more P (y ∷ ys) x all last zero = all 0
first_more P (y ∷ ys) x all last (suc n) = first_more (λ zs. P (y ∷ zs)) ys x (λ k. all (suc k)) last n

pub commits_more : (es : List End) (e : End)
    → commits_in (es ++ e ∷ []) ≡ commits_in es + cond (is_commit e.outcome) 1 0
commits_more es e = grind (arith, sum_by-append)

commits_first : (es : List End) (n : ℕ) → commits_in (take n es) ≤ commits_in es
commits_first es n = grind (arith, sum_by-append, take-append-drop n es)

module _ (scripts : List Scripted) (start : CityMap) (es : List End) (cs : List Change)
    (k : AreChangesOf scripts start es cs) where
  -- all changes show the map after all ends
  pub shows_all : after_changes start cs ≡ model_after scripts start es
  shows_all = rw (take-length es, ← k.one_each, take-length cs) at (k.shows (length es))

  -- one end more, and its change if it made one
  pub changes_after : (e : End) (gained : List Change) → commits_in (es ++ e ∷ []) ≡ commits_in es + length gained
      → after_changes start (cs ++ gained) ≡ model_after scripts start (es ++ e ∷ [])
      → AreChangesOf scripts start (es ++ e ∷ []) (cs ++ gained)
  changes_after e gained count shown =
      let long = length-append cs gained in
      let each : length (cs ++ gained) ≡ commits_in (es ++ e ∷ []) = omega (arith, k.one_each) in
      record {
        one_each = each;
        shows = first_more
            (λ xs. after_changes start (take (commits_in xs) (cs ++ gained)) ≡ model_after scripts start xs) es e
            (λ n. ap (after_changes start) (take-append-le (commits_in (take n es)) cs gained
            (omega (arith, commits_first es n, k.one_each))) ∙ k.shows n)
            (ap (after_changes start) (ap (λ n. take n (cs ++ gained)) (sym each) ∙ take-length (cs ++ gained))
            ∙ shown);
      }

-- ---- the map after an end

pub left_same : (m : CityMap) (cs : List Command) (o : Outcome) → is_commit o ≡ false → map_left m cs o ≡ m
left_same m cs o h = grind arith

-- the change of an end with this map after it: it is committed, and shown by the changes
pub gained_by : (b : Bool) (stamp : ℕ) (v w : CoreState) (start : CityMap) (before after : List Change) (m : CityMap)
    → committed v ≡ after_changes start before → (b ≡ true → m ≡ view v stamp) → (b ≡ false → m ≡ committed v)
    → Publishes b stamp v w before after
    → (gained : List Change) × (after ≡ before ++ gained) × (length gained ≡ cond b 1 0) × (committed w ≡ m)
    × (after_changes start (before ++ gained) ≡ m)
gained_by true stamp v w start before after m city left same p = (
  p.1.0 ∷ [],
  p.1.1,
  refl,
  p.0 ∙ sym (left refl),
  shown_more start before p.1.0
      ∙ (ap (λ (c : CityMap). after_change c p.1.0) (sym city) ∙ (p.1.2 ∙ sym (left refl))),
)
gained_by false stamp v w start before after m city left same p = (
  [],
  p.1 ∙ sym (append-nil before),
  refl,
  p.0 ∙ sym (same refl),
  ap (after_changes start) (append-nil before) ∙ (sym city ∙ sym (same refl)),
)

-- the shelf shows the committed city
pub shows_core : (d : DeskState) (changes : List Change) (base : Option CityValue) → IsSerial d changes base
    → IfSome base (λ city. after_changes (object_at city.1) changes ≡ committed d.core)
shows_core d changes base s =
    if_some_to base (λ city. city ≡ d.start) (λ city. after_changes (object_at city.1) changes ≡ committed d.core)
    (λ city same. ap (λ (x : CityValue). after_changes (object_at x.1) changes) same
    ∙ (shows_all d.scripts (object_at d.start.1) d.ends changes s.shelf ∙ sym s.city))
    s.based
