-- Transactions run one at a time are a serial history of their scripts.
use Rattle.std.specs.Prelude.{◌≡◌, ◌<◌, ◌≤◌, ◌+◌, ◌++◌, ℕ, List, [], ◌∷◌, true, Some, length, take, slice_get, refl}
use Rattle.std.proofs.Common.{sym, ◌∙◌, ap, subst, arith, add-one, zero, suc}
use Rattle.city_model.specs.CityMap.{CityMap}
use Rattle.city_model.specs.Relations.{IsLawful}
use Rattle.city_model.specs.Runs.{Scripted, left_by, model_after, NoEndOf, IsSerialHistoryFrom}
use Rattle.city_model.specs.Scripts.{ends_once}
use Rattle.city_model.proofs.Lawful.{lawful_left}
use Rattle.city_session.specs.Grown.{Closed, max_commands, unrefused, replies_in, script_of, outcome_of, scripts_of}
use Rattle.city_session.specs.Grown.{end_at, ends_from, IsTold}
use Rattle.city_session.specs.internal.Recorded.{left, left_by_all, IsRunAt, AreRun, AreScriptsOf}

-- ---- one more

pub left_by_more : (m : CityMap) (cs : List Closed) (c : Closed)
    → left_by_all m (cs ++ c ∷ []) ≡ left (left_by_all m cs) c
left_by_more m [] c = refl
left_by_more m (x ∷ cs) c = left_by_more (left m x) cs c

pub run_more : (m : CityMap) (k : ℕ) (cs : List Closed) (c : Closed) → AreRun m k cs
    → IsRunAt (left_by_all m cs) (k + length cs) c → AreRun m k (cs ++ c ∷ [])
run_more m k [] c r h = (subst (λ p. IsRunAt m p c) (omega arith) h, tt)
run_more m k (x ∷ cs) c r h = (
  r.0,
  run_more (left m x) (k + 1) cs c r.1
      (subst (λ p. IsRunAt (left_by_all (left m x) cs) p c) (omega arith) h),
)

-- ---- one of them

pub told_at : (m : CityMap) (k : ℕ) (cs : List Closed) (n : ℕ) (c : Closed) → AreRun m k cs → slice_get cs n ≡ Some c
    → IsTold (left_by_all m (take n cs)) c.0.told
told_at m k [] n c r h = absurd (cc)
told_at m k (x ∷ cs) zero c r h = let e : x ≡ c = cc in subst (λ (y : Closed). IsTold m y.0.told) e r.0.told
told_at m k (x ∷ cs) (suc n) c r h = told_at (left m x) (k + 1) cs n c r.1 h

pub within_at : (m : CityMap) (k : ℕ) (cs : List Closed) (n : ℕ) (c : Closed) → AreRun m k cs → slice_get cs n ≡ Some c
    → length (script_of c).1 ≤ max_commands
within_at m k [] n c r h = absurd (cc)
within_at m k (x ∷ cs) zero c r h =
    let e : x ≡ c = cc in subst (λ y. length (script_of y).1 ≤ max_commands) e r.0.within
within_at m k (x ∷ cs) (suc n) c r h = within_at (left m x) (k + 1) cs n c r.1 h

pub scripted_at : (m : CityMap) (k : ℕ) (cs : List Closed) (n : ℕ) (s : Scripted) → AreRun m k cs
    → slice_get (scripts_of cs) n ≡ Some s → ends_once s.1 ≡ true
scripted_at m k [] n s r h = absurd (cc)
scripted_at m k (x ∷ cs) zero s r h =
    let e : script_of x ≡ s = cc in subst (λ (y : Scripted). ends_once y.1 ≡ true) e r.0.scripted
scripted_at m k (x ∷ cs) (suc n) s r h = scripted_at (left m x) (k + 1) cs n s r.1 h

pub lawful_at : (m : CityMap) (k : ℕ) (cs : List Closed) (n : ℕ) → IsLawful m → AreRun m k cs
    → IsLawful (left_by_all m (take n cs))
lawful_at m k cs zero l r = l
lawful_at m k [] (suc n) l r = l
lawful_at m k (c ∷ cs) (suc n) l r = lawful_at (left m c) (k + 1) cs n
    (lawful_left m (script_of c).1 (replies_in (unrefused c.0.told)) (outcome_of c) l r.0.result) r.1

-- ---- as scripts among others

behind : (x : Scripted) (scripts : List Scripted) (k : ℕ) (cs : List Closed) → AreScriptsOf scripts k cs
    → AreScriptsOf (x ∷ scripts) (k + 1) cs
behind x scripts k [] s = tt
behind x scripts k (c ∷ cs) s = (rw (add-one k) s.0, behind x scripts (k + 1) cs s.1)

pub are_scripts : (cs : List Closed) → AreScriptsOf (scripts_of cs) 0 cs
are_scripts [] = tt
are_scripts (c ∷ cs) = (refl, behind (script_of c) (scripts_of cs) 0 cs (are_scripts cs))

no_end_of : (n k : ℕ) (cs : List Closed) → n < k → NoEndOf n (ends_from k cs)
no_end_of n k [] h = tt
no_end_of n k (c ∷ cs) h = (λ same. omega (arith, same), no_end_of n (k + 1) cs (omega arith))

module _ (scripts : List Scripted) where
  left_is : (m : CityMap) (k : ℕ) (c : Closed) → slice_get scripts k ≡ Some (script_of c)
      → left_by scripts m (end_at k c) ≡ left m c
  left_is m k c h = rw h refl

  pub history_of : (m : CityMap) (k : ℕ) (cs : List Closed) → AreScriptsOf scripts k cs → AreRun m k cs
      → IsSerialHistoryFrom scripts m k (ends_from k cs)
  history_of m k [] s r = tt
  history_of m k (c ∷ cs) s r = (
    record { script = script_of c; is_there = s.0; named = refl; since = r.0.since; result = r.0.result },
    no_end_of k (k + 1) cs (omega arith),
    subst (λ x. IsSerialHistoryFrom scripts x (k + 1) (ends_from (k + 1) cs)) (sym (left_is m k c s.0))
        (history_of (left m c) (k + 1) cs s.1 r.1),
  )

  pub model_of : (m : CityMap) (k : ℕ) (cs : List Closed) → AreScriptsOf scripts k cs
      → model_after scripts m (ends_from k cs) ≡ left_by_all m cs
  model_of m k [] s = refl
  model_of m k (c ∷ cs) s =
      ap (λ x. model_after scripts x (ends_from (k + 1) cs)) (left_is m k c s.0)
      ∙ model_of (left m c) (k + 1) cs s.1

  pub model_of_first : (m : CityMap) (k : ℕ) (cs : List Closed) (n : ℕ) → AreScriptsOf scripts k cs
      → model_after scripts m (take n (ends_from k cs)) ≡ left_by_all m (take n cs)
  model_of_first m k cs zero s = refl
  model_of_first m k [] (suc n) s = refl
  model_of_first m k (c ∷ cs) (suc n) s =
      ap (λ x. model_after scripts x (take n (ends_from (k + 1) cs))) (left_is m k c s.0)
      ∙ model_of_first (left m c) (k + 1) cs n s.1
