-- One more end after ends in serial order.
use Rattle.city_model.proofs.Prelude.{list_any-append, ◌≡◌, ℕ, ◌+◌, false, ◌||◌, List, [], ◌∷◌, ◌++◌, length, refl, sym}
use Rattle.city_model.proofs.Prelude.{subst, arith, ◌==◌, or_parts, End, CityMap, Scripted, left_by, model_after}
use Rattle.city_model.proofs.Prelude.{IsEndOf, IsSerialHistoryFrom}
use Rattle.std.proofs.lemmas.Bool.{eqb-false}
use Rattle.city_model.specs.Runs.{NoEndOf, has_end}

pub model_more : (scripts : List Scripted) (es : List End) (e : End) (m : CityMap)
    → model_after scripts m (es ++ e ∷ []) ≡ left_by scripts (model_after scripts m es) e
model_more scripts [] e m = refl
model_more scripts (f ∷ fs) e m = model_more scripts fs e (left_by scripts m f)

no_end_more : (s : ℕ) (es : List End) (e : End) → NoEndOf s es → (e.script ≡ s → ⊥) → NoEndOf s (es ++ e ∷ [])
no_end_more s [] e none other = (other, tt)
no_end_more s (f ∷ fs) e none other = grind (arith, no_end_more s fs e none.1)

place_moved : (scripts : List Scripted) (m : CityMap) (p q : ℕ) (e : End) → p ≡ q → IsEndOf scripts m p e
    → IsEndOf scripts m q e
place_moved scripts m p q e same is = subst (λ k. IsEndOf scripts m k e) same is

-- an end of a script without one goes last
pub fits_more : (scripts : List Scripted) (es : List End) (e : End) (m : CityMap) (p : ℕ)
    → IsSerialHistoryFrom scripts m p es → has_end e.script es ≡ false
    → IsEndOf scripts (model_after scripts m es) (p + length es) e → IsSerialHistoryFrom scripts m p (es ++ e ∷ [])
fits_more scripts [] e m p fits none is = (place_moved scripts m (p + 0) p e (omega arith) is, tt, tt)
fits_more scripts (f ∷ fs) e m p fits none is =
    let parts = or_parts (f.script == e.script) (has_end e.script fs) none in
    let here = place_moved scripts _ _ (p + 1 + length fs) e (omega arith) is in (
      fits.0,
      no_end_more f.script fs e fits.1 (λ same. eqb-false f.script e.script parts.0 (sym same)),
      fits_more scripts fs e (left_by scripts m f) (p + 1) fits.2 parts.1 here,
    )

pub has_end_more : (n : ℕ) (es : List End) (e : End) → has_end n (es ++ e ∷ []) ≡ (has_end n es || (e.script == n))
has_end_more n es e = grind (arith, list_any-append (λ (f : End). f.script == n) es (e ∷ []))
