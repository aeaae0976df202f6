-- After each of the ends the model is lawful.
use Rattle.city_scheduler.proofs.Prelude.{◌+◌, ℕ, zero, suc, List, [], ◌∷◌, take, Option, End, CityMap, object_at}
use Rattle.city_scheduler.proofs.Prelude.{CityValue, IsLawful, Scripted, model_after, Change, DeskState, IsSerial}
use Rattle.city_model.specs.Runs.{IsSerialHistoryFrom, NoEndOf, left_by}
use Rattle.city_model.proofs.Lawful.{lawful_after}

no_end_take : (script : ℕ) (es : List End) (n : ℕ) → NoEndOf script es → NoEndOf script (take n es)
no_end_take script es zero h = tt
no_end_take script [] n h = tt
no_end_take script (e ∷ es) (suc n) h = (h.0, no_end_take script es n h.1)

fits_take : (scripts : List Scripted) (m : CityMap) (p : ℕ) (es : List End) (n : ℕ) → IsSerialHistoryFrom scripts m p es
    → IsSerialHistoryFrom scripts m p (take n es)
fits_take scripts m p es zero h = tt
fits_take scripts m p [] n h = tt
fits_take scripts m p (e ∷ es) (suc n) h =
    (h.0, no_end_take e.script es n h.1, fits_take scripts (left_by scripts m e) (p + 1) es n h.2)

module _ (d : DeskState) (changes : List Change) (base : Option CityValue) (s : IsSerial d changes base) where
  pub lawful_throughout : (n : ℕ) → IsLawful (model_after d.scripts (object_at d.start.1) (take n d.ends))
  lawful_throughout n =
      lawful_after d.scripts (object_at d.start.1) (take n d.ends) s.lawful
      (fits_take d.scripts (object_at d.start.1) 0 d.ends n s.fits)
