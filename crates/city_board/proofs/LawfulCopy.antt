-- A copy of a lawful city is lawful.
use Rattle.city_board.proofs.Prelude.{◌≡◌, sym, subst, CityValue, object_at, IsLawful}

pub lawful_copy : (city copy : CityValue) → copy ≡ city → IsLawful (object_at city.1) → IsLawful (object_at copy.1)
lawful_copy city copy same lawful = subst (λ (x : CityValue). IsLawful (object_at x.1)) (sym same) lawful
