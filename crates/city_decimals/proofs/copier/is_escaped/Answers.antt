use Rattle.city_decimals.proofs.Prelude.{◌≡◌, ◌∷◌, [], refl, sym, subst}
use Rattle.json.specs.Print.{escape_byte}
use Rattle.city_decimals.proofs.copier.is_escaped.Goals as goal

newline : escape_byte 10 ≡ 92 ∷ 110 ∷ []
unfolding escape_byte
newline = refl

backslash : escape_byte 92 ≡ 92 ∷ 92 ∷ []
unfolding escape_byte
backslash = refl

quote : escape_byte 34 ≡ 92 ∷ 34 ∷ []
unfolding escape_byte
quote = refl

pub returns-in-34 : goal.returns-in-34
returns-in-34 c = (34, subst (λ b. escape_byte 34 ≡ 92 ∷ b ∷ []) (sym c.in-34.is) quote)

pub returns-in-92 : goal.returns-in-92
returns-in-92 c = (92, subst (λ b. escape_byte 92 ≡ 92 ∷ b ∷ []) (sym c.in-92.is) backslash)

pub returns-in-110 : goal.returns-in-110
returns-in-110 c = (10, subst (λ b. escape_byte 10 ≡ 92 ∷ b ∷ []) (sym c.in-110.is) newline)
