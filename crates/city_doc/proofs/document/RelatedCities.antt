-- Cities read from their tokens. Only their relations are still unjudged.
use Rattle.city_doc.proofs.Prelude.{◌≡◌, true, true≢false, subst, sym, List, ℕ, Option, None, Some, Data}
use Rattle.city_doc.proofs.Prelude.{IsRelated, IsAdmitted, is_integral, city_of, false, CityValue, object_at}
use Rattle.std.specs.Prelude.{IfSome, IfNone, is_some}
use Rattle.city_model.specs.internal.Faultless.{IsFaultless}
use Rattle.city_tokens.specs.tree.Texts.{HasTree}

pub if_none : {A : Type 0} {P : Type 0} (o : Option A) → is_some o ≡ false → IfNone o P → P
if_none None none h = h
if_none (Some x) none h = absurd (true≢false none)

-- a text stands for a city without a faulty body, and is admitted if the relations agree
pub admitted : (text : List ℕ) (city : CityValue) → (d : Data) × HasTree text d × (is_integral d ≡ true)
    × (city_of d ≡ Some city) × IsFaultless (object_at city.1) → (o : Option CityValue)
    → IfSome o (λ c. (c ≡ city) × IsRelated (object_at c.1)) → IfSome o (IsAdmitted text)
admitted text city read None related = tt
admitted text city read (Some c) related =
    let agree = subst (λ c. IsRelated (object_at c.1)) related.0 related.1 in
    subst (IsAdmitted text) (sym related.0) (
      read.0,
      read.1,
      read.2,
      read.3,
      ((λ id o is. ((agree id o is).0, read.4 id o is)), λ id o is. (agree id o is).1),
    )
