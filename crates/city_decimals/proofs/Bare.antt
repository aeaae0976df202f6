-- Values that are neither shielded nor a shield, and how a text shows it.
use Rattle.city_decimals.proofs.Prelude.{arith, ◌≡◌, ℕ, List, ◌++◌, true, false, get_or, refl, subst, append_assoc}
use Rattle.city_decimals.proofs.Prelude.{Json, null, boolean, number, string, array, object, no_items, item, IsNumber}
use Rattle.city_decimals.proofs.Prelude.{HasNumbers, is_text, value_text, items_text}
use Rattle.json.specs.Word.{after_number}
use Rattle.city_decimals.specs.internal.Forms.{is_bare, BeginsBare}

-- a number begins with none of these bytes
pub number_begins : (s rest : List ℕ) → IsNumber s
    → (get_or (s ++ rest) 0 0 ≡ 123 → ⊥) × (get_or (s ++ rest) 0 0 ≡ 91 → ⊥) × (get_or (s ++ rest) 0 0 ≡ 34 → ⊥)
unfolding after_number
number_begins s rest h = grind arith

text_begins : (j : Json) (rest : List ℕ) → HasNumbers j → get_or (value_text j ++ rest) 0 0 ≡ 34 → is_text j ≡ true
text_begins j rest h e = search (arith, null, boolean, number, number_begins, string, array, object)

bare_here : (j : Json) (rest : List ℕ) → HasNumbers j → BeginsBare (value_text j ++ rest) → is_bare j ≡ true
bare_here null rest h b = grind arith
bare_here (boolean true) rest h b = grind arith
bare_here (boolean false) rest h b = grind arith
bare_here (number s) rest h b = grind (arith, number_begins s rest h)
bare_here (string s) rest h b = grind arith
bare_here (array no_items) rest h b = grind arith
bare_here (array (item j js)) rest h b =
    grind (
      arith,
      text_begins j (items_text true js ++ rest) h.0,
      append_assoc (value_text j) (items_text true js) rest,
    )
bare_here (object ms) rest h b = refl

pub begins_bare : (j : Json) (text rest : List ℕ) → HasNumbers j → text ≡ value_text j ++ rest → BeginsBare text
    → is_bare j ≡ true
begins_bare j text rest h e b = bare_here j rest h (subst BeginsBare e b)
