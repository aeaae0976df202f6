-- Items that are passed unchanged, one after another and within one another.
use Rattle.city_decimals.proofs.Prelude.{◌≡◌, ℕ, ◌+◌, ◌-◌, ◌<◌, ◌≤◌, suc, List, ◌∷◌, ◌++◌, length, drop, Bool, true}
use Rattle.city_decimals.proofs.Prelude.{false, cond, refl, sym, ap, ap₂, ◌∙◌, arith, append_assoc, length-drop, Json}
use Rattle.city_decimals.proofs.Prelude.{number, array, Items, no_items, item, IsNumber, ItemsHaveNumbers, depth}
use Rattle.city_decimals.proofs.Prelude.{encoded_items, decoded_items, tagged, is_whole, Moves, State, value_text}
use Rattle.city_decimals.proofs.Prelude.{items_text, comma_if, AreItemsCopied, changed, items_changed, Direction}
use Rattle.city_decimals.proofs.Prelude.{append-nil, get_or, take, subst}
use Rattle.std.proofs.Math.Seq.{take-append_seam}
use Rattle.std.proofs.lemmas.List.{take-append-drop, drop-drop, drop_more}
use Rattle.std.specs.Prelude.{◌||◌, nat_lt, zero}
use Rattle.std.proofs.Common.{length-append, lt-ltb}
use Rattle.json.specs.Tree.{items_depth}
use Rattle.city_decimals.specs.internal.Passed.{IsSame, AreSame, front_text, later_after, GoesOn, IsPassed, ArePassed}
use Rattle.city_decimals.specs.internal.PlainNumbers.{IsKept}
use Rattle.city_decimals.proofs.Copied.{items_first, value_some}
use Rattle.city_decimals.proofs.Directions.{item_changed}

-- ---- values

pub same_number : (s : List ℕ) → IsNumber s → is_whole s ≡ true → IsSame (number s)
same_number s h whole = (h, ap (λ t. cond t (number s) (tagged s)) whole, refl)

same_items : (js : Items) → AreSame js → ItemsHaveNumbers js × (encoded_items js ≡ js) × (decoded_items js ≡ js)
same_items no_items h = (tt, refl, refl)
same_items (item j js) h =
    let rest = same_items js h.1 in
    ((h.0.0, rest.0), ap₂ item h.0.1 rest.1, ap₂ item h.0.2 rest.2)

same_array : (js : Items) → AreSame js → IsSame (array js)
same_array js h = let all = same_items js h in (all.0, ap array all.1, ap array all.2)

same_changed : (way : Direction) (j : Json) → IsSame j → changed way j ≡ j
same_changed way j h = grind arith

-- ---- the rest of the text

-- an item, and what follows it
pub item_goes : (level : ℕ) (later : Bool) (limit : ℕ) (j : Json) (text m end : List ℕ)
    → text ≡ comma_if later ++ (value_text j ++ m) → IsSame j → depth j + level ≤ limit → GoesOn level true limit m end
    → GoesOn level later limit text end
item_goes zero later limit j text m end is same shallow (js, e, all, low) = (
  item j js,
  is ∙ ap (λ r. comma_if later ++ (value_text j ++ r)) e
      ∙ ap (λ r. comma_if later ++ r) (sym (append_assoc (value_text j) (front_text true js) end))
      ∙ sym (append_assoc (comma_if later) (value_text j ++ front_text true js) end),
  (same, all),
  omega (arith, shallow, low),
)
item_goes (suc level) later limit j text m end is same shallow (after, js, e, all, low, rest) = (
  after,
  item j js,
  is ∙ ap (λ r. comma_if later ++ (value_text j ++ r)) e
      ∙ ap (λ r. comma_if later ++ r) (sym (append_assoc (value_text j) (items_text true js) after))
      ∙ sym (append_assoc (comma_if later) (value_text j ++ items_text true js) after),
  (same, all),
  omega (arith, shallow, low),
  rest,
)

pub array_opens : (level : ℕ) (later : Bool) (limit : ℕ) (rest end : List ℕ) → GoesOn (suc level) false limit rest end
    → GoesOn level later limit (comma_if later ++ 91 ∷ rest) end
array_opens level later limit rest end (m, js, e, all, low, after) =
    item_goes level later limit (array js) (comma_if later ++ 91 ∷ rest) m end
    (ap (λ r. comma_if later ++ 91 ∷ r) e) (same_array js all) (omega (arith, low)) after

pub array_ends : (level limit : ℕ) (rest end : List ℕ) → suc level ≤ limit → GoesOn level true limit rest end
    → GoesOn (suc level) true limit (93 ∷ rest) end
array_ends level limit rest end low after = (rest, no_items, refl, tt, omega (arith, low), after)

pub nothing_goes : (later : Bool) (limit : ℕ) (text : List ℕ) → GoesOn 0 later limit text text
nothing_goes later limit text = (no_items, refl, tt, omega arith)

-- ---- the items passed

later_passed : (later : Bool) (js : Items) (n : ℕ) → AreSame js → length (front_text later js) ≡ n
    → (later || nat_lt 0 n) ≡ later_after later js
later_passed later js n h e = search (arith, no_items, item, lt-ltb, value_some, length-append, value_text)

front_len : (front end text : List ℕ) (n : ℕ) → n ≤ length text → text ≡ front ++ end → end ≡ drop n text
    → length front ≡ n
front_len front end text n h e is = search (arith, length-append, length-drop)

-- the bytes passed are those of the items
pub front_passed : (later : Bool) (limit : ℕ) (text : List ℕ) (n : ℕ) (p : ArePassed later limit text n)
    → (take n text ≡ front_text later p.1.0) × ((later || nat_lt 0 n) ≡ later_after later p.1.0)
front_passed later limit text n p =
    let js = p.1.0 in
    let long = front_len (front_text later js) (drop n text) text n p.0 p.1.1 refl in (
      ap₂ take (sym long) p.1.1 ∙ take-append_seam (front_text later js) (drop n text),
      later_passed later js n p.1.2 long,
    )

-- the items passed, then the others
pub items_passed : (way : Direction) (later : Bool) (limit : ℕ) (js : Items) (a b d : State) → AreSame js
    → items_depth js ≤ limit → Moves a b (front_text later js) (front_text later js)
    → AreItemsCopied (items_changed way) (later_after later js) limit b d
    → AreItemsCopied (items_changed way) later limit a d
items_passed way later limit no_items a b d h low moves rest =
    record {
      js = rest.js;
      moves = (
        moves.0 ∙ rest.moves.0,
        rest.moves.1 ∙ ap (λ w. w ++ items_text later (items_changed way rest.js))
            (moves.1 ∙ append-nil a.1),
      );
      numbers = rest.numbers;
      shallow = rest.shallow;
    }
items_passed way later limit (item j js) a b d h low moves rest =
    let comma = comma_if later in
    let text = comma ++ value_text j in
    let more = front_text true js in
    let m : State = (a.0, a.1 ++ text, more ++ b.2) in
    let same = same_changed way j h.0 in
    items_first (changed way) (items_changed way) (item_changed way) later limit a m d
    (record {
      j = j;
      moves = (
        moves.0 ∙ append_assoc comma (value_text j ++ more) b.2
            ∙ ap (λ r. comma ++ r) (append_assoc (value_text j) more b.2)
            ∙ sym (append_assoc comma (value_text j) (more ++ b.2)),
        ap (λ i. a.1 ++ (comma ++ value_text i)) (sym same),
      );
      numbers = h.0.0;
      shallow = omega (arith, low);
    })
    (items_passed way true limit js m b d h.1 (omega (arith, low)) (
      refl,
      moves.1 ∙ ap (λ r. a.1 ++ r) (sym (append_assoc comma (value_text j) more)) ∙ sym (append_assoc a.1 text more),
    ) (after_some js rest))
  where
    after_some : (js : Items) → AreItemsCopied (items_changed way) true limit b d
        → AreItemsCopied (items_changed way) (later_after true js) limit b d
    after_some no_items r = r
    after_some (item i is) r = r

-- what a copier has passed
abbrev HasPassed : Bool → ℕ → State → State → Bool → Type 0
HasPassed later limit a b result =
    (js : Items) × AreSame js × (items_depth js ≤ limit) × Moves a b (front_text later js) (front_text later js)
    × (result ≡ later_after later js)

pub passed_then : (way : Direction) (later : Bool) (limit : ℕ) (a b end : State) (result : Bool)
    → HasPassed later limit a b result → AreItemsCopied (items_changed way) result limit b end
    → AreItemsCopied (items_changed way) later limit a end
passed_then way later limit a b end result (js, same, low, moves, is) rest =
    items_passed way later limit js a b end same low moves
    (subst (λ l. AreItemsCopied (items_changed way) l limit b end) is rest)

pub passed_shorter : (later : Bool) (limit : ℕ) (a b : State) (result : Bool) → HasPassed later limit a b result
    → length b.2 ≤ length a.2
passed_shorter later limit a b result passed = search (arith, length-append)

-- ---- a text passed

-- one more number, at its place
pub number_passes : (text s : List ℕ) (at n : ℕ) → IsKept s → take n (drop at text) ≡ s → IsPassed text at (at + n)
number_passes text s at n kept is level later limit end low rest =
    item_goes level later limit (number s) (comma_if later ++ drop at text) (drop (at + n) text) end
    (ap (λ r. comma_if later ++ r) (sym (take-append-drop n (drop at text))
    ∙ ap₂ (λ x y. x ++ y) is (drop-drop n at text)))
    (same_number s kept.0 kept.1) (omega (arith, low)) rest

pub drop_comma : (text : List ℕ) (at : ℕ) → at < length text → get_or text at 0 ≡ 44
    → drop at text ≡ 44 ∷ drop (at + 1) text
drop_comma text at h is = drop_more text at 0 h ∙ ap (λ x. x ∷ drop (at + 1) text) is

-- items, a comma, and more items
pub passed_on : (text : List ℕ) (from comma to : ℕ) → comma < length text → get_or text comma 0 ≡ 44
    → IsPassed text from comma → IsPassed text (comma + 1) to → IsPassed text from to
passed_on text from comma to h is first second level later limit end low rest = search (arith, drop_comma)

pub comma_first : (later : Bool) (text : List ℕ) (n : ℕ) → n ≡ length (comma_if later)
    → take (length (comma_if later)) text ≡ comma_if later → comma_if later ++ drop n text ≡ text
comma_first later text n is begins = grind arith

pub array_opens_at : (text : List ℕ) (at level : ℕ) (later : Bool) (limit : ℕ) (end : List ℕ) → at < length text
    → get_or text at 0 ≡ 91 → GoesOn (level + 1) false limit (drop (at + 1) text) end
    → GoesOn level later limit (comma_if later ++ drop at text) end
array_opens_at text at level later limit end h is rest = search (arith, comma_if, drop_more, array_opens)

pub array_ends_at : (text : List ℕ) (at level limit : ℕ) (end : List ℕ) → at < length text → get_or text at 0 ≡ 93
    → 0 < level → level ≤ limit → GoesOn (level - 1) true limit (drop (at + 1) text) end
    → GoesOn level true limit (drop at text) end
array_ends_at text at zero limit end h is some low rest = absurd (omega (arith, some))
array_ends_at text at (suc level) limit end h is some low rest =
    let less : suc level - 1 ≡ level = omega arith in
    subst (λ t. GoesOn (suc level) true limit t end) (sym (drop_more text at 0 h ∙ ap (λ x. x ∷ drop (at + 1) text) is))
    (array_ends level limit (drop (at + 1) text) end low
    (subst (λ k. GoesOn k true limit (drop (at + 1) text) end) less rest))

pub comma_at : (text : List ℕ) (at level limit : ℕ) (end : List ℕ) → at < length text → get_or text at 0 ≡ 44
    → GoesOn level true limit (comma_if true ++ drop (at + 1) text) end → GoesOn level true limit (drop at text) end
comma_at text at level limit end h is rest = search (arith, drop_comma)

pub passed_whole : (text : List ℕ) (at level : ℕ) (later : Bool) (limit : ℕ) → at ≤ length text → level ≡ 0
    → ((end : List ℕ) → GoesOn level true limit (drop at text) end → GoesOn 0 later limit text end)
    → ArePassed later limit text at
passed_whole text at level later limit h none goes = search (arith, nothing_goes)
