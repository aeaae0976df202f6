-- Values read from tokens, an item or a member at a time, and opening brackets.
use Rattle.city_tokens.proofs.Prelude.{◌≡◌, ℕ, ◌+◌, ◌-◌, ◌<◌, ◌≤◌, List, [], ◌∷◌, ◌++◌, length, ℤ, Bool, true, Option}
use Rattle.city_tokens.proofs.Prelude.{Some, None, refl, ap, ◌∙◌, arith, zero, suc, Token, begin_array, parse_map}
use Rattle.city_tokens.proofs.Prelude.{after_end_array, read_key, items, members, value, Data, number, string, array}
use Rattle.city_tokens.proofs.Prelude.{object, Items, no_items, item, Members, no_members, put, of_json, of_items}
use Rattle.city_tokens.proofs.Prelude.{of_members, converted, of_integer, items_of, is_integral, items_integral}
use Rattle.city_tokens.proofs.Prelude.{members_integral, IsValue, point_of, opened, IsReadAs}
use Rattle.json.proofs.Grammar.{left, value_is, value-begin_array, value-begin_object, skip_value-shorter}
use Rattle.json.proofs.Grammar.{read_key-shorter}
use Rattle.serde_json.specs.Data.{null, boolean}
use Rattle.serde_json.specs.Read.{number_of}
use Rattle.serde_json.specs.Find.{as_i64}
use Rattle.city_tokens.proofs.Conversions.{converted_some, converted-array, converted-object, item_read, items_over}
use Rattle.city_tokens.proofs.Conversions.{member_read, members_over}
use Rattle.city_tokens.proofs.tree.IntegralParts.{put-integral}
use Rattle.city_tokens.specs.internal.Taken.{IsRestOfArray, IsRestOfObject}
use Rattle.city_model.specs.Nesting.{Nested}
use Rattle.city_tokens.specs.internal.Positions.{IsNested}

-- one value
pub value_shorter : (depth : ℕ) (old new : List Token) (d : Data) → IsValue depth old d new → length new < length old
value_shorter depth old new d h = let j = converted_some of_json (value depth old) d new h.read in
    skip_value-shorter depth old new (ap left j.1)

pub array_value : (depth : ℕ) (ts new : List Token) (ds : Items) → 0 < depth → IsRestOfArray (depth - 1) ts ds new
    → IsValue depth (Token.begin_array ∷ ts) (array ds) new
array_value depth ts new ds some h =
    let all = h.read (length ts) (omega arith) in
    record { read = rw (value-begin_array depth ts some, converted-array, all) refl; whole = h.whole }

-- the items nested so deep
pub items_value : (depth : ℕ) (ts new : List Token) (ds : Items) → IsRestOfArray depth ts ds new
    → IsValue (depth + 1) (Token.begin_array ∷ ts) (array ds) new
items_value depth ts new ds h =
    let one : depth ≡ depth + 1 - 1 = omega arith in
    array_value (depth + 1) ts new ds (omega arith) (rw one at h)

pub object_value : (depth : ℕ) (ts new : List Token) (ms : Members) → 0 < depth → IsRestOfObject (depth - 1) ts ms new
    → IsValue depth (Token.begin_object ∷ ts) (object ms) new
object_value depth ts new ms some h =
    record { read = rw (value-begin_object depth ts some, converted-object, h.read) refl; whole = h.whole }

-- the same by other names
pub seen_value : {depth : ℕ} {old ts new : List Token} {d e : Data} → old ≡ ts → e ≡ d → IsValue depth ts d new
    → IsValue depth old e new
seen_value seen is h = rw (seen, is) h

pub seen_token : {depth : ℕ} {old ts new : List Token} {t u : Token} {d e : Data} → old ≡ t ∷ ts → t ≡ u → e ≡ d
    → IsValue depth (u ∷ ts) d new → IsValue depth old e new
seen_token seen same is h = rw (seen, same, is) h

pub null_value : (depth : ℕ) (new : List Token) → IsValue depth (Token.null ∷ new) null new
null_value depth new = search value_is

pub boolean_value : (depth : ℕ) (b : Bool) (new : List Token) → IsValue depth (Token.boolean b ∷ new) (boolean b) new
boolean_value depth b new = search value_is

pub string_value : (depth : ℕ) (s : List ℕ) (new : List Token) → IsValue depth (Token.string s ∷ new) (string s) new
string_value depth s new = search value_is

pub whole_value : (depth : ℕ) (s : List ℕ) (n : ℤ) (new : List Token) → number_of s ≡ Some (of_integer n)
    → as_i64 (of_integer n) ≡ Some n → IsValue depth (Token.number s ∷ new) (number (of_integer n)) new
whole_value depth s n new is fits = record { read = rw (value_is, is) refl; whole = rw fits refl }

-- items
abbrev pub front : List Data → Items → Items
front [] rest = rest
front (d ∷ ds) rest = item d (front ds rest)

front-begins : (r : Option (Items × List Token)) → r ≡ parse_map (front []) r
front-begins r = grind arith

front-push : (ds : List Data) (d : Data) (rest : Items) → front ds (item d rest) ≡ front (ds ++ d ∷ []) rest
front-push [] d rest = refl
front-push (e ∷ ds) d rest = grind (arith, front-push ds d rest)

front-grows : (ds : List Data) (d : Data) (r : Option (Items × List Token))
    → parse_map (front ds) (parse_map (item d) r) ≡ parse_map (front (ds ++ d ∷ [])) r
front-grows ds d r = grind (arith, front-push)

front-ends : (ds : List Data) → front ds no_items ≡ items_of ds
front-ends [] = refl
front-ends (d ∷ ds) = grind (arith, front-ends ds)

whole_push : (ds : List Data) (d : Data) → items_integral (items_of ds) ≡ true → is_integral d ≡ true
    → items_integral (items_of (ds ++ d ∷ [])) ≡ true
whole_push [] d all one = rw one refl
whole_push (e ∷ ds) d all one = grind (arith, whole_push ds d)

-- these items are read, and `now` is left
pub record AreRead (depth : ℕ) (start now : List Token) (ds : List Data) : Type 0 where
  pub read : (turns : ℕ) → length start ≤ turns
      → (n : ℕ) × (length now ≤ n)
      × (converted of_items (items (value depth) turns start) ≡ parse_map (front ds)
      (converted of_items (items (value depth) n now)))
  pub whole : items_integral (items_of ds) ≡ true

pub items_begin : (depth : ℕ) (start : List Token) → AreRead depth start start []
items_begin depth start = record { read = λ turns enough. (turns, enough, front-begins _); whole = refl }

-- a value begins with no closing bracket
pub value_going : (depth : ℕ) (ts new : List Token) (d : Data) → IsValue depth ts d new → after_end_array ts ≡ None
value_going depth ts new d h = grind (arith, value_is depth ts)

pub items_next : {depth : ℕ} {start now next : List Token} {ds : List Data} {d : Data} → AreRead depth start now ds
    → IsValue depth now d next → AreRead depth start next (ds ++ d ∷ [])
items_next {depth} {start} {now} {next} {ds} {d} h v = record {
  read = λ turns enough.
      let was = h.read turns enough in
      let less : length next < was.0 = omega (arith, value_shorter depth now next d v, was.1) in
      let one = item_read (value depth) was.0 now next d (omega arith) (value_going depth now next d v) v.read in
      (was.0 - 1, omega arith, rw (was.2, one) (front-grows ds d _));
  whole = whole_push ds d h.whole v.whole;
}

pub items_end : {depth : ℕ} {start now next : List Token} {ds : List Data} → AreRead depth start now ds
    → after_end_array now ≡ Some next → IsRestOfArray depth start (items_of ds) next
items_end {depth} {start} {now} {next} {ds} h end = record {
  read = λ turns enough.
      let was = h.read turns enough in
      rw (was.2, items_over (value depth) was.0 now next was.1 end, front-ends ds) refl;
  whole = h.whole;
}

-- an item and the items after it are an array
pub after_value : {depth : ℕ} {before now new : List Token} {d : Data} (ds : List Data) → IsValue depth before d now
    → IsRestOfArray depth now (items_of ds) new
    → IsValue (depth + 1) (Token.begin_array ∷ before) (array (items_of (d ∷ ds))) new
after_value {depth} {before} {now} {new} {d} ds v rest =
    let less = value_shorter depth before now d v in
    let going = value_going depth before now d v in
    let all : IsRestOfArray depth before (items_of (d ∷ ds)) new = record {
      read = λ turns enough.
          item_read (value depth) turns before now d (omega (arith, less, enough)) going v.read
          ∙ ap (parse_map (item d)) (rest.read (turns - 1) (omega (arith, less, enough)));
      whole = rw (v.whole, rest.whole) refl;
    } in
    items_value depth before new (items_of (d ∷ ds)) all

-- three items, and the closing bracket
pub three_value : (depth : ℕ) {a b c e new : List Token} {x y z : Data} → 0 < depth → IsValue (depth - 1) a x b
    → IsValue (depth - 1) b y c → IsValue (depth - 1) c z e → after_end_array e ≡ Some new
    → IsValue depth (Token.begin_array ∷ a) (array (items_of (x ∷ y ∷ z ∷ []))) new
three_value depth {a} some one two three end =
    let all = items_next (items_next (items_next (items_begin (depth - 1) a) one) two) three in
    array_value depth a _ _ some (items_end all end)

-- members
pub record AreFound (depth : ℕ) (start now : List Token) (found : Members) : Type 0 where
  pub n : ℕ
  pub enough : length now ≤ n
  pub read : converted (λ ms. of_members ms no_members) (members (value depth) (length start) start)
      ≡ converted (λ ms. of_members ms found) (members (value depth) n now)
  pub whole : members_integral found ≡ true

pub members_begin : (depth : ℕ) (start : List Token) → AreFound depth start start no_members
members_begin depth start = record { n = length start; enough = omega arith; read = refl; whole = refl }

-- a member takes tokens
pub member_shorter : {depth : ℕ} (now : List Token) {after next : List Token} {k : List ℕ} {d : Data}
    → read_key now ≡ Some (Some k, after) → IsValue depth after d next → length next < length now
member_shorter {depth} now {after} {next} {k} {d} named v =
    omega (arith, value_shorter depth after next d v, read_key-shorter now (Some k) after named)

pub members_next : {depth : ℕ} {start now after next : List Token} {found : Members} {k : List ℕ} {d : Data}
    → AreFound depth start now found → read_key now ≡ Some (Some k, after) → IsValue depth after d next
    → AreFound depth start next (put k d found)
members_next {depth} {start} {now} {after} {next} {found} {k} {d} h named v =
    let less : length next < h.n = omega (arith, member_shorter now named v, h.enough) in
    let one = member_read (value depth) found h.n k now after next d (omega arith) named v.read in record {
      n = h.n - 1;
      enough = omega arith;
      read = h.read ∙ one;
      whole = put-integral k d found v.whole h.whole;
    }

pub members_end : {depth : ℕ} {start now next : List Token} {found : Members} → AreFound depth start now found
    → read_key now ≡ Some (None, next) → IsRestOfObject depth start found next
members_end {depth} {start} {now} {next} {found} h end =
    record { read = h.read ∙ members_over (value depth) found h.n now next h.enough end; whole = h.whole }

pub point_read : (x y z : ℤ) → as_i64 (of_integer x) ≡ Some x → as_i64 (of_integer y) ≡ Some y
    → as_i64 (of_integer z) ≡ Some z
    → point_of (array (items_of (number (of_integer x) ∷ number (of_integer y) ∷ number (of_integer z) ∷ [])))
    ≡ Some (record { x = x; y = y; z = z })
point_read x y z one two three = grind arith

opened_within : (n : ℕ) (ts : List Token) → opened n (begin_array ∷ ts) ≡ begin_array ∷ opened n ts
opened_within zero ts = refl
opened_within (suc n) ts = ap (λ xs. begin_array ∷ xs) (opened_within n ts)

-- one more opens
pub opened_more : (n : ℕ) (ts : List Token) → opened n (begin_array ∷ ts) ≡ opened (n + 1) ts
opened_more n ts =
    let next : suc n ≡ n + 1 = omega arith in
    opened_within n ts ∙ ap (λ k. opened k ts) next

-- one more list around a value within n brackets
pub within : (n : ℕ) (x : Nested n) (all : Nested (suc n)) (inner : ℕ) (before : List Token) {old new : List Token}
    → ((b : List Token) → IsReadAs (IsNested n) x (inner + n) b old
    → IsReadAs (IsNested (suc n)) all (inner + n + 1) (begin_array ∷ b) new)
    → IsReadAs (IsNested n) x (inner + n) (opened n before) old
    → IsReadAs (IsNested (suc n)) all (inner + suc n) (opened (suc n) before) new
within n x all inner before more h = let one : inner + n + 1 ≡ inner + suc n = omega arith in rw one at (more _ h)

-- a value behind so many brackets, by other names
pub read_within : (n : ℕ) (x : Nested n) {brackets depth : ℕ} (before : List Token) {old new : List Token}
    → old ≡ opened brackets before → brackets ≡ n → brackets ≤ depth
    → IsReadAs (IsNested n) x (depth - brackets + n) (opened n before) new
    → IsReadAs (IsNested n) x depth old new
read_within n x {brackets} {depth} before is same few h =
    let all : depth - brackets + n ≡ depth = omega arith in
    rw (is, same) (rw all at h)
