-- The lists of kept values: read, pushed, and put in their places.
use Rattle.city_members.proofs.Prelude.{◌≡◌, ℕ, ◌<◌, ◌≤◌, ◌+◌, ◌==◌, List, [], ◌∷◌, ◌++◌, length, get_or, drop, map}
use Rattle.city_members.proofs.Prelude.{take}
use Rattle.city_members.proofs.Prelude.{refl, sym, ap, ◌∙◌, arith, member, no_members, None, option_map, string_bytes}
use Rattle.city_members.proofs.Prelude.{Some}
use Rattle.city_members.proofs.Prelude.{Less, Equal, Ordering, exact_bytes, nat_cmp, slice_cmp, subst}
use Rattle.std.proofs.Common.{Greater, String, Global, length-append}
use Rattle.std.specs.BTreeMap.{insert_entry}
use Rattle.std.specs.List.{AllByRecursion}
use Rattle.std.specs.List.Sorted.{IsStrictlySortedBy}
use Rattle.std.specs.Map.{keys_of}
use Rattle.std.specs.Ordering.{match_ordering}
use Rattle.std.specs.String.{string_cmp}
use Rattle.std.proofs.lemmas.Option.{slice_get_read}
use Rattle.std.proofs.lemmas.List.{drop_at, drop_more, length-take-le, take_at, take_more, take-append-drop}
use Rattle.serde_json.specs.Data.{Data, Members, put}
use Rattle.serde_json.specs.View.{items_of}
use Rattle.city_members.specs.declared.kept.kept_value.KeptValue.{KeptValue}
use Rattle.city_members.specs.internal.KeptValues.{value_data, members_data, data_size, items_size, members_size}
use Rattle.city_members.specs.internal.MemberLists.{joined, AllBelow}
use Rattle.city_members.specs.internal.MemberPlaces.{IsAt, IsPlaceFor}
use Rattle.city_members.specs.Kept.{has_no_member}
use Rattle.city_members.specs.Members.{without, AllAbove, AreOrdered}
use Rattle.city_members.proofs.Ids.{same_id_itself}
use Rattle.serde_json.specs.Find.{get_member}
use Rattle.city_members.proofs.AttributeLaws.{put-without}
use Rattle.city_members.proofs.MemberLists.{get_member-above, get_member-joined_below}
use Rattle.city_members.proofs.MemberLists.{above_below, ordered_right, put-above, put-joined_below}
use Rattle.city_members.proofs.MemberLists.{without-above, without-joined_below}
use Rattle.city_members.proofs.Puts.{back}

abbrev pub Pair : Type 0
Pair = String Global × KeptValue

-- ---- members

pub members_data-append : (xs ys : List Pair) → members_data (xs ++ ys) ≡ joined (members_data xs) (members_data ys)
members_data-append [] ys = refl
members_data-append (x ∷ xs) ys = grind (arith, members_data-append xs ys)

-- one behind others
pub pair_last : (xs : List Pair) (x : Pair) (ms : Members)
    → joined (members_data (xs ++ x ∷ [])) ms ≡ joined (members_data xs) (member (string_bytes x.0) (value_data x.1) ms)
pair_last [] x ms = refl
pair_last (y ∷ xs) x ms = grind (arith, pair_last xs x ms)

pub next_pair : (xs : List Pair) (i : ℕ) (x : Pair) → i < length xs → x ≡ get_or xs i x
    → members_data (drop i xs) ≡ member (string_bytes x.0) (value_data x.1) (members_data (drop (i + 1) xs))
next_pair xs i x within is = ap members_data (drop_more xs i x within ∙ ap (λ y. y ∷ drop (i + 1) xs) (sym is))

-- a copy of the next one is pushed behind the others
pub next_pair_pushed : (ys xs : List Pair) (i : ℕ) (x copy : Pair) → i < length xs → x ≡ get_or xs i x
    → string_bytes copy.0 ≡ string_bytes x.0 → value_data copy.1 ≡ value_data x.1
    → joined (members_data (ys ++ copy ∷ [])) (members_data (drop (i + 1) xs))
    ≡ joined (members_data ys) (members_data (drop i xs))
next_pair_pushed ys xs i x copy within is name value =
    pair_last ys copy _ ∙ ap (joined (members_data ys)) (rw (name, value) (sym (next_pair xs i x within is)))

-- ---- items

-- the next one, in another form, is pushed behind the others
pub next_pushed : {A B : Type 0} (f : A → Data) (g : B → Data) (xs : List A) (x : A) (y : B) (left after : List B)
    → left ≡ y ∷ after → f x ≡ g y → map f (xs ++ x ∷ []) ++ map g after ≡ map f xs ++ map g left
next_pushed f g [] x y left after is same = rw (is, same) refl
next_pushed f g (z ∷ xs) x y left after is same = ap (λ ds. f z ∷ ds) (next_pushed f g xs x y left after is same)

-- ---- one of them counts no more values than all

pub member_within : (ms : Members) (k : List ℕ) (d : Data) (ns : Members)
    → data_size d ≤ members_size (joined ms (member k d ns))
member_within no_members k d ns = omega arith
member_within (member l e ms) k d ns = omega (arith, member_within ms k d ns)

pub item_within : (ds : List Data) (d : Data) (more : List Data) → data_size d ≤ items_size (items_of (ds ++ d ∷ more))
item_within [] d more = omega arith
item_within (e ∷ ds) d more = omega (arith, item_within ds d more)

-- ---- where a name is, or where its place is

split_pairs : (xs : List Pair) (i : ℕ) → joined (members_data (take i xs)) (members_data (drop i xs)) ≡ members_data xs
split_pairs xs i = sym (members_data-append (take i xs) (drop i xs)) ∙ ap members_data (take-append-drop i xs)

below_last : (xs : List Pair) (x : Pair) (name : List ℕ) → AllBelow (members_data xs) name
    → slice_cmp nat_cmp (string_bytes x.0) name ≡ Less → AllBelow (members_data (xs ++ x ∷ [])) name
below_last [] x name h below = (below, tt)
below_last (y ∷ xs) x name h below = (h.0, below_last xs x name h.1 below)

without_same : (name k : List ℕ) (d : Data) (ms : Members) → k ≡ name → without name (member k d ms) ≡ without name ms
without_same name k d ms same = rw (same, same_id_itself name) refl

first_value : (name k : List ℕ) (d : Data) (ms : Members) → slice_cmp nat_cmp name k ≡ Equal
    → get_member name (member k d ms) ≡ Some d
first_value name k d ms equal = rw equal refl

pub below_next : (xs : List Pair) (i : ℕ) (x : Pair) (name : List ℕ) → i < length xs → x ≡ get_or xs i x
    → slice_cmp nat_cmp name (string_bytes x.0) ≡ Greater → AllBelow (members_data (take i xs)) name
    → AllBelow (members_data (take (i + 1) xs)) name
below_next xs i x name within is greater below =
    subst (λ ys. AllBelow (members_data ys) name)
    (ap (λ y. take i xs ++ y ∷ []) is ∙ sym (take_more xs i x within))
    (below_last (take i xs) x name below (back name (string_bytes x.0) greater))

module _ (xs : List Pair) (name : List ℕ) (i : ℕ) (below : AllBelow (members_data (take i xs)) name) where
  without_behind : without name (members_data xs)
      ≡ joined (members_data (take i xs)) (without name (members_data (drop i xs)))
  without_behind =
      ap (without name) (sym (split_pairs xs i)) ∙ without-joined_below name (members_data (take i xs)) _ below

  module _ (x : Pair) (within : i < length xs) (is : x ≡ get_or xs i x) (ordered : AreOrdered (members_data xs)) where
    above_it : AllAbove (string_bytes x.0) (members_data (drop (i + 1) xs))
    above_it =
        (subst AreOrdered (next_pair xs i x within is)
        (ordered_right (members_data (take i xs)) _ (subst AreOrdered (sym (split_pairs xs i)) ordered))).0

    -- the next one comes after the name
    pub free_before : slice_cmp nat_cmp name (string_bytes x.0) ≡ Less → IsPlaceFor xs name i
    free_before less = record {
      within = omega arith;
      below = below;
      above = subst (AllAbove name) (sym (next_pair xs i x within is))
          (less, above_below name (string_bytes x.0) _ less above_it);
    }

    -- the next one has the name
    pub found_at : slice_cmp nat_cmp name (string_bytes x.0) ≡ Equal → IsAt xs name i
    found_at equal =
        let same : string_bytes x.0 ≡ name = sym (exact_bytes name (string_bytes x.0) equal) in
        let above : AllAbove name (members_data (drop (i + 1) xs)) =
        subst (λ k. AllAbove k (members_data (drop (i + 1) xs))) same above_it in
        record {
          within = within;
          below = below;
          above = above;
          value =
              ap (get_member name) (sym (split_pairs xs i)) ∙ get_member-joined_below name (members_data (take i xs)) _ below
              ∙ ap (get_member name) (next_pair xs i x within is) ∙ first_value name (string_bytes x.0) _ _ equal
              ∙ sym (ap (option_map (λ m. value_data m.1)) (slice_get_read xs (length xs) i x refl within is));
          without_it =
              without_behind
              ∙ ap (joined (members_data (take i xs)))
              (ap (without name) (next_pair xs i x within is)
              ∙ without_same name (string_bytes x.0) (value_data x.1) _ same ∙ without-above name _ above);
        }

module _ (xs : List Pair) (name : List ℕ) (i : ℕ) where
  -- put in its place
  pub put_free : (x : Pair) → string_bytes x.0 ≡ name → IsPlaceFor xs name i
      → members_data (take i xs ++ x ∷ drop i xs) ≡ put name (value_data x.1) (members_data xs)
  put_free x named h =
      members_data-append (take i xs) (x ∷ drop i xs)
      ∙ ap (joined (members_data (take i xs)))
      (ap (λ k. member k (value_data x.1) (members_data (drop i xs))) named
      ∙ sym (put-above name (value_data x.1) _ h.above))
      ∙ sym (put-joined_below name (value_data x.1) (members_data (take i xs)) _ h.below)
      ∙ ap (put name (value_data x.1)) (split_pairs xs i)

  pub value_free : IsPlaceFor xs name i → get_member name (members_data xs) ≡ None
  value_free h =
      ap (get_member name) (sym (split_pairs xs i)) ∙ get_member-joined_below name (members_data (take i xs)) _ h.below
      ∙ get_member-above name _ h.above

  pub without_free : IsPlaceFor xs name i → members_data xs ≡ without name (members_data xs)
  without_free h =
      sym (split_pairs xs i) ∙ ap (joined (members_data (take i xs))) (sym (without-above name _ h.above))
      ∙ sym (without-joined_below name (members_data (take i xs)) _ h.below)
      ∙ ap (without name) (split_pairs xs i)

  module _ (h : IsAt xs name i) where
    abbrev left : List Pair
    left = take i xs ++ drop (i + 1) xs

    -- taken out, its place is for it
    pub place_left : IsPlaceFor left name i
    place_left =
        let first : length (take i xs) ≡ i = length-take-le i xs (omega (arith, h.within)) in
        record {
          within = omega (arith, length-append (take i xs) (drop (i + 1) xs), first);
          below =
              subst (λ ys. AllBelow (members_data ys) name)
              (sym (take_at (take i xs) (drop (i + 1) xs) i first)) h.below;
          above =
              subst (λ ys. AllAbove name (members_data ys))
              (sym (drop_at (take i xs) (drop (i + 1) xs) i first)) h.above;
        }

    pub data_left : members_data left ≡ without name (members_data xs)
    data_left = members_data-append (take i xs) (drop (i + 1) xs) ∙ sym h.without_it

-- replaced
pub put_at : (xs : List Pair) (name : List ℕ) (i : ℕ) → IsAt xs name i → (x : Pair) → string_bytes x.0 ≡ name
    → AreOrdered (members_data xs)
    → members_data (take i xs ++ x ∷ drop (i + 1) xs) ≡ put name (value_data x.1) (members_data xs)
put_at xs name i h x named ordered =
    let left : List Pair = take i xs ++ drop (i + 1) xs in
    let first : length (take i xs) ≡ i = length-take-le i xs (omega (arith, h.within)) in
    ap (λ ys. members_data (ys ++ x ∷ drop (i + 1) xs)) (sym (take_at (take i xs) (drop (i + 1) xs) i first))
    ∙ ap (λ ys. members_data (take i left ++ x ∷ ys)) (sym (drop_at (take i xs) (drop (i + 1) xs) i first))
    ∙ put_free left name i x named (place_left xs name i h)
    ∙ ap (put name (value_data x.1)) (data_left xs name i h)
    ∙ put-without name (value_data x.1) (members_data xs) ordered

-- ---- no members

pub has_no_member-data : (xs : List Pair) → has_no_member (members_data xs) ≡ (length xs == 0)
has_no_member-data [] = refl
has_no_member-data (x ∷ xs) = grind arith

-- ---- in a map

all_above_data : (e : Pair) (es : List Pair) → AllByRecursion (λ y. string_cmp e.0 y ≡ Less) (keys_of es)
    → AllAbove (string_bytes e.0) (members_data es)
all_above_data e [] h = tt
all_above_data e (x ∷ es) h = (h.0, all_above_data e es h.1)

pub ordered_data : (es : List Pair) → IsStrictlySortedBy string_cmp (keys_of es) → AreOrdered (members_data es)
unfolding IsStrictlySortedBy
ordered_data [] h = tt
ordered_data (e ∷ es) h = (all_above_data e es h.0, ordered_data es h.1)

data_at : (o : Ordering) (a b c : List Pair)
    → members_data (match_ordering o a b c) ≡ match_ordering o (members_data a) (members_data b) (members_data c)
data_at Less a b c = refl
data_at Equal a b c = refl
data_at Greater a b c = refl

pub data_inserted : (es : List Pair) (k : String Global) (v : KeptValue)
    → members_data (insert_entry string_cmp es k v) ≡ put (string_bytes k) (value_data v) (members_data es)
data_inserted [] k v = refl
data_inserted (e ∷ es) k v = data_at (string_cmp k e.0) _ _ _ ∙ rw (data_inserted es k v) refl
