-- Where a name is among members some of which stand behind others.
use Rattle.city_members.proofs.Prelude.{◌≡◌, ℕ, ◌<◌, ◌≤◌, ◌+◌, List, [], ◌∷◌, ◌++◌, length, take, drop, true, false, None}
use Rattle.city_members.proofs.Prelude.{refl, sym, ap, ◌∙◌, arith, subst, member, no_members, string_bytes, Some, suc}
use Rattle.city_members.proofs.Prelude.{Less, Equal, Ordering, exact_bytes, is_lt, nat_cmp, slice_cmp, nat_list_cmp_total}
use Rattle.city_members.proofs.Prelude.{option_map}
use Rattle.std.proofs.Common.{Greater, Result, Ok, Err, length-append, ◌-◌}
use Rattle.std.specs.Prelude.{IfOk, IfErr}
use Rattle.std.specs.List.{slice_get}
use Rattle.std.proofs.lemmas.List.{take-append-le, drop-append-le, get_or_append_left}
use Rattle.std.proofs.lemmas.Option.{slice_get-get_or}
use Rattle.std.proofs.Math.Seq.{take-append-add, drop-append-add}
use Rattle.serde_json.specs.Data.{Members}
use Rattle.serde_json.specs.Find.{get_member}
use Rattle.city_members.specs.internal.KeptValues.{value_data, members_data}
use Rattle.city_members.specs.internal.MemberLists.{joined, AllBelow}
use Rattle.city_members.specs.internal.MemberPlaces.{IsAt, IsPlaceFor}
use Rattle.city_members.specs.Members.{without, AllAbove, AreOrdered}
use Rattle.city_members.proofs.KeptLists.{Pair, members_data-append}
use Rattle.city_members.proofs.MemberLists.{above_below, below_joined, below_later, joined-assoc, ordered_left}
use Rattle.city_members.proofs.MemberLists.{ordered_right}
use Rattle.city_members.proofs.MemberLists.{get_member-joined_above, get_member-joined_below}
use Rattle.city_members.proofs.MemberLists.{without-joined_above, without-joined_below}
use Rattle.city_members.proofs.Puts.{back}

-- ---- the first name of the others

above_joined : (k : List ℕ) (ms ns : Members) → AllAbove k ms → AllAbove k ns → AllAbove k (joined ms ns)
above_joined k no_members ns h g = g
above_joined k (member l d ms) ns h g = (h.0, above_joined k ms ns h.1 g)

below_at : (o : Ordering) (l k name : List ℕ) → slice_cmp nat_cmp name k ≡ o → is_lt o ≡ false
    → slice_cmp nat_cmp l k ≡ Less → slice_cmp nat_cmp l name ≡ Less
below_at Less l k name is not_less below = grind arith
below_at Equal l k name is not_less below = subst (λ q. slice_cmp nat_cmp l q ≡ Less) (sym (exact_bytes name k is)) below
below_at Greater l k name is not_less below = nat_list_cmp_total.trans l k name below (back name k is)

below_from : (ms : Members) (k name : List ℕ) → is_lt (slice_cmp nat_cmp name k) ≡ false → AllBelow ms k
    → AllBelow ms name
below_from no_members k name not_less h = tt
below_from (member l d ms) k name not_less h =
    (below_at _ l k name refl not_less h.0, below_from ms k name not_less h.1)

less_at : (o : Ordering) → is_lt o ≡ true → o ≡ Less
less_at o h = grind arith

pub in_left : (xs ys : List Pair) (x : Pair) → slice_get ys 0 ≡ Some x
    → AreOrdered (joined (members_data xs) (members_data ys)) → (name : List ℕ)
    → is_lt (slice_cmp nat_cmp name (string_bytes x.0)) ≡ true → AllAbove name (members_data ys)
in_left xs [] x first ordered name less = tt
in_left xs (y ∷ ys) x first ordered name less =
    let same : y ≡ x = grind arith in
    let below : slice_cmp nat_cmp name (string_bytes y.0) ≡ Less =
    less_at _ (subst (λ z. is_lt (slice_cmp nat_cmp name (string_bytes z.0)) ≡ true) (sym same) less) in
    (below, above_below name (string_bytes y.0) _ below (ordered_right (members_data xs) _ ordered).0)

pub in_right : (xs ys : List Pair) (x : Pair) → slice_get ys 0 ≡ Some x
    → AreOrdered (joined (members_data xs) (members_data ys)) → (name : List ℕ)
    → is_lt (slice_cmp nat_cmp name (string_bytes x.0)) ≡ false → AllBelow (members_data xs) name
in_right xs [] x first ordered name not_less = grind arith
in_right xs (y ∷ ys) x first ordered name not_less =
    let same : y ≡ x = grind arith in
    below_from (members_data xs) (string_bytes y.0) name
    (subst (λ z. is_lt (slice_cmp nat_cmp name (string_bytes z.0)) ≡ false) (sym same) not_less)
    (below_later (members_data xs) (string_bytes y.0) _ _ ordered)

pub first_none : (ys : List Pair) (name : List ℕ) → slice_get ys 0 ≡ None → AllAbove name (members_data ys)
first_none [] name none = tt
first_none (y ∷ ys) name none = grind arith

-- ---- the place in one of them is the place in both

get_left : {X : Type 0} (xs ys : List X) (i : ℕ) → i < length xs → slice_get (xs ++ ys) i ≡ slice_get xs i
get_left (x ∷ xs) ys i within =
    slice_get-get_or ((x ∷ xs) ++ ys) i x (omega (arith, length-append (x ∷ xs) ys))
    ∙ ap Some (get_or_append_left (x ∷ xs) ys x i within) ∙ sym (slice_get-get_or (x ∷ xs) i x within)
get_left [] ys i within = absurd (omega arith)

get_right : {X : Type 0} (xs ys : List X) (i : ℕ) → slice_get (xs ++ ys) (length xs + i) ≡ slice_get ys i
get_right [] ys i = ap (slice_get ys) (omega arith)
get_right {X = X} (x ∷ xs) ys i =
    let next : length {A = X} (x ∷ xs) + i ≡ suc (length xs + i) = omega arith in
    ap (slice_get ((x ∷ xs) ++ ys)) next ∙ get_right xs ys i

module _ (xs ys : List Pair) (name : List ℕ) (i : ℕ) where
  below_left : i ≤ length xs → AllBelow (members_data (take i xs)) name
      → AllBelow (members_data (take i (xs ++ ys))) name
  below_left within h =
      subst (λ zs. AllBelow (members_data zs) name) (sym (take-append-le i xs ys within)) h

  above_left : (j : ℕ) → j ≤ length xs → AllAbove name (members_data ys)
      → AllAbove name (members_data (drop j xs)) → AllAbove name (members_data (drop j (xs ++ ys)))
  above_left j within above h =
      subst (AllAbove name)
      (sym (ap members_data (drop-append-le j xs ys within) ∙ members_data-append (drop j xs) ys))
      (above_joined name (members_data (drop j xs)) (members_data ys) h above)

  below_right : AllBelow (members_data xs) name → AllBelow (members_data (take i ys)) name
      → AllBelow (members_data (take (length xs + i) (xs ++ ys))) name
  below_right below h =
      subst (λ ms. AllBelow ms name)
      (sym (ap members_data (take-append-add xs ys i) ∙ members_data-append xs (take i ys)))
      (below_joined (members_data xs) (members_data (take i ys)) name below h)

  pub free_left : AllAbove name (members_data ys) → IsPlaceFor xs name i → IsPlaceFor (xs ++ ys) name i
  free_left above h = record {
    within = omega (arith, length-append xs ys, h.within);
    below = below_left h.within h.below;
    above = above_left i h.within above h.above;
  }

  pub found_left : AllAbove name (members_data ys) → IsAt xs name i → IsAt (xs ++ ys) name i
  found_left above h =
      let in_xs : i + 1 ≤ length xs = omega (arith, h.within) in
      let behind : members_data (drop (i + 1) (xs ++ ys)) ≡ joined (members_data (drop (i + 1) xs)) (members_data ys) =
      ap members_data (drop-append-le (i + 1) xs ys in_xs) ∙ members_data-append (drop (i + 1) xs) ys in
      record {
        within = omega (arith, length-append xs ys, h.within);
        below = below_left (omega (arith, h.within)) h.below;
        above = above_left (i + 1) in_xs above h.above;
        value =
            ap (get_member name) (members_data-append xs ys)
            ∙ get_member-joined_above name (members_data xs) (members_data ys) above ∙ h.value
            ∙ sym (ap (option_map (λ m. value_data m.1)) (get_left xs ys i h.within));
        without_it =
            ap (without name) (members_data-append xs ys)
            ∙ without-joined_above name (members_data xs) (members_data ys) above
            ∙ ap (λ ms. joined ms (members_data ys)) h.without_it
            ∙ joined-assoc (members_data (take i xs)) (members_data (drop (i + 1) xs)) (members_data ys)
            ∙ ap (joined (members_data (take i xs))) (sym behind)
            ∙ ap (λ zs. joined (members_data zs) (members_data (drop (i + 1) (xs ++ ys))))
            (sym (take-append-le i xs ys (omega (arith, h.within))));
      }

  pub free_right : AllBelow (members_data xs) name → IsPlaceFor ys name i → IsPlaceFor (xs ++ ys) name (length xs + i)
  free_right below h = record {
    within = omega (arith, length-append xs ys, h.within);
    below = below_right below h.below;
    above = subst (λ zs. AllAbove name (members_data zs)) (sym (drop-append-add xs ys i)) h.above;
  }

  pub found_right : AllBelow (members_data xs) name → IsAt ys name i → IsAt (xs ++ ys) name (length xs + i)
  found_right below h =
      let behind : drop (length xs + i + 1) (xs ++ ys) ≡ drop (i + 1) ys =
      ap (λ n. drop n (xs ++ ys)) (omega arith) ∙ drop-append-add xs ys (i + 1) in
      record {
        within = omega (arith, length-append xs ys, h.within);
        below = below_right below h.below;
        above = subst (λ zs. AllAbove name (members_data zs)) (sym behind) h.above;
        value =
            ap (get_member name) (members_data-append xs ys)
            ∙ get_member-joined_below name (members_data xs) (members_data ys) below ∙ h.value
            ∙ sym (ap (option_map (λ m. value_data m.1)) (get_right xs ys i));
        without_it =
            ap (without name) (members_data-append xs ys)
            ∙ without-joined_below name (members_data xs) (members_data ys) below
            ∙ ap (joined (members_data xs)) h.without_it
            ∙ sym (joined-assoc (members_data xs) (members_data (take i ys)) (members_data (drop (i + 1) ys)))
            ∙ ap (λ ms. joined ms (members_data (drop (i + 1) ys)))
            (sym (members_data-append xs (take i ys)) ∙ ap members_data (sym (take-append-add xs ys i)))
            ∙ ap (λ zs. joined (members_data (take (length xs + i) (xs ++ ys))) (members_data zs)) (sym behind);
      }

-- ---- a list that is both of them

module _ (xs ys zs : List Pair) (is : xs ++ ys ≡ zs) where
  pub shorter_left : 0 < length ys → length xs < length zs
  shorter_left some = omega (arith, length-append xs ys, ap length is)

  pub shorter_right : 0 < length xs → length ys < length zs
  shorter_right some = omega (arith, length-append xs ys, ap length is)

  pub before_right : (n m : ℕ) → n ≡ length zs → m ≡ length ys → n - m ≡ length xs
  before_right n m all others = omega (arith, length-append xs ys, ap length is)

  pub ordered_sides : AreOrdered (members_data zs) → AreOrdered (joined (members_data xs) (members_data ys))
  ordered_sides ordered =
      subst AreOrdered (ap members_data (sym is) ∙ members_data-append xs ys) ordered

  pub all_ordered_left : AreOrdered (members_data zs) → AreOrdered (members_data xs)
  all_ordered_left ordered = ordered_left (members_data xs) (members_data ys) (ordered_sides ordered)

  pub all_ordered_right : AreOrdered (members_data zs) → AreOrdered (members_data ys)
  all_ordered_right ordered = ordered_right (members_data xs) (members_data ys) (ordered_sides ordered)

  module _ (name : List ℕ) where
    pub all_found_left : AllAbove name (members_data ys) → (r : Result ℕ ℕ) → IfOk r (IsAt xs name)
        → IfOk r (IsAt zs name)
    all_found_left above (Ok i) h = subst (λ l. IsAt l name i) is (found_left xs ys name i above h)
    all_found_left above (Err i) h = tt

    pub all_free_left : AllAbove name (members_data ys) → (r : Result ℕ ℕ) → IfErr r (IsPlaceFor xs name)
        → IfErr r (IsPlaceFor zs name)
    all_free_left above (Ok i) h = tt
    all_free_left above (Err i) h = subst (λ l. IsPlaceFor l name i) is (free_left xs ys name i above h)

    pub all_found_right : AllBelow (members_data xs) name → (n i : ℕ) → n ≡ length xs → IsAt ys name i
        → IsAt zs name (n + i)
    all_found_right below n i before h =
        subst (λ m. IsAt zs name (m + i)) (sym before)
        (subst (λ l. IsAt l name (length xs + i)) is (found_right xs ys name i below h))

    pub all_free_right : AllBelow (members_data xs) name → (n i : ℕ) → n ≡ length xs → IsPlaceFor ys name i
        → IsPlaceFor zs name (n + i)
    all_free_right below n i before h =
        subst (λ m. IsPlaceFor zs name (m + i)) (sym before)
        (subst (λ l. IsPlaceFor l name (length xs + i)) is (free_right xs ys name i below h))
