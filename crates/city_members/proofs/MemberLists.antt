-- Members, some behind others: finding, putting and taking out a name.
use Rattle.city_members.proofs.Prelude.{◌≡◌, ℕ, List, Bool, true, false}
use Rattle.city_members.proofs.Prelude.{refl, sym, ap, ◌∙◌, arith, None, Ordering, Less, Equal}
use Rattle.city_members.proofs.Prelude.{no_members, member, slice_cmp, nat_cmp, nat_list_cmp_total, same_id}
use Rattle.city_members.proofs.Prelude.{exact_bytes}
use Rattle.std.proofs.Common.{Greater}
use Rattle.std.specs.Ordering.{ordering_reverse}
use Rattle.serde_json.specs.Data.{Data, Members, put}
use Rattle.serde_json.specs.Find.{get_member}
use Rattle.city_members.specs.Members.{without, AllAbove, AreOrdered}
use Rattle.city_members.specs.internal.MemberLists.{joined, AllBelow}

-- ---- one list behind another

pub joined-none : (ms : Members) → joined ms no_members ≡ ms
joined-none no_members = refl
joined-none (member k d ms) = ap (member k d) (joined-none ms)

pub joined-assoc : (ls ms ns : Members) → joined (joined ls ms) ns ≡ joined ls (joined ms ns)
joined-assoc no_members ms ns = refl
joined-assoc (member k d ls) ms ns = ap (member k d) (joined-assoc ls ms ns)

-- ---- the order of names

turned : (k l : List ℕ) → slice_cmp nat_cmp k l ≡ Less → slice_cmp nat_cmp l k ≡ Greater
turned k l h = nat_list_cmp_total.antisymm l k ∙ ap ordering_reverse h

pub above_below : (k l : List ℕ) (ms : Members) → slice_cmp nat_cmp k l ≡ Less → AllAbove l ms → AllAbove k ms
above_below k l no_members h all = tt
above_below k l (member i e ms) h all = (nat_list_cmp_total.trans k l i h all.0, above_below k l ms h all.1)

above_left : (k : List ℕ) (ms ns : Members) → AllAbove k (joined ms ns) → AllAbove k ms
above_left k no_members ns h = tt
above_left k (member l d ms) ns h = (h.0, above_left k ms ns h.1)

above_right : (k : List ℕ) (ms ns : Members) → AllAbove k (joined ms ns) → AllAbove k ns
above_right k no_members ns h = h
above_right k (member l d ms) ns h = above_right k ms ns h.1

pub ordered_left : (ms ns : Members) → AreOrdered (joined ms ns) → AreOrdered ms
ordered_left no_members ns h = tt
ordered_left (member k d ms) ns h = (above_left k ms ns h.0, ordered_left ms ns h.1)

pub ordered_right : (ms ns : Members) → AreOrdered (joined ms ns) → AreOrdered ns
ordered_right no_members ns h = h
ordered_right (member k d ms) ns h = ordered_right ms ns h.1

-- the members before a later one are below it
pub below_later : (ms : Members) (k : List ℕ) (d : Data) (ns : Members) → AreOrdered (joined ms (member k d ns))
    → AllBelow ms k
below_later no_members k d ns h = tt
below_later (member l e ms) k d ns h = ((above_right l ms (member k d ns) h.0).0, below_later ms k d ns h.1)

pub below_joined : (ms ns : Members) (k : List ℕ) → AllBelow ms k → AllBelow ns k → AllBelow (joined ms ns) k
below_joined no_members ns k h g = g
below_joined (member l d ms) ns k h g = (h.0, below_joined ms ns k h.1 g)

-- ---- found, put and taken out on one side

pub get_member-above : (k : List ℕ) (ns : Members) → AllAbove k ns → get_member k ns ≡ None
get_member-above k no_members h = refl
get_member-above k (member l d ns) h = rw h.0 (get_member-above k ns h.1)

pub get_member-joined_above : (k : List ℕ) (ms ns : Members) → AllAbove k ns
    → get_member k (joined ms ns) ≡ get_member k ms
get_member-joined_above k no_members ns h = get_member-above k ns h
get_member-joined_above k (member l d ms) ns h = grind (arith, get_member-joined_above k ms ns h)

pub get_member-joined_below : (k : List ℕ) (ms ns : Members) → AllBelow ms k
    → get_member k (joined ms ns) ≡ get_member k ns
get_member-joined_below k no_members ns h = refl
get_member-joined_below k (member l d ms) ns h = rw (turned l k h.0) (get_member-joined_below k ms ns h.1)

pub put-above : (k : List ℕ) (d : Data) (ns : Members) → AllAbove k ns → put k d ns ≡ member k d ns
put-above k d no_members h = refl
put-above k d (member l e ns) h = rw h.0 refl

-- one of the same name is replaced
pub put_equal : (k : List ℕ) (d : Data) (l : List ℕ) (e : Data) (ms : Members) → slice_cmp nat_cmp k l ≡ Equal
    → put k d (member l e ms) ≡ member k d ms
put_equal k d l e ms is = rw is (ap (λ q. member q d ms) (sym (exact_bytes k l is)))

pub put-joined_below : (k : List ℕ) (d : Data) (ms ns : Members) → AllBelow ms k
    → put k d (joined ms ns) ≡ joined ms (put k d ns)
put-joined_below k d no_members ns h = refl
put-joined_below k d (member l e ms) ns h = rw (turned l k h.0) (ap (member l e) (put-joined_below k d ms ns h.1))

pub without-above : (k : List ℕ) (ns : Members) → AllAbove k ns → without k ns ≡ ns
without-above k no_members h = refl
without-above k (member l d ns) h = rw h.0 (ap (member l d) (without-above k ns h.1))

pub without-joined_above : (k : List ℕ) (ms ns : Members) → AllAbove k ns
    → without k (joined ms ns) ≡ joined (without k ms) ns
without-joined_above k no_members ns h = without-above k ns h
without-joined_above k (member l d ms) ns h = grind (arith, without-joined_above k ms ns h)

pub without-joined_below : (k : List ℕ) (ms ns : Members) → AllBelow ms k
    → without k (joined ms ns) ≡ joined ms (without k ns)
without-joined_below k no_members ns h = refl
without-joined_below k (member l d ms) ns h = rw (turned l k h.0) (ap (member l d) (without-joined_below k ms ns h.1))

-- ---- the order stays

above_put_at : (o : Ordering) (j k : List ℕ) (d : Data) (l : List ℕ) (e : Data) (ms : Members)
    → slice_cmp nat_cmp k l ≡ o → slice_cmp nat_cmp j k ≡ Less → AllAbove j (member l e ms) → AllAbove j (put k d ms)
    → AllAbove j (put k d (member l e ms))
above_put_at Less j k d l e ms is h all later = rw is (h, all)
above_put_at Equal j k d l e ms is h all later = rw is all
above_put_at Greater j k d l e ms is h all later = rw is (all.0, later)

above_put : (j k : List ℕ) (d : Data) (ms : Members) → slice_cmp nat_cmp j k ≡ Less → AllAbove j ms
    → AllAbove j (put k d ms)
above_put j k d no_members h all = (h, tt)
above_put j k d (member l e ms) h all = above_put_at _ j k d l e ms refl h all (above_put j k d ms h all.1)

ordered_put_at : (o : Ordering) (k : List ℕ) (d : Data) (l : List ℕ) (e : Data) (ms : Members)
    → slice_cmp nat_cmp k l ≡ o → AreOrdered (member l e ms) → AreOrdered (put k d ms)
    → AreOrdered (put k d (member l e ms))
ordered_put_at Less k d l e ms is h later = rw is ((is, above_below k l ms is h.0), h)
ordered_put_at Equal k d l e ms is h later = rw is h
ordered_put_at Greater k d l e ms is h later =
    let below : slice_cmp nat_cmp l k ≡ Less = nat_list_cmp_total.antisymm l k ∙ ap ordering_reverse is in
    rw is (above_put l k d ms below h.0, later)

pub ordered_put : (k : List ℕ) (d : Data) (ms : Members) → AreOrdered ms → AreOrdered (put k d ms)
ordered_put k d no_members h = (tt, tt)
ordered_put k d (member l e ms) h = ordered_put_at _ k d l e ms refl h (ordered_put k d ms h.1)

above_without_at : (b : Bool) (j k l : List ℕ) (d : Data) (ms : Members) → same_id k l ≡ b
    → AllAbove j (member l d ms) → AllAbove j (without k ms) → AllAbove j (without k (member l d ms))
above_without_at true j k l d ms is all later = rw is later
above_without_at false j k l d ms is all later = rw is (all.0, later)

above_without : (j k : List ℕ) (ms : Members) → AllAbove j ms → AllAbove j (without k ms)
above_without j k no_members all = tt
above_without j k (member l d ms) all = above_without_at _ j k l d ms refl all (above_without j k ms all.1)

ordered_without_at : (b : Bool) (k l : List ℕ) (d : Data) (ms : Members) → same_id k l ≡ b
    → AreOrdered (member l d ms) → AreOrdered (without k ms) → AreOrdered (without k (member l d ms))
ordered_without_at true k l d ms is h later = rw is later
ordered_without_at false k l d ms is h later = rw is (above_without l k ms h.0, later)

pub ordered_without : (k : List ℕ) (ms : Members) → AreOrdered ms → AreOrdered (without k ms)
ordered_without k no_members h = tt
ordered_without k (member l d ms) h = ordered_without_at _ k l d ms refl h (ordered_without k ms h.1)

-- ---- a name behind all others

pub put_last : (k : List ℕ) (d : Data) (ms ns : Members) → AreOrdered (joined ms (member k d ns))
    → joined (put k d ms) ns ≡ joined ms (member k d ns)
put_last k d no_members ns h = refl
put_last k d (member l e ms) ns h =
    rw (turned l k (above_right l ms (member k d ns) h.0).0) (ap (member l e) (put_last k d ms ns h.1))
