-- Members put in at their names, one after another, and members taken out.
use Rattle.city_decimals.proofs.Prelude.{arith, ◌≡◌, ℕ, List, Bool, true, false, cond, Ordering, refl, sym, ap}
use Rattle.city_decimals.proofs.Prelude.{◌∙◌, nat_cmp, slice_cmp, match_ordering, bytes_eq, bytes_eq-Decides, Data, put}
use Rattle.std.proofs.Common.{Less, Equal, Greater}
use Rattle.std.specs.Ordering.{ordering_reverse}
use Rattle.std.proofs.lemmas.Cmp.{nat_list_cmp_total, tied_itself}
use Rattle.std.proofs.lemmas.Map.Lookups.{exact_bytes}
use Rattle.serde_json.specs.Data.{Members, no_members, member}
use Rattle.city_decimals.specs.Attributes.{put_each, without}

abbrev pub cmp : List ℕ → List ℕ → Ordering
cmp = slice_cmp nat_cmp

-- ---- the order of names

pub turned : (a b : List ℕ) → cmp a b ≡ Less → cmp b a ≡ Greater
turned a b e = nat_list_cmp_total.antisymm b a ∙ ap ordering_reverse e

pub turned_back : (a b : List ℕ) → cmp a b ≡ Greater → cmp b a ≡ Less
turned_back a b e = nat_list_cmp_total.antisymm b a ∙ ap ordering_reverse e

-- all names are above this one
abbrev pub AreAbove : List ℕ → Members → Type 0
AreAbove k no_members = Unit {0}
AreAbove k (member l d ms) = (cmp k l ≡ Less) × AreAbove k ms

abbrev pub AreOrdered : Members → Type 0
AreOrdered no_members = Unit {0}
AreOrdered (member k d ms) = AreAbove k ms × AreOrdered ms

above_lower : (a b : List ℕ) (ms : Members) → cmp a b ≡ Less → AreAbove b ms → AreAbove a ms
above_lower a b no_members less h = tt
above_lower a b (member k d ms) less h = (nat_list_cmp_total.trans a b k less h.0, above_lower a b ms less h.1)

above_put : (a k : List ℕ) (d : Data) (ms : Members) → cmp a k ≡ Less → AreAbove a ms → AreAbove a (put k d ms)
above_put a k d no_members less h = (less, tt)
above_put a k d (member l e ms) less h = let rest = above_put a k d ms less h.1 in grind arith

pub ordered_put : (k : List ℕ) (d : Data) (ms : Members) → AreOrdered ms → AreOrdered (put k d ms)
ordered_put k d no_members h = (tt, tt)
ordered_put k d (member l e ms) h =
    let rest = ordered_put k d ms h.1 in
    let low = above_lower k l ms in
    let high : cmp k l ≡ Greater → AreAbove l (put k d ms) = λ is. above_put l k d ms (turned_back k l is) h.0 in
    grind arith

-- ---- two members put in

-- a name not above a is below b
later : (a b l : List ℕ) → cmp a b ≡ Less → (cmp a l ≡ Less → ⊥) → cmp b l ≡ Greater
later a b l less at = grind (arith, exact_bytes, turned, turned_back, nat_list_cmp_total.trans)

swap_step : (p q : Ordering) (a b l : List ℕ) (x y e : Data) (ms : Members) → cmp a b ≡ Less → cmp a l ≡ p → cmp b l ≡ q
    → put a x (put b y ms) ≡ put b y (put a x ms)
    → put a x (match_ordering q (member b y (member l e ms)) (member l y ms) (member l e (put b y ms)))
    ≡ put b y (match_ordering p (member a x (member l e ms)) (member l x ms) (member l e (put a x ms)))
swap_step Less Less a b l x y e ms less at bt rest = rw (less, turned a b less, bt) refl
swap_step Less q a b l x y e ms less at bt rest = rw (at, turned a b less, bt) refl
swap_step Equal Greater a b l x y e ms less at bt rest = rw (at, bt) refl
swap_step Greater Greater a b l x y e ms less at bt rest = rw (at, bt) (ap (member l e) rest)
swap_step p q a b l x y e ms less at bt rest = absurd (cc (later a b l less (λ no. cc), bt))

pub put_swap : (a b : List ℕ) (x y : Data) (ms : Members) → cmp a b ≡ Less → put a x (put b y ms) ≡ put b y (put a x ms)
put_swap a b x y no_members less = rw (less, turned a b less) refl
put_swap a b x y (member l e ms) less =
    swap_step (cmp a l) (cmp b l) a b l x y e ms less refl refl (put_swap a b x y ms less)

pub tied : (k : List ℕ) → cmp k k ≡ Equal
tied k = tied_itself nat_list_cmp_total k

twice_step : (o : Ordering) (k l : List ℕ) (x y e : Data) (ms : Members) → cmp k l ≡ o
    → put k x (put k y ms) ≡ put k x ms
    → put k x (match_ordering o (member k y (member l e ms)) (member l y ms) (member l e (put k y ms)))
    ≡ match_ordering o (member k x (member l e ms)) (member l x ms) (member l e (put k x ms))
twice_step Less k l x y e ms at rest = rw (tied k) refl
twice_step Equal k l x y e ms at rest = rw at refl
twice_step Greater k l x y e ms at rest = rw at (ap (member l e) rest)

-- of two members of a name the last one stays
pub put_twice : (k : List ℕ) (x y : Data) (ms : Members) → put k x (put k y ms) ≡ put k x ms
put_twice k x y no_members = rw (tied k) refl
put_twice k x y (member l e ms) = twice_step (cmp k l) k l x y e ms refl (put_twice k x y ms)

-- ---- members put in, one after another

after_each : (k : List ℕ) (x : Data) (es ds : Members) → AreAbove k es
    → put_each es (put k x ds) ≡ put k x (put_each es ds)
after_each k x no_members ds h = refl
after_each k x (member l y es) ds h =
    ap (put_each es) (sym (put_swap k l x y ds h.0)) ∙ after_each k x es (put l y ds) h.1

into_step : (o : Ordering) (k l : List ℕ) (x y : Data) (es ds : Members) → cmp k l ≡ o → AreAbove l es
    → put_each (put k x es) (put l y ds) ≡ put k x (put_each es (put l y ds))
    → put_each (match_ordering o (member k x (member l y es)) (member l x es) (member l y (put k x es))) ds
    ≡ put k x (put_each es (put l y ds))
into_step Less k l x y es ds at h rest = after_each k x (member l y es) ds (at, above_lower k l es at h)
into_step Equal k l x y es ds at h rest =
    let same = exact_bytes k l at in
    ap (put_each es) (sym (put_twice l x y ds)) ∙ after_each l x es (put l y ds) h
    ∙ ap (λ n. put n x (put_each es (put l y ds))) (sym same)
into_step Greater k l x y es ds at h rest = rest

-- a member put among those to put in goes in last
pub put_into : (k : List ℕ) (x : Data) (es ds : Members) → AreOrdered es
    → put_each (put k x es) ds ≡ put k x (put_each es ds)
put_into k x no_members ds h = refl
put_into k x (member l y es) ds h =
    into_step (cmp k l) k l x y es ds refl h.0 (put_into k x es (put l y ds) h.1)

-- ---- members taken out

above_without : (k name : List ℕ) (ms : Members) → AreAbove k ms → AreAbove k (without name ms)
above_without k name no_members h = tt
above_without k name (member l d ms) h = grind (arith, above_without k name ms h.1)

pub ordered_without : (name : List ℕ) (ms : Members) → AreOrdered ms → AreOrdered (without name ms)
ordered_without name no_members h = tt
ordered_without name (member l d ms) h = grind (arith, ordered_without name ms h.1, above_without l name ms h.0)

put_first : (k : List ℕ) (d : Data) (ms : Members) → AreAbove k ms → put k d ms ≡ member k d ms
put_first k d no_members h = refl
put_first k d (member l e ms) h = rw h.0 refl

same_step : (o : Ordering) (k l : List ℕ) (x y : Data) (ms : Members) → cmp k l ≡ o → bytes_eq k k ≡ true
    → without k (put k x ms) ≡ without k ms
    → without k (match_ordering o (member k x (member l y ms)) (member l x ms) (member l y (put k x ms)))
    ≡ cond (bytes_eq k l) (without k ms) (member l y (without k ms))
same_step Less k l x y ms at itself rest = rw itself refl
same_step Equal k l x y ms at itself rest = grind (arith, exact_bytes k l at)
same_step Greater k l x y ms at itself rest = rw rest refl

-- a member put in under a name is taken out with it
pub without_same : (k : List ℕ) (x : Data) (ms : Members) → without k (put k x ms) ≡ without k ms
without_same k x no_members = rw ((bytes_eq-Decides k k).1 refl) refl
without_same k x (member l y ms) =
    same_step (cmp k l) k l x y ms refl ((bytes_eq-Decides k k).1 refl) (without_same k x ms)

other_step : (o : Ordering) (b : Bool) (name k l : List ℕ) (x y : Data) (ms : Members) → cmp k l ≡ o
    → bytes_eq name k ≡ false → bytes_eq name l ≡ b → AreAbove l ms
    → without name (put k x ms) ≡ put k x (without name ms)
    → without name (match_ordering o (member k x (member l y ms)) (member l x ms) (member l y (put k x ms)))
    ≡ put k x (cond b (without name ms) (member l y (without name ms)))
other_step Less true name k l x y ms at apart is h rest =
    rw (apart, is) (sym (put_first k x (without name ms) (above_without k name ms (above_lower k l ms at h))))
other_step Less false name k l x y ms at apart is h rest = rw (apart, is, at) refl
other_step Equal true name k l x y ms at apart is h rest = grind (arith, exact_bytes k l at)
other_step Equal false name k l x y ms at apart is h rest = rw (is, at) refl
other_step Greater true name k l x y ms at apart is h rest = rw is rest
other_step Greater false name k l x y ms at apart is h rest = rw (is, at) (ap (member l y) rest)

-- a member of another name can be put in afterwards
pub without_other : (name k : List ℕ) (x : Data) (ms : Members) → bytes_eq name k ≡ false → AreOrdered ms
    → without name (put k x ms) ≡ put k x (without name ms)
without_other name k x no_members apart h = rw apart refl
without_other name k x (member l y ms) apart h =
    other_step (cmp k l) (bytes_eq name l) name k l x y ms refl apart refl h.0 (without_other name k x ms apart h.1)
