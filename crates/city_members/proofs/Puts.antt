-- Members that are put in at their names.
use Rattle.std.proofs.Common.{◌≡◌, ℕ, List, Less, Equal, Greater, nat_cmp, refl, ap, ◌∙◌, arith, [], ◌∷◌, Ordering}
use Rattle.std.proofs.Common.{Some, None, true}
use Rattle.std.proofs.lemmas.Cmp.{nat_list_cmp_total}
use Rattle.std.proofs.lemmas.Map.Lookups.{exact_bytes}
use Rattle.std.specs.Cmp.Lexicographic.{slice_cmp}
use Rattle.std.specs.List.{AllByRecursion}
use Rattle.std.specs.Ordering.{match_ordering, ordering_reverse}
use Rattle.serde_json.specs.Data.{Data, Members, no_members, member, put}
use Rattle.serde_json.specs.Find.{get_member}
use Rattle.city_members.specs.Kept.{lacks_each}
use Rattle.city_members.specs.Members.{AllAbove, AreOrdered}

abbrev pub cmp : List ℕ → List ℕ → Ordering
cmp = slice_cmp nat_cmp

-- the order of names
pub turned : (a b : List ℕ) → cmp a b ≡ Less → cmp b a ≡ Greater
turned a b e = nat_list_cmp_total.antisymm b a ∙ ap ordering_reverse e

pub back : (a b : List ℕ) → cmp a b ≡ Greater → cmp b a ≡ Less
back a b e = nat_list_cmp_total.antisymm b a ∙ ap ordering_reverse e

pub all_above_lower : (a b : List ℕ) (ms : Members) → cmp a b ≡ Less → AllAbove b ms → AllAbove a ms
all_above_lower a b no_members less h = tt
all_above_lower a b (member k d ms) less h = (nat_list_cmp_total.trans a b k less h.0, all_above_lower a b ms less h.1)

-- a member put in
pub above_put : (a k : List ℕ) (d : Data) (ms : Members) → cmp a k ≡ Less → AllAbove a ms → AllAbove a (put k d ms)
above_put a k d no_members less h = (less, tt)
above_put a k d (member l e ms) less h = let rest = above_put a k d ms less h.1 in grind arith

-- names that ascend still do
pub ordered_put : (k : List ℕ) (d : Data) (ms : Members) → AreOrdered ms → AreOrdered (put k d ms)
ordered_put k d no_members h = (tt, tt)
ordered_put k d (member l e ms) h =
    let rest = ordered_put k d ms h.1 in
    let low = all_above_lower k l ms in
    let high : cmp k l ≡ Greater → AllAbove l (put k d ms) = λ is. above_put l k d ms (back k l is) h.0 in
    grind arith

-- a name below all others goes first
pub put_first : (k : List ℕ) (d : Data) (ms : Members) → AllAbove k ms → put k d ms ≡ member k d ms
put_first k d no_members h = refl
put_first k d (member l e ms) h = rw h.0 refl

-- a name not above a is below b
later : (a b l : List ℕ) → cmp a b ≡ Less → (cmp a l ≡ Less → ⊥) → cmp b l ≡ Greater
later a b l less at = grind (arith, exact_bytes, turned, back, nat_list_cmp_total.trans)

swap_step : (p q : Ordering) (a b l : List ℕ) (x y e : Data) (ms : Members) → cmp a b ≡ Less → cmp a l ≡ p → cmp b l ≡ q
    → put a x (put b y ms) ≡ put b y (put a x ms)
    → put a x (match_ordering q (member b y (member l e ms)) (member l y ms) (member l e (put b y ms)))
    ≡ put b y (match_ordering p (member a x (member l e ms)) (member l x ms) (member l e (put a x ms)))
swap_step Less Less a b l x y e ms less at bt rest = rw (less, turned a b less, bt) refl
swap_step Less q a b l x y e ms less at bt rest = rw (at, turned a b less, bt) refl
swap_step Equal Greater a b l x y e ms less at bt rest = rw (at, bt) refl
swap_step Greater Greater a b l x y e ms less at bt rest = rw (at, bt) (ap (member l e) rest)
swap_step p q a b l x y e ms less at bt rest = absurd (cc (later a b l less (λ no. cc), bt))

pub put-swap : (a b : List ℕ) (x y : Data) (ms : Members) → cmp a b ≡ Less → put a x (put b y ms) ≡ put b y (put a x ms)
put-swap a b x y no_members less = rw (less, turned a b less) refl
put-swap a b x y (member l e ms) less =
    swap_step (cmp a l) (cmp b l) a b l x y e ms less refl refl (put-swap a b x y ms less)

-- none of the names is found
pub each_lacking : (names : List (List ℕ)) (ms : Members) → lacks_each names ms ≡ true
    → AllByRecursion (λ name. get_member name ms ≡ None) names
each_lacking [] ms h = tt
each_lacking (n ∷ names) ms h = (grind arith, each_lacking names ms (grind arith))

-- `All` is `P` of each value
module _ (P : Data → Type 0) (All : Members → Type 0) (none : All no_members)
    (join : (k : List ℕ) (d : Data) (ms : Members) → P d → All ms → All (member k d ms))
    (parts : (k : List ℕ) (d : Data) (ms : Members) → All (member k d ms) → P d × All ms) where
  -- it still holds where one of which it holds is put in
  pub all_put : (k : List ℕ) (d : Data) (ms : Members) → P d → All ms → All (put k d ms)
  all_put k d no_members one h = join k d no_members one none
  all_put k d (member l e ms) one h =
      let hs = parts l e ms h in
      elim (slice_cmp nat_cmp k l) as (λ o. All (match_ordering o (member k d (member l e ms)) (member l d ms)
      (member l e (put k d ms)))) [
        | Less ↦ join k d _ one h
        | Equal ↦ join l d ms one hs.1
        | Greater ↦ join l e _ hs.0 (all_put k d ms one hs.1)
      ]

  -- it holds of the value that a look-up finds
  pub all_found : (k : List ℕ) (ms : Members) (d : Data) → All ms → get_member k ms ≡ Some d → P d
  all_found k no_members d h is = absurd (cc)
  all_found k (member l e ms) d h is =
      let hs = parts l e ms h in
      let rest = get_member k ms in
      elim (slice_cmp nat_cmp k l) as (λ o. match_ordering o rest (Some e) rest ≡ Some d → P d)
      [ Equal ↦ λ at. let same : e ≡ d = cc in rw same at hs.0 | _ ↦ all_found k ms d hs.1 ] is
