-- Set, unset and expect have the same effect on members read encoded as on the members as given.
use Rattle.city_canonical.proofs.Prelude.{arith, ◌≡◌, ℕ, List, [], ◌∷◌, true, Option, Some, None, refl, sym, ap, ◌∙◌}
use Rattle.city_canonical.proofs.Prelude.{option_and_then, HasNumbers, MembersHaveNumbers, Some_inj, Data, array}
use Rattle.city_canonical.proofs.Prelude.{object, Items, item, no_items, Members, no_members, member, put, get_member}
use Rattle.city_canonical.proofs.Prelude.{outline, encoded, decoded, is_eq-slice_cmp, mapped}
use Rattle.city_canonical.proofs.Members.{Numbers, numbers_at}
use Rattle.std.specs.Prelude.{◌↔◌}
use Rattle.serde_json.specs.Find.{as_object}
use Rattle.city_members.specs.Attributes.{attributes, attributes_in, with_attributes, is_value, are_among, members_of}
use Rattle.city_members.proofs.SameValues.{value_same, same_values}
use Rattle.city_decimals.specs.Attributes.{append, leave_out, leave_out_each, AreRead, AreAmong, member_read}
use Rattle.city_decimals.proofs.Edits.{found_read, object_alone, set_kept, unset_kept, none_read, expect_kept}
use Rattle.city_decimals.proofs.Edits.{place_kept}
use Rattle.city_decimals.proofs.Rereads.{member_readable}
use Rattle.city_decimals.proofs.Wholes.{integral, whole}
use Rattle.city_canonical.specs.Edited.{attributes_given, unless_none, or_none, EditsAlike}
use Rattle.city_canonical.specs.Edited as given
use Rattle.city_members.specs.Attributes as model
use Rattle.city_members.specs.Integral as model_integral
use Rattle.city_members.specs.Members as model_members
use Rattle.city_decimals.specs.Attributes as own
use Rattle.city_decimals.specs.Whole as own_whole
use Rattle.json.specs.Json as json
use Rattle.json.specs.Find as find

-- ---- the words of the two crates

same_puts : (es ds : Members) → model.put_each es ds ≡ own.put_each es ds
same_puts no_members ds = refl
same_puts (member k d es) ds = same_puts es (put k d ds)

same_without : (name : List ℕ) (ms : Members) → model_members.without name ms ≡ own.without name ms
same_without name no_members = refl
same_without name (member k d ms) = rw (is_eq-slice_cmp name k, same_without name ms) refl

same_without_each : (names : List (List ℕ)) (ms : Members)
    → model_members.without_each names ms ≡ own.without_each names ms
same_without_each [] ms = refl
same_without_each (name ∷ names) ms =
    ap (model_members.without_each names) (same_without name ms) ∙ same_without_each names (own.without name ms)

mutual
  same_whole : (d : Data) → own_whole.is_integral d ≡ model_integral.is_integral d
  same_whole (array ds) = items_whole ds
  same_whole (object ms) = members_whole ms
  same_whole d = refl

  items_whole : (ds : Items) → own_whole.items_integral ds ≡ model_integral.items_integral ds
  items_whole no_items = refl
  items_whole (item d ds) = rw (same_whole d, items_whole ds) refl

  members_whole : (ms : Members) → own_whole.members_integral ms ≡ model_integral.members_integral ms
  members_whole no_members = refl
  members_whole (member k d ms) = rw (same_whole d, members_whole ms) refl

-- a value without fractions is there exactly if the same value is
is_there : (d : Data) (o : Option Data) → model_integral.is_integral d ≡ true → (is_value d o ≡ true) ↔ (o ≡ Some d)
is_there d None whole = grind arith
is_there d (Some e) whole = (λ h. ap Some (sym (same_values d e h)), λ h. rw (Some_inj _ _ h) (value_same d whole))

among : (es ds : Members) → model_integral.members_integral es ≡ true → (are_among es ds ≡ true) ↔ AreAmong es ds
among no_members ds whole = search
among (member k d es) ds whole = search (arith, is_there d (get_member k ds), among es ds)

whole_read : (ms : json.Members) (ds : Members) → AreRead ms ds → model_integral.members_integral ds ≡ true
whole_read ms ds read =
    search (arith, members_whole, integral (encoded (json.object ms)) (object ds) (whole (json.object ms)))

-- ---- the attributes, as given and as read

-- there are none in either or in neither, and those given are read
record AreAlike (i : Option Members) (g : Option json.Members) : Type 0 where
  bad : (i ≡ None) ↔ (g ≡ None)
  numbers : MembersHaveNumbers (or_none g)
  read : AreRead (or_none g) (members_of i)

both : (a : json.Members) (d : Members) → MembersHaveNumbers a → AreRead a d → AreAlike (Some d) (Some a)
both a d h is = record { bad = (λ e. absurd (cc), λ e. absurd (cc)); numbers = h; read = is }

both_are : (i : Option Members) (g : Option json.Members) (a : json.Members) (d : Members) → AreAlike i g → g ≡ Some a
    → i ≡ Some d → MembersHaveNumbers a × AreRead a d
both_are i g a d all given there = (rw given at all.numbers, rw (given, there) at all.read)

alike : (j : json.Json) (d : Data) → HasNumbers j → member_read attributes j ≡ Some d
    → AreAlike (as_object d) (find.as_object j)
alike (json.object a) d h is = search (arith, mapped, both a)
alike j d h is = search (arith, object_alone)

found : (o : Option json.Json) (i : Option Data) → Numbers o → i ≡ option_and_then (member_read attributes) o
    → AreAlike (model.members_or_none i) (given.members_or_none o)
found None i h is = rw is (both json.no_members no_members tt refl)
found (Some j) i h is = let r = member_readable attributes j in rw (is ∙ r.1) (alike j r.0 h r.1)

-- ---- the laws

numbers_append : (a s : json.Members) → MembersHaveNumbers a → MembersHaveNumbers s → MembersHaveNumbers (append a s)
numbers_append json.no_members s h g = g
numbers_append (json.member k j a) s h g = (h.0, numbers_append a s h.1 g)

numbers_left : (name : List ℕ) (ms : json.Members) → MembersHaveNumbers ms → MembersHaveNumbers (leave_out name ms)
numbers_left name json.no_members h = tt
numbers_left name (json.member k j ms) h = grind (arith, numbers_left name ms h.1, h.0)

numbers_left_each : (names : List (List ℕ)) (ms : json.Members) → MembersHaveNumbers ms
    → MembersHaveNumbers (leave_out_each names ms)
numbers_left_each [] ms h = h
numbers_left_each (name ∷ names) ms h = numbers_left_each names (leave_out name ms) (numbers_left name ms h)

taken : (ms b : json.Members) (extra left : Members) → MembersHaveNumbers ms → AreRead ms extra → MembersHaveNumbers b
    → AreRead b left → decoded (outline (object (with_attributes extra left))) ≡ unless_none ms b
taken ms json.no_members extra left numbers read h is =
    rw (← Some_inj _ _ is, same_without attributes extra) (unset_kept ms extra (attributes ∷ []) numbers read).1
taken ms (json.member k j b) extra no_members numbers read h is =
    absurd (cc ((none_read (json.member k j b) no_members is).0 refl))
taken ms b extra left numbers read h is = place_kept ms b extra left numbers h read is

pub edited : EditsAlike
edited ms extra numbers read =
    let all = found (find.get_member attributes ms) (get_member attributes extra) (numbers_at attributes ms numbers)
    (found_read attributes ms extra read) in
    record {
      bad = all.bad;
      sets = λ s e g set a d given there.
          let were = both_are (attributes_in extra) (attributes_given ms) a d all given there in
          ap (λ n. decoded (outline (object (put attributes (object n) extra)))) (same_puts e d)
          ∙ place_kept ms (append a s) extra (own.put_each e d) numbers (numbers_append a s were.0 g) read
          (set_kept a s d e were.0 g were.1 set).0;
      unsets = λ names a d given there.
          let were = both_are (attributes_in extra) (attributes_given ms) a d all given there in
          ap (λ l. decoded (outline (object (with_attributes extra l)))) (same_without_each names d)
          ∙ taken ms (leave_out_each names a) extra (own.without_each names d) numbers read
          (numbers_left_each names a were.0) (unset_kept a d names were.0 were.1).0;
      expects = λ s e g set.
          let law = expect_kept (or_none (attributes_given ms)) s (members_of (attributes_in extra)) e all.numbers g
          all.read set in
          let same = among e (members_of (attributes_in extra)) (whole_read s e set) in
          (λ h. law.0 (same.0 h), λ h. same.1 (law.1 h));
    }
