-- Faults told by a walk through items in their order: the faults found at each, once, in order.
use Rattle.city_scripts.proofs.Prelude.{◌≡◌, ◌⊎◌, inl, inr, ℕ, zero, suc, ◌+◌, ◌<◌, List, ◌∷◌, ◌++◌, Option, Some, None}
use Rattle.city_scripts.proofs.Prelude.{[], Bool, true, false, refl, sym, ap, subst, ◌∙◌, arith, slice_get, option_map}
use Rattle.city_scripts.proofs.Prelude.{ap₂, length, map, list_any, Data, ScriptParts, parts_of, vertex_count}
use Rattle.std.proofs.Common.{zero-add}
use Rattle.std.specs.Prelude.{◌||◌, nat_lt, option_to_list}
use Rattle.city_tokens.specs.internal.ScriptItems.{has_too_many_commands}
use Rattle.city_tokens.specs.script.Scripts.{max_scripts}
use Rattle.city_scripts.specs.declared.numbered.NumberedForm.{NumberedForm}
use Rattle.city_scripts.specs.declared.fault.ScriptFault.{ScriptFault}
use Rattle.city_scripts.specs.declared.fault.ScriptFault.TheVariants.{BadScript, TooMany, BadCommand, BadVertex}
use Rattle.city_scripts.specs.declared.fault.ScriptFault.TheVariants.{OutOfMemory, TooLong, NotJson, NotWhole}
use Rattle.city_scripts.specs.declared.fault.ScriptFault.TheVariants.{NotScripts}
use Rattle.city_doc.specs.FaultLists.{IsListed, AreOrderedBy}
use Rattle.city_scripts.specs.AllFaults.{HasAt, StandsAt, IsBefore, AreThose, are_too_many, is_misplaced}
use Rattle.city_scripts.specs.AllFaults.{is_overlong}
use Rattle.city_scripts.specs.CommandFaults.{is_bad_command}
use Rattle.city_scripts.specs.Faults.{IsBadScript}
use Rattle.city_scripts.specs.internal.Told.{told, bad_script_at, bad_scripts, numbered, numbered_view}
use Rattle.city_scripts.specs.internal.Told.{too_many, Finder}
use Rattle.city_scripts.specs.internal.Forms.{parts_view}
use Rattle.city_scripts.specs.internal.Told.{only_where, bad_command, bad_vertex, command_at, told_in, told_each}
use Rattle.city_scripts.specs.internal.Searches.{unless}
use Rattle.city_doc.proofs.FaultLists.{listed_parts, listed_first, listed_last, ordered_append, those_alike, those_or}
use Rattle.city_doc.proofs.FaultLists.{one_alone, none_there}
use Rattle.city_scripts.proofs.FirstFaults.{unless_some}

-- ---- items with numbers

module _ {A F : Type 0} (find : ℕ → A → List F) where
  -- it is found at an item
  abbrev pub IsFound : ℕ → List A → F → Type 0
  IsFound n xs f = (j : ℕ) × (x : A) × (slice_get xs j ≡ Some x) × IsListed (find (n + j) x) f

  pub listed_found : (n : ℕ) (xs : List A) (f : F) → IsListed (told find n xs) f → IsFound n xs f
  listed_found n [] f h = absurd h
  listed_found n (x ∷ xs) f h = elim (listed_parts (find n x) (told find (n + 1) xs) f h) [
    | inl here ↦ (0, x, refl, subst (λ k. IsListed (find k x) f) (omega arith) here)
    | inr later ↦ let r = listed_found (n + 1) xs f later in
        (suc r.0, r.1, r.2, subst (λ k. IsListed (find k r.1) f) (omega arith) r.3)
  ]

  pub found_listed : (n : ℕ) (xs : List A) (f : F) (j : ℕ) (x : A) → slice_get xs j ≡ Some x
      → IsListed (find (n + j) x) f → IsListed (told find n xs) f
  found_listed n [] f j x at h = absurd (let none : ⊥ = cc in none)
  found_listed n (y ∷ xs) f zero x at h =
      let same : x ≡ y = cc in
      listed_first (find n y) (told find (n + 1) xs) f
      (subst (λ z. IsListed (find n z) f) same (subst (λ k. IsListed (find k x) f) (omega arith) h))
  found_listed n (y ∷ xs) f (suc j) x at h = listed_last (find n y) (told find (n + 1) xs) f
      (found_listed (n + 1) xs f j x at (subst (λ k. IsListed (find k x) f) (omega arith) h))

  pub told_ordered : (before : F → F → Type 0) → ((n : ℕ) (x : A) → AreOrderedBy before (find n x))
      → ((j k : ℕ) (x y : A) (f g : F) → j < k → IsListed (find j x) f → IsListed (find k y) g → before f g) → (n : ℕ)
      (xs : List A) → AreOrderedBy before (told find n xs)
  told_ordered before each between n [] = tt
  told_ordered before each between n (x ∷ xs) = ordered_append before (find n x) (told find (n + 1) xs) (each n x)
      (told_ordered before each between (n + 1) xs)
      (λ f g h k. let r = listed_found (n + 1) xs g k in
      between n (n + 1 + r.0) x r.1 f g (omega arith) h r.3)

one_ordered : {F : Type 0} (before : F → F → Type 0) (o : Option F) → AreOrderedBy before (option_to_list o)
one_ordered before None = tt
one_ordered before (Some f) = (tt, tt)

listed_some : {F : Type 0} (o : Option F) (f : F) → IsListed (option_to_list o) f → o ≡ Some f
listed_some None f h = absurd h
listed_some (Some g) f (inl same) = ap Some (sym same)
listed_some (Some g) f (inr none) = absurd none

some_listed : {F : Type 0} (o : Option F) (f : F) → o ≡ Some f → IsListed (option_to_list o) f
some_listed o f is = subst (λ o. IsListed (option_to_list o) f) (sym is) (inl refl)

where_some : (b : Bool) (g f : ScriptFault) → only_where b g ≡ Some f → (b ≡ true) × (f ≡ g)
where_some b g f h = grind arith

-- ---- items without the form of a script

unless_none : {A B : Type 0} (o : Option A) (y : B) → o ≡ None → unless o y ≡ Some y
unless_none o y h = rw h refl

module _ (ds : List Data) where
  abbrev pub IsBadScriptFault : ScriptFault → Type 0
  IsBadScriptFault f = (n : ℕ) × (f ≡ BadScript n) × IsBadScript ds n

  bad_parts : (n : ℕ) (d : Data) (f : ScriptFault) → IsListed (bad_script_at n d) f
      → (parts_of d ≡ None) × (f ≡ BadScript n)
  bad_parts n d f h = unless_some (parts_of d) (BadScript n) f (listed_some _ f h)

  bad_between : (j k : ℕ) (x y : Data) (f g : ScriptFault) → j < k → IsListed (bad_script_at j x) f
      → IsListed (bad_script_at k y) g → IsBefore f g
  bad_between j k x y f g lt h m =
      rw ((bad_parts j x f h).1, (bad_parts k y g m).1) (inr (refl, inl lt))

  pub bad_scripts_told : AreThose IsBadScriptFault (bad_scripts 0 ds)
  bad_scripts_told = record {
    stand = λ f h.
        let r = listed_found bad_script_at 0 ds f h in
        let b = bad_parts (0 + r.0) r.1 f r.3 in
        (r.0, b.1 ∙ ap BadScript (zero-add r.0), (r.1, r.2, b.0));
    all = λ f h.
        let is = sym (h.1 ∙ ap BadScript (sym (zero-add h.0))) in
        found_listed bad_script_at 0 ds f h.0 (h.2).0 (h.2).1
        (subst (IsListed (bad_script_at (0 + h.0) (h.2).0)) is
        (some_listed _ _ (unless_none (parts_of (h.2).0) (BadScript (0 + h.0)) (h.2).2)));
    in_order = told_ordered bad_script_at IsBefore (λ n d. one_ordered IsBefore _) bad_between 0 ds;
  }

  abbrev pub IsTooManyFault : ScriptFault → Type 0
  IsTooManyFault f = (f ≡ TooMany) × (are_too_many ds ≡ true)

  many_told : (b : Bool) → are_too_many ds ≡ b → AreThose IsTooManyFault (too_many ds)
  many_told true is = rw is (one_alone IsTooManyFault TooMany (refl, is) (λ g h. h.0))
  many_told false is = rw is (none_there IsTooManyFault (λ f h. let other = h.1 in cc))

  pub too_many-true : are_too_many ds ≡ true → too_many ds ≡ TooMany ∷ []
  too_many-true is = rw is refl

  pub too_many_told : AreThose IsTooManyFault (too_many ds)
  too_many_told = many_told (are_too_many ds) refl

-- a kept form has too many commands exactly if an item has
long_step : (n : ℕ) (o : Option ScriptParts) (rest : List (ℕ × ScriptParts))
    → list_any (λ (q : ℕ × ScriptParts). has_too_many_commands q.1)
    (option_to_list (option_map (λ p. (n, p)) o) ++ rest)
    ≡ (is_overlong o || list_any (λ (q : ℕ × ScriptParts). has_too_many_commands q.1) rest)
long_step n None rest = refl
long_step n (Some p) rest = refl

long_numbered : (n : ℕ) (ds : List Data)
    → list_any (λ (q : ℕ × ScriptParts). has_too_many_commands q.1) (numbered n ds)
    ≡ list_any (λ d. is_overlong (parts_of d)) ds
long_numbered n [] = refl
long_numbered n (d ∷ ds) = long_step n (parts_of d) (numbered (n + 1) ds)
    ∙ ap (λ b. is_overlong (parts_of d) || b) (long_numbered (n + 1) ds)

long_forms : (fs : List NumberedForm) → list_any (λ f. has_too_many_commands (parts_view f.form)) fs
    ≡ list_any (λ (q : ℕ × ScriptParts). has_too_many_commands q.1) (map numbered_view fs)
long_forms [] = refl
long_forms (f ∷ fs) = ap (λ b. has_too_many_commands (parts_view f.form) || b) (long_forms fs)

pub are_many : (fs : List NumberedForm) (ds : List Data) (count : ℕ) → map numbered_view fs ≡ numbered 0 ds
    → length ds ≡ count
    → (nat_lt max_scripts count || list_any (λ f. has_too_many_commands (parts_view f.form)) fs) ≡ are_too_many ds
are_many fs ds count same as_many = ap₂ (λ a b. a || b) (ap (nat_lt max_scripts) (sym as_many))
    (long_forms fs ∙ ap (list_any (λ (q : ℕ × ScriptParts). has_too_many_commands q.1)) same ∙ long_numbered 0 ds)

-- ---- commands

abbrev item_told : Finder → ℕ → Option ScriptParts → List ScriptFault
item_told find n None = []
item_told find n (Some p) = told_in find n p

each_step : (find : Finder) (n : ℕ) (o : Option ScriptParts) (rest : List (ℕ × ScriptParts))
    → told_each find (option_to_list (option_map (λ p. (n, p)) o) ++ rest)
    ≡ item_told find n o ++ told_each find rest
each_step find n None rest = refl
each_step find n (Some p) rest = refl

each_item : (find : Finder) (n : ℕ) (ds : List Data)
    → told_each find (numbered n ds) ≡ told (λ n d. item_told find n (parts_of d)) n ds
each_item find n [] = refl
each_item find n (d ∷ ds) = each_step find n (parts_of d) (numbered (n + 1) ds)
    ∙ ap (λ fs. item_told find n (parts_of d) ++ fs) (each_item find (n + 1) ds)

-- a test of commands, the fault of a command if it passes, and the order of these
module _ (test : ℕ → Data → Bool) (kind : ℕ → ℕ → ScriptFault)
    (scripts : (j k i l : ℕ) → j < k → IsBefore (kind j i) (kind k l))
    (commands : (n i l : ℕ) → i < l → IsBefore (kind n i) (kind n l)) where
  abbrev find : Finder
  find vertices n i d = only_where (test vertices d) (kind n i)

  -- the fault of a command of this script
  abbrev IsIn : ℕ → ScriptParts → ScriptFault → Type 0
  IsIn n p f =
      (i : ℕ) × (d : Data) × (slice_get p.commands i ≡ Some d) × (test (vertex_count p.vertices) d ≡ true)
      × (f ≡ kind n i)

  command_found : (n : ℕ) (p : ScriptParts) (f : ScriptFault) → IsListed (told_in find n p) f → IsIn n p f
  command_found n p f h =
      let r = listed_found (command_at find n p) 0 p.commands f h in
      let w = where_some _ _ f (listed_some _ f r.3) in
      (r.0, r.1, r.2, w.0, w.1 ∙ ap (kind n) (zero-add r.0))

  command_listed : (n : ℕ) (p : ScriptParts) (f : ScriptFault) → IsIn n p f → IsListed (told_in find n p) f
  command_listed n p f (i, d, at, has, is) =
      let there : find (vertex_count p.vertices) n (0 + i) d ≡ Some f =
      ap (λ b. only_where b (kind n (0 + i))) has ∙ ap (λ i. Some (kind n i)) (zero-add i) ∙ ap Some (sym is) in
      found_listed (command_at find n p) 0 p.commands f i d at (some_listed _ f there)

  commands_ordered : (n : ℕ) (p : ScriptParts) → AreOrderedBy IsBefore (told_in find n p)
  commands_ordered n p = told_ordered (command_at find n p) IsBefore
      (λ i d. one_ordered IsBefore _) between 0 p.commands
    where
      between : (i l : ℕ) (x y : Data) (f g : ScriptFault) → i < l → IsListed (command_at find n p i x) f
          → IsListed (command_at find n p l y) g → IsBefore f g
      between i l x y f g lt h m =
          rw ((where_some _ _ f (listed_some _ f h)).1, (where_some _ _ g (listed_some _ g m)).1) (commands n i l lt)

  item_found : (n : ℕ) (o : Option ScriptParts) (f : ScriptFault) → IsListed (item_told find n o) f
      → (p : ScriptParts) × (o ≡ Some p) × IsIn n p f
  item_found n None f h = absurd h
  item_found n (Some p) f h = (p, refl, command_found n p f h)

  item_ordered : (n : ℕ) (o : Option ScriptParts) → AreOrderedBy IsBefore (item_told find n o)
  item_ordered n None = tt
  item_ordered n (Some p) = commands_ordered n p

  items_between : (j k : ℕ) (x y : Data) (f g : ScriptFault) → j < k → IsListed (item_told find j (parts_of x)) f
      → IsListed (item_told find k (parts_of y)) g → IsBefore f g
  items_between j k x y f g lt h m =
      let a = (item_found j (parts_of x) f h).2 in
      let b = (item_found k (parts_of y) g m).2 in
      rw (a.4, b.4) (scripts j k a.0 b.0 lt)

  module _ (ds : List Data) where
    abbrev pub IsCommandFault : ScriptFault → Type 0
    IsCommandFault f = (n : ℕ) × (i : ℕ) × (f ≡ kind n i) × HasAt test ds n i

    abbrev at_item : ℕ → Data → List ScriptFault
    at_item n d = item_told find n (parts_of d)

    told_found : (f : ScriptFault) → IsListed (told at_item 0 ds) f → IsCommandFault f
    told_found f h =
        let r = listed_found at_item 0 ds f h in
        let m = item_found (0 + r.0) (parts_of r.1) f r.3 in
        let c = m.2 in
        (r.0, c.0, c.4 ∙ ap (λ n. kind n c.0) (zero-add r.0), (r.1, m.0, c.1, r.2, m.1, c.2, c.3))

    found_told : (f : ScriptFault) → IsCommandFault f → IsListed (told at_item 0 ds) f
    found_told f (n, i, is, (s, p, d, at, parts, there, has)) =
        let here = command_listed (0 + n) p f (i, d, there, has, is ∙ ap (λ n. kind n i) (sym (zero-add n))) in
        found_listed at_item 0 ds f n s at
        (subst (λ o. IsListed (item_told find (0 + n) o) f) (sym parts) here)

    pub commands_told : AreThose IsCommandFault (told_each find (numbered 0 ds))
    commands_told = rw (each_item find 0 ds) (record {
      stand = told_found;
      all = found_told;
      in_order = told_ordered at_item IsBefore (λ n d. item_ordered n (parts_of d)) items_between 0 ds;
    })

-- ---- all of them

module _ (ds : List Data) where
  abbrev IsBad : ScriptFault → Type 0
  IsBad f = (n : ℕ) × (i : ℕ) × (f ≡ BadCommand n i) × HasAt (λ count d. is_bad_command d) ds n i

  abbrev IsMisplaced : ScriptFault → Type 0
  IsMisplaced f = (n : ℕ) × (i : ℕ) × (f ≡ BadVertex n i) × HasAt is_misplaced ds n i

  bad_told : AreThose IsBad (told_each bad_command (numbered 0 ds))
  bad_told = commands_told (λ count d. is_bad_command d) BadCommand (λ j k i l lt. inr (refl, inl lt))
      (λ n i l lt. inr (refl, inr (refl, lt))) ds

  misplaced_told : AreThose IsMisplaced (told_each bad_vertex (numbered 0 ds))
  misplaced_told = commands_told is_misplaced BadVertex (λ j k i l lt. inr (refl, inl lt))
      (λ n i l lt. inr (refl, inr (refl, lt))) ds

  abbrev IsAny : ScriptFault → Type 0
  IsAny f = ((IsBadScriptFault ds f ⊎ IsTooManyFault ds f) ⊎ IsBad f) ⊎ IsMisplaced f

  stands_any : (f : ScriptFault) → IsAny f → StandsAt ds f
  stands_any f (inl (inl (inl h))) = subst (StandsAt ds) (sym h.1) h.2
  stands_any f (inl (inl (inr h))) = subst (StandsAt ds) (sym h.0) h.1
  stands_any f (inl (inr h)) = subst (StandsAt ds) (sym h.2) h.3
  stands_any f (inr h) = subst (StandsAt ds) (sym h.2) h.3

  any_stands : (f : ScriptFault) → StandsAt ds f → IsAny f
  any_stands OutOfMemory h = absurd h
  any_stands TooLong h = absurd h
  any_stands NotJson h = absurd h
  any_stands NotWhole h = absurd h
  any_stands NotScripts h = absurd h
  any_stands (BadScript n) h = inl (inl (inl (n, refl, h)))
  any_stands TooMany h = inl (inl (inr (refl, h)))
  any_stands (BadCommand n i) h = inl (inr (n, i, refl, h))
  any_stands (BadVertex n i) h = inr (n, i, refl, h)

  behind_scripts : (f g : ScriptFault) → IsBadScriptFault ds f → IsTooManyFault ds g → IsBefore f g
  behind_scripts f g h k = rw (h.1, k.0) (inl (search (arith)))

  behind_many : (f g : ScriptFault) → IsBadScriptFault ds f ⊎ IsTooManyFault ds f → IsBad g → IsBefore f g
  behind_many f g (inl h) k = rw (h.1, k.2) (inl (search (arith)))
  behind_many f g (inr h) k = rw (h.0, k.2) (inl (search (arith)))

  behind_bad : (f g : ScriptFault) → (IsBadScriptFault ds f ⊎ IsTooManyFault ds f) ⊎ IsBad f → IsMisplaced g
      → IsBefore f g
  behind_bad f g (inl (inl h)) k = rw (h.1, k.2) (inl (search (arith)))
  behind_bad f g (inl (inr h)) k = rw (h.0, k.2) (inl (search (arith)))
  behind_bad f g (inr h) k = rw (h.2, k.2) (inl (search (arith)))

  pub all_told : AreThose (StandsAt ds) (((bad_scripts 0 ds ++ too_many ds) ++ told_each bad_command (numbered 0 ds))
      ++ told_each bad_vertex (numbered 0 ds))
  all_told =
      let a = those_or (IsBadScriptFault ds) (IsTooManyFault ds) _ _ behind_scripts (bad_scripts_told ds)
      (too_many_told ds) in
      let b = those_or _ IsBad _ _ behind_many a bad_told in
      those_alike IsAny (StandsAt ds) _ stands_any any_stands (those_or _ IsMisplaced _ _ behind_bad b misplaced_told)
