-- The reader's answer is the first fault of an array of scripts.
use Rattle.city_scripts.proofs.Prelude.{◌≡◌, ℕ, ◌+◌, ◌<◌, List, Bool, true, false, Some, None, Option, refl, sym, ap}
use Rattle.city_scripts.proofs.Prelude.{subst, ◌∙◌, inl, inr, arith, slice_get, option_map, Data, is_bad_command}
use Rattle.city_scripts.proofs.Prelude.{names_bad_vertex, ScriptParts, vertex_count, parts_of, first_at, bad_script}
use Rattle.city_scripts.proofs.Prelude.{index_if, first_in, index_in, first_command}
use Rattle.std.proofs.Common.{zero-add}
use Rattle.std.specs.Prelude.{◌⊎◌}
use Rattle.city_scripts.specs.declared.fault.ScriptFault.{ScriptFault}
use Rattle.city_scripts.specs.declared.fault.ScriptFault.TheVariants.{OutOfMemory, BadCommand, BadVertex, BadScript}
use Rattle.city_tokens.specs.script.Scripts.{are_too_many}
use Rattle.city_scripts.specs.Faults.{HasAt, IsBefore, IsFirstAt, PartsFault, ItemsFault}
use Rattle.city_scripts.specs.internal.Searches.{unless}
use Rattle.city_scripts.proofs.FirstAt.{first_at-is, first_at-none}

pub unless_some : {A B : Type 0} (o : Option A) (y z : B) → unless o y ≡ Some z → (o ≡ None) × (z ≡ y)
unless_some o y z h = grind arith

unless_none : {A B : Type 0} (o : Option A) (y : B) → unless o y ≡ None → o ≡ None → ⊥
unless_none o y h e = grind arith

pub first_bad_script : (ds : List Data) (f : ScriptFault) → first_at bad_script 0 ds ≡ Some f → ItemsFault ds f
first_bad_script ds f h =
    let r = first_at-is bad_script 0 ds f h in
    let bad = unless_some (parts_of r.x) (BadScript (0 + r.index)) f r.found in
    inl (
      r.index,
      bad.1 ∙ ap BadScript (zero-add r.index),
      (
        (r.x, r.there, bad.0),
        λ k lower other. unless_none (parts_of other.0) (BadScript (0 + k)) (r.before k other.0 lower other.1)
            other.2,
      ),
    )

none_in : (test : ℕ → Data → Bool) (p : ScriptParts) (j : ℕ) (d : Data)
    → first_in test (vertex_count p.vertices) p.commands ≡ None → slice_get p.commands j ≡ Some d
    → test (vertex_count p.vertices) d ≡ true → ⊥
none_in test p j d none at has =
    let no = first_at-none (index_if (test (vertex_count p.vertices))) 0 p.commands none j d at in
    grind arith

pub first_command-none : (test : ℕ → Data → Bool) (ps : List ScriptParts) → first_command test ps ≡ None → (n i : ℕ)
    → HasAt test ps n i → ⊥
first_command-none test ps none n i has =
    let no = first_at-none (index_in test) 0 ps none n has.0 has.2 in
    grind (arith, none_in)

paired : (o : Option ℕ) (m n i : ℕ) → option_map {U = ℕ × ℕ} (λ j. (m, j)) o ≡ Some (n, i)
    → (o ≡ Some i) × (m ≡ n)
paired o m n i h = grind arith

none_before : (test : ℕ → Data → Bool) (ps : List ScriptParts) (p : ScriptParts) (n i k j : ℕ) → slice_get ps n ≡ Some p
    → ((l : ℕ) (q : ScriptParts) → l < n → slice_get ps l ≡ Some q → index_in test (0 + l) q ≡ None)
    → ((l : ℕ) (d : Data) → l < i → slice_get p.commands l ≡ Some d
    → index_if (test (vertex_count p.vertices)) (0 + l) d ≡ None)
    → IsBefore k j n i → HasAt test ps k j → ⊥
none_before test ps p n i k j there scripts commands (inl lower) has =
    let none = scripts k has.0 lower has.2 in
    none_in test has.0 j has.1 (grind arith) has.3 has.4
none_before test ps p n i k j there scripts commands (inr same) has =
    let both : Some has.0 ≡ Some p = sym has.2 ∙ ap (slice_get ps) same.0 ∙ there in
    let is : has.0 ≡ p = cc in
    let none = commands j has.1 same.1 (sym (ap (λ (q : ScriptParts). slice_get q.commands j) is) ∙ has.3) in
    let still = sym (ap (λ (q : ScriptParts). test (vertex_count q.vertices) has.1) is) ∙ has.4 in
    grind arith

pub first_command-is : (test : ℕ → Data → Bool) (ps : List ScriptParts) (n i : ℕ) → first_command test ps ≡ Some (n, i)
    → IsFirstAt test ps n i
first_command-is test ps n i h =
    let r = first_at-is (index_in test) 0 ps (n, i) h in
    let found = paired (first_in test (vertex_count r.x.vertices) r.x.commands) (0 + r.index) n i r.found in
    let q = first_at-is (index_if (test (vertex_count r.x.vertices))) 0 r.x.commands i found.0 in
    let has : (test (vertex_count r.x.vertices) q.x ≡ true) × (q.index ≡ i) = grind arith in
    let first : IsFirstAt test ps r.index q.index = (
      (r.x, q.x, r.there, q.there, has.0),
      λ k j. none_before test ps r.x r.index q.index k j r.there r.before q.before,
    ) in
    subst (λ m. IsFirstAt test ps m i) (sym (zero-add r.index) ∙ found.1)
    (subst (λ m. IsFirstAt test ps r.index m) has.1 first)

pub bad_command-fault : (ps : List ScriptParts) (n i : ℕ) → are_too_many ps ≡ false
    → first_command (λ count d. is_bad_command d) ps ≡ Some (n, i) → PartsFault ps (BadCommand n i)
bad_command-fault ps n i few h = inr (inl (n, i, refl, few, first_command-is (λ count d. is_bad_command d) ps n i h))

pub bad_vertex-fault : (ps : List ScriptParts) (n i : ℕ) → are_too_many ps ≡ false
    → first_command (λ count d. is_bad_command d) ps ≡ None → first_command names_bad_vertex ps ≡ Some (n, i)
    → PartsFault ps (BadVertex n i)
bad_vertex-fault ps n i few good h =
    let none = first_command-none (λ count d. is_bad_command d) ps good in
    inr (inr (n, i, refl, few, none, first_command-is names_bad_vertex ps n i h))

pub script_fault_or : (ds : List Data) (f : ScriptFault) → (f ≡ OutOfMemory) ⊎ (first_at bad_script 0 ds ≡ Some f)
    → (f ≡ OutOfMemory) ⊎ ItemsFault ds f
script_fault_or ds f (inl h) = inl h
script_fault_or ds f (inr h) = inr (first_bad_script ds f h)
