-- Scripts built or read item by item are the scripts of the whole array.
use Rattle.city_tokens.proofs.Prelude.{◌≡◌, ℕ, ◌<◌, ◌≤◌, List, [], ◌∷◌, length, map, Option, Some, None, option_map}
use Rattle.city_tokens.proofs.Prelude.{refl, sym, ◌∙◌, arith, option_and_then, if◌then◌else◌, length-map, Data}
use Rattle.city_tokens.proofs.Prelude.{all_read, array_of, read_items, items_of, Pairs, IsArrayOf, IsScript}
use Rattle.std.specs.List.{list_any}
use Rattle.city_model.specs.Runs.{Scripted}
use Rattle.city_tokens.specs.internal.ScriptItems.{has_too_many_commands, fit_script_of, script_of_item}
use Rattle.city_tokens.specs.script.Scripts.{ScriptParts, parts_of, script_of, max_scripts, scripts_of_parts}
use Rattle.city_tokens.specs.script.Scripts.{scripts_of}
use Rattle.city_tokens.proofs.tree.AllRead.{all_read-length}
use Rattle.city_tokens.proofs.tree.IntegralParts.{items_list-of}

-- the scripts of these parts, if none has too many commands
abbrev fit_scripts_of : List ScriptParts → Option (List Scripted)
fit_scripts_of ps = if list_any has_too_many_commands ps then None else all_read script_of ps

fit_step : (p : Option ScriptParts) (o : Option (List ScriptParts))
    → option_and_then (λ y. option_map (λ ys. y ∷ ys) (option_and_then fit_scripts_of o))
    (option_and_then fit_script_of p) ≡ option_and_then fit_scripts_of
    (option_and_then (λ q. option_map (λ qs. q ∷ qs) o) p)
fit_step p o = grind arith

fit_scripts : (ds : List Data) → all_read script_of_item ds ≡ option_and_then fit_scripts_of (all_read parts_of ds)
fit_scripts [] = refl
fit_scripts (d ∷ ds) = rw (fit_scripts ds) (fit_step (parts_of d) (all_read parts_of ds))

few_fit : (o : Option (List ScriptParts)) → ((ps : List ScriptParts) → o ≡ Some ps → length ps ≤ max_scripts)
    → option_and_then scripts_of_parts o ≡ option_and_then fit_scripts_of o
few_fit o few = grind arith

none_fit : (o : Option (List ScriptParts)) → ((ps : List ScriptParts) → o ≡ Some ps → max_scripts < length ps)
    → option_and_then scripts_of_parts o ≡ None
none_fit o many = grind arith

pub few_built : (ds : List Data) → length ds ≤ max_scripts
    → option_and_then scripts_of_parts (all_read parts_of ds) ≡ all_read script_of_item ds
few_built ds few =
    few_fit (all_read parts_of ds) (λ ps h. omega (arith, all_read-length parts_of ds ps h)) ∙ sym (fit_scripts ds)

-- the scripts of an array of n items
built_array : {A : Type 0} (f : A → Data) (d : Data) (xs : List A) → Some (map f xs) ≡ array_of d
    → scripts_of d ≡ option_and_then scripts_of_parts (all_read parts_of (map f xs))
built_array f d xs is = rw (← is) refl

pub built_many : {A : Type 0} (f : A → Data) (d : Data) (xs : List A) (n : ℕ) → Some (map f xs) ≡ array_of d
    → n ≡ length xs → max_scripts < n → None ≡ scripts_of d
built_many f d xs n is count many =
    sym (built_array f d xs is
    ∙ none_fit (all_read parts_of (map f xs))
    (λ ps h. omega (arith, all_read-length parts_of (map f xs) ps h, length-map xs f)))

pub built_few : {A : Type 0} (f : A → Data) (d : Data) (xs : List A) (n : ℕ) → Some (map f xs) ≡ array_of d
    → n ≡ length xs → n ≤ max_scripts → scripts_of d ≡ all_read script_of_item (map f xs)
built_few f d xs n is count few = built_array f d xs is ∙ few_built (map f xs) (omega (arith, length-map xs f))

-- the items of an array, as a plain list
pub all_items : {A : Type 0} (read : Data → Option A) (ds : List Data)
    → read_items read (items_of ds) ≡ all_read read ds
all_items read [] = refl
all_items read (d ∷ ds) = rw (all_items read ds) refl

all_scripts : (ss : List Scripted) (ds : List Data) → Pairs IsScript ss ds → all_read script_of_item ds ≡ Some ss
all_scripts [] [] h = refl
all_scripts (s ∷ ss) (d ∷ ds) h = rw (h.0, all_scripts ss ds h.1) refl
all_scripts _ _ h = absurd h

-- the scripts of an array, if it isn't too long
pub scripts_read : (ss : List Scripted) (d : Data) → length ss ≤ max_scripts → IsArrayOf IsScript ss d
    → scripts_of d ≡ Some ss
scripts_read ss d short h =
    let read = all_scripts ss h.0 h.2 in
    let few : length h.0 ≤ max_scripts = omega (arith, all_read-length script_of_item h.0 ss read) in
    rw (h.1, items_list-of h.0) (few_built h.0 few ∙ read)
