-- Lists of the trees of commands: the end of a script, and the parts taken out of its members.
use Rattle.city_scripts.proofs.Prelude.{◌≡◌, ℕ, ◌+◌, ◌<◌, List, true, length, map, drop, get_or, Option, Some, [], ◌∷◌}
use Rattle.city_scripts.proofs.Prelude.{suc, ◌∙◌, arith, refl, codes, Data, Members, get_member, without}
use Rattle.city_scripts.proofs.Prelude.{get_member-without, word_ends, commands_in, parts_in}
use Rattle.std.proofs.Common.{option_map, length-drop}
use Rattle.std.specs.Prelude.{◌==◌}
use Rattle.std.proofs.Math.Seq.{drop-cons}
use Rattle.city_tokens.specs.script.CommandForms.{text_in}
use Rattle.city_tokens.specs.script.Scripts.{is_end_word, is_last}
use Rattle.city_model.proofs.Endings.{zero_rest}

is_last-length : {A : Type 0} (f : A → Data) (xs : List A) (n : ℕ) → length xs ≡ n → is_last (map f xs) ≡ (n == 0)
is_last-length f [] n e = grind (arith, e)
is_last-length f (x ∷ xs) n e = grind (arith, e)

-- a word that ends a script is the last tree, or no script has this list
pub word_ends-drop : {A : Type 0} (f : A → Data) (xs : List A) (i : ℕ) (x : A) → i < length xs → x ≡ get_or xs i x
    → is_end_word (f x) ≡ true
    → word_ends (map f (drop i xs)) ≡ (i + 1 == length xs)
word_ends-drop f xs i x h at end =
    rw (drop-cons xs i x h, ← at, end) (is_last-length f (drop (suc i) xs) _ refl
    ∙ zero_rest (i + 1) (length xs) (length (drop (suc i) xs)) (omega arith) (length-drop (suc i) xs ∙ omega arith))

-- the commands, looked up after the name is taken out, and the vertices after both
pub parts-taken : (ms rest last : Members) (name : List ℕ) (o : Option (List Data)) (v : Option Data)
    → text_in (codes "name") ms ≡ Some name → rest ≡ without (codes "name") ms
    → o ≡ commands_in rest → last ≡ without (codes "commands") rest → v ≡ get_member (codes "vertices") last
    → parts_in ms ≡ option_map (λ cs. record { name = name; commands = cs; vertices = v }) o
parts-taken ms rest last name o v named left commands gone vertices =
    rw (commands, left, vertices, gone, left, named) (simp get_member-without)
