-- Commands of a script answered one by one, and places that were read.
use Rattle.std.specs.Prelude.{◌≡◌, ◌++◌, ◌∷◌, ℕ, List, [], true, Option, None, Some, refl, length}
use Rattle.std.specs.Prelude.{slice_get}
use Rattle.std.specs.Prelude.{ltb, get_or, ◌<◌}
use Rattle.std.proofs.Common.{◌∙◌, ap, arith}
use Rattle.std.proofs.lemmas.Option.{slice_get_read}
use Rattle.std.proofs.lemmas.List.{append-nil}
use Rattle.city_model.specs.declared.command.Command.{Command}
use Rattle.city_model.specs.declared.command.Reply.{Reply}
use Rattle.city_live.specs.Heard.{answered_by, refused_at, script_told}

pub some_same : {A : Type 0} (a b : A) → Some a ≡ Some b → a ≡ b
some_same a b e = cc

none_answered : (cs : List Command) → answered_by cs [] ≡ []
none_answered [] = refl
none_answered (c ∷ cs) = refl

-- one reply more, where it is the next command's
pub one_reply : (cs : List Command) (rs : List Reply) (c : Command) (r : Reply) → slice_get cs (length rs) ≡ Some c
    → answered_by cs (rs ++ r ∷ []) ≡ answered_by cs rs ++ (c, r) ∷ []
one_reply [] [] c r h = absurd (cc)
one_reply [] (x ∷ rs) c r h = absurd (cc)
one_reply (d ∷ cs) [] c r h = ap (λ l. (d, r) ∷ l) (none_answered cs) ∙ ap (λ x. (x, r) ∷ []) (some_same d c h)
one_reply (d ∷ cs) (x ∷ rs) c r h = ap (λ l. (d, x) ∷ l) (one_reply cs rs c r h)

unrefused_told : (o : Option Command) → refused_at o None ≡ []
unrefused_told None = refl
unrefused_told (Some c) = refl

-- so far none was refused
pub told_plainly : (cs : List Command) (rs : List Reply) → script_told cs rs None ≡ answered_by cs rs
told_plainly cs rs =
    ap (λ l. answered_by cs rs ++ l) (unrefused_told (slice_get cs (length rs))) ∙ append-nil (answered_by cs rs)

lt_of : (a b : ℕ) → true ≡ ltb a b → a < b
lt_of a b e = grind arith

-- a place that was read
pub read_at : {A : Type 0} (xs : List A) (i : ℕ) (x : A) → true ≡ ltb i (length xs) → x ≡ get_or xs i x
    → slice_get xs i ≡ Some x
read_at xs i x e g = slice_get_read xs (length xs) i x refl (lt_of i (length xs) e) g
