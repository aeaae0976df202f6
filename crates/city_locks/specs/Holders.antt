-- The wait-die answer among the holders of one id.
use Rattle.std.specs.Prelude.{◌≡◌, ℕ, ◌==◌, nat_lt, Bool, ◌&&◌, ◌||◌, not, cond, Option, None, Some}
use Rattle.std.specs.Prelude.{List, [], ◌∷◌, filter}
use Rattle.std.specs.List.{list_any, list_all}
use Rattle.city_model.specs.declared.mode.Mode.{Mode}
use Rattle.city_locks.specs.declared.answer.Answer.{Answer}
use Rattle.city_locks.specs.declared.answer.Answer.TheVariants.{Granted, Wait, Die}
use Rattle.city_locks.specs.declared.holders.Holder.{Holder}
use Rattle.city_model.specs.Mode.{is_exclusive}
use Rattle.city_locks.specs.Mode.{stronger}

-- whether it is another holder than the asker, and one of the two modes is exclusive
abbrev pub in_conflict : ℕ → Mode → Holder → Bool
in_conflict stamp mode h = not (h.stamp == stamp) && (is_exclusive mode || is_exclusive h.mode)

-- not in conflict, or younger than the asker
abbrev pub gives_way : ℕ → Mode → Holder → Bool
gives_way stamp mode h = not (in_conflict stamp mode h) || nat_lt stamp h.stamp

-- granted if no holder is in conflict, wait if the asker is older than all in conflict, else die
abbrev pub answer_among : List Holder → ℕ → Mode → Answer
answer_among holders stamp mode =
    cond (list_any (in_conflict stamp mode) holders)
    (cond (list_all (gives_way stamp mode) holders) Wait Die)
    Granted

-- the mode of the stamp among the holders
abbrev pub mode_among : List Holder → ℕ → Option Mode
mode_among [] stamp = None
mode_among (h ∷ hs) stamp = cond (h.stamp == stamp) (Some h.mode) (mode_among hs stamp)

-- the holders with the stamp among them, in the stronger mode
abbrev pub with_holder : List Holder → ℕ → Mode → List Holder
with_holder [] stamp mode = (record { stamp = stamp; mode = mode }) ∷ []
with_holder (h ∷ hs) stamp mode =
    cond (h.stamp == stamp)
    ((record { stamp = stamp; mode = stronger mode (Some h.mode) }) ∷ hs)
    (h ∷ with_holder hs stamp mode)

-- the other holders
abbrev pub without : List Holder → ℕ → List Holder
without holders stamp = filter (λ h. not (h.stamp == stamp)) holders

-- each stamp stands once among the holders
abbrev pub Once : List Holder → Type 0
Once [] = Unit {0}
Once (h ∷ hs) = (mode_among hs h.stamp ≡ None) × Once hs
