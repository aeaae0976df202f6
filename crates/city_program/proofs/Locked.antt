-- What isn't answered while the output file is locked isn't answered from before the lock to behind the unlock.
use Rattle.city_program.proofs.Prelude.{◌≡◌, ◌++◌, ◌∷◌, ◌∙◌, ℕ, Bool, List, [], Option, Some, ap, subst, sym, Asked}
use Rattle.city_program.proofs.Prelude.{ServeFault}
use Rattle.city_serve.proofs.Taken.{takes_more}
use Rattle.city_serve.specs.Destinations.{Folder}
use Rattle.city_serve.specs.Steps.{Step, Takes, Locked, Unlocked, under_lock}
use Rattle.city_program.specs.Programs.{Streams, IsUnansweredBy}

-- the streams with other steps
abbrev pub with_steps : Streams → Option (List Step) → Option (List Step) → Streams
with_steps s begun ended = record s { begun = begun; ended = ended }

-- the steps that the streams have say nothing of the fault
unanswered_beside : (s : Streams) (begun ended : Option (List Step)) (asked : Asked) (f : ServeFault)
    (steps : List Step) → IsUnansweredBy s asked f steps → IsUnansweredBy (with_steps s begun ended) asked f steps
unanswered_beside s begun ended (Asked.Text text) f steps is = is
unanswered_beside s begun ended asked f steps is = is

-- the lock and the unlock change no text, and refuse no step
module _ (s : Streams) (before after : Folder) (failed : Bool) (begun ended : Option (List Step))
    (first : s.before ≡ before) (last : after ≡ s.after) (same : failed ≡ s.files_failed) where
  abbrev pub outside : Streams
  outside = record s {
    before = before;
    after = after;
    files_failed = failed;
    begun = begun;
    ended = ended;
  }

  outside_is : with_steps s begun ended ≡ outside
  outside_is =
      ap (λ (x : Folder). record s { before = x; begun = begun; ended = ended }) first
      ∙ ap (λ (x : Folder). record s { before = before; after = x; begun = begun; ended = ended }) (sym last)
      ∙ ap (λ (x : Bool). record s {
        before = before;
        after = after;
        files_failed = x;
        begun = begun;
        ended = ended;
      }) (sym same)

  pub unanswered_outside : (asked : Asked) (f : ServeFault) (steps : List Step) → IsUnansweredBy s asked f steps
      → IsUnansweredBy outside asked f steps
  unanswered_outside asked f steps is =
      subst (λ t. IsUnansweredBy t asked f steps) outside_is (unanswered_beside s begun ended asked f steps is)

-- ---- steps

pub takes_locked : (a b c d : Option (List Step)) (path : List ℕ) (file : Option (List ℕ)) (steps : List Step)
    → Some path ≡ file → Takes a b (Locked path ∷ []) → Takes b c steps → Takes c d (Unlocked ∷ [])
    → Takes a d (under_lock file steps)
takes_locked a b c d path file steps is locked taken unlocked =
    subst (λ o. Takes a d (under_lock o steps)) is
    (takes_more a b d (Locked path ∷ []) (steps ++ Unlocked ∷ []) locked
    (takes_more b c d steps (Unlocked ∷ []) taken unlocked))
