-- Steps taken one after another.
use Rattle.city_serve.proofs.Prelude.{◌≡◌, Bool, List, [], ◌∷◌, ◌++◌, Option, Some, None, true, false, ap, subst, ◌∙◌}
use Rattle.city_serve.proofs.Prelude.{append_assoc, append-nil, sym}
use Rattle.city_serve.specs.Steps.{Step, Takes, steps_if}

pub takes_more : (a b c : Option (List Step)) (xs ys : List Step) → Takes a b xs → Takes b c ys → Takes a c (xs ++ ys)
takes_more None b c xs ys first next = tt
takes_more (Some before) b c xs ys first next =
    subst (λ (o : Option (List Step)). Takes o c ys) first next ∙ ap (λ s. Some s) (append_assoc before xs ys)

-- no step was taken where nothing happened
pub takes_none : (a : Option (List Step)) → Takes a a []
takes_none None = tt
takes_none (Some before) = ap (λ s. Some s) (sym (append-nil before))

-- a step that was done, and one that was not
pub takes_done : (a b : Option (List Step)) (done : Bool) (x : Step) → done ≡ true → Takes a b (steps_if done x)
    → Takes a b (x ∷ [])
takes_done a b done x is taken = subst (λ d. Takes a b (steps_if d x)) is taken

pub takes_refused : (a b : Option (List Step)) (done : Bool) (x : Step) → done ≡ false → Takes a b (steps_if done x)
    → Takes a b []
takes_refused a b done x is taken = subst (λ d. Takes a b (steps_if d x)) is taken
