-- A run on two files, that is done or breaks off.
use Rattle.city_program.proofs.Prelude.{◌≡◌, ◌∷◌, ◌∙◌, ℕ, Bool, true, false, List, [], Option, Some, None, IfSome, inr}
use Rattle.city_program.proofs.Prelude.{refl, subst, sym}
use Rattle.city_program.proofs.Prelude.{ap, Vec, Asked, ServeFault}
use Rattle.std.proofs.Common.{Bor}
use Rattle.city_serve.proofs.Taken.{takes_more}
use Rattle.city_serve.specs.Destinations.{Folder, IsDeliveryFault, goes_nowhere}
use Rattle.city_serve.specs.Steps.{Step, Takes, delivering}
use Rattle.city_options.specs.RunOptions.{file_of}
use Rattle.city_options.specs.declared.options.Destination.{Destination}
use Rattle.city_options.specs.declared.options.Options.{Options}
use Rattle.city_program.specs.declared.status.Status.{Status}
use Rattle.city_program.specs.Programs.{IsUnansweredBy, Streams, steps_inside}
use Rattle.city_program.specs.internal.Telling.{is_withheld_at, run_status}

-- a property of two texts that were read holds of the known texts of their files
of_files : (first second : Option (List ℕ)) (P : List ℕ → List ℕ → Type 0) (document scripts : List ℕ)
    → IfSome first (λ all. document ≡ all) → IfSome second (λ all. scripts ≡ all) → P document scripts
    → IfSome first (λ d. IfSome second (λ s. P d s))
of_files None second P document scripts is too h = tt
of_files (Some d) None P document scripts is too h = tt
of_files (Some d) (Some s) P document scripts is too h = subst (λ t. P d t) too (subst (λ t. P t scripts) is h)

-- a withheld model is told by the status
withheld_told : (withheld : Bool) → is_withheld_at (run_status withheld) ≡ withheld
withheld_told true = refl
withheld_told false = refl

pub files_done : (begun a b ended : Option (List Step)) (asked : Asked) (options : Options) (destination : Destination)
    (model scripts : Bor (List ℕ)) → asked ≡ Asked.Files options destination model scripts → (withheld : Bool)
    (status : Status) → status ≡ run_status withheld → Takes begun a (Step.Read model.now ∷ [])
    → Takes a b (Step.Read scripts.now ∷ [])
    → Takes b ended (delivering (file_of destination) (goes_nowhere destination withheld))
    → Takes begun ended (steps_inside asked (is_withheld_at status))
files_done begun a b ended asked options destination model scripts asks withheld status is step next last =
    let steps = delivering (file_of destination) (goes_nowhere destination withheld) in
    let told : is_withheld_at status ≡ withheld = ap is_withheld_at is ∙ withheld_told withheld in
    let taken : Takes begun ended (steps_inside (Asked.Files options destination model scripts) withheld) =
    takes_more begun a ended (Step.Read model.now ∷ []) (Step.Read scripts.now ∷ steps) step
    (takes_more a b ended (Step.Read scripts.now ∷ []) steps next last) in
    subst (λ asked. Takes begun ended (steps_inside asked (is_withheld_at status))) (sym asks)
    (subst (λ w. Takes begun ended (steps_inside (Asked.Files options destination model scripts) w)) (sym told) taken)

module _ (s : Streams) (one two : Folder) (a b : Option (List Step)) (asked : Asked) (options : Options)
    (destination : Destination) (model scripts : Bor (List ℕ))
    (asks : asked ≡ Asked.Files options destination model scripts) (document commands given more : Vec ℕ)
    (are : given ≡ document) (too : more ≡ commands)
    (reads : IfSome (s.before model.now) (λ all. document.items ≡ all))
    (reads_more : IfSome (one scripts.now) (λ all. commands.items ≡ all)) (same : one ≡ s.before)
    (same_still : two ≡ one) (step : Takes s.begun a (Step.Read model.now ∷ []))
    (next : Takes a b (Step.Read scripts.now ∷ [])) where
  -- the fault of the delivery, of the texts that were read
  abbrev Fault : Folder → List ℕ → List ℕ → List Step → ServeFault → Type 0
  Fault before d c taken f = IsDeliveryFault destination options d c before s.after s.files_failed s.old s.new s.failed
      taken f

  pub files_broken : (f : ServeFault)
      → ((taken : List Step) × Fault two given.items more.items taken f × Takes b s.ended taken)
      → (steps : List Step) × IsUnansweredBy s asked f steps × Takes s.begun s.ended steps
  files_broken f is =
      let taken = is.0 in
      let steps = Step.Read model.now ∷ Step.Read scripts.now ∷ taken in
      let fault : Fault s.before document.items commands.items taken f =
      subst (λ before. Fault before document.items commands.items taken f) (same_still ∙ same)
      (subst (λ d. Fault two d commands.items taken f) (ap (λ v. v.items) are)
      (subst (λ c. Fault two given.items c taken f) (ap (λ v. v.items) too) is.1)) in (
        steps,
        subst (λ asked. IsUnansweredBy s asked f steps) (sym asks) (inr (
          taken,
          refl,
          of_files (s.before model.now) (s.before scripts.now) (λ d c. Fault s.before d c taken f) document.items
              commands.items reads (subst (λ before. IfSome (before scripts.now) (λ all. commands.items ≡ all)) same
              reads_more) fault,
        )),
        takes_more s.begun a s.ended (Step.Read model.now ∷ []) (Step.Read scripts.now ∷ taken) step
            (takes_more a b s.ended (Step.Read scripts.now ∷ []) taken next is.2),
      )
