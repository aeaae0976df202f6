-- A new file in the place of another has given it everything written to it, and how that breaks off.
use Rattle.city_serve.proofs.Prelude.{◌≡◌, ℕ, Bool, true, false, List, [], ◌∷◌, ◌++◌, Option, Some, None}
use Rattle.city_serve.proofs.Prelude.{IfSome, refl, sym, ap, subst, inl, inr, ◌∙◌, Appends}
use Rattle.city_serve.proofs.Prelude.{AppendsSome, ServeFault}
use Rattle.city_serve.proofs.Taken.{takes_more, takes_none}
use Rattle.city_serve.specs.Destinations.{BreaksOff, Folder, IsBrokenOff, IsLookFault, IsPlaced, IsReplaced, IsWriterCut}
use Rattle.city_serve.specs.Destinations.{bytes_to_writer}
use Rattle.city_serve.specs.Steps.{Step, Created, GivenUp, LookedAt, Renamed, Synced, Takes, delivering}
use Rattle.city_serve.specs.internal.Placing.{IsPut, IsUnplaced}

pub replaced : (path model : List ℕ) (known : Bool) (contents : Option (List ℕ)) (before after : Folder)
    → (known ≡ true → contents ≡ Some model) → IsPut path known contents before after
    → IsReplaced path model before after
replaced path model false contents before after holds put =
    (subst (λ t. IfSome t (λ all. all ≡ model)) (sym put.0) tt, put.1)
replaced path model true contents before after holds put =
    (subst (λ t. IfSome t (λ all. all ≡ model)) (sym (put.0 ∙ holds refl)) refl, put.1)

-- ---- steps taken, with what they say

abbrev pub Broke : (List Step → Type 0) → Option (List Step) → Option (List Step) → Type 0
Broke P begun ended = (steps : List Step) × P steps × Takes begun ended steps

module _ (path : List ℕ) (known : Bool) (contents : Option (List ℕ)) (before : Folder) where
  abbrev Unplaced : Folder → Bool → ServeFault → List Step → Type 0
  Unplaced after failed f steps = IsUnplaced path known contents before after failed steps f

  -- the look finds another file, or is refused, and the new file is given up
  pub given_up : (a b c : Option (List Step)) (after : Folder) (failed_then failed : Bool) (f : ServeFault)
      → IsLookFault failed_then f → after ≡ before → failed ≡ true → Takes a b [] → Takes b c (GivenUp ∷ [])
      → Broke (Unplaced after failed f) a c
  given_up a b c after failed_then failed f (inl is) same failed_is none gone =
      let steps = GivenUp ∷ [] in
      (steps, subst (λ f. Unplaced after failed f steps) (sym is) (same, refl), takes_more a b c [] steps none gone)
  given_up a b c after failed_then failed f (inr is) same failed_is none gone =
      let steps = GivenUp ∷ [] in (
        steps,
        subst (λ f. Unplaced after failed f steps) (sym is.0) (inl (same, failed_is, inl refl)),
        takes_more a b c [] steps none gone,
      )

  -- the folder isn't synced
  pub unlisted : (a b c d : Option (List Step)) (after : Folder) (failed : Bool)
      → IsPut path known contents before after → failed ≡ true → Takes a b (LookedAt path ∷ [])
      → Takes b c (Renamed path ∷ []) → Takes c d [] → Broke (Unplaced after failed ServeFault.Write) a d
  unlisted a b c d after failed put failed_is looked renamed none = (
    LookedAt path ∷ Renamed path ∷ [],
    inr (put, failed_is, refl),
    takes_more a c d (LookedAt path ∷ Renamed path ∷ []) []
        (takes_more a b c (LookedAt path ∷ []) (Renamed path ∷ []) looked renamed) none,
  )

-- how replacing breaks off, once the report is written
module _ (path report model : List ℕ) (known : Bool) (contents : Option (List ℕ)) (before middle after : Folder)
    (failed : Bool) (old new : Option (List ℕ)) (writer_failed : Bool) (a b c : Option (List Step)) where
  abbrev Breaks : ServeFault → List Step → Type 0
  Breaks f steps = BreaksOff path report model before after failed old new writer_failed steps f

  with_made : (f : ServeFault) (steps : List Step) → Breaks f (Created path ∷ Synced ∷ steps)
      → Takes a b (Created path ∷ Synced ∷ []) → Takes b c steps → Broke (Breaks f) a c
  with_made f steps is made next =
      (Created path ∷ Synced ∷ steps, is, takes_more a b c (Created path ∷ Synced ∷ []) steps made next)

  pub unplaced : (f : ServeFault) (steps : List Step) → (known ≡ true → contents ≡ Some model) → middle ≡ before
      → Appends old new report → Takes a b (Created path ∷ Synced ∷ [])
      → IsUnplaced path known contents middle after failed steps f → Takes b c steps → Broke (Breaks f) a c
  unplaced ServeFault.Changed steps holds same written made is next =
      with_made ServeFault.Changed steps
      (written, is.0 ∙ same, ap (λ more. Created path ∷ Synced ∷ more) is.1) made next
  unplaced ServeFault.Write steps holds same written made (inl (kept, refused, inl is)) next =
      with_made ServeFault.Write steps (inr (inr (inl (
        written,
        kept ∙ same,
        refused,
        inl (ap (λ more. Created path ∷ Synced ∷ more) is),
      )))) made next
  unplaced ServeFault.Write steps holds same written made (inl (kept, refused, inr is)) next =
      with_made ServeFault.Write steps (inr (inr (inl (
        written,
        kept ∙ same,
        refused,
        inr (ap (λ more. Created path ∷ Synced ∷ more) is),
      )))) made next
  unplaced ServeFault.Write steps holds same written made (inr (put, refused, is)) next =
      with_made ServeFault.Write steps (inr (inr (inr (
        written,
        replaced path model known contents before after holds
            (subst (λ folder. IsPut path known contents folder after) same put),
        refused,
        ap (λ more. Created path ∷ Synced ∷ more) is,
      )))) made next
  unplaced ServeFault.Read steps holds same written made is next = absurd is
  unplaced (ServeFault.Run f) steps holds same written made is next = absurd is
  unplaced ServeFault.InUse steps holds same written made is next = absurd is

-- ---- sending

-- a model that goes nowhere
module _ (report model : List ℕ) (before after : Folder) where
  pub nowhere_bytes : (file : Option (List ℕ)) → bytes_to_writer file true report model ≡ report
  nowhere_bytes None = refl
  nowhere_bytes (Some path) = refl

  pub nowhere_placed : (file : Option (List ℕ)) → after ≡ before → IsPlaced file true model before after
  nowhere_placed None same = same
  nowhere_placed (Some path) same = same

  pub nowhere_steps : (file : Option (List ℕ)) → delivering file true ≡ []
  nowhere_steps None = refl
  nowhere_steps (Some path) = refl

  nowhere_cut : (file : Option (List ℕ)) (failed : Bool) (old new : Option (List ℕ)) (writer_failed : Bool)
      (steps : List Step) (f : ServeFault) → IsWriterCut report before after old new writer_failed steps f
      → IsBrokenOff file true report model before after failed old new writer_failed steps f
  nowhere_cut None failed old new writer_failed steps f is = is
  nowhere_cut (Some path) failed old new writer_failed steps f is = is

-- the writer is cut short, and no step is taken
module _ (file : Option (List ℕ)) (nowhere : Bool) (report model sent : List ℕ) (folder : Folder) (failed : Bool)
    (old new : Option (List ℕ)) (writer_failed : Bool) (a : Option (List Step)) (f : ServeFault)
    (is : (f ≡ ServeFault.Write) × AppendsSome old new sent × (writer_failed ≡ true)) where
  abbrev Cut : List Step → Type 0
  Cut steps = IsBrokenOff file nowhere report model folder folder failed old new writer_failed steps f

  cut : (bytes : List ℕ) → sent ≡ bytes → IsWriterCut bytes folder folder old new writer_failed [] f
  cut bytes same = (is.0, subst (AppendsSome old new) same is.1, refl, is.2, refl)

  pub cut_nowhere : nowhere ≡ true → sent ≡ report → Broke Cut a a
  cut_nowhere held same = (
    [],
    subst (λ b. IsBrokenOff file b report model folder folder failed old new writer_failed [] f) (sym held)
        (nowhere_cut report model folder folder file failed old new writer_failed [] f (cut report same)),
    takes_none a,
  )

  pub cut_without_file : nowhere ≡ false → file ≡ None → sent ≡ report ++ model → Broke Cut a a
  cut_without_file held none same = (
    [],
    subst (λ b. IsBrokenOff file b report model folder folder failed old new writer_failed [] f) (sym held)
        (subst (λ o. IsBrokenOff o false report model folder folder failed old new writer_failed [] f) (sym none)
        (cut (report ++ model) same)),
    takes_none a,
  )
