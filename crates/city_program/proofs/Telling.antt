-- The bytes on standard error, line by line, and the program's end with them.
use Rattle.city_program.proofs.Prelude.{◌≡◌, ◌<◌, ◌≤◌, ◌+◌, ℕ, Bool, false, List, [], ◌∷◌, ◌++◌, length, Option}
use Rattle.city_program.proofs.Prelude.{true, inl, inr, refl, sym, ap, subst, ◌∙◌, append_assoc, append-nil, Vec}
use Rattle.city_program.proofs.Prelude.{Appends, Asked, ServeFault, seen_text, EndsAsked, IsSeenTold}
use Rattle.std.proofs.Common.{arith, get_or, take}
use Rattle.std.proofs.lemmas.List.{take_all, take_more, length-take-le}
use Rattle.city_program.specs.declared.status.Status.{Status}
use Rattle.city_serve.specs.FaultTexts.{fault_text}
use Rattle.city_program.specs.Programs.{Streams, IsAnswered, IsTold, IsToldFault, IsUnanswered, done_text, is_explained}
use Rattle.city_program.specs.Programs.{seen_lines, memory_line, no_faults_line, TakesLocked, reading, steps_inside}
use Rattle.city_program.specs.Programs.{tells_refused}
use Rattle.city_serve.specs.Steps.{Takes}
use Rattle.city_program.specs.internal.Telling.{IsToldAfter, IsFaultText, IsFound, IsAnsweredAs, is_withheld_at}
use Rattle.city_program.specs.internal.Telling.{tells_no_faults}
use Rattle.city_serve.proofs.KnownBytes.{appends_more}

-- the lines of the first viewers, if all writes succeeded
abbrev pub AreToldTo : ℕ → List (Vec ℕ) → Option (List ℕ) → Option (List ℕ) → Bool → Type 0
AreToldTo viewer all old new failed = IsTold old new failed (seen_lines 0 (take viewer all))

seen_lines-append : (viewer : ℕ) (first : List (Vec ℕ)) (seen : Vec ℕ)
    → seen_lines viewer (first ++ seen ∷ [])
    ≡ seen_lines viewer first ++ (seen_text (viewer + length first) seen.items ++ 10 ∷ [])
seen_lines-append viewer [] seen = grind (arith, append-nil (seen_text viewer seen.items ++ 10 ∷ []))
seen_lines-append viewer (one ∷ first) seen =
    let line = seen_text viewer one.items ++ 10 ∷ [] in
    let next : (viewer + 1) + length first ≡ viewer + length (one ∷ first) = grind arith in
    ap (λ rest. line ++ rest) (seen_lines-append (viewer + 1) first seen)
    ∙ sym (append_assoc line (seen_lines (viewer + 1) first)
    (seen_text ((viewer + 1) + length first) seen.items ++ 10 ∷ []))
    ∙ ap (λ n. seen_lines viewer (one ∷ first) ++ (seen_text n seen.items ++ 10 ∷ [])) next

pub told_next : (viewer : ℕ) (all : List (Vec ℕ)) (seen : Vec ℕ) (given : List ℕ) (u v w : Option (List ℕ))
    (before after : Bool) → viewer < length all → seen ≡ get_or all viewer seen → given ≡ seen.items
    → AreToldTo viewer all u v before → IsToldAfter before v w after (seen_text viewer given ++ 10 ∷ [])
    → AreToldTo (viewer + 1) all u w after
told_next viewer all seen given u v w before after within at same told line fine =
    let first = seen_lines 0 (take viewer all) in
    let this = seen_text viewer given ++ 10 ∷ [] in
    let lines : seen_lines 0 (take (viewer + 1) all) ≡ first ++ this =
    grind (
      arith,
      take_more all viewer seen within,
      seen_lines-append 0 (take viewer all) seen,
      length-take-le viewer all,
    ) in
    subst (Appends u w) (sym lines) (appends_more u v w first this (told (line.1 fine)) (line.0 fine))

-- all viewers are told of, and then the lines behind theirs are told
pub told_all : (viewer : ℕ) (all : List (Vec ℕ)) (behind : List ℕ) (u v w : Option (List ℕ)) (ending : Status)
    (before after : Bool) → length all ≤ viewer → AreToldTo viewer all u v before → IsToldAfter before v w after behind
    → IsSeenTold ending ending u w after all behind
told_all viewer all behind u v w ending before after over told line =
    let whole = subst (λ seen. IsTold u v before (seen_lines 0 seen)) (take_all viewer all over) told in
    inl (refl, λ fine. appends_more u v w (seen_lines 0 all) behind (whole (line.1 fine)) (line.0 fine))

-- memory is short for the line of this viewer
pub told_in_part : (viewer : ℕ) (all : List (Vec ℕ)) (behind : List ℕ) (u v w : Option (List ℕ))
    (ending status : Status) (before after : Bool) → viewer < length all → status ≡ Status.Failed
    → AreToldTo viewer all u v before → IsToldAfter before v w after memory_line
    → IsSeenTold ending status u w after all behind
told_in_part viewer all behind u v w ending status before after within failed told line =
    let lines = seen_lines 0 (take viewer all) in
    inr (failed, (viewer, within, λ fine. appends_more u v w lines memory_line (told (line.1 fine)) (line.0 fine)))

-- ---- how the program ends

pub told_fault : (explained : Bool) (f : ServeFault) (behind text : List ℕ) → (explained ≡ false → behind ≡ [])
    → IsFaultText f behind text → IsToldFault explained f text
told_fault true f behind text none (inl is) = inl (behind, is)
told_fault true f behind text none (inr is) = inr is
told_fault false f behind text none (inl is) =
    let line = fault_text f ++ 10 ∷ [] in inl (is ∙ ap (λ more. line ++ more) (none refl) ∙ append-nil line)
told_fault false f behind text none (inr is) = inr is

none_within : (viewer : ℕ) (seen : List (Vec ℕ)) → seen ≡ [] → viewer < length seen → ⊥
none_within viewer seen none within = grind arith

-- nothing but what viewers saw is told of a check without a fault that isn't on a terminal, and of a run
plainly_done : (asked : Asked) (terminal : Bool) (seen : List (Vec ℕ))
    → tells_no_faults Status.Done asked terminal ≡ false → seen_lines 0 seen ≡ done_text asked terminal seen
plainly_done (Asked.Check options model scripts) true seen none = absurd (cc)
plainly_done (Asked.Check options model scripts) false seen none = refl
plainly_done (Asked.Input options destination) terminal seen none = refl
plainly_done (Asked.Files options destination model scripts) terminal seen none = refl
plainly_done (Asked.Text text) terminal seen none = refl

plainly_withheld : (s : Streams) (asked : Asked) (terminal : Bool) (seen : List (Vec ℕ)) → IsAnswered s asked seen true
    → seen_lines 0 seen ≡ done_text asked terminal seen
plainly_withheld s (Asked.Check options model scripts) terminal seen is = let wrong = is.1 in absurd (cc)
plainly_withheld s (Asked.Input options destination) terminal seen is = refl
plainly_withheld s (Asked.Files options destination model scripts) terminal seen is = refl
plainly_withheld s (Asked.Text text) terminal seen is = refl

module _ (terminal : Bool) (s : Streams) (told telling : Option (List ℕ)) (mute : Bool) where
  found : (asked : Asked) (status : Status) (seen : List (Vec ℕ)) (behind : List ℕ)
      → (tells_refused terminal asked ≡ false → behind ≡ []) → IsFound s asked seen
      → TakesLocked asked s (steps_inside asked false)
      → IsSeenTold Status.Faulty status told telling mute seen behind
      → EndsAsked terminal asked status s told telling mute
  found (Asked.Check options model scripts) status seen behind none is steps (inl lines) =
      let check = Asked.Check options model scripts in
      subst (λ status. EndsAsked terminal check status s told telling mute) (sym lines.0) (
        is.1,
        subst (λ behind. IsTold told telling mute behind) (none refl)
            (subst (λ seen. IsTold told telling mute (seen_lines 0 seen ++ behind)) is.0 lines.1),
        subst (Takes s.begun s.ended) (append-nil (reading check)) steps,
      )
  found (Asked.Check options model scripts) status seen behind none is steps (inr failed) =
      absurd (none_within failed.1.0 seen is.0 failed.1.1)
  found (Asked.Input options destination) status seen behind none is steps lines = absurd is
  found (Asked.Files options destination model scripts) status seen behind none is steps lines = absurd is
  found (Asked.Text text) status seen behind none is steps lines = absurd is

  module _ (asked : Asked) (behind : List ℕ) (plain : tells_refused terminal asked ≡ false → behind ≡ []) where
    ends_so : (ending : Status) (withheld : Bool) (status : Status) (seen : List (Vec ℕ))
        → IsAnswered s asked seen withheld → TakesLocked asked s (steps_inside asked withheld)
        → (IsTold told telling mute (seen_lines 0 seen ++ behind) → EndsAsked terminal asked ending s told telling mute)
        → IsSeenTold ending status told telling mute seen behind → EndsAsked terminal asked status s told telling mute
    ends_so ending withheld status seen answered steps ends (inl lines) =
        subst (λ status. EndsAsked terminal asked status s told telling mute) (sym lines.0) (ends lines.1)
    ends_so ending withheld status seen answered steps ends (inr failed) =
        subst (λ status. EndsAsked terminal asked status s told telling mute) (sym failed.0)
        (inr (record {
          seen = seen;
          withheld = withheld;
          answered = answered;
          steps = steps;
          seen_told = failed.1;
        }))

    pub ends_told : (ending status : Status) (seen : List (Vec ℕ)) → tells_no_faults ending asked terminal ≡ false
        → IsAnsweredAs s asked seen ending → TakesLocked asked s (steps_inside asked (is_withheld_at ending))
        → IsSeenTold ending status told telling mute seen behind → EndsAsked terminal asked status s told telling mute
    ends_told Status.Done status seen none answered steps lines =
        let text = plainly_done asked terminal seen none in
        ends_so Status.Done false status seen answered steps (λ are. record {
          seen = seen;
          answered = answered;
          steps = steps;
          behind = behind;
          unexplained = plain;
          is_told = subst (λ first. IsTold told telling mute (first ++ behind)) text are;
        }) lines
    ends_told Status.Withheld status seen none answered steps lines =
        let text = plainly_withheld s asked terminal seen answered in
        ends_so Status.Withheld true status seen answered steps (λ are. record {
          seen = seen;
          answered = answered;
          steps = steps;
          behind = behind;
          unexplained = plain;
          is_told = subst (λ first. IsTold told telling mute (first ++ behind)) text are;
        }) lines
    ends_told Status.Faulty status seen none is steps lines = found asked status seen behind plain is steps lines
    ends_told Status.Failed status seen none answered steps lines = absurd answered
    ends_told Status.Refused status seen none answered steps lines = absurd answered

  module _ (asked : Asked) where
    pub ends_faulty : (before : Bool) (f : ServeFault) → IsUnanswered s asked f
        → ((text : List ℕ) × IsToldFault (is_explained terminal asked) f text
        × IsToldAfter before told telling mute text)
        → EndsAsked terminal asked Status.Failed s told telling mute
    ends_faulty before f unanswered text = inl (record {
      fault = f;
      unanswered = unanswered;
      line = text.0;
      line_is = text.1;
      why = text.2.0;
    })

  pub ends_faultless : (asked : Asked) (ending : Status) (seen : List (Vec ℕ)) → IsAnsweredAs s asked seen ending
      → TakesLocked asked s (steps_inside asked (is_withheld_at ending))
      → tells_no_faults ending asked terminal ≡ true → IsTold told telling mute no_faults_line
      → EndsAsked terminal asked Status.Done s told telling mute
  ends_faultless (Asked.Check options model scripts) Status.Done seen answered steps on line =
      subst (λ t. EndsAsked t (Asked.Check options model scripts) Status.Done s told telling mute) (sym on)
      (record {
        seen = seen;
        answered = answered;
        steps = steps;
        behind = [];
        unexplained = λ _. refl;
        is_told = subst (IsTold told telling mute) (sym (append-nil no_faults_line)) line;
      })
  ends_faultless (Asked.Input options destination) Status.Done seen answered steps on line = absurd (cc)
  ends_faultless (Asked.Files options destination model scripts) Status.Done seen answered steps on line = absurd (cc)
  ends_faultless (Asked.Text text) Status.Done seen answered steps on line = absurd (cc)
  ends_faultless asked Status.Withheld seen answered steps on line = absurd (cc)
  ends_faultless asked Status.Faulty seen answered steps on line = absurd (cc)
  ends_faultless asked Status.Failed seen answered steps on line = absurd answered
  ends_faultless asked Status.Refused seen answered steps on line = absurd answered
