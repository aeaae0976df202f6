-- Lines behind one another.
use Rattle.city_diagnostics.proofs.Prelude.{◌≡◌, ◌++◌, ◌∷◌, List, ℕ, [], refl, append-nil, append_assoc, ap, ◌∙◌, sym}
use Rattle.city_diagnostics.proofs.Prelude.{AreLinesOf, IsLineOf, FirstLineIs, Data, Some, slice_get, object}
use Rattle.city_diagnostics.proofs.Prelude.{compact_text, ◌+◌, ◌<◌, ◌⊎◌, arith, length, take, get_or, inl}
use Rattle.city_diagnostics.proofs.Prelude.{inr, subst}
use Rattle.std.proofs.lemmas.List.{length-append, take_more}
use Rattle.city_diagnostics.specs.Warnings.{AreWarnings, Warns, WarnsOf}

-- a line more
pub one_more : {F : Type 0} (tells : F → Data → Type 0) (fs : List F) (f : F) (lines line : List ℕ)
    → AreLinesOf tells fs lines → IsLineOf (tells f) line → AreLinesOf tells (fs ++ f ∷ []) (lines ++ line)
one_more tells [] f lines line before this =
    (line, [], this, refl, ap (λ (s : List ℕ). s ++ line) before ∙ sym (append-nil line))
one_more tells (g ∷ fs) f lines line before this = (
  before.0,
  before.1 ++ line,
  before.2,
  one_more tells fs f before.1 line before.3 this,
  ap (λ (s : List ℕ). s ++ line) before.4 ∙ append_assoc before.0 before.1 line,
)

never_empty : (text rest : List ℕ) → (text ++ 10 ∷ []) ++ rest ≡ [] → ⊥
never_empty text rest e =
    let long : length ((text ++ 10 ∷ []) ++ rest) ≡ 0 = ap length e in
    let parts = simp length-append at long in absurd (omega arith)

-- without a line, there is no fault
pub no_line : {F : Type 0} (tells : F → Data → Type 0) (fs : List F) (lines : List ℕ)
    → AreLinesOf tells fs lines → lines ≡ [] → fs ≡ []
no_line tells [] lines told empty = refl
no_line tells (f ∷ fs) lines told empty =
    let line = told.2 in
    absurd (never_empty (compact_text (object line.0)) told.1
    (ap (λ (s : List ℕ). s ++ told.1) (sym line.2.has_its_text) ∙ sym told.4 ∙ empty))

-- without a fault, there is no line
pub no_fault : {F : Type 0} (tells : F → Data → Type 0) (fs : List F) (lines : List ℕ)
    → AreLinesOf tells fs lines → fs ≡ [] → lines ≡ []
no_fault tells [] lines told empty = told
no_fault tells (f ∷ fs) lines told empty = absurd (cc)

-- the first line tells the first fault
pub first_line : {F : Type 0} (tells : F → Data → Type 0) (fs : List F) (lines : List ℕ) (f : F)
    → AreLinesOf tells fs lines → slice_get fs 0 ≡ Some f → FirstLineIs (tells f) lines
first_line {F} tells [] lines f told first = absurd (cc)
first_line {F} tells (g ∷ fs) lines f told first =
    let same : g ≡ f = cc in
    (told.0, told.1, subst (λ (h : F). IsLineOf (tells h) told.0) same told.2, told.4)

-- if the first fault has the property, there is no line, or the first line tells such a fault
pub first_told : {F : Type 0} (tells : F → Data → Type 0) (P : F → Type 0) (fs : List F) (lines : List ℕ)
    → AreLinesOf tells fs lines → ((f : F) → slice_get fs 0 ≡ Some f → P f)
    → (lines ≡ []) ⊎ ((f : F) × P f × FirstLineIs (tells f) lines)
first_told tells P [] lines told h = inl told
first_told tells P (f ∷ fs) lines told h = inr (f, h f refl, (told.0, told.1, told.2, told.4))

-- the lines of one fault more
pub grown : {F : Type 0} (tells : F → Data → Type 0) (fs : List F) (n : ℕ) (f : F) (lines line more : List ℕ)
    → n < length fs → f ≡ get_or fs n f → AreLinesOf tells (take n fs) lines → IsLineOf (tells f) line
    → more ≡ lines ++ line → AreLinesOf tells (take (n + 1) fs) more
grown {F} tells fs n f lines line more below is told this joined =
    let taken : take (n + 1) fs ≡ take n fs ++ f ∷ [] =
    take_more fs n f below ∙ ap (λ (g : F). take n fs ++ g ∷ []) (sym is) in
    subst (λ (s : List ℕ). AreLinesOf tells (take (n + 1) fs) s) (sym joined)
    (subst (λ (gs : List F). AreLinesOf tells gs (lines ++ line)) (sym taken)
    (one_more tells (take n fs) f lines line told this))

-- a warning more
pub one_warning_more : (lines line : List ℕ) → AreWarnings lines → IsLineOf Warns line → AreWarnings (lines ++ line)
one_warning_more lines line told this =
    let warns = this.1 in
    (told.0 ++ warns.0 ∷ [], one_more WarnsOf told.0 warns.0 lines line told.1 (this.0, warns.1, this.2))
