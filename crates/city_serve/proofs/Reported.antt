-- A report is empty or ends with a newline.
use Rattle.city_serve.proofs.Prelude.{◌≡◌, ◌⊎◌, ◌++◌, ◌∷◌, [], ℕ, List, inl, inr, refl, sym, ap, ◌∙◌, append-nil}
use Rattle.city_serve.proofs.Prelude.{append_assoc, End}
use Rattle.serde_json.specs.Written.{compact_text}
use Rattle.city_writer.specs.report.Ends.{end_data}
use Rattle.city_writer.specs.report.Reports.{end_line, report_text}

report_ends_so : (ends : List End)
    → (report_text ends ≡ []) ⊎ ((before : List ℕ) × (report_text ends ≡ before ++ 10 ∷ []))
unfolding report_text
report_ends_so [] = inl refl
report_ends_so (e ∷ es) = behind (report_ends_so es)
  where
    behind : (report_text es ≡ []) ⊎ ((before : List ℕ) × (report_text es ≡ before ++ 10 ∷ []))
        → (end_line e ++ report_text es ≡ []) ⊎ ((before : List ℕ) × (end_line e ++ report_text es ≡ before ++ 10 ∷ []))
    behind (inl none) = inr (compact_text (end_data e), ap (λ t. end_line e ++ t) none ∙ append-nil (end_line e))
    behind (inr (before, is)) = inr (
      end_line e ++ before,
      ap (λ t. end_line e ++ t) is ∙ sym (append_assoc (end_line e) before (10 ∷ [])),
    )

pub report_ends : (ends : List End) (report : List ℕ) → report ≡ report_text ends
    → (report ≡ []) ⊎ ((before : List ℕ) × (report ≡ before ++ 10 ∷ []))
report_ends ends report is = by_text (report_ends_so ends)
  where
    by_text : (report_text ends ≡ []) ⊎ ((before : List ℕ) × (report_text ends ≡ before ++ 10 ∷ []))
        → (report ≡ []) ⊎ ((before : List ℕ) × (report ≡ before ++ 10 ∷ []))
    by_text (inl none) = inl (is ∙ none)
    by_text (inr (before, ended)) = inr (before, is ∙ ended)
