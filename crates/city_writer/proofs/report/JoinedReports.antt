-- Reports of pieces of the ends, one after the other.
use Rattle.city_writer.proofs.Prelude.{◌≡◌, ℕ, List, [], ◌∷◌, ◌++◌, Option, Some, None, refl, sym, ap, ◌∙◌, subst}
use Rattle.city_writer.proofs.Prelude.{append_assoc, drop, AllByRecursion}
use Rattle.std.proofs.Common.{take}
use Rattle.std.proofs.lemmas.Grind.{flat_map-append}
use Rattle.std.proofs.lemmas.List.{take-append-drop}
use Rattle.city_model.specs.declared.end.End.{End}
use Rattle.city_writer.specs.internal.Pieces.{joined}
use Rattle.city_writer.proofs.EachPiece.{EachMade}
use Rattle.city_writer.specs.internal.Reports.{IsReport}
use Rattle.city_writer.specs.report.JsonLines.{IsCompactJson, AreJsonLines}
use Rattle.city_writer.specs.report.Reports.{end_line, report_text}

report-append : (xs ys : List End) → report_text (xs ++ ys) ≡ report_text xs ++ report_text ys
unfolding report_text
report-append [] ys = refl
report-append (x ∷ xs) ys =
    ap (λ t. end_line x ++ t) (report-append xs ys) ∙ sym (append_assoc (end_line x) (report_text xs) (report_text ys))

all-append : (ls ms : List (List ℕ)) → AllByRecursion IsCompactJson ls → AllByRecursion IsCompactJson ms
    → AllByRecursion IsCompactJson (ls ++ ms)
all-append [] ms h k = k
all-append (l ∷ ls) ms h k = (h.0, all-append ls ms h.1 k)

pub lines-append : (a b : List ℕ) → AreJsonLines a → AreJsonLines b → AreJsonLines (a ++ b)
lines-append a b h k = record {
  lines = h.lines ++ k.lines;
  json = all-append h.lines k.lines h.json k.json;
  text_is = rw (h.text_is, k.text_is) (sym (flat_map-append _ h.lines k.lines));
}

pub no_lines : AreJsonLines []
no_lines = record { lines = []; json = tt; text_is = refl }

no_report : IsReport [] []
unfolding report_text
no_report = record { text_is = refl; lines = no_lines }

pub reports_joined : {A : Type 0} (f : A → List ℕ) (len : ℕ) (ends : List End) (os : List (Option A))
    → EachMade len ends os (λ es a. IsReport es (f a)) → IsReport ends (joined os f)
reports_joined f len ends [] h = subst (λ es. IsReport es []) (sym h) no_report
reports_joined f len ends (None ∷ os) h = absurd h.0
reports_joined f len ends (Some a ∷ os) h =
    let first = take len ends in
    let rest = reports_joined f len (drop len ends) os h.1 in
    record {
      text_is = rw (h.0.text_is, rest.text_is) (sym (report-append first (drop len ends))
          ∙ ap report_text (take-append-drop len ends));
      lines = lines-append (f a) (joined os f) h.0.lines rest.lines;
    }
