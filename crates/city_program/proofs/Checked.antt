-- The output of a check, by the texts read.
use Rattle.city_program.proofs.Prelude.{◌≡◌, ◌++◌, ◌∷◌, ℕ, Bool, true, false, List, [], Option, None, Some, IfSome}
use Rattle.city_program.proofs.Prelude.{refl, sym, inl, inr, subst, append-nil, Vec, Appends, Asked, ServeFault}
use Rattle.city_program.proofs.Prelude.{ap, length, ◌∙◌}
use Rattle.std.proofs.Common.{arith, not}
use Rattle.std.proofs.lemmas.Bool.Decides.{nat_tests}
use Rattle.std.specs.Prelude.{◌==◌}
use Rattle.std.proofs.Common.{Bor}
use Rattle.city_program.specs.Checks.{AreModelLines, AreScriptsLines, IsCheckOutput, AreFirstOf, HasLines, OfFiles}
use Rattle.city_program.specs.Checks.{reading_of}
use Rattle.city_diagnostics.specs.Warnings.{AreWarnings}
use Rattle.city_serve.proofs.Taken.{takes_more}
use Rattle.city_serve.specs.Served.{IsDeviceFault}
use Rattle.city_serve.specs.Steps.{Step, Takes}
use Rattle.city_serve.specs.Destinations.{Folder}
use Rattle.city_program.specs.Programs.{Streams, IsChecked, OfLines}
use Rattle.city_options.specs.declared.options.Options.{Options}
use Rattle.city_program.specs.declared.status.Status.{Status}
use Rattle.city_program.specs.internal.Telling.{IsAnsweredAs, MayRead, check_status}

-- the lines of a text that was read are those of the known text
pub lines_of : (P : List ℕ → Type 0) (known : Option (List ℕ)) (read : List ℕ) → IfSome known (λ all. read ≡ all)
    → P read → IfSome known P
lines_of P None read is lines = tt
lines_of P (Some all) read is lines = subst P is lines

pub model_alone : (texts : Folder) (decimals : Bool) (model lines : List ℕ) (faulty : Bool) → HasLines faulty lines
    → IfSome (texts model) (λ all. AreModelLines decimals all lines)
    → OfFiles texts model None (λ all none. IsCheckOutput decimals all none faulty lines)
model_alone texts decimals model lines faulty has of_model = alone (texts model) of_model
  where
    alone : (d : Option (List ℕ)) → IfSome d (λ all. AreModelLines decimals all lines)
        → IfSome d (λ all. IsCheckOutput decimals all None faulty lines)
    alone None m = tt
    alone (Some all) m = record {
      lines = lines;
      warnings = [];
      of_faults = record {
        first = lines;
        behind = [];
        of_model = m;
        of_scripts = refl;
        lines_are = sym (append-nil lines);
      };
      faulty_is = has;
      of_warnings = refl;
      output_is = sym (append-nil lines);
    }

pub model_and_scripts : (texts : Folder) (decimals : Bool) (model scripts first behind lines warnings output : List ℕ)
    (faulty : Bool) → IfSome (texts model) (λ all. AreModelLines decimals all first)
    → IfSome (texts scripts) (λ all. AreScriptsLines decimals all behind) → lines ≡ first ++ behind
    → HasLines faulty lines → AreWarnings warnings → output ≡ lines ++ warnings
    → OfFiles texts model (Some scripts) (λ all more. IsCheckOutput decimals all more faulty output)
model_and_scripts texts decimals model scripts first behind lines warnings output faulty of_model of_scripts are has
    warns is =
    both (texts model) (texts scripts) of_model of_scripts
  where
    both : (d c : Option (List ℕ)) → IfSome d (λ all. AreModelLines decimals all first)
        → IfSome c (λ all. AreScriptsLines decimals all behind)
        → IfSome d (λ all. IfSome c (λ more. IsCheckOutput decimals all (Some more) faulty output))
    both None c m s = tt
    both (Some all) None m s = tt
    both (Some all) (Some more) m s = record {
      lines = lines;
      warnings = warnings;
      of_faults = record { first = first; behind = behind; of_model = m; of_scripts = s; lines_are = are };
      faulty_is = has;
      of_warnings = warns;
      output_is = is;
    }

-- there are lines unless their number is 0
pub has_lines : (lines : List ℕ) (count : ℕ) (none : Bool) → count ≡ length lines → none ≡ (count == 0)
    → HasLines (not none) lines
has_lines [] count none is empty = subst (λ b. HasLines (not b) []) (sym (empty ∙ ap (λ n. n == 0) is)) refl
has_lines (x ∷ xs) count none is empty =
    let some : (count == 0) ≡ false = grind (arith, nat_tests) in
    subst (λ b. HasLines (not b) (x ∷ xs)) (sym (empty ∙ some)) (λ e. absurd (cc))

-- ---- steps

abbrev pub Reads : List ℕ → Option (List ℕ) → Option (List Step) → Option (List Step) → Type 0
Reads model scripts begun ended =
    (steps : List Step) × Takes begun ended steps × AreFirstOf (reading_of model scripts) steps

-- a text couldn't be read, or memory ran out
abbrev pub Unread : List ℕ → Option (List ℕ) → Option (List Step) → Option (List Step) → ServeFault → Type 0
Unread model scripts begun ended f = IsDeviceFault true f × Reads model scripts begun ended

-- the model was read, or not
pub read_first : (model : List ℕ) (scripts : Option (List ℕ)) (a b : Option (List Step)) → MayRead model a b
    → Reads model scripts a b
read_first model scripts a b (inl none) = ([], none, (0, refl))
read_first model None a b (inr one) = (Step.Read model ∷ [], one, (1, refl))
read_first model (Some scripts) a b (inr one) = (Step.Read model ∷ [], one, (1, refl))

-- the model was read, and the scripts, or not
pub read_second : (model scripts : List ℕ) (a b c : Option (List Step)) → Takes a b (Step.Read model ∷ [])
    → MayRead scripts b c → Reads model (Some scripts) a c
read_second model scripts a b c one (inl none) =
    (Step.Read model ∷ [], takes_more a b c (Step.Read model ∷ []) [] one none, (1, refl))
read_second model scripts a b c one (inr two) = (
  Step.Read model ∷ Step.Read scripts ∷ [],
  takes_more a b c (Step.Read model ∷ []) (Step.Read scripts ∷ []) one two,
  (2, refl),
)

-- ---- statuses

module _ (s : Streams) (options : Options) (model : Bor (List ℕ)) (scripts : Option (Bor (List ℕ))) where
  checked_so : (seen : List (Vec ℕ)) (faulty : Bool) → seen ≡ []
      → IsChecked s (Asked.Check options model scripts) faulty
      → IsAnsweredAs s (Asked.Check options model scripts) seen (check_status faulty)
  checked_so seen true none is = (none, is)
  checked_so seen false none is = (none, refl, is)

pub checked_as : (s : Streams) (asked : Asked) (options : Options) (model : Bor (List ℕ))
    (scripts : Option (Bor (List ℕ))) (seen : List (Vec ℕ)) (status : Status) (faulty : Bool)
    → asked ≡ Asked.Check options model scripts → seen ≡ [] → status ≡ check_status faulty → s.after ≡ s.before
    → OfLines s (Asked.Check options model scripts) faulty (Appends s.old s.new)
    → IsAnsweredAs s asked seen status
checked_as s asked options model scripts seen status faulty asks none status_is same lines =
    let check = Asked.Check options model scripts in
    subst (λ a. IsAnsweredAs s a seen status) (sym asks)
    (subst (λ status. IsAnsweredAs s check seen status) (sym status_is)
    (checked_so s options model scripts seen faulty none (same, lines)))
