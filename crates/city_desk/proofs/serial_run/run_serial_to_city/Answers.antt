use Rattle.city_desk.proofs.Prelude.{◌≡◌, ℕ, ◌+◌, List, [], ◌∷◌, ◌++◌, true, ap, sym, ◌∙◌, End, CityValue, object_at}
use Rattle.city_desk.proofs.Prelude.{Scripted, is_no_memory, city_text, report_text, AreInTurn}
use Rattle.std.specs.Prelude.{not}
use Rattle.std.proofs.lemmas.Bool.{and_parts, not-true}
use Rattle.city_model.specs.CityMap.{Objects}
use Rattle.city_model.specs.SerialEnds.{IsSerialFrom}
use Rattle.city_model.proofs.Results.{serial_ends_are_unique}
use Rattle.city_model.proofs.Objects.{same_objects}
use Rattle.city_writer.specs.Outputs.{IsOutput}
use Rattle.city_doc.proofs.OneValue.{one_city}
use Rattle.city_scripts.proofs.OneList.{one_list}
use Rattle.city_desk.specs.SerialRuns.{IsSerialRun, had_memory, IsDecided}
use Rattle.city_desk.proofs.serial_run.run_serial_to_city.Goals as goal

-- two runs of the same texts, each with memory for every script, are the same
serial : (k : ℕ) (ends : List End) → AreInTurn k ends → had_memory ends ≡ true → IsSerialFrom k ends
serial k [] turns had = tt
serial k (e ∷ es) turns had =
    let parts = and_parts (not (is_no_memory e.outcome)) (had_memory es) had in
    (turns.0, turns.1, not-true (is_no_memory e.outcome) parts.0, serial (k + 1) es turns.2 parts.1)

one_output : (city : CityValue) (list : List Scripted) (ends : List End) (bytes written : List ℕ)
    → IsOutput city list ends bytes → IsOutput city list ends written → written ≡ bytes
one_output city list ends bytes written h k =
    let same : k.model ≡ h.model = same_objects k.model h.model (k.left ∙ sym h.left) in
    k.text ∙ (ap (λ (m : Objects). report_text ends ++ city_text (city.0, m) ++ 10 ∷ []) same ∙ sym h.text)

decided : (document scripts : List ℕ) (ends : List End) (bytes : List ℕ) → IsSerialRun document scripts ends bytes
    → IsDecided document scripts ends bytes
decided document scripts ends bytes serial_run had others written other too =
    let h = serial_run.run in
    let k = other.run in
    let a = k.read in
    let b = h.read in
    let city = one_city document k.city h.city (a.admitted.0, a.admitted.1.1, a.admitted.3)
    (b.admitted.0, b.admitted.1.1, b.admitted.3) in
    let list = one_list scripts k.list h.list (a.read_as.0, a.read_as.1.1, a.read_as.3)
    (b.read_as.0, b.read_as.1.1, b.read_as.3) in
    let ran = rw (city, list) at k.ran in
    let same = serial_ends_are_unique h.list (object_at h.city.1) others ends ran.each_once h.ran.each_once
    (serial 0 others other.in_turn too) (serial 0 ends serial_run.in_turn had) ran.fits h.ran.fits in
    (same, one_output h.city h.list ends bytes written h.output (rw (city, list, same) at k.output))

pub returns-clause-ran : goal.returns-clause-ran
returns-clause-ran c =
    record {
      run = c.in_ok-run_read.ensures.ran c.args.document.now c.args.scripts.now c.in_ok-city.ensures.read;
      in_turn = c.in_ok-run_read.ensures.in_turn;
    }

pub returns-clause-decided : goal.returns-clause-decided
returns-clause-decided c = decided c.args.document.now c.args.scripts.now _ _ (returns-clause-ran c)
