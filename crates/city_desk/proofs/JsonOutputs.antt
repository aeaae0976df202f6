-- A run's output is lines of JSON.
use Rattle.city_desk.proofs.Prelude.{◌≡◌, ℕ, List, [], ◌∷◌, ◌++◌, refl, sym, length, append-nil}
use Rattle.std.proofs.Common.{append_assoc}
use Rattle.std.proofs.Math.Seq.{take-append_seam, drop-append_seam}
use Rattle.city_writer.specs.Outputs.{IsJsonOutput}
use Rattle.city_writer.specs.report.JsonLines.{IsCompactJson, AreJsonLines}

pub no_lines : AreJsonLines []
no_lines = record { lines = []; json = tt; text_is = refl }

one_line : (line : List ℕ) → IsCompactJson line → AreJsonLines (line ++ 10 ∷ [])
one_line line json = record { lines = line ∷ []; json = (json, tt); text_is = sym (append-nil (line ++ 10 ∷ [])) }

pub json_output : (report model bytes : List ℕ) (n : ℕ) → bytes ≡ report ++ model ++ 10 ∷ [] → n ≡ length report
    → AreJsonLines report → IsCompactJson model → IsJsonOutput n bytes
json_output report model bytes n text size lines json =
    rw (text, size, append_assoc) (record {
      ends = rw take-append_seam lines;
      model = rw drop-append_seam (one_line model json);
    })
