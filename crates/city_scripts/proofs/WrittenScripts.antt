-- The text written for scripts stands for them.
use Rattle.city_scripts.proofs.Prelude.{◌≤◌, ℕ, List, Scripted}
use Rattle.serde_json.specs.Data.{depth}
use Rattle.serde_json.specs.Read.{max_depth}
use Rattle.city_tokens.specs.script.Scripts.{IsReadAs}
use Rattle.city_tokens.specs.tree.Texts.{IsReadable}
use Rattle.city_writer.proofs.Laws.{text_reads}
use Rattle.city_writer.specs.script.Canonical.{scripts_tree}
use Rattle.city_writer.specs.script.Texts.{AreWritten}
use Rattle.city_scripts.specs.WrittenScripts.{AreFew}
use Rattle.city_scripts.proofs.IntegralScripts.{scripts_integral}
use Rattle.city_scripts.proofs.RoundTrip.{scripts_read_again}

pub read_again : (text : List ℕ) (ss : List Scripted) → AreWritten text ss → AreFew ss → IsReadable text
    → depth (scripts_tree ss) ≤ max_depth → IsReadAs text ss
read_again text ss h few readable shallow = (
  scripts_tree ss,
  (readable, (h.utf8, text_reads text (scripts_tree ss) h.tokens_are h.reads shallow)),
  scripts_integral ss h.writable,
  scripts_read_again ss h.writable few,
)
