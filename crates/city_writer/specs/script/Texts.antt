-- Texts of scripts as they are written.
use Rattle.std.specs.Prelude.{◌≡◌, ◌<◌, ◌^◌, ℕ, List, length, true}
use Rattle.std.specs.List.{AllByRecursion, list_all}
use Rattle.std.specs.Str.{IsUtf8}
use Rattle.json.specs.Lex.{tokens}
use Rattle.city_model.specs.Runs.{Scripted}
use Rattle.city_model.specs.Scripts.{ends_once}
use Rattle.city_writer.specs.internal.script.KeptMembers.{are_kept_commands}
use Rattle.city_writer.specs.internal.tree.ReadsBack.{ReadsBack}
use Rattle.city_writer.specs.script.Canonical.{script_pool, script_tree, scripts_tree}
use Rattle.city_writer.specs.shape.Vertices.{is_i64_point}
use Rattle.city_writer.specs.tree.Tokens.{tokens_of}

-- the tokens of the script's tree are read as this tree; exactly its last command ends it, its kept members may be kept
-- at their places, and its numbers are in range. Every script of the program is like this; one made up in a clause may
-- not be.
pub record IsWritable (s : Scripted) : Type 0 where
  pub reads : ReadsBack (script_tree s)
  pub ends : ends_once s.1 ≡ true
  pub kept : are_kept_commands s.1 ≡ true
  pub points : list_all is_i64_point (script_pool s) ≡ true
  pub fewer : length (script_pool s) < 2 ^ 63

-- the text is UTF-8; its tokens are those of the scripts' tree, and are read as this tree
pub record AreWritten (text : List ℕ) (scripts : List Scripted) : Type 0 where
  pub tokens_are : tokens text ≡ tokens_of (scripts_tree scripts)
  pub utf8 : IsUtf8 text
  pub reads : ReadsBack (scripts_tree scripts)
  pub writable : AllByRecursion IsWritable scripts
