-- The lines of commits.
use Rattle.std.specs.Prelude.{◌≡◌, ◌<◌, ◌^◌, ℕ, List, [], ◌∷◌, ◌++◌, Bool, true, false, Option}
use Rattle.city_model.specs.Runs.{Scripted}
use Rattle.city_writer.specs.script.Canonical.{scripts_text}
use Rattle.city_writer.specs.script.Texts.{AreWritten}
use Rattle.city_scripts.specs.WrittenScripts.{IsShort}
use Rattle.city_decimals.specs.Texts.{IsDecoded}
use Rattle.city_live.specs.declared.journal.Commands.TheVariants as commands
use Rattle.city_live.specs.declared.journal.Commands.{Commands}
use Rattle.city_live.specs.declared.journal.Entry.{Entry}
use Rattle.city_journal.specs.LineTexts.{commit_text}
use Rattle.city_journal.specs.Names.{KeyFits}
use Rattle.city_journal.specs.Steps.{commands_of_steps}

-- the script of an entry's commands, with this name if they are no whole script
abbrev pub script_by : List ℕ → Commands → Scripted
script_by name (commands.Script s) = s.now
script_by name (commands.Each ss) = (name, commands_of_steps ss.now)

-- the script is written as a text of its own
abbrev pub IsWrittenAlone : Scripted → Type 0
IsWrittenAlone s = AreWritten (scripts_text (s ∷ [])) (s ∷ [])

-- its text, as it stands in a text of this script alone; it has no more commands than are read
pub record IsWhole (s : Scripted) (text : List ℕ) : Type 0 where
  pub alone : scripts_text (s ∷ []) ≡ 91 ∷ (text ++ 93 ∷ [])
  pub written : IsWrittenAlone s
  pub short : IsShort s

-- the text of a script in a journal; with decimals, its numbers are as they were written
abbrev pub IsScriptOf : Bool → Scripted → List ℕ → Type 0
IsScriptOf false s text = IsWhole s text
IsScriptOf true s text = (whole : List ℕ) × IsWhole s whole × IsDecoded whole text

-- a line says that this commit is made: its hand, maybe a key, its script, some time, and its version
pub record IsCommitLine (decimals : Bool) (e : Entry) (line : List ℕ) : Type 0 where
  pub key : Option (List ℕ)
  pub script : List ℕ
  pub time : ℕ
  pub is_script : IsScriptOf decimals (script_by e.name.now e.commands) script
  pub named : KeyFits key script
  pub fits : (time < 2 ^ 64) × (e.version < 2 ^ 64)
  pub is_line : line ≡ commit_text e.by.now key script time e.version
