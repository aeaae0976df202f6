-- The lines that a session is to write, and those that it has written.
use Rattle.std.specs.Prelude.{◌≡◌, ◌++◌, ◌∷◌, [], ℕ, List, Option}
use Rattle.std.specs.Io.KnownBytes.{Appends}
use Rattle.city_journal.specs.Lines.{AreLines, IsLine, lines_text}
use Rattle.city_live.specs.Serving.{Served}
use Rattle.city_server.specs.Asked.{AreAnswered}
use Rattle.city_server.specs.Lines.{HasBegun}
use Rattle.city_server.specs.declared.input_lines.Skip.{Skip}
use Rattle.city_server.specs.declared.telling.Telling.{Telling}

-- lines are added to those that are to be written, and nothing else changes
pub record Adds (P : List ℕ → Type 0) (old new : Telling) : Type 0 where
  pub out : List ℕ
  pub answers : new.answers.items ≡ old.answers.items ++ out
  pub decimals : new.decimals ≡ old.decimals
  pub line : new.line ≡ old.line
  pub is : P out

-- lines of the input are answered, and their answers are added to the lines that are to be written
pub record AddsAnswers (lines : List (List ℕ)) (s u : Served) (old new : Telling) : Type 0 where
  pub out : List ℕ
  pub answers : new.answers.items ≡ old.answers.items ++ out
  pub decimals : new.decimals ≡ old.decimals
  pub are : AreAnswered old.decimals lines old.line new.line s u out

-- ---- with a writer

-- lines of the input are answered, and of what is to be written the first has been
pub record Serves (lines : List (List ℕ)) (s u : Served) (told now : Telling) (old new : Option (List ℕ)) : Type 0 where
  pub out : List ℕ
  pub written : List ℕ
  pub appends : Appends old new written
  pub left : told.answers.items ++ out ≡ written ++ now.answers.items
  pub decimals : now.decimals ≡ told.decimals
  pub are : AreAnswered told.decimals lines told.line now.line s u out

-- all that is to be written is written
pub record WritesOut (told now : Telling) (old new : Option (List ℕ)) : Type 0 where
  pub none_left : now.answers.items ≡ []
  pub decimals : now.decimals ≡ told.decimals
  pub line : now.line ≡ told.line
  pub appends : Appends old new told.answers.items

-- The lines of these bytes are served, up to the last, which has only begun, and up to the rest.
pub record ServesBytes (bytes rest : List ℕ) (skip : Option Skip) (kept : List ℕ) (s u : Served) (told now : Telling)
    (old new : Option (List ℕ)) : Type 0 where
  pub lines : List (List ℕ)
  pub last : List ℕ
  pub are_lines : AreLines lines
  pub last_is : IsLine last
  pub bytes_are : bytes ≡ lines_text lines ++ (last ++ rest)
  pub begun : HasBegun skip kept last
  pub serves : Serves lines s u told now old new

-- The session breaks off. The first lines of these bytes have been answered, all others haven't, and of what was to be
-- written the first bytes have been, and no others.
pub record BreaksOff (bytes : List ℕ) (s : Served) (told : Telling) (old new : Option (List ℕ)) : Type 0 where
  pub lines : List (List ℕ)
  pub rest : List ℕ
  pub are_lines : AreLines lines
  pub bytes_are : bytes ≡ lines_text lines ++ rest
  pub u : Served
  pub number : ℕ
  pub out : List ℕ
  pub are : AreAnswered told.decimals lines told.line number s u out
  pub written : List ℕ
  pub unwritten : List ℕ
  pub appends : Appends old new written
  pub first : told.answers.items ++ out ≡ written ++ unwritten
