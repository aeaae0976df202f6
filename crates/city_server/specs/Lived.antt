-- What a live session writes, from its start to the end of its input.
use Rattle.std.specs.Prelude.{◌≡◌, ◌++◌, ◌∷◌, [], ℕ, Bool, List, Option, None, codes}
use Rattle.std.specs.Io.KnownBytes.{Appends, Consumes, IsAtEnd}
use Rattle.std.specs.FinMap.{len}
use Rattle.serde_json.specs.Data.{string, member}
use Rattle.city_journal.specs.Lines.{AreLines, IsLine, lines_text}
use Rattle.city_lines.specs.Answers.{line_text}
use Rattle.city_lines.specs.Told.{one}
use Rattle.city_live.specs.Serving.{Served, IsServed}
use Rattle.city_model.specs.CityMap.{CityValue, object_at}
use Rattle.city_txn.specs.CoreState.{committed}
use Rattle.city_writer.specs.internal.tree.PartTokens.{tokens_of_members}
use Rattle.city_writer.specs.report.Ends.{count_data}
use Rattle.city_server.specs.Asked.{AreAnswered}
use Rattle.city_server.specs.declared.telling.Telling.{Telling}

-- ---- the lines of an input

-- a last line without a newline is one if it has bytes
abbrev pub last_line : List ℕ → List (List ℕ)
last_line [] = []
last_line (c ∷ cs) = (c ∷ cs) ∷ []

-- the bytes are these lines, each with its newline but for the last one, which may lack it
pub record AreLinesOf (bytes : List ℕ) (lines : List (List ℕ)) : Type 0 where
  pub whole : List (List ℕ)
  pub last : List ℕ
  pub are_lines : AreLines whole
  pub last_is : IsLine last
  pub bytes_are : bytes ≡ lines_text whole ++ last
  pub lines_are : lines ≡ whole ++ last_line last

-- ---- a session

-- the line that tells that a session is ready: its program, and how many objects the model of this version has
abbrev pub ready_text : List ℕ → ℕ → ℕ → List ℕ
ready_text program objects version =
    line_text None None (tokens_of_members (member (codes "cityed") (string program)
    (member (codes "objects") (count_data objects) (one (codes "version") (count_data version)))))

-- The hands on this city before any request.
pub record IsOpened (city : CityValue) (s : Served) : Type 0 where
  pub start : s.session.start ≡ city
  pub closed : s.session.closed ≡ []
  pub committed_is : committed s.session.core ≡ object_at city.1
  pub events : s.events ≡ []
  pub answers : s.answers ≡ []

-- a session over some city, at a version: this is so of its first line, and of the hands on it
pub record IsSession (program : List ℕ) (P : List ℕ → Served → Type 0) : Type 0 where
  pub city : CityValue
  pub version : ℕ
  pub opened : Served
  pub is_opened : IsOpened city opened
  pub is : P (ready_text program (len city.1) version) opened

-- a session over this city is about to begin: it has its first line to write, and no line of the input was answered
pub record IsReady (program : List ℕ) (decimals : Bool) (city : CityValue) (version : ℕ) (s : Served) (told : Telling)
    : Type 0 where
  pub opened : IsOpened city s
  pub decimals_is : told.decimals ≡ decimals
  pub line : told.line ≡ 0
  pub answers : told.answers.items ≡ ready_text program (len city.1) version

-- All lines of the input are answered, in their order, and the writer has got their answers behind the first bytes, and
-- nothing else.
pub record AreAllAnswered (decimals : Bool) (first : List ℕ) (s : Served) (input left : Option (List ℕ))
    (old new : Option (List ℕ)) : Type 0 where
  pub bytes : List ℕ
  pub read : Consumes input left bytes
  pub at_end : IsAtEnd left
  pub lines : List (List ℕ)
  pub are_lines : AreLinesOf bytes lines
  pub u : Served
  pub number : ℕ
  pub out : List ℕ
  pub are : AreAnswered decimals lines 0 number s u out
  pub served : IsServed u
  pub written : Appends old new (first ++ out)

-- The first lines of what was read are answered, and of the first bytes and these answers the writer has got the first,
-- and nothing else. The last line may lack its newline.
pub record AreFirstAnswered (decimals : Bool) (first : List ℕ) (s : Served) (input left : Option (List ℕ))
    (old new : Option (List ℕ)) : Type 0 where
  pub bytes : List ℕ
  pub read : Consumes input left bytes
  pub lines : List (List ℕ)
  pub rest : List ℕ
  pub are_lines : AreLines lines
  pub bytes_are : bytes ++ 10 ∷ [] ≡ lines_text lines ++ rest
  pub u : Served
  pub number : ℕ
  pub out : List ℕ
  pub are : AreAnswered decimals lines 0 number s u out
  pub written : List ℕ
  pub unwritten : List ℕ
  pub appends : Appends old new written
  pub first_are : first ++ out ≡ written ++ unwritten
