-- The output for two texts with numbers of any form: they are encoded, and the output of a run is decoded.
use Rattle.std.specs.Prelude.{◌≡◌, ◌≢◌, ◌⊎◌, ℕ, Bool, true, false, List, None}
use Rattle.std.specs.Str.{IsUtf8}
use Rattle.json.specs.Json.{document}
use Rattle.city_model.specs.declared.end.End.{End}
use Rattle.city_doc.specs.declared.fault.ReadFault.{ReadFault}
use Rattle.city_scripts.specs.declared.fault.ScriptFault.{ScriptFault}
use Rattle.city_tokens.specs.tree.Texts.{IsTooLong, IsReadable}
use Rattle.city_decimals.specs.Texts.{IsEncoded}
use Rattle.city_decimals.specs.Lines.{AreDecodedLines}
use Rattle.city_desk.specs.declared.fault.RunFault.{RunFault}
use Rattle.city_desk.specs.TextRuns.{IsRun}
use Rattle.city_serve.specs.ServedTexts.{Written, Faults, IsFaultOfRun}

-- ---- the texts given to the run

-- the text is refused as it stands: it is too long, or it is no JSON
abbrev pub IsRefusedText : List ℕ → Type 0
IsRefusedText text = IsTooLong text ⊎ (IsUtf8 text → document text ≡ None)

-- the text isn't too long, and this is its encoded text
abbrev pub IsReadEncoded : List ℕ → List ℕ → Type 0
IsReadEncoded text encoded = IsReadable text × IsEncoded text encoded

-- the run is given the encoded text; a text refused as it stands is given as it is
abbrev pub IsGiven : List ℕ → List ℕ → Type 0
IsGiven text given = IsReadEncoded text given ⊎ (IsRefusedText text × (given ≡ text))

-- ---- its answers

-- the bytes of a run on the encoded texts, decoded line by line
pub record IsDecimalsRun (document scripts : List ℕ) (ends : List End) (bytes : List ℕ) : Type 0 where
  pub encoded_document : List ℕ
  pub encoded_scripts : List ℕ
  pub output : List ℕ
  pub document_is : IsReadEncoded document encoded_document
  pub scripts_are : IsReadEncoded scripts encoded_scripts
  pub ran : IsRun encoded_document encoded_scripts ends output
  pub decoded : AreDecodedLines output bytes

-- no number is refused for its form
abbrev pub IsOfWholeNumbers : RunFault → Type 0
IsOfWholeNumbers f = (f ≢ RunFault.Read ReadFault.NotWhole) × (f ≢ RunFault.Script ScriptFault.NotWhole)

-- a fault of a run on the two texts as given to it; no number is refused for its form
pub record IsFaultOnGiven (document scripts : List ℕ) (workers viewers : ℕ) (f : RunFault) : Type 0 where
  pub given_document : List ℕ
  pub given_scripts : List ℕ
  pub document_is : IsGiven document given_document
  pub scripts_are : IsGiven scripts given_scripts
  pub fault : IsFaultOfRun given_document given_scripts workers viewers f
  pub whole : IsOfWholeNumbers f

-- `OutOfMemory` may be answered for any texts
abbrev pub IsFaultOfDecimalsRun : List ℕ → List ℕ → ℕ → ℕ → RunFault → Type 0
IsFaultOfDecimalsRun document scripts workers viewers f =
    (f ≡ RunFault.OutOfMemory) ⊎ IsFaultOnGiven document scripts workers viewers f

-- ---- by the options

-- the output for two texts, with numbers of any form or with whole ones
abbrev pub written_by : Bool → Written
written_by true = IsDecimalsRun
written_by false = IsRun

-- the faults of a run on them
abbrev pub faults_by : Bool → Faults
faults_by true = IsFaultOfDecimalsRun
faults_by false = IsFaultOfRun
