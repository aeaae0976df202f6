-- The texts of a journal's lines, without their newlines.
use Rattle.std.specs.Prelude.{◌≡◌, ℕ, List, [], ◌++◌, Bool, true, false, Option, None, Some, codes, decimal}
use Rattle.json.specs.Print.{quoted}
use Rattle.city_journal.specs.Sums.{hex_text, sum_text}

-- the text begins so
abbrev pub Begins : List ℕ → List ℕ → Type 0
Begins prefix text = (rest : List ℕ) × (text ≡ prefix ++ rest)

abbrev pub bool_text : Bool → List ℕ
bool_text true = codes "true"
bool_text false = codes "false"

-- the version, and the end of a line's object
abbrev pub version_end : ℕ → List ℕ
version_end version = codes ",\"version\":" ++ (decimal version ++ codes "}")

-- the first line: the bytes of the model's sum, whether numbers are of any form, and the version
abbrev pub base_text : List ℕ → Bool → ℕ → List ℕ
base_text sum decimals version =
    codes "{\"base\":\"" ++ (hex_text sum ++ (codes "\",\"cityed\":1,\"decimals\":" ++ (bool_text decimals
    ++ version_end version)))

-- the line of a key, with the name and the version of its commit
abbrev pub key_text : List ℕ → List ℕ → ℕ → List ℕ
key_text key name version =
    codes "{\"key\":" ++ (quoted key ++ (codes ",\"name\":" ++ (quoted name
    ++ version_end version)))

-- the model with these bytes of its sum is about to be put into place
abbrev pub saved_text : List ℕ → List ℕ
saved_text sum = codes "{\"saved\":\"" ++ (hex_text sum ++ codes "\"}")

-- ---- commits

abbrev pub key_member : Option (List ℕ) → List ℕ
key_member None = []
key_member (Some key) = codes ",\"key\":" ++ quoted key

abbrev pub script_member : List ℕ → List ℕ
script_member script = codes ",\"script\":" ++ script

-- what stands before the sum of a commit's line: its hand, its key if it has one, and its script
abbrev pub before_sum : List ℕ → Option (List ℕ) → List ℕ → List ℕ
before_sum by key script =
    codes "{\"by\":" ++ (quoted by ++ (key_member key ++ (script_member script ++ codes ",\"sum\":\"")))

-- what stands behind it: the time and the version
abbrev pub behind_sum : ℕ → ℕ → List ℕ
behind_sum time version =
    codes "\",\"time\":" ++ (decimal time ++ version_end version)

abbrev pub commit_text : List ℕ → Option (List ℕ) → List ℕ → ℕ → ℕ → List ℕ
commit_text by key script time version =
    let before = before_sum by key script in
    let behind = behind_sum time version in
    before ++ (sum_text before behind ++ behind)
