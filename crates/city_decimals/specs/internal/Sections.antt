-- An output in sections that are decoded one by one, in the memory of the output.
use Rattle.std.specs.Prelude.{◌≡◌, ◌+◌, ◌-◌, ◌≤◌, ℕ, List, ◌++◌, length, take, drop}
use Rattle.city_decimals.specs.Lines.{AreDecodedLines}
use Rattle.city_decimals.specs.declared.search.FrameIndices.{FrameIndices}
use Rattle.city_decimals.specs.internal.Found.{Found, bytes_of, decoded_of, IsFound}

-- out has each line of the text decoded, behind these bytes
abbrev pub AreDecodedBehind : List ℕ → List ℕ → List ℕ → Type 0
AreDecodedBehind before text out = (more : List ℕ) × (out ≡ before ++ more) × AreDecodedLines text more

-- the tag stands only in encoded numbers
abbrev pub HasNumbersAlone : List ℕ → Type 0
HasNumbersAlone text = (p : Found) × IsFound p × (bytes_of p ≡ text)

-- the bytes from one index to another
abbrev pub section : ℕ → ℕ → List ℕ → List ℕ
section from to text = take (to - from) (drop from text)

-- the model is decoded if what begins the frame and what ends it is left out, and each section is decoded
pub record IsFrameOf (report : ℕ) (text : List ℕ) (f : FrameIndices) : Type 0 where
  pub begin : report ≤ f.begin
  pub inside : f.begin ≤ f.inside
  pub end : f.inside ≤ f.end
  pub behind : f.end ≤ f.behind
  pub within : f.behind ≤ length text
  pub model : (p q r : Found) → IsFound p → IsFound q → IsFound r → bytes_of p ≡ section report f.begin text
      → bytes_of q ≡ section f.inside f.end text → bytes_of r ≡ section f.behind (length text) text
      → AreDecodedLines (drop report text) (decoded_of p ++ (decoded_of q ++ decoded_of r))

-- and so is the report, and each section can be decoded
pub record AreSections (report : ℕ) (text : List ℕ) (f : FrameIndices) : Type 0 where
  pub frame : IsFrameOf report text f
  pub lines : (p : Found) → IsFound p → bytes_of p ≡ take report text
      → AreDecodedLines (take report text) (decoded_of p)
  pub report_alone : HasNumbersAlone (take report text)
  pub front_alone : HasNumbersAlone (section report f.begin text)
  pub inside_alone : HasNumbersAlone (section f.inside f.end text)
  pub behind_alone : HasNumbersAlone (section f.behind (length text) text)

-- so many bytes are moved to a lower index; behind them the text is as it was
pub record IsMoved (old : List ℕ) (from to count : ℕ) (new : List ℕ) : Type 0 where
  pub len : length new ≡ length old
  pub moved : take (to + count) new ≡ take to old ++ take count (drop from old)
  pub behind : drop (from + count) new ≡ drop (from + count) old

-- so many bytes are decoded, and moved to a lower index; they end there
pub record IsDecodedTo (old : List ℕ) (from to count : ℕ) (new : List ℕ) (end : ℕ) : Type 0 where
  pub len : length new ≡ length old
  pub below : end ≤ to + count
  pub found : Found
  pub are : IsFound found
  pub text : bytes_of found ≡ take count (drop from old)
  pub decoded : take end new ≡ take to old ++ decoded_of found
  pub behind : drop (from + count) new ≡ drop (from + count) old
