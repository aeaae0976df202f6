-- The lines of an input.
use Rattle.std.specs.Prelude.{◌≡◌, ◌<◌, ℕ, List, [], Option, Some, None, length}
use Rattle.std.specs.Prelude.{Result, MatchResult}
use Rattle.std.specs.Global.{Vec}
use Rattle.city_server.specs.declared.input_lines.Skip.{Skip}
use Rattle.city_server.specs.declared.input_lines.Skip.TheVariants as skips

-- the most bytes of a line, without its newline
abbrev pub max_line : ℕ
max_line = 67108864

-- of a line these bytes were read: they are kept, or skipped for this reason
abbrev pub HasBegun : Option Skip → List ℕ → List ℕ → Type 0
HasBegun None kept begun = kept ≡ begun
HasBegun (Some skips.TooLong) kept begun = max_line < length begun
HasBegun (Some skips.NoMemory) kept begun = 0 < length begun

-- the line is given whole, or is skipped for this reason
abbrev pub IsTaken : List ℕ → Result (Vec ℕ) Skip → Type 0
IsTaken begun r = MatchResult r (λ line. line.items ≡ begun) (λ why. HasBegun (Some why) [] begun)
