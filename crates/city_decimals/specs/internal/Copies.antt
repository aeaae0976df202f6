-- Texts copied except for bytes left out.
use Rattle.std.specs.Prelude.{◌≡◌, ◌-◌, ◌≤◌, ℕ, List, [], ◌∷◌, ◌++◌, length, take, drop}
use Rattle.json.specs.Print.{escape_byte}
use Rattle.city_decimals.specs.declared.copier.Copier.TheInside.{Inside}

-- the old bytes of the buffer, the output, the text left to read
abbrev pub copier_view : Inside → List ℕ × List ℕ × List ℕ
copier_view c = (
  take c.base c.out.items,
  drop c.base c.out.items ++ take (c.at - c.start) (drop c.start c.text.now),
  drop c.at c.text.now,
)

pub record IsCopier (c : Inside) : Type 0 where
  pub piece : c.start ≤ c.at
  pub within : c.at ≤ length c.text.now
  pub behind : c.base ≤ length c.out.items

-- xs is read from the text left, and ys is its output
abbrev pub Moves : List ℕ × List ℕ × List ℕ → List ℕ × List ℕ × List ℕ → List ℕ → List ℕ → Type 0
Moves old new xs ys = (old.2 ≡ xs ++ new.2) × (new.1 ≡ old.1 ++ ys)

-- a backslash and this byte are a writer's escape of some byte
abbrev pub IsEscaped : ℕ → Type 0
IsEscaped byte = (x : ℕ) × (escape_byte x ≡ 92 ∷ byte ∷ [])

-- the byte stands for itself in a string
abbrev pub IsPlainByte : ℕ → Type 0
IsPlainByte x = (x ≡ 34 → ⊥) × (x ≡ 92 → ⊥) × (32 ≤ x)
