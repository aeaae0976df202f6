-- The members of a tree: kept if they may be, and read as texts.
use Rattle.std.specs.Prelude.{ℕ, List, Bool, Option, Some, None, option_and_then, if◌then◌else◌, false}
use Rattle.serde_json.specs.Data.{Data, Members}
use Rattle.serde_json.specs.Find.{get, as_str}
use Rattle.std.specs.Str.{bytes_eq}

-- the members, if they may be kept
abbrev pub kept_if : (Members → Bool) → Members → Option Members
kept_if test ms = if test ms then Some ms else None

abbrev pub text_at : List ℕ → Data → Option (List ℕ)
text_at name d = option_and_then as_str (get name d)

abbrev pub same_text : List ℕ → Option (List ℕ) → Bool
same_text text None = false
same_text text (Some s) = bytes_eq s text

-- the member is there and is this text
abbrev pub is_text : List ℕ → Option Data → Bool
is_text text o = same_text text (option_and_then as_str o)
