-- Members of a JSON object, some behind others.
use Rattle.std.specs.Prelude.{◌≡◌, ℕ, List}
use Rattle.std.specs.declared.cmp.Ordering.TheVariants.{Less}
use Rattle.std.specs.Ordering.{nat_cmp}
use Rattle.std.specs.Cmp.Lexicographic.{slice_cmp}
use Rattle.serde_json.specs.Data.{Members, no_members, member}

-- the members, and the others behind them
abbrev pub joined : Members → Members → Members
joined no_members ns = ns
joined (member k d ms) ns = member k d (joined ms ns)

abbrev pub AllBelow : Members → List ℕ → Type 0
AllBelow no_members name = Unit {0}
AllBelow (member k d ms) name = (slice_cmp nat_cmp k name ≡ Less) × AllBelow ms name
