-- The own members of an object, written among the kept ones.
use Rattle.std.specs.Prelude.{ℕ, zero, suc, ◌-◌, List, [], ◌∷◌, ◌++◌, Option, Some, None}
use Rattle.json.specs.Token.{Token, end_object, key}
use Rattle.serde_json.specs.Data.{Data, Members}
use Rattle.city_writer.specs.internal.tree.Parted.{members_before, members_from}
use Rattle.city_writer.specs.internal.tree.PartTokens.{tokens_of_members, tokens_of_own}
use Rattle.city_writer.specs.tree.Tokens.{tokens_of}

-- their names, in byte order, and their values; an absent member has none
abbrev pub Own : Type 0
Own = List (List ℕ × Option Data)

-- its own member m and the kept ones before it: the member by its name and its value, or at once
abbrev pub part : Members → ℕ → List ℕ → Option Data → List Token → List Token
part kept zero m (Some d) out =
    (out ++ (tokens_of_members (members_before m kept) ++ key m ∷ [])) ++ tokens_of d
part kept zero m None out = out ++ (tokens_of_members (members_before m kept) ++ [])
part kept (suc n) m o out = out ++ (tokens_of_members (members_before m kept) ++ tokens_of_own m o)

-- the whole object, the first n of its own members each at once
abbrev pub written : Members → ℕ → Own → List Token → List Token
written kept n [] out = out ++ (tokens_of_members kept ++ end_object ∷ [])
written kept n (o ∷ own) out = written (members_from o.0 kept) (n - 1) own (part kept n o.0 o.1 out)
