-- A city written in pieces by several workers.
use Rattle.std.specs.Prelude.{◌≡◌, ◌<◌, ◌^◌, ◌++◌, ◌∷◌, [], List, ℕ, codes, length, Some, true}
use Rattle.json.specs.Token.{Token, begin_object, key}
use Rattle.serde_json.specs.Data.{Members, string}
use Rattle.city_model.specs.declared.frame.Frame.{Frame}
use Rattle.city_model.specs.declared.object.Point.{Point}
use Rattle.city_model.specs.CityMap.{Entries}
use Rattle.city_writer.specs.document.Canonical.{transform_data}
use Rattle.city_writer.specs.internal.Pool.{with_points}
use Rattle.city_writer.specs.internal.document.KeptMembers.{are_kept_objects}
use Rattle.city_writer.specs.internal.object.InTurn.{in_turn, entry_points}
use Rattle.city_writer.specs.internal.tree.Appended.{IsPrinted}
use Rattle.city_writer.specs.internal.tree.OwnMembers.{Own}
use Rattle.city_writer.specs.internal.tree.Parted.{members_before}
use Rattle.city_writer.specs.internal.tree.PartTokens.{tokens_of_members}
use Rattle.city_writer.specs.internal.tree.ReadsBack.{MembersReadBack}
use Rattle.city_writer.specs.shape.Vertices.{vertices_data}

-- the own members of a city behind its objects
abbrev pub frame_own : List Point → Frame → Own
frame_own pool f =
    (codes "transform", Some (transform_data f)) ∷ (codes "type", Some (string (codes "CityJSON")))
    ∷ (codes "version", Some (string (codes "2.0"))) ∷ (codes "vertices", Some (vertices_data pool)) ∷ []

-- the tokens before the first object, if these members are kept
abbrev pub head_tokens : Members → List Token
head_tokens kept =
    ((begin_object ∷ []) ++ (tokens_of_members (members_before (codes "CityObjects") kept)
    ++ key (codes "CityObjects") ∷ [])) ++ begin_object ∷ []

-- the points of a piece, each once
abbrev pub IsListed : Entries → List Point → Type 0
IsListed es ps = ps ≡ with_points [] (entry_points es)

-- a text has the members of a piece, each point as its number in the pool
pub record IsWritten (pool : List Point) (es : Entries) (text : List ℕ) : Type 0 where
  pub printed : IsPrinted text (tokens_of_members (in_turn pool es))
  pub reads : MembersReadBack (in_turn pool es)
  pub kept : are_kept_objects es ≡ true

-- the same if all points of the piece have numbers, in the range of the program's types
abbrev pub IsWrittenIfKnown : List Point → Entries → List ℕ → Type 0
IsWrittenIfKnown pool es text =
    with_points pool (entry_points es) ≡ pool → length pool < 2 ^ 63 → IsWritten pool es text
