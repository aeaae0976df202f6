-- The rule of a board: every later version keeps everything its viewers know.
use Rattle.std.specs.Prelude.{ℕ, ◌≡◌, true, false, List, []}
use mathlib.Core.Option.{some}
use mathlib.Core.List.{IsPrefix}
use lib.ListN.{get_elem?}
use Rattle.city_model.specs.CityMap.{CityValue}
use Rattle.city_board.specs.HistoryValue.{HistoryValue, history_of}
use Rattle.city_scheduler.specs.internal.NoCity.{no_city}
use Rattle.city_board.specs.internal.Versions.{IsFaithful, LeadTo}
use Rattle.city_board.specs.declared.ghosts.board_rule.Known.{Known}
use Rattle.city_board.specs.declared.version.Edit.{Edit}
use Rattle.city_board.specs.declared.version.Version.{Version}

-- the version belongs to the known board, and is no older than the known changes
pub record IsNoOlder (known : Known) (x : Version) : Type 0 where
  pub name : x.history.name ≡ known.history.name
  pub opening : x.opening ≡ known.opening
  pub later : IsPrefix known.history.changes x.history.changes

-- one who knows nothing yet
abbrev pub newcomer : Known
newcomer = record {
  met = false;
  opening = no_city;
  history = history_of (record { number = 0; log_name = 0; cells_name = 0 }) [];
}

-- the knowledge of one who has seen the version
abbrev pub known_from : Version → Known
known_from x = record { met = true; opening = x.opening; history = x.history }

-- the published version is faithful, and no older than anybody's knowledge
abbrev pub MeetsRule : Version → List Known → Type 0
MeetsRule x each =
    IsFaithful x
    × ((seat : ℕ) (known : Known) → get_elem? each seat ≡ some known → known.met ≡ true → IsNoOlder known x)

-- one who knew `before` has seen the version y, faithful and no older
abbrev pub Sees : Known → Version → Version → Known → Type 0
Sees before x y after = (after ≡ known_from y) × IsFaithful y × (before.met ≡ true → IsNoOlder before y)

-- y is a faithful version of the board of x, and no older
abbrev pub IsLater : Version → Version → Type 0
IsLater x y = IsFaithful y × IsNoOlder (known_from x) y

-- the writer's version is the published one, and its edits lead to all changes taken
pub record HoldsEdits (x : Version) (known : Known) (es : List Edit) (opening : CityValue)
    (published taken : HistoryValue) : Type 0 where
  pub faithful : IsFaithful x
  pub met : known ≡ known_from x
  pub opening_is : x.opening ≡ opening
  pub history : x.history ≡ published
  pub lead : LeadTo x es taken
