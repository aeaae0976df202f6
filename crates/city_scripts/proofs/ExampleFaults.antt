-- Three items and all their faults: the worked case of the order of a script's faults.
use Rattle.city_scripts.proofs.Prelude.{List, ◌∷◌, [], refl, arith, inl, inr, codes, array, item, no_items, number}
use Rattle.city_scripts.proofs.Prelude.{object, string, put, Data, Members, no_members}
use Rattle.serde_json.specs.Data.{unsigned}
use Rattle.city_model.specs.Types as types
use Rattle.city_scripts.specs.declared.fault.ScriptFault.TheVariants.{BadScript, BadCommand, BadVertex}
use Rattle.city_scripts.specs.AllFaults.{StandsAt, IsBefore, AreThose}
use Rattle.city_scripts.proofs.Told.{all_told}

-- a script without vertices
abbrev script : Data → Data
script commands = object (put (codes "name") (string (codes "s")) (put (codes "commands") commands no_members))

-- the first vertex of none
abbrev surface : Data
surface =
    object (put (codes "type") (string (codes "MultiSurface")) (put (codes "lod") (string (codes "1"))
    (put (codes "boundaries")
    (array (item (array (item (array (item (number (unsigned 0)) no_items)) no_items)) no_items))
    no_members)))

abbrev road : Members
road = put (codes "type") (string (codes "Road")) (put (codes "geometry") (array (item surface no_items)) no_members)

abbrev put_road : Members → Data
put_road members = object (put (codes "put") (string (codes "g")) (put (codes "object") (object members) no_members))

-- its position names no vertex
abbrev far : Data
far = put_road road

-- nor does the one of this item; it names parents as well
abbrev related : Data
related = put_road (put (codes "parents") (array no_items) road)

abbrev commit : Data
commit = string (codes "commit")

abbrev items : List Data
items =
    script (array (item far (item related (item commit no_items)))) ∷ string (codes "x")
    ∷ script (array (item (string (codes "halt")) (item commit no_items))) ∷ []

-- all faults of the three, each once, in order; a bad command isn't asked for its vertices
pub all_of_three : AreThose (StandsAt items)
    (BadScript 1 ∷ BadCommand 0 1 ∷ BadCommand 2 0 ∷ BadVertex 0 0 ∷ [])
unfolding types.type_named
all_of_three = all_told items

-- the number comes first, then the script, then the command
pub number_first : IsBefore (BadScript 1) (BadCommand 0 1)
number_first = inl (search (arith))

pub then_script : IsBefore (BadCommand 0 1) (BadCommand 2 0)
then_script = inr (refl, inl (search (arith)))

pub then_command : IsBefore (BadCommand 0 1) (BadCommand 0 2)
then_command = inr (refl, inr (refl, search (arith)))
