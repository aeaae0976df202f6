-- A worked example: the text of a script. Its pool has each point once, in the order in which the commands name them.
use Rattle.city_writer.proofs.Prelude.{◌≡◌, [], ◌∷◌, ◌++◌, refl, pos, Geometry, Point, no_members}
use Rattle.std.proofs.Common.{codes}
use Rattle.std.specs.Fmt.{digits}
use Rattle.json.specs.Print.{escape_byte}
use Rattle.city_model.specs.Runs.{Scripted}
use Rattle.city_model.specs.declared.command.Command.TheVariants.{Read, Reshape, Commit}
use Rattle.city_model.specs.declared.object.Shape.TheVariants.{MultiSurface}
use Rattle.city_writer.specs.script.Canonical.{scripts_text}

abbrev first : Point
first = record { x = pos 1; y = pos 0; z = pos 0 }

abbrev second : Point
second = record { x = pos 0; y = pos 0; z = pos 7 }

abbrev geometry : Geometry
geometry = record {
  lod = codes "1";
  shape = MultiSurface (((first ∷ second ∷ first ∷ []) ∷ []) ∷ []);
  extra = no_members;
}

abbrev script : Scripted
script = (codes "a", Read (codes "r") ∷ Reshape (codes "s") (geometry ∷ []) ∷ Commit ∷ [])

pub its_text : scripts_text (script ∷ [])
    ≡ codes "[{\"commands\":[{\"read\":\"r\"},{\"geometry\":[{\"boundaries\":[[[0,1,0]]],\"lod\":\"1\",\"type\":"
    ++ codes "\"MultiSurface\"}],\"reshape\":\"s\"},\"commit\"],\"name\":\"a\",\"vertices\":[[1,0,0],[0,0,7]]}]"
unfolding scripts_text escape_byte digits
its_text = refl

-- a script without points has no vertices
pub without_points : scripts_text ((codes "b", Commit ∷ []) ∷ []) ≡ codes "[{\"commands\":[\"commit\"],\"name\":\"b\"}]"
unfolding scripts_text escape_byte
without_points = refl
