-- The items of what a tree is made of.
use Rattle.std.specs.Prelude.{◌<◌, List, ◌++◌, length}
use Rattle.city_trees.specs.declared.tree.Shape.{Shape}
use Rattle.city_trees.specs.declared.tree.Shape.TheVariants.{Leaf, Sides}

-- all items, or those of the sides
abbrev pub shape_items : {E : Type 0} → Shape E → List E
shape_items (Leaf items) = items.now
shape_items (Sides left right) = left.now ++ right.now

-- each side has items
abbrev pub HasParts : {E : Type 0} → Shape E → Type 0
HasParts (Leaf items) = Unit {0}
HasParts (Sides left right) = (0 < length left.now) × (0 < length right.now)
