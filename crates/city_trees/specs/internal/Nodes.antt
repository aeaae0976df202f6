-- The items of a node of a tree, and which nodes stand in one.
use Rattle.std.specs.Prelude.{◌<◌, List, [], ◌++◌, length}
use Rattle.std.specs.Arc.{arc_value}
use Rattle.city_trees.specs.declared.tree.Node.{Node}
use Rattle.city_trees.specs.declared.tree.Node.TheVariants.{Empty, Leaf, Branch}

-- the items, in order
abbrev pub items_of : {E : Type 0} → Node E → List E
items_of Empty = []
items_of (Leaf items) = (arc_value items).items
items_of (Branch pair) = (arc_value pair).left ++ (arc_value pair).right

-- neither side of a branch is empty
abbrev pub IsFilled : {E : Type 0} → Node E → Type 0
IsFilled Empty = Unit {0}
IsFilled (Leaf items) = Unit {0}
IsFilled (Branch pair) = (0 < length (arc_value pair).left) × (0 < length (arc_value pair).right)
