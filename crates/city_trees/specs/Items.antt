-- The items that an iterator has left.
use Rattle.std.specs.Prelude.{List, ◌++◌, drop}
use Rattle.city_trees.specs.declared.items.Items.{Items}

-- those left of a leaf, and all behind it
abbrev pub items_left : {E : Type 0} → Items E → List E
items_left left = left.slice.now ++ drop left.at left.tree.now
