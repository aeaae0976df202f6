-- Trees may go to another thread, and be read from one, if their items may.
use denote.RattleType.{RattleType}
use denote.Param.Send.{IsSend, IsSync, sendable, view_send, view_sync}
use denote.Param.SendFields.{declared_send, declared_sync}
use Rattle.std.proofs.Crossing as values
use Rattle.city_trees.proofs.tree.Tree.TheLaws.TheKnot as trees
use Rattle.city_trees.specs.contracts.item.Item as Item
use Rattle.city_trees.specs.contracts.tree.Tree as Tree

module _ (T : RattleType) (sends : IsSend T) (syncs : IsSync T) where
  inside_sends : IsSend (Item.TheInside.the_row T)
  inside_sends =
      declared_send (Item.TheInside.the_type T) (search (sends, syncs, values.crosses, sendable) depth 60 fits 20000, tt)

  inside_syncs : IsSync (Item.TheInside.the_row T)
  inside_syncs =
      declared_sync (Item.TheInside.the_type T) (search (sends, syncs, values.crosses, sendable) depth 60 fits 20000, tt)

  item_sends : IsSend (Item.the_row T)
  item_sends = view_send (Item.TheInside.the_row T) _ _ _ _ inside_sends

  item_syncs : IsSync (Item.the_row T)
  item_syncs = view_sync (Item.TheInside.the_row T) _ _ _ _ inside_syncs

  pub tree_sends : IsSend (Tree.the_row T)
  tree_sends =
      trees.both_send-Tree T (search sendable) (search sendable)
      (search (item_sends, item_syncs, values.crosses, sendable) depth 60 fits 20000)
      (λ R s t. search (s, t, values.crosses, sendable)) (search sendable) (search sendable)
      (search (item_sends, item_syncs, values.crosses, sendable) depth 60 fits 20000)
      (λ R s t. search (s, t, values.crosses, sendable))

  pub tree_syncs : IsSync (Tree.the_row T)
  tree_syncs =
      trees.both_sync-Tree T (search sendable) (search sendable)
      (search (item_sends, item_syncs, values.crosses, sendable) depth 60 fits 20000)
      (λ R s t. search (s, t, values.crosses, sendable)) (search sendable) (search sendable)
      (search (item_sends, item_syncs, values.crosses, sendable) depth 60 fits 20000)
      (λ R s t. search (s, t, values.crosses, sendable))
