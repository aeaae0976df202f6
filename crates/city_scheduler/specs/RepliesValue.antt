-- A script's replies as contracts see them.
use Rattle.std.specs.Prelude.{ℕ, List}
use Rattle.city_model.specs.declared.command.Reply.{Reply}

pub record RepliesValue : Type 0 where
  pub list : List Reply
  -- the number of replies that fit
  pub room : ℕ
