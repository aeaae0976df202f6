-- How far a text has come.
use Rattle.std.specs.Prelude.{Bool, true, false}
use Rattle.city_serve.specs.declared.texts.Stage.{Stage}

-- it isn't there yet
abbrev pub is_unread : Stage → Bool
is_unread Stage.Unread = true
is_unread Stage.Given = false
is_unread Stage.Encoded = false

-- it is as it was given
abbrev pub is_given : Stage → Bool
is_given Stage.Unread = false
is_given Stage.Given = true
is_given Stage.Encoded = false
