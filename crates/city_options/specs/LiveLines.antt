-- What a live command line asks for.
use Rattle.std.specs.Prelude.{◌≤◌, ⊤}
use Rattle.city_options.specs.RunOptions.{max_wait}
use Rattle.city_options.specs.declared.live_line.AskedLive.{AskedLive}

-- a text is asked for, or a session that waits no longer than a run may
abbrev pub HasWait : AskedLive → Type 0
HasWait (AskedLive.Session line) = line.wait ≤ max_wait
HasWait (AskedLive.Text text) = ⊤
