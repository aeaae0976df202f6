use Rattle.city_serve.proofs.Prelude.{◌≡◌, is_some, length, Keeps}
use Rattle.city_serve.proofs.device.Device.read_some.Given as goal

abbrev pub invariant-loop : goal.invariant-loop
invariant-loop g l = Keeps (g.R.Read.remaining l.fn.self.0) (g.R.Read.remaining l.self-inside.inner)
    × (length l.chunk ≡ length l.fn.chunk) × (is_some l.self-inside.failure ≡ l.fn.self.1)
