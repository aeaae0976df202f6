use Rattle.city_serve.proofs.Prelude.{◌≡◌, is_some, Keeps}
use Rattle.city_serve.proofs.device.Device.write_some.Given as goal

abbrev pub invariant-loop : goal.invariant-loop
invariant-loop g l = Keeps (g.W.Write.contents l.fn.self.0) (g.W.Write.contents l.self-inside.inner)
    × (is_some l.self-inside.failure ≡ l.fn.self.1)
