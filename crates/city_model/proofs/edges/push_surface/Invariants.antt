use Rattle.city_model.proofs.Prelude.{drop}
use Rattle.city_model.specs.Shells.{surface_edges}
use Rattle.city_model.proofs.Noted.{Noted}
use Rattle.city_model.proofs.edges.push_surface.Given as goal

abbrev pub invariant-loop-ring : goal.invariant-loop-ring
invariant-loop-ring l =
    Noted l.fn.edges.up.items l.fn.edges.down.items (surface_edges l.rings) l.edges.up.items l.edges.down.items
    (surface_edges (drop l.ring-index l.rings))
