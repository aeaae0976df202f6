use Rattle.city_tokens.proofs.Prelude.{◌-◌, arith}
use Rattle.city_tokens.proofs.Reading.{within, read_within}
use Rattle.city_tokens.proofs.boundaries.read_boundaries.Goals as goal

pub returns-then-brackets-eq3 : goal.returns-then-brackets-eq3
returns-then-brackets-eq3 c =
    let p = c.in_ok-brackets.ensures in
    let inner = c.args.depth - c.in_ok-brackets.brackets in
    let ring = c.in_ok-ring.ensures p.0 (p.2 inner) in
    let surface = within 1 c.in_ok-ring.ring c.in_ok-surface.surface inner p.0 c.in_ok-surface.ensures ring in
    let all = within 2 c.in_ok-surface.surface c.in_ok-surfaces.surfaces inner p.0 c.in_ok-surfaces.ensures surface in
    read_within 3 c.in_ok-surfaces.surfaces p.0 p.1 (omega arith) (omega arith) all

pub returns-then-brackets-eq4 : goal.returns-then-brackets-eq4
returns-then-brackets-eq4 c =
    let p = c.in_ok-brackets.ensures in
    let inner = c.args.depth - c.in_ok-brackets.brackets in
    let ring = c.in_ok-ring.ensures p.0 (p.2 inner) in
    let surface = within 1 c.in_ok-ring.ring c.in_ok-surface.surface inner p.0 c.in_ok-surface.ensures ring in
    let shell = within 2 c.in_ok-surface.surface c.in_ok-surfaces.surfaces inner p.0 c.in_ok-surfaces.ensures surface in
    let all = within 3 c.in_ok-surfaces.surfaces c.in_ok-shells.shells inner p.0 c.in_ok-shells.ensures shell in
    read_within 4 c.in_ok-shells.shells p.0 p.1 (omega arith) (omega arith) all

pub returns-then-brackets-eq5 : goal.returns-then-brackets-eq5
returns-then-brackets-eq5 c =
    let p = c.in_ok-brackets.ensures in
    let inner = c.args.depth - c.in_ok-brackets.brackets in
    let ring = c.in_ok-ring.ensures p.0 (p.2 inner) in
    let surface = within 1 c.in_ok-ring.ring c.in_ok-surface.surface inner p.0 c.in_ok-surface.ensures ring in
    let shell = within 2 c.in_ok-surface.surface c.in_ok-surfaces.surfaces inner p.0 c.in_ok-surfaces.ensures surface in
    let solid = within 3 c.in_ok-surfaces.surfaces c.in_ok-shells.shells inner p.0 c.in_ok-shells.ensures shell in
    let all = within 4 c.in_ok-shells.shells c.in_ok-solids.solids inner p.0 c.in_ok-solids.ensures solid in
    read_within 5 c.in_ok-solids.solids p.0 p.1 (omega arith) (omega arith) all
