use Rattle.city_tokens.proofs.CommandMembers.{unset_made, reshape_made}
use Rattle.city_tokens.proofs.command.pair_command.Goals as goal

pub returns-in-Unset-Names : goal.returns-in-Unset-Names
returns-in-Unset-Names c =
    let pair = c.in-Unset-Names in
    rw (pair.is-0, pair.is-1) (unset_made c.args.id pair.names)

pub returns-in-Reshape-Geometry : goal.returns-in-Reshape-Geometry
returns-in-Reshape-Geometry c =
    let pair = c.in-Reshape-Geometry in
    rw (pair.is-0, pair.is-1) (reshape_made c.args.id pair.geometry)
