use Rattle.city_tokens.proofs.Prelude.{subst, Body, IsResolved, IsCommand, command_of, points_of}
use Rattle.city_model.specs.declared.command.Command.TheVariants.{Put, Add}
use Rattle.city_tokens.proofs.ResolvedParts.{body_is, put_resolved, add_resolved, reshape_resolved, unresolved}
use Rattle.city_tokens.proofs.command.resolved.Goals as goal

pub returns-in_ok-resolved_body-in-Put : goal.returns-in_ok-resolved_body-in-Put
returns-in_ok-resolved_body-in-Put c =
    let put = c.in-Put in
    let resolved = c.in_ok-resolved_body-in-Put in
    let points = points_of c.args.vertices.now in
    subst (λ (b : Body). IsResolved IsCommand (command_of points) c.args.command (Put put.id b))
    (body_is put.body resolved.field-0 resolved.ensures.kind resolved.ensures.extra)
    (put_resolved points put.body resolved.field-0.geometry resolved.ensures.geometry c.args.command put.id put.is)

pub returns-in_ok-resolved_body-in-Add : goal.returns-in_ok-resolved_body-in-Add
returns-in_ok-resolved_body-in-Add c =
    let add = c.in-Add in
    let resolved = c.in_ok-resolved_body-in-Add in
    let points = points_of c.args.vertices.now in
    subst (λ (b : Body). IsResolved IsCommand (command_of points) c.args.command (Add add.id b))
    (body_is add.body resolved.field-0 resolved.ensures.kind resolved.ensures.extra)
    (add_resolved points add.body resolved.field-0.geometry resolved.ensures.geometry c.args.command add.id add.is)

pub returns-in_ok-resolve_positions-in-Reshape : goal.returns-in_ok-resolve_positions-in-Reshape
returns-in_ok-resolve_positions-in-Reshape c =
    let reshape = c.in-Reshape in
    reshape_resolved (points_of c.args.vertices.now) c.args.command reshape.id reshape.geometry
    c.resolve_positions.new.self reshape.is c.in_ok-resolve_positions-in-Reshape.ensures

pub returns-in_default : goal.returns-in_default
returns-in_default c =
    let other = c.in_default in
    unresolved (points_of c.args.vertices.now) c.args.command other.not-Put other.not-Add other.not-Reshape
