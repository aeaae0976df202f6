use Rattle.city_tokens.proofs.Prelude.{◌≡◌, ◌∙◌, ap, sym, Some, Body, IsGeometry, IsResolved, points_of, IsArrayOf}
use Rattle.city_tokens.proofs.Prelude.{geometry_of, list_of}
use Rattle.city_tokens.proofs.Options.{given}
use Rattle.city_tokens.proofs.command.resolved_body.Goals as goal

pub returns : goal.returns
returns c =
    let put : Body → Body = λ b. record { kind = b.kind; geometry = c.resolve_positions.new.self; extra = b.extra } in
    let taken : c.in_ok-body.body ≡ c.args.body = given c.into_owned.result c.ok.result c.in_ok-body.body
    (λ b. b ≡ c.args.body) c.ok.ensures.value c.in_ok-body.was c.into_owned.ensures in
    let shared : c.in_ok-shared.shared ≡ put c.in_ok-body.body = given c.new.result c.ok-2.result c.in_ok-shared.shared
    (λ b. b ≡ put c.in_ok-body.body) c.ok-2.ensures.value c.in_ok-shared.was c.new.ensures in
    let is : c.in_ok-shared.shared ≡ put c.args.body = shared ∙ ap put taken in
    let resolved : IsResolved (IsArrayOf IsGeometry) (list_of (geometry_of (points_of c.args.vertices.now)))
    c.args.body.geometry c.resolve_positions.new.self = rw taken at c.in_ok-resolve_positions.ensures in
    record {
      kind = ap (λ (b : Body). b.kind) is;
      extra = ap (λ (b : Body). b.extra) is;
      geometry = λ d h. resolved d h ∙ ap (λ (b : Body). Some b.geometry) (sym is);
    }
