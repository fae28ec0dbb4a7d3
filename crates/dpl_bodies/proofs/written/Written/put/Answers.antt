use Rattle.std.proofs.Common.{map, ap, ◌∙◌}
use Rattle.dpl_scopes.specs.Types.{origin_view}
use Rattle.dpl_bodies.specs.Written.{key_origin, with_origin}
use Rattle.dpl_bodies.proofs.Keys.{map-insert_key}
use Rattle.dpl_bodies.proofs.written.Written.put.Goals as goal

pub returns : goal.returns
returns c =
    ap (map key_origin) c.in_ok-insert_full.ensures.keys
    ∙ map-insert_key (c.args.array.depth, c.args.array.name) c.self.inside.origins.keys
    ∙ ap (λ os. with_origin os (origin_view c.args.array)) c.self.view_is
