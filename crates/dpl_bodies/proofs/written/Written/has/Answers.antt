use Rattle.std.proofs.Common.{ap, ◌∙◌}
use Rattle.dpl_scopes.specs.Types.{origin_view}
use Rattle.dpl_rules.specs.Bodies.{is_in}
use Rattle.dpl_bodies.proofs.Keys.{list_any-keys}
use Rattle.dpl_bodies.proofs.written.Written.has.Goals as goal

pub returns : goal.returns
returns c =
    c.contains.ensures
    ∙ list_any-keys (c.args.array.depth, c.args.array.name) c.self.inside.origins.keys
    ∙ ap (is_in (origin_view c.args.array)) c.self.view_is
