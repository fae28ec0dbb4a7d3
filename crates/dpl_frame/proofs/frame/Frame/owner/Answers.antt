-- The map that is kept beside a root is that of the root.
use Rattle.std.proofs.Common.{rules, ◌≡◌, ◌<◌, ◌≤◌, length, get_or, ap, ◌∙◌}
use Rattle.dpl_frame.specs.Frames.{owned_by}
use Rattle.dpl_frame.proofs.Dealing.{owner_at, owner_past}
use Rattle.dpl_frame.proofs.frame.Frame.owner.Goals as goal

pub returns-in-Some : goal.returns-in-Some
returns-in-Some g c =
    let f = c.self.inside in
    let ms = f.owners.items in
    let m = c.in-Some.map.now in
    let within : c.args.slot < length ms = search rules in
    let at : m ≡ get_or ms c.args.slot m = search rules in
    owner_at f.layout f.roots.items ms c.self.invariant c.args.slot m within at ∙ ap (λ f. owned_by f c.args.slot) c.self.view_is

pub returns-in-None : goal.returns-in-None
returns-in-None g c =
    let f = c.self.inside in
    let ms = f.owners.items in
    let past : length ms ≤ c.args.slot = search rules in
    c.whole.ensures ∙ owner_past f.layout f.roots.items ms c.self.invariant c.args.slot past ∙ ap (λ f. owned_by f c.args.slot) c.self.view_is
