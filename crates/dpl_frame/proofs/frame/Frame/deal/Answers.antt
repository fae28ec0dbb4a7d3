-- The slot gets the root, and the map that the layout gives to it.
use Rattle.std.proofs.Common.{refl, sym, ap, ◌∙◌}
use Rattle.dpl_frame.specs.Roots.{root_view, map_of_root}
use Rattle.dpl_frame.specs.Frames.{Framed}
use Rattle.dpl_frame.proofs.Dealing.{maps_set, view_set}
use Rattle.dpl_frame.proofs.frame.Frame.deal.Goals as goal

pub invariant_of-self : goal.invariant_of-self
invariant_of-self g c =
    let f = c.self.inside in
    maps_set f.layout f.roots.items f.owners.items c.args.slot c.args.root c.map_of-map.result c.self.invariant
    (c.map_of-map.ensures ∙ ap (λ (f : Framed). map_of_root f.layout (root_view c.args.root)) (sym c.self.view_is))

pub returns-then-slot-len : goal.returns-then-slot-len
returns-then-slot-len g c = view_set _ c.args.self.now c.self.inside.roots.items c.args.slot c.args.root c.self.view_is refl
