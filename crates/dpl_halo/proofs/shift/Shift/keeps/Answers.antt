-- Subscript by subscript.
-- These are the answers to the goals of `Shift::keeps`.
use Rattle.std.proofs.Common.{refl, sym, subst, length, List, ◌∙◌}
use Rattle.dpl_sets.specs.declared.subscript.Subscript.{Subscript}
use Rattle.dpl_halo.specs.Turns.{KeepsShift}
use Rattle.dpl_halo.proofs.TurnLemmas.{shift-keeps}
use Rattle.dpl_halo.proofs.shift.Shift.keeps.Goals as goal

pub returns : goal.returns
returns c = λ yes.
    subst (λ (shift : List Subscript). KeepsShift shift c.args.low c.args.high) (sym c.places.ensures.places ∙ c.self.view_is)
    (shift-keeps c.places.result.0 c.places.result.1 c.places.result.2 c.args.low c.args.high (c.if-not-keeps.ensures refl) (c.if-not-keeps-2.ensures refl) (c.keeps-3.ensures yes) (length c.self.inside.subscripts))
