-- The turns of an assignment may be made apart as those of its form may.
use Rattle.std.proofs.Common.{Option, sym, subst}
use Rattle.std.proofs.lemmas.Option.{IfSome_then}
use Rattle.std.specs.Option.{IfSome}
use Rattle.dpl_language.specs.Environment.{Limits}
use Rattle.dpl_apart.specs.Memories.{Changes, MayBeApart}
use Rattle.dpl_elements.specs.declared.whole.WholeTurns.{WholeTurns}
use Rattle.dpl_elements.specs.declared.whole.WholeTurns.TheVariants.{Made}
use Rattle.dpl_elements.specs.Wholes.{whole_turn}
use Rattle.dpl_elements.proofs.Made.{made-apart}
use Rattle.dpl_elements.proofs.whole.WholeTurnsTurns.apart.Goals as goal

-- what is told of turns
abbrev Tells : Option Changes → WholeTurns → Type 0
Tells told turns = IfSome told (λ a. (limits : Limits) → MayBeApart a (whole_turn turns limits))

pub returns-in-Fill : goal.returns-in-Fill
returns-in-Fill c = subst (Tells c.apart.result) (sym c.in-Fill.is) c.apart.ensures

pub returns-in-Promote : goal.returns-in-Promote
returns-in-Promote c = subst (Tells c.apart-in-Promote.result) (sym c.in-Promote.is) c.apart-in-Promote.ensures

pub returns-in-FillTruth : goal.returns-in-FillTruth
returns-in-FillTruth c = subst (Tells c.apart-in-FillTruth.result) (sym c.in-FillTruth.is) c.apart-in-FillTruth.ensures

pub returns-in-PromoteTruth : goal.returns-in-PromoteTruth
returns-in-PromoteTruth c = subst (Tells c.apart-in-PromoteTruth.result) (sym c.in-PromoteTruth.is) c.apart-in-PromoteTruth.ensures

pub returns-in-Made : goal.returns-in-Made
returns-in-Made c =
    let rank = c.in-Made.rank in
    subst (Tells c.made_apart.result) (sym c.in-Made.is)
    (IfSome_then c.made_apart.result c.made_apart.ensures (λ h is limits. subst (λ h. MayBeApart h (whole_turn (Made rank) limits)) (sym is) (made-apart limits rank)))
