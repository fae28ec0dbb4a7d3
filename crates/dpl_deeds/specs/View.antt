-- The deeds that those in memory stand for.
-- What is subtracted from a name is added to it with the other sign.
use Rattle.std.specs.Prelude.{◌≡◌, neg_ℤ, List, ◌++◌, map}
use Rattle.dpl_scopes.specs.View.{declared_view}
use Rattle.dpl_rules.specs.Deeds.{IndexPart, AtName, Shifted, Elsewhere, Holding, APrint, AForall, ACoforall, AReduction, ACellCall, AnOn, AHere, ADeclaration, AReduceIntent, Deed, Reads, ReadsAt, Writes, WritesAt, Holds}
use Rattle.dpl_deeds.specs.declared.deed.IndexPart.{IndexPart as IndexNode}
use Rattle.dpl_deeds.specs.declared.deed.IndexPart.TheVariants as index
use Rattle.dpl_deeds.specs.declared.deed.Holding.{Holding as HoldingNode}
use Rattle.dpl_deeds.specs.declared.deed.Holding.TheVariants as holding
use Rattle.dpl_deeds.specs.declared.deed.Deed.{Deed as DeedNode}
use Rattle.dpl_deeds.specs.declared.deed.Deed.TheVariants as deed

abbrev pub index_view : IndexNode → IndexPart
index_view (index.AtName d) = AtName (declared_view d)
index_view (index.Ahead d n) = Shifted (declared_view d) n
index_view (index.Behind d n) = Shifted (declared_view d) (neg_ℤ n)
index_view index.Elsewhere = Elsewhere

abbrev pub holding_view : HoldingNode → Holding
holding_view holding.Print = APrint
holding_view holding.Forall = AForall
holding_view holding.Coforall = ACoforall
holding_view holding.Reduction = AReduction
holding_view holding.CellCall = ACellCall
holding_view holding.On = AnOn
holding_view holding.Here = AHere
holding_view holding.Declaration = ADeclaration
holding_view holding.ReduceIntent = AReduceIntent

abbrev pub deed_view : DeedNode → Deed
deed_view (deed.Reads at d) = Reads at (declared_view d)
deed_view (deed.ReadsAt at d is) = ReadsAt at (declared_view d) (map index_view is.now)
deed_view (deed.Writes at d op) = Writes at (declared_view d) op
deed_view (deed.WritesAt at d is op) = WritesAt at (declared_view d) (map index_view is.now) op
deed_view (deed.Holds at h) = Holds at (holding_view h)

-- a list of deeds, behind those that stood there before
abbrev pub Adds : List Deed → List DeedNode → List DeedNode → Type 0
Adds deeds old new = map deed_view new ≡ map deed_view old ++ deeds
