-- What the array holds at the index is added.
-- These are the answers to the goals of `Gathered::gather`.
use Rattle.std.proofs.Common.{inr, sym, subst}
use Rattle.dpl_sets.specs.Indices.{indices}
use Rattle.dpl_array.specs.Rows.{StandsIn}
use Rattle.dpl_array.proofs.ElementLemmas.{over-stands}
use Rattle.dpl_halo.proofs.GatherLemmas.{gather-nothing, gather-some}
use Rattle.dpl_halo.proofs.gathered.Gathered.gather.Goals as goal

pub returns-in_default-clause-gathered : goal.returns-in_default-clause-gathered
returns-in_default-clause-gathered g c = λ wants seen wanted gathered. gather-nothing c.args.array.now wants seen c.args.self.now c.args.self.now c.args.index gathered (inr (sym c.in_default.ensures))

pub insert-requires : goal.insert-requires
insert-requires g c =
    let a = c.args.array.now in
    subst (λ d. StandsIn (indices d) c.args.index) (sym c.requires) (over-stands (indices a.domain) a.elements c.args.index c.in-Some.value c.domain.ensures.keys (sym c.in-Some.ensures))

pub returns-clause-gathered : goal.returns-clause-gathered
returns-clause-gathered g c = λ wants seen wanted gathered.
    gather-some c.args.array.now wants seen c.args.self.now c.insert.new.self c.args.index gathered c.in-Some.value wanted (sym c.in-Some.ensures) c.insert.ensures.domain c.in_ok-insert.ensures.values
