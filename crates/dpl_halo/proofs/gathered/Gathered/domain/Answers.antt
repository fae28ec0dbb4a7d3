-- Each index of the domain stands at one place.
-- These are the answers to the goals of `Gathered::domain`.
use Rattle.std.proofs.Common.{◌≡◌, nat_cmp, subst}
use Rattle.std.specs.BTreeMap.{get}
use Rattle.dpl_sets.specs.Indices.{indices}
use Rattle.dpl_array.specs.Elements.{value_at, tabulated}
use Rattle.dpl_halo.proofs.ChosenLemmas.{chosen-formed}
use Rattle.dpl_halo.proofs.gathered.Gathered.domain.Goals as goal

pub returns-clause-formed : goal.returns-clause-formed
returns-clause-formed g c =
    let p = c.self.inside in
    subst (λ q. tabulated (indices q.domain) (λ t. value_at t q.elements) ≡ q.elements) c.self.view_is (chosen-formed (indices p.domain) (get nat_cmp p.held) c.self.invariant.distinct)
