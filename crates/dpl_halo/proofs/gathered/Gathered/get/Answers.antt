-- The value at the place of the index.
-- These are the answers to the goals of `Gathered::get`.
use Rattle.std.proofs.Common.{nat_cmp, refl, sym, ap, ◌∙◌}
use Rattle.std.specs.BTreeMap.{get}
use Rattle.std.proofs.lemmas.Option.{none-some}
use Rattle.dpl_sets.specs.Indices.{indices}
use Rattle.dpl_array.specs.Elements.{value_at}
use Rattle.dpl_halo.proofs.ChosenLemmas.{chosen-at, chosen-none}
use Rattle.dpl_halo.proofs.gathered.Gathered.get.Goals as goal

pub returns-in_err-place : goal.returns-in_err-place
returns-in_err-place g c =
    let p = c.self.inside in
    c.from_residual.ensures
    ∙ sym (chosen-none (indices p.domain) (get nat_cmp p.held) c.args.index (λ at. none-some at.0 ((c.in_err-place.ensures at.0).1 at.1)))
    ∙ ap (λ q. value_at c.args.index q.elements) c.self.view_is

pub returns : goal.returns
returns g c =
    let p = c.self.inside in
    c.copied.ensures ∙ c.get.ensures.value ∙ sym (chosen-at (indices p.domain) (get nat_cmp p.held) c.in_ok-place.place c.args.index c.self.invariant.distinct ((c.in_ok-place.ensures c.in_ok-place.place).0 refl))
    ∙ ap (λ q. value_at c.args.index q.elements) c.self.view_is
