-- The test and the definition decide the same.
use Rattle.std.proofs.Common.{subst, Contains, Decides}
use Rattle.std.proofs.lemmas.Bool.Decides.{same_from_decides}
use Rattle.dpl_sets.specs.Indices.{indices}
use Rattle.dpl_language.specs.Ranges.{contains_index}
use Rattle.dpl_contents.proofs.Members.{Decides-contains_index}
use Rattle.dpl_contents.proofs.Sizes.{values_of-seen}
use Rattle.dpl_contents.proofs.domain.DomainWord.contains.Goals as goal

pub returns : goal.returns
returns c =
    let values = values_of-seen c.self.inside.domain c.self.inside.outer c.self.inside.middle c.self.inside.inner c.args.self.now c.self.invariant c.self.view_is in
    same_from_decides c.contains.result (contains_index c.args.self.now c.args.index)
    (subst (λ vs. Decides c.contains.result (Contains (indices vs) c.args.index)) values c.contains.ensures)
    (Decides-contains_index c.args.self.now c.args.index)
