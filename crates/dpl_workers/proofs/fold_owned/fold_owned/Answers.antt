-- The fold of the whole domain, in which nothing is put for the indices of others, is that of the part.
-- These are the answers to the goals of `fold_owned`.
use Rattle.std.proofs.Common.{inl, inr, ⊎_elim, refl}
use Rattle.dpl_sets.specs.Indices.{indices}
use Rattle.dpl_map.specs.Maps.{owner}
use Rattle.dpl_map.specs.Parts.{part}
use Rattle.dpl_workers.specs.Owned.{owned_value}
use Rattle.dpl_loop.proofs.Folding.{tells-as}
use Rattle.dpl_workers.proofs.OwnFolds.{owned-ends}
use Rattle.dpl_workers.proofs.fold_owned.fold_owned.Goals as goal

pub returns : goal.returns
unfolding part
returns g c meaning answers strips =
    let op = g.O.Operator.op c.args.operator.now in
    let owns = owner c.args.dealt.now.map.now in
    let all = owned_value owns c.args.locale op meaning in
    owned-ends owns c.args.locale op meaning _ _ g.O.Operator.value (indices c.args.whole.now) c.fold_strips.new.turn c.fold_strips.result
    (λ refused. ⊎_elim (λ own. inl own) (λ answered. inr (answered.3.1 meaning answers)) refused)
    (c.fold_strips.ensures all
    (λ t before after r post. tells-as _ g.O.Operator.value after.now _ r (all t) (all t) (λ m. tt) refl (post.1 meaning answers))
    (λ row s post. post.1 meaning strips))
