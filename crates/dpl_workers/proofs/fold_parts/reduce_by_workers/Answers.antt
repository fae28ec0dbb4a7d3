-- What all parts come to is the fold over the whole domain.
use Rattle.std.proofs.Common.{◌≡◌, ◌-◌, ◌<◌, length, sym, subst, ap, arith}
use Rattle.dpl_sets.specs.Indices.{indices}
use Rattle.dpl_map.specs.Maps.{owner}
use Rattle.dpl_language.specs.Values.{Index}
use Rattle.dpl_contents.specs.Domains.{AreWritten}
use Rattle.dpl_workers.specs.Parts.{AreParts, indices_of}
use Rattle.dpl_loop.specs.Folds.{in_turns}
use Rattle.dpl_workers.specs.PartFolds.{parts_ran, ArePartOperands, PartsEnd}
use Rattle.dpl_workers.proofs.FormedMemories.{written-ranges}
use Rattle.dpl_loop.proofs.Folding.{fold-tells, ends-weaker}
use Rattle.dpl_workers.proofs.PartFolding.{parts-tell}
use Rattle.dpl_workers.proofs.Folds.{all-end}
use Rattle.dpl_loop.proofs.Places.{among}
use Rattle.dpl_workers.proofs.fold_parts.reduce_by_workers.Goals as goal

pub returns-then-not-serve : goal.returns-then-not-serve
returns-then-not-serve g c meaning answers strips =
    let whole = c.domain-whole.result in
    let over = c.args.dealt.now.over in
    let same = ap indices c.domain-whole.ensures.domain in
    fold-tells _ _ g.O.Operator.value (g.O.Operator.op c.args.operator.now) meaning (indices whole) over c.fold_strips.new.turn c.fold_strips.result
    (among (g.G.Gate.may_refuse c.args.dealt.now.gate.now) c.args.dealt.now.map.now (indices whole) over _ same) same (c.fold_strips.ensures meaning answers strips)

pub returns : goal.returns
returns g c meaning answers strips =
    let op = g.O.Operator.op c.args.operator.now in
    let value = g.O.Operator.value in
    let may = g.G.Gate.may_refuse c.args.dealt.now.gate.now in
    let whole = c.domain-whole.result in
    let axes = c.args.dealt.now.map.now in
    let over = c.args.dealt.now.over in
    let n = length c.deref.result.now in
    let same = ap indices c.domain-whole.ensures.domain in
    let parts = subst (λ (ps : _). AreParts whole axes ps) (sym c.deref.ensures.value) c.in-Ok.ensures in
    let ranges = written-ranges whole (subst AreWritten (sym c.domain-whole.ensures.domain) c.domain-whole.ensures.limits) in
    let all : n - 0 ≡ n = omega arith in
    let below : (t : Index) → owner axes t < n - 0 = λ t. subst (λ k. owner axes t < k) (sym all) (parts.owners t) in
    let ends : PartsEnd _ value (indices whole) (parts_ran op (in_turns meaning) whole axes 0 (n - 0)) (ArePartOperands op (in_turns meaning) whole axes 0 (n - 0)) c.spread-ended.result.turn c.spread-ended.result.item =
    c.spread-ended.ensures meaning (λ p l e post. ends-weaker _ _ value op (in_turns meaning) (indices_of p whole axes l) e.turn e.item (λ m. tt) (post.1 meaning answers strips)) in
    parts-tell _ _ value op meaning whole axes _ (indices whole) over c.spread-ended.result.turn c.spread-ended.result.item (among may axes (indices whole) over _ same) same
    (all-end op meaning whole axes (n - 0) below ranges _ value c.spread-ended.result.turn c.spread-ended.result.item ends)
    (λ p l e post. post.1 meaning answers strips)
