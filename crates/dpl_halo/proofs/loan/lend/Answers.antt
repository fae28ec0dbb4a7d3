-- One index after another.
-- These are the answers to the goals of `lend`.
use Rattle.std.proofs.Common.{◌≡◌, ◌∷◌, [], ◌++◌, drop, refl, ap, sym, ◌∙◌, append_assoc, append-nil, subst}
use Rattle.dpl_sets.specs.Indices.{indices}
use Rattle.dpl_array.proofs.WalkLemmas.{walk-next, walk-end}
use Rattle.dpl_halo.specs.Gathering.{IsGathered, every}
use Rattle.dpl_halo.proofs.GatherLemmas.{gather-onto, gather-start}
use Rattle.dpl_halo.proofs.loan.lend.Goals as goal

pub loop-index-init : goal.loop-index-init
loop-index-init g c = (
  refl,
  ([], sym c.cursor-left.ensures, λ seen gathered. gather-start c.args.array.now every c.args.gathered.now seen gathered),
)

pub loop-index-preserved : goal.loop-index-preserved
loop-index-preserved g c =
    let a = c.args.array.now in
    let was = c.loop-index.invariant.1 in
    let next = walk-next c.loop-index.left c.in-Some.index (sym c.in-Some.ensures.next) in
    let rest : c.next.new.self ≡ next.0 = c.in-Some.ensures.rest ∙ ap (drop 1) next.1 in (
      c.in_ok-gather.ensures.domain ∙ c.loop-index.invariant.0,
      (
        was.0 ++ c.in-Some.index ∷ [],
        was.1 ∙ ap (λ ts. was.0 ++ ts) (next.1 ∙ ap (λ ts. c.in-Some.index ∷ ts) (sym rest)) ∙ sym (append_assoc was.0 (c.in-Some.index ∷ []) c.next.new.self),
        (λ seen gathered.
            gather-onto a every c.gather.new.self seen was.0 (c.in-Some.index ∷ []) (was.0 ++ c.in-Some.index ∷ []) refl
            (c.in_ok-gather.ensures.gathered every (seen ++ was.0) refl (was.2 seen gathered))),
      ),
    )

pub returns-clause-gathered : goal.returns-clause-gathered
returns-clause-gathered g c = λ seen gathered.
    let was = c.loop-index.invariant.1 in
    let none = walk-end c.loop-index.left (sym c.in_default.ensures.next) in
    let all : was.0 ≡ indices c.args.domain.now = sym (was.1 ∙ ap (λ ts. was.0 ++ ts) none ∙ append-nil was.0) in
    subst (λ ts. IsGathered c.args.array.now every (seen ++ ts) c.loop-index.gathered) all (was.2 seen gathered)
