-- Index by index the values are taken over.
-- These are the answers to the goals of `DArray::copied`.
use Rattle.std.proofs.Common.{◌≡◌, ◌∷◌, drop, refl, ap, sym, subst, ◌∙◌}
use Rattle.dpl_sets.specs.Indices.{indices}
use Rattle.dpl_array.specs.Elements.{value_at}
use Rattle.dpl_array.proofs.WalkLemmas.{AreTaken, taken-first, taken-next, taken-last, walk-next, walk-end, array-is}
use Rattle.dpl_array.proofs.array.DArray.copied.Goals as goal

pub loop-index-init : goal.loop-index-init
loop-index-init g c =
    let is = c.in_ok-array.ensures.array in
    let ts = indices c.args.domain in
    let from = c.args.self.now.elements in (
      ap (λ a. a.domain) is,
      ap (λ a. a.map) is ∙ c.map.ensures,
      subst (λ rest. AreTaken ts from c.in_ok-array.array.elements c.args.value rest) (sym c.cursor-indices.ensures)
          (subst (λ es. AreTaken ts from es c.args.value ts) (sym (ap (λ a. a.elements) is)) (taken-first ts from c.args.value)),
    )

pub loop-index-preserved : goal.loop-index-preserved
loop-index-preserved g c =
    let is = c.take_over.ensures in
    let ts = indices c.args.domain in
    let from = c.args.self.now.elements in
    let es = c.loop-index.array.elements in
    let left = walk-next c.loop-index.indices c.in-Some.index (sym c.in-Some.ensures.next) in
    let rest-is : c.next.new.self ≡ left.0 = c.next.ensures.rest ∙ ap (drop 1) left.1 in
    let taken : AreTaken ts from es c.args.value (c.in-Some.index ∷ left.0) = subst (AreTaken ts from es c.args.value) left.1 c.loop-index.invariant.2 in (
      ap (λ a. a.domain) is ∙ c.loop-index.invariant.0,
      ap (λ a. a.map) is ∙ c.loop-index.invariant.1,
      subst (λ rest. AreTaken ts from c.take_over.new.self.elements c.args.value rest) (sym rest-is)
          (subst (λ fs. AreTaken ts from fs c.args.value left.0) (sym (ap (λ a. a.elements) is)) (taken-next ts from es c.args.value c.in-Some.index left.0 taken (value_at c.in-Some.index from) refl)),
    )

pub returns-clause-array : goal.returns-clause-array
returns-clause-array g c =
    let ts = indices c.args.domain in
    let from = c.args.self.now.elements in
    let none = walk-end c.loop-index.indices (sym c.in_default.ensures.next) in
    let taken = subst (AreTaken ts from c.loop-index.array.elements c.args.value) none c.loop-index.invariant.2 in
    array-is c.loop-index.array _ _ _ c.loop-index.invariant.0 c.loop-index.invariant.1 (taken-last ts from c.loop-index.array.elements c.args.value taken)
