-- What lies between the first and the last of a row's indices has one owner, if that can be told; the first one has its own.
-- These are the answers to the goals of `steady`.
use Rattle.std.proofs.Common.{◌≡◌, ◌≤◌, ◌-◌, pos, arith, sym, subst, ap, ◌∙◌}
use Rattle.std.proofs.lemmas.Int.{by_lt_z}
use Rattle.dpl_map.specs.Boxes.{AreBetween}
use Rattle.dpl_map.specs.Maps.{owner}
use Rattle.dpl_array.specs.Elements.{behind}
use Rattle.dpl_workers.proofs.Between.{between-rising, between-falling, behind-none}
use Rattle.dpl_workers.proofs.steady.steady.Goals as goal

pub returns-then-owns_between-clause-same : goal.returns-then-owns_between-clause-same
returns-then-owns_between-clause-same c k below =
    let row = c.args.row.now in
    let n = c.min-size.result - 1 in
    let least = c.if-size-le1.false in
    let less : k ≤ n = omega (arith, below) in
    let last : c.in-Some.last ≡ behind n row = c.in-Some.ensures in
    let low = c.in_order-low.result.0 in
    let high = c.in_order-low.result.1 in
    let between : AreBetween low (behind k row) high =
    by_lt_z row.step (pos 0)
    (λ down.
    let ends = c.in_order-low.ensures.falling down in
    subst (λ t. AreBetween t (behind k row) high) (sym (ends.0 ∙ last)) (subst (λ t. AreBetween (behind n row) (behind k row) t) (sym ends.1) (between-falling row k n less down)))
    (λ up.
    let ends = c.in_order-low.ensures.rising up in
    subst (λ t. AreBetween t (behind k row) high) (sym ends.0) (subst (λ t. AreBetween row.first (behind k row) t) (sym (ends.1 ∙ last)) (between-rising row k n less up))) in
    c.owns_between.ensures c.if-owns_between.true (behind k row) between ∙ c.owner.ensures.owner ∙ ap (owner c.args.map.now) c.first-first.ensures

pub returns-else-owns_between-clause-same : goal.returns-else-owns_between-clause-same
returns-else-owns_between-clause-same c k below =
    let none : k ≡ 0 = omega (arith, below) in
    ap (owner c.args.map.now) (ap (λ k. behind k c.args.row.now) none ∙ behind-none c.args.row.now)
