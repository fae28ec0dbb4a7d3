-- Element by element the loan goes into the array.
-- These are the answers to the goals of `Loan::settle`.
use Rattle.std.proofs.Common.{arith, ap, sym, subst}
use Rattle.dpl_halo.proofs.SettleLemmas.{IsSettling, settle-first, settle-next, settle-last}
use Rattle.dpl_halo.proofs.loan.Loan.settle.Goals as goal

pub loop-element-init : goal.loop-element-init
loop-element-init g c =
    let a = c.args.array.now in
    let lent = c.self.inside.gathered.elements in
    subst (λ es. IsSettling es a lent a) (ap (λ loan. loan.elements) c.self.view_is) (settle-first lent a c.domain.ensures.keys)

pub loop-element-preserved : goal.loop-element-preserved
loop-element-preserved g c =
    let lent = c.args.self.elements in
    let a = c.args.array.now in
    subst (IsSettling lent a c.pop.new.self.elements) (sym c.set.ensures.changes)
    (settle-next lent a c.loop-element.left c.pop.new.self c.loop-element.array c.in-Some.element.0 c.in-Some.element.1 c.loop-element.invariant c.in-Some.ensures.taken)

pub loop-element-smaller : goal.loop-element-smaller
loop-element-smaller g c = omega (arith, c.in-Some.ensures.taken.fewer)

pub returns : goal.returns
returns g c = settle-last c.args.self c.args.array.now c.loop-element.left.elements c.loop-element.array c.domain.ensures.keys c.loop-element.invariant c.in_default.ensures.end
