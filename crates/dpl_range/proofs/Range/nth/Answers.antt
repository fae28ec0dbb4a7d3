-- The member at a place stands a whole number of strides along the walk.
use Rattle.std.proofs.Common.{◌≡◌, pos, ◌*◌, ap, sym, ◌∙◌, arith, unsigned_abs, Some, w64, rules, FitsSigned as SFits}
use Rattle.std.proofs.lemmas.Int.{ints, to_z-of_z}
use Rattle.dpl_range.specs.Walk.{walked}
use Rattle.dpl_range.proofs.MemberLemmas.{walk-within, walk-short, nth-walked}
use Rattle.dpl_range.proofs.Range.nth.Goals as goal
use Rattle.dpl_range.proofs.Range.nth.Goals.{then-self-eq1, else-self-eq1, Joined-self-eq1}

-- the offset is the stride k times, also where the stride is 1 and the code leaves the product out
offset-is : (c : Joined-self-eq1) → c.if-self-eq1.offset ≡ c.args.k * unsigned_abs c.args.self.now.stride
offset-is c = elim c.if-self-eq1.branch [
  | then-self-eq1 w ↦
      let one : c.self.inside.stride ≡ pos 1 = omega (arith, ints) in
      let size : unsigned_abs c.args.self.now.stride ≡ 1 = rw (← c.self.view_is) (ap unsigned_abs one) in
      rw (w.offset-is, size) (omega arith)
  | else-self-eq1 w ↦ rw (w.offset-is, w.step.ensures.size)
]

pub overflow_mul-offset : goal.overflow_mul-offset
overflow_mul-offset c =
    walk-short c.args.self.now c.step.result c.args.k c.size.ensures.limits c.step.ensures.size (omega arith)

pub walked-requires : goal.walked-requires
walked-requires c =
    rw (offset-is c) (walk-within c.args.self.now c.args.k c.size.ensures.limits (omega arith))

pub returns : goal.returns
returns c =
    let fits : SFits w64 c.walked.result = search rules in
    let at : c.walked.result ≡ walked c.args.self.now.low c.args.self.now.high c.args.self.now.stride (c.args.k * unsigned_abs c.args.self.now.stride) =
    c.walked.ensures ∙ ap (walked c.args.self.now.low c.args.self.now.high c.args.self.now.stride) (offset-is (goal.at.returns c).Joined-self-eq1) in
    ap Some (to_z-of_z w64 c.walked.result fits ∙ at) ∙ sym (nth-walked c.args.self.now c.args.k c.size.ensures.limits (omega arith))
