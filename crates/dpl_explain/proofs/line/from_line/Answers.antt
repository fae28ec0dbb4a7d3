-- A turn takes one line away.
use Rattle.std.proofs.Common.{◌≡◌, ℕ, suc, ◌+◌, ◌-◌, ◌<◌, List, ap, ◌∙◌, arith}
use Rattle.dpl_explain.specs.Excerpt.{behind_line, behind_lines}
use Rattle.dpl_explain.proofs.line.from_line.Goals as goal

behind_lines-next : (lines taken : ℕ) (rest : List ℕ) → taken < lines → behind_lines (lines - (taken + 1)) (behind_line rest) ≡ behind_lines (lines - taken) rest
behind_lines-next lines taken rest h =
    let one_more : suc (lines - (taken + 1)) ≡ lines - taken = omega (arith, h) in
    ap (λ n. behind_lines n rest) one_more

pub loop-preserved : goal.loop-preserved
loop-preserved c =
    ap (behind_lines (c.args.line - (c.loop.counter + 1))) c.behind_line-rest.ensures
    ∙ behind_lines-next c.args.line c.loop.counter c.loop.rest.now c.loop-test.true
    ∙ c.loop.invariant
