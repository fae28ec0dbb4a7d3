-- Two bytes at a time, as the definition goes.
use Rattle.std.proofs.Common.{◌≡◌, ℕ, ◌+◌, ◌-◌, true, false, List, drop, sym, ap, ◌∙◌, arith}
use Rattle.std.proofs.lemmas.List.{drop-drop, length-drop}
use Rattle.dpl_syntax.specs.Gaps.{begins_with, after_comments}
use Rattle.dpl_lexer.proofs.Gaps.{step_opens, step_ends, step_goes_on}
use Rattle.dpl_lexer.proofs.gap.block_len.Goals as goal

further : (n k : ℕ) (bytes : List ℕ) (d : ℕ) → after_comments d (drop k (drop n bytes)) ≡ after_comments d (drop (n + k) bytes)
further n k bytes d = ap (after_comments d) (drop-drop k n bytes)

pub block-preserved-then-begins_with : goal.block-preserved-then-begins_with
block-preserved-then-begins_with c =
    let n = c.block.n in
    let bytes = c.args.bytes.now in
    let depth = c.block.depth in
    let opens : begins_with 47 42 (drop n bytes) ≡ true = cc in
    let step = step_opens depth (drop n bytes) c.block.invariant.some opens in
    record {
      some = omega arith;
      few = omega arith;
      begun = omega arith;
      within = omega (arith, step.1, length-drop n bytes);
      so_far = sym (further n 2 bytes (depth + 1)) ∙ sym step.0 ∙ c.block.invariant.so_far;
    }

pub returns-then-depth-eq0-clause-some : goal.returns-then-depth-eq0-clause-some
returns-then-depth-eq0-clause-some c =
    let n = c.block.n in
    let bytes = c.args.bytes.now in
    let depth = c.block.depth in
    let opens : begins_with 47 42 (drop n bytes) ≡ false = cc in
    let ends : begins_with 42 47 (drop n bytes) ≡ true = cc in
    let step = step_ends depth (drop n bytes) c.block.invariant.some opens ends in
    let last : depth - 1 ≡ 0 = omega arith in
    (omega arith, omega (arith, step.1, length-drop n bytes), sym c.block.invariant.so_far ∙ step.0 ∙ further n 2 bytes (depth - 1) ∙ ap (λ (d : ℕ). after_comments d (drop (n + 2) bytes)) last)

pub block-preserved-else-depth-eq0 : goal.block-preserved-else-depth-eq0
block-preserved-else-depth-eq0 c =
    let n = c.block.n in
    let bytes = c.args.bytes.now in
    let depth = c.block.depth in
    let opens : begins_with 47 42 (drop n bytes) ≡ false = cc in
    let ends : begins_with 42 47 (drop n bytes) ≡ true = cc in
    let step = step_ends depth (drop n bytes) c.block.invariant.some opens ends in
    record {
      some = omega arith;
      few = omega arith;
      begun = omega arith;
      within = omega (arith, step.1, length-drop n bytes);
      so_far = sym (further n 2 bytes (depth - 1)) ∙ sym step.0 ∙ c.block.invariant.so_far;
    }

pub block-preserved : goal.block-preserved
block-preserved c =
    let n = c.block.n in
    let bytes = c.args.bytes.now in
    let depth = c.block.depth in
    let opens : begins_with 47 42 (drop n bytes) ≡ false = cc in
    let ends : begins_with 42 47 (drop n bytes) ≡ false = cc in
    let step = step_goes_on depth (drop n bytes) c.block.invariant.some opens ends in
    record {
      some = omega arith;
      few = omega arith;
      begun = omega arith;
      within = omega arith;
      so_far = sym (further n 1 bytes depth) ∙ sym step ∙ c.block.invariant.so_far;
    }
