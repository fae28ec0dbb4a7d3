-- A comment was found as its part says.
use Rattle.std.proofs.Common.{◌≡◌, ℕ, ◌≤◌, true, List, length, drop, Option, Some, None}
use Rattle.std.specs.Prelude.{IfSome}
use Rattle.dpl_syntax.specs.Gaps.{opens_line, opens_block, after_comments}
use Rattle.dpl_lexer.specs.Scan.{IsPieceAt}
use Rattle.dpl_lexer.proofs.Gaps.{line_found, block_found}
use Rattle.dpl_lexer.proofs.gap.piece_len.Goals as goal

pub returns-then-begins_with-clause-some : goal.returns-then-begins_with-clause-some
returns-then-begins_with-clause-some c =
    let opens : opens_line c.args.bytes.now ≡ true = cc in
    line_found c.args.bytes.now c.line_len.result opens c.line_len.ensures.within c.line_len.ensures.all c.line_len.ensures.ended

some : (text : List ℕ) (o : Option ℕ) → opens_block text ≡ true → IfSome o (λ n. (2 ≤ n) × (n ≤ length text) × (after_comments 1 (drop 2 text) ≡ Some (drop n text))) → IfSome o (IsPieceAt text)
some text None opens h = tt
some text (Some n) opens (two, within, left) = block_found text n opens two within left

pub returns-then-begins_with-2-clause-some : goal.returns-then-begins_with-2-clause-some
returns-then-begins_with-2-clause-some c =
    let opens : opens_block c.args.bytes.now ≡ true = cc in
    some c.args.bytes.now c.block_len.result opens c.block_len.ensures.some
