use Rattle.std.proofs.Common.{◌≡◌, ◌<◌, ◌≤◌, ◌-◌, drop, length}
use Rattle.dpl_syntax.specs.Gaps.{after_comments}
use Rattle.dpl_lexer.proofs.gap.block_len.Given as goal

abbrev pub invariant-block : goal.invariant-block
invariant-block l = record {
  some : 0 < l.depth;
  few : l.depth ≤ l.n;
  begun : 2 ≤ l.n;
  within : l.n ≤ length l.bytes;
  so_far : after_comments l.depth (drop l.n l.bytes) ≡ after_comments 1 (drop 2 l.bytes);
}

abbrev pub decreases-block : goal.decreases-block
decreases-block l = length l.bytes - l.n
