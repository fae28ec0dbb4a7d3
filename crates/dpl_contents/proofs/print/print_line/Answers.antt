-- One more part is printed, behind what stands before it, and the walk stands behind it.
use Rattle.std.proofs.Common.{[], drop, take, ap, ◌∙◌}
use Rattle.dpl_language.specs.Ranges.{size_in}
use Rattle.dpl_language.specs.Printing.{laid_out}
use Rattle.dpl_contents.specs.Kinds.{kind_of}
use Rattle.dpl_contents.specs.Arrays.{words_of}
use Rattle.dpl_contents.specs.Layout.{texts_of}
use Rattle.dpl_contents.proofs.Layouts.{one-more, drop-part, laid_out-next}
use Rattle.dpl_contents.proofs.print.print_line.Goals as goal

pub loop-k-preserved : goal.loop-k-preserved
loop-k-preserved c = (
  one-more c.loop-k.k [] (texts_of (kind_of c.args.kind) (words_of c.args.walk.now)) c.args.out.now.items c.loop-k.out.items c.separate.new.out.items _ c.print_next.new.out.items
      c.loop-k.invariant.0 c.in_ok-separate.ensures c.in_ok-print_next.ensures.text
      (ap (λ es. laid_out [] (texts_of (kind_of c.args.kind) (words_of (take 1 es)))) c.loop-k.invariant.1 ∙ laid_out-next (kind_of c.args.kind) c.loop-k.k c.args.walk.now),
  c.in_ok-print_next.ensures.rest ∙ ap (drop (size_in [])) c.loop-k.invariant.1 ∙ drop-part c.loop-k.k (size_in []) c.args.walk.now,
)
