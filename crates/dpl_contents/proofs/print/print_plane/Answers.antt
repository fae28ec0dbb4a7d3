-- One more part is printed, behind what stands before it, and the walk stands behind it.
use Rattle.std.proofs.Common.{[], ◌∷◌, drop, ap, ◌∙◌}
use Rattle.dpl_language.specs.Ranges.{size_in}
use Rattle.dpl_language.specs.Printing.{laid_out}
use Rattle.dpl_contents.specs.Range.{range_word}
use Rattle.dpl_contents.specs.Kinds.{kind_of}
use Rattle.dpl_contents.specs.Arrays.{words_of}
use Rattle.dpl_contents.specs.Layout.{texts_of}
use Rattle.dpl_contents.proofs.Layouts.{one-more, drop-part, laid_out-part}
use Rattle.dpl_contents.proofs.print.print_plane.Goals as goal

pub loop-k-preserved : goal.loop-k-preserved
loop-k-preserved c =
    let kind = kind_of c.args.kind in
    let k = c.loop-k.k in
    let es = c.args.walk.now in
    let rs = range_word c.args.inner.now ∷ [] in
    let part = ap (λ fs. laid_out rs (texts_of kind (words_of fs))) c.loop-k.invariant.1 ∙ laid_out-part kind k (range_word c.args.inner.now) [] es in (
      one-more k rs (texts_of kind (words_of es)) c.args.out.now.items c.loop-k.out.items c.separate.new.out.items _ c.print_line.new.out.items
          c.loop-k.invariant.0 c.in_ok-separate.ensures c.in_ok-print_line.ensures.text part,
      c.in_ok-print_line.ensures.rest ∙ ap (drop (size_in rs)) c.loop-k.invariant.1 ∙ drop-part k (size_in rs) es,
    )
