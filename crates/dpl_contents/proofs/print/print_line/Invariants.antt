-- The first parts are printed, and the walk stands behind them.
use Rattle.std.proofs.Common.{◌≡◌, ◌*◌, ◌++◌, [], drop}
use Rattle.dpl_language.specs.Ranges.{size_in}
use Rattle.dpl_contents.specs.Kinds.{kind_of}
use Rattle.dpl_contents.specs.Arrays.{words_of}
use Rattle.dpl_contents.specs.Layout.{texts_of, first_laid_out}
use Rattle.dpl_contents.proofs.print.print_line.Given as goal

abbrev pub invariant-loop-k : goal.invariant-loop-k
invariant-loop-k l =
    (l.out.items ≡ l.initial.out.items ++ first_laid_out l.k [] (texts_of (kind_of l.kind) (words_of l.initial.walk)))
    × (l.walk ≡ drop (l.k * size_in []) l.initial.walk)
