-- What is listed, and what is left of the walk, are all elements.
use Rattle.std.proofs.Common.{◌≡◌, ◌++◌, drop}
use Rattle.dpl_contents.specs.Kinds.{kind_of}
use Rattle.dpl_contents.specs.Arrays.{words_of}
use Rattle.dpl_contents.specs.Layout.{texts_of, spaced}
use Rattle.dpl_contents.proofs.print.list_array.Given as goal

abbrev pub invariant-loop : goal.invariant-loop
invariant-loop l =
    (l.out.items ++ spaced (texts_of (kind_of l.kind) (words_of l.walk)) ≡ l.initial.out.items ++ spaced (texts_of (kind_of l.kind) (words_of l.initial.walk)))
    × (l.walk ≡ drop l.counter l.initial.walk)
