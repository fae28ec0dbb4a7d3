use Rattle.std.proofs.Common.{◌≡◌, drop}
use Rattle.dpl_print.specs.Texts.{arguments_text, behind, Grew}
use Rattle.dpl_print.proofs.print.show_all.Given as goal

-- the texts from here on, behind what is printed by now, are all texts behind what was printed at first
abbrev pub invariant-loop-argument : goal.invariant-loop-argument
invariant-loop-argument g l =
    (behind l.out.items (arguments_text l.frame.limits (drop l.argument-index l.arguments) l.frame.memory) ≡ behind l.initial.out.items (arguments_text l.frame.limits l.arguments l.frame.memory))
    × Grew l.initial.out.items l.out.items
