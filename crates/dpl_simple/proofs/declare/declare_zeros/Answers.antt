-- Each element is 0, or `false`.
use Rattle.std.proofs.Common.{refl, sym, ap, ◌∙◌}
use Rattle.dpl_language.specs.Outcome.{Done}
use Rattle.dpl_frame.specs.Frames.{Framed}
use Rattle.dpl_elements.specs.Arrays.{shell_over}
use Rattle.dpl_simple.proofs.ArrayItems.{array_of-zeros}
use Rattle.dpl_simple.proofs.declare.declare_zeros.Goals as goal

pub returns-clause-ends : goal.returns-clause-ends
returns-clause-ends g c k done =
    array_of-zeros c.args.frame.now.limits c.args.d.now.at.now k c.args.d.now.slot (shell_over c.args.d.now.over k c.args.domain) c.args.frame.now.memory done k refl
    ∙ ap (λ (f : Framed). Done f.memory done) (sym c.in_ok-declare_array.ensures.declared)
