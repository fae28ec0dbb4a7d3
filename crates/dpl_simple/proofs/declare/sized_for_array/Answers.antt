-- What is refused is too large.
use Rattle.std.proofs.Common.{◌≡◌, false, sym, subst}
use Rattle.std.specs.Prelude.{IfOk}
use Rattle.dpl_language.specs.Ranges.{too_large}
use Rattle.dpl_simple.proofs.ArrayItems.{for_array_at_small}
use Rattle.dpl_simple.proofs.declare.sized_for_array.Goals as goal

pub returns-clause-small : goal.returns-clause-small
returns-clause-small c =
    subst (λ r. IfOk r (λ d. too_large d ≡ false)) (sym c.for_array.ensures) (for_array_at_small c.args.at.now c.args.domain)
