-- The owner's entry may be refused, or an item may.
use Rattle.std.proofs.Common.{inr, refl}
use Rattle.dpl_language.specs.Outcome.{naming_value}
use Rattle.dpl_loop.proofs.Folding.{tells-as}
use Rattle.dpl_loop.proofs.reduction.entered.Goals as goal

pub returns : goal.returns
returns g c value meaning answers =
    tells-as _ value c.named.new.turn _ c.named.result (naming_value c.args.index (meaning c.args.index)) _ (λ refused. inr refused) refl (c.named.ensures value meaning answers)
