-- The default of a type is the number 0 or `false`.
-- It stands where no value is written.
use Rattle.dpl_typed.proofs.Standing.{if_both}
use Rattle.dpl_declarations.proofs.Defaults.{int-default, truth-default}
use Rattle.dpl_declarations.proofs.single.or_default.Goals as goal

pub returns-in-Int : goal.returns-in-Int
returns-in-Int c =
    if_both c.number.result (λ r typed node. int-default c.args.kind c.args.value r c.in-Int.is c.in-None.is typed node) c.number.ensures.typed c.number.ensures.node

pub returns-in-Bool : goal.returns-in-Bool
returns-in-Bool c =
    if_both c.truth_word.result (λ r typed node. truth-default c.args.kind c.args.value r c.in-Bool.is c.in-None.is typed node) c.truth_word.ensures.typed c.truth_word.ensures.node
