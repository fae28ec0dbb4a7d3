-- What an operator takes, by what it sees of its operands.
-- It sees the same of a whole array as of its elements.
use Rattle.std.proofs.Common.{◌≡◌, ap, ◌∙◌}
use Rattle.std.specs.Prelude.{◌&&◌}
use Rattle.dpl_syntax.specs.declared.place.Place.{Place}
use Rattle.dpl_language.specs.Tree.{IntKind}
use Rattle.dpl_rules.specs.Types.{ValueType, operand_of, is_bool, a_bool}
use Rattle.dpl_rules.specs.Verdicts.{has_if}
use Rattle.dpl_rules.specs.Operators.{Takes, Ints, Alike, Bools, taking, between, alike}
use Rattle.dpl_operators.specs.Operands.{AreAlike}

pub taking_alike : (T : Takes) (at : Place) (a b c d : ValueType) → AreAlike a c → AreAlike b d → taking T at a b ≡ taking T at c d
taking_alike (Ints r) at a b c d h k = ap (λ o. between at IntKind IntKind r o (operand_of b)) h.0 ∙ ap (λ o. between at IntKind IntKind r (operand_of c) o) k.0
taking_alike Alike at a b c d h k = ap (λ o. alike at o (operand_of b)) h.0 ∙ ap (λ o. alike at (operand_of c) o) k.0
taking_alike Bools at a b c d h k = ap (λ x. has_if (x && is_bool b) a_bool at) h.1 ∙ ap (λ x. has_if (is_bool c && x) a_bool at) k.1
