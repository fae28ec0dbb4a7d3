-- What an int and a truth value begin with where no value is written: the number 0, and `false`.
-- As an item each is the same.
use Rattle.std.proofs.Common.{◌≡◌, false, Option, Some, None, refl, sym, ap, ◌∙◌, subst, pos}
use Rattle.std.proofs.lemmas.Option.{none-some}
use Rattle.dpl_language.specs.Tree.{Kind, IntKind, BoolKind, ExprTree, Number, TruthWord, One}
use Rattle.dpl_rules.specs.Types.{Scalar, an_int, a_bool}
use Rattle.dpl_sound.proofs.Given.{some-same}
use Rattle.dpl_lowered.specs.Shapes.{nowhere, as_item}
use Rattle.dpl_lowered.specs.LoweredExpressions.{Once}
use Rattle.dpl_lowered.specs.LoweredStatements.{default_tree}
use Rattle.dpl_memory.specs.Memory.{Variable}
use Rattle.dpl_typed.specs.declared.typed.Typed.{Typed}
use Rattle.dpl_typed.specs.Typed.{type_of_typed, types_of}
use Rattle.dpl_typed.specs.Stands.{StandsFor}
use Rattle.dpl_typed.proofs.Standing.{typed_item-view}
use Rattle.dpl_declarations.specs.Made.{IsOrDefault}

by-default : (k : Kind) (r : Option Typed) (e : ExprTree Variable) → types_of r ≡ Some (Scalar k) → as_item e ≡ One (default_tree k) → StandsFor r (λ m. e) → IsOrDefault k None r
by-default k None e typed same h = absurd (none-some (Scalar k) typed)
by-default k (Some t) e typed same h = (some-same (type_of_typed t) (Scalar k) typed, typed_item-view Once t ∙ ap as_item (h.0 Once) ∙ same)

or-default : (k l : Kind) (value r : Option Typed) → k ≡ l → value ≡ None → IsOrDefault l None r → IsOrDefault k value r
or-default k l value r same none h = subst (λ o. IsOrDefault k o r) (sym none) (subst (λ k. IsOrDefault k None r) (sym same) h)

pub int-default : (k : Kind) (value r : Option Typed) → k ≡ IntKind → value ≡ None → types_of r ≡ Some an_int → StandsFor r (λ m. Number nowhere (pos 0)) → IsOrDefault k value r
int-default k value r is none typed h = or-default k IntKind value r is none (by-default IntKind r (Number nowhere (pos 0)) typed refl h)

pub truth-default : (k : Kind) (value r : Option Typed) → k ≡ BoolKind → value ≡ None → types_of r ≡ Some a_bool → StandsFor r (λ m. TruthWord nowhere false) → IsOrDefault k value r
truth-default k value r is none typed h = or-default k BoolKind value r is none (by-default BoolKind r (TruthWord nowhere false) typed refl h)
