-- What is of an operand's type: an int or a truth value, by itself or at each index.
use Rattle.std.proofs.Common.{◌≡◌, Option, Some, None, refl, subst}
use Rattle.std.proofs.lemmas.Option.{none-some}
use Rattle.dpl_language.specs.Tree.{IntKind, BoolKind}
use Rattle.dpl_rules.specs.Types.{ValueType, Scalar, Range, Domain, Array, Promoted, Tuple, Locale, AllLocales, Cell, Operand, operand_of}
use Rattle.dpl_words.specs.Words.{IntLeaf, TruthLeaf, RangeLeaf}
use Rattle.dpl_memory.specs.Memory.{VariableKind, PlainKind, DomainKind, TupleKind, ArrayKind}
use Rattle.dpl_typed.specs.Typed.{is_rank, is_tuple_rank}
use Rattle.dpl_typed.specs.Leaves.{value_kind}
use Rattle.dpl_runnable.specs.Kinds.{operand_kind}
use Rattle.dpl_runnable.proofs.Kept.{kind-same, kind_if-some}

abbrev pub IsOperand : VariableKind → Option Operand → Type 0
IsOperand k None = operand_kind k ≡ None
IsOperand k (Some o) = operand_kind k ≡ Some o.kind

pub operand : (t : ValueType) (k : VariableKind) → value_kind t ≡ Some k → IsOperand k (operand_of t)
operand (Scalar IntKind) k e = subst (λ k. operand_kind k ≡ Some IntKind) (kind-same (PlainKind IntLeaf) k e) refl
operand (Scalar BoolKind) k e = subst (λ k. operand_kind k ≡ Some BoolKind) (kind-same (PlainKind TruthLeaf) k e) refl
operand (Range s) k e = subst (λ k. operand_kind k ≡ None) (kind-same (PlainKind RangeLeaf) k e) refl
operand (Domain rank s) k e = subst (λ k. operand_kind k ≡ None) (kind_if-some (is_rank rank) DomainKind k e).1 refl
operand (Array l over) k e = subst (λ k. operand_kind k ≡ Some l) (kind_if-some (is_rank over.rank) (ArrayKind l) k e).1 refl
operand (Promoted l over) k e = subst (λ k. operand_kind k ≡ Some l) (kind_if-some (is_rank over.rank) (ArrayKind l) k e).1 refl
operand (Tuple rank) k e = subst (λ k. operand_kind k ≡ None) (kind_if-some (is_tuple_rank rank) TupleKind k e).1 refl
operand Locale k e = absurd (none-some k e)
operand AllLocales k e = absurd (none-some k e)
operand (Cell l) k e = absurd (none-some k e)
