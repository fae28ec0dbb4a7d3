-- What operators give has their kind, whatever their operands are: of operators before and between operands, and of
-- reductions.
use Rattle.std.proofs.Common.{◌≡◌, List, [], ◌∷◌, Option, Some, None, Result, Err, refl, sym, ◌∙◌, ap}
use Rattle.std.specs.Prelude.{◌&&◌, nat_lt}
use Rattle.std.specs.Option.{option_or}
use Rattle.std.specs.Result.{IfOk}
use Rattle.dpl_syntax.specs.declared.place.Place.{Place}
use Rattle.dpl_sets.specs.TextRanges.{TextRange}
use Rattle.dpl_language.specs.Tree.{Kind, IntKind, BoolKind, Prefix, Minus, Not, Infix, Add}
use Rattle.dpl_language.specs.Tree.{Op, Sum}
use Rattle.dpl_language.specs.Values.{Value, Index, Fault, fault, Budget}
use Rattle.dpl_language.specs.Arithmetic.{prefix_of, infix_of, combined, unit_of}
use Rattle.dpl_language.specs.Ranges.{indices_in, size_in}
use Rattle.dpl_language.specs.Outcome.{naming_value}
use Rattle.dpl_language.specs.Expressions.{folded, fold_over, reduction}
use Rattle.dpl_rules.specs.Types.{Over, ValueType, Scalar, Operand, operand_of, same_kind, a_bool, is_bool, op_kind}
use Rattle.dpl_rules.specs.Verdicts.{type_by}
use Rattle.dpl_rules.specs.Operators.{over_arrays, prefix_kind, prefixed, prefix_verdict, reduced_over, reduced, reduction_verdict, agree}
use Rattle.dpl_rules.specs.Operators.{Takes, Ints, Alike, Bools, taken, between, alike, taking, infix_verdict}
use Rattle.dpl_sound.specs.Typed.{OfKind, type_at}
use Rattle.dpl_sound.proofs.Given.{has_if-gives}
use Rattle.dpl_sound.proofs.Results.{with_ok-if, test-if}

-- ---- values
pub prefix_of-kind : (op : Prefix) (v : Value) → OfKind (prefix_kind op) (prefix_of op v)
prefix_of-kind Minus v = (_, refl)
prefix_of-kind Not v = (_, refl)

-- the kind of what an operator gives, by what it takes
abbrev pub given : Takes → Kind
given (Ints result) = result
given Alike = BoolKind
given Bools = BoolKind

pub infix_of-kind : (op : Infix) (v w : Value) → OfKind (given (taken op)) (infix_of op v w)
infix_of-kind Add v w = (_, refl)
infix_of-kind _ v w = (_, refl)

unit_of-kind : (op : Op) → OfKind (op_kind op) (unit_of op)
unit_of-kind Sum = (_, refl)
unit_of-kind _ = (_, refl)

pub combined-kind : (op : Op) (v w : Value) → OfKind (op_kind op) (combined op v w)
combined-kind Sum v w = (_, refl)
combined-kind _ v w = (_, refl)

-- ---- reductions: by induction over the indices that are left
folded-kind : (op : Op) (value : Index → Result Value Fault) (ts : List Index) (so_far : Value) → OfKind (op_kind op) so_far
    → IfOk (folded op value ts so_far) (OfKind (op_kind op))
folded-kind op value [] so_far h = h
folded-kind op value (t ∷ ts) so_far h =
    with_ok-if (OfKind (op_kind op)) (value t) _ (λ v. folded-kind op value ts (combined op so_far v) (combined-kind op so_far v))

pub reduction-kind : (budget : _) (at : Place) (op : Op) (value : Index → Result Value Fault) (o : Option (List TextRange))
    → IfOk (reduction budget at op value o) (OfKind (op_kind op))
reduction-kind budget at op value None = unit_of-kind op
reduction-kind budget at op value (Some rs) =
    test-if (OfKind (op_kind op)) (nat_lt budget (size_in rs)) (Err (fault Budget at)) (fold_over op value rs) tt
    (folded-kind op (λ t. naming_value t (value t)) (indices_in rs) (unit_of op) (unit_of-kind op))

-- ---- types
over_arrays-at : (o : Option Over) (k : Kind) (at : Option Index) → type_at (over_arrays o k) at ≡ Scalar k
over_arrays-at None k at = refl
over_arrays-at (Some over) k at = refl

-- the kind of a type is that of its values, evaluated once or at any index
abbrev pub IsOfKind : Kind → ValueType → Type 0
IsOfKind k t = (at : Option Index) → type_at t at ≡ Scalar k

over_arrays-kind : (o : Option Over) (k : Kind) (u : ValueType) → over_arrays o k ≡ u → IsOfKind k u
over_arrays-kind o k u h at = ap (λ t. type_at t at) (sym h) ∙ over_arrays-at o k at

prefixed-kind : (at : Place) (k : Kind) (o : Option Operand) (u : ValueType) → type_by (prefixed at k o) ≡ Some u → IsOfKind k u
prefixed-kind at k None u h = absurd cc
prefixed-kind at k (Some o) u h = over_arrays-kind o.over k u (has_if-gives (same_kind k o.kind) (over_arrays o.over k) at u h).1

pub prefix_verdict-kind : (at : Place) (op : Prefix) (t : Option ValueType) (u : ValueType) → type_by (prefix_verdict at op t) ≡ Some u → IsOfKind (prefix_kind op) u
prefix_verdict-kind at op None u h = absurd cc
prefix_verdict-kind at op (Some t) u h = prefixed-kind at (prefix_kind op) (operand_of t) u h

reduced_over-type : (at : Place) (k l : Kind) (o : Option Over) (u : ValueType) → type_by (reduced_over at k l o) ≡ Some u → Scalar k ≡ u
reduced_over-type at k l None u h = absurd cc
reduced_over-type at k l (Some over) u h = (has_if-gives (same_kind k l) (Scalar k) at u h).1

reduced-type : (at : Place) (k : Kind) (o : Option Operand) (u : ValueType) → type_by (reduced at k o) ≡ Some u → Scalar k ≡ u
reduced-type at k None u h = absurd cc
reduced-type at k (Some o) u h = reduced_over-type at k o.kind o.over u h

pub reduction_verdict-type : (at : Place) (op : Op) (t : Option ValueType) (u : ValueType) → type_by (reduction_verdict at op t) ≡ Some u → Scalar (op_kind op) ≡ u
reduction_verdict-type at op None u h = absurd cc
reduction_verdict-type at op (Some t) u h = reduced-type at (op_kind op) (operand_of t) u h

between-kind : (at : Place) (left right result : Kind) (a b : Option Operand) (u : ValueType) → type_by (between at left right result a b) ≡ Some u → IsOfKind result u
between-kind at left right result None b u h = absurd cc
between-kind at left right result (Some a) None u h = absurd cc
between-kind at left right result (Some a) (Some b) u h =
    over_arrays-kind (option_or a.over b.over) result u
    (has_if-gives (same_kind left a.kind && same_kind right b.kind && agree a.over b.over) (over_arrays (option_or a.over b.over) result) at u h).1

alike-kind : (at : Place) (a b : Option Operand) (u : ValueType) → type_by (alike at a b) ≡ Some u → IsOfKind BoolKind u
alike-kind at None b u h = absurd cc
alike-kind at (Some a) b u h = between-kind at a.kind a.kind BoolKind (Some a) b u h

pub taking-kind : (takes : Takes) (at : Place) (a b u : ValueType) → type_by (taking takes at a b) ≡ Some u → IsOfKind (given takes) u
taking-kind (Ints result) at a b u h = between-kind at IntKind IntKind result (operand_of a) (operand_of b) u h
taking-kind Alike at a b u h = alike-kind at (operand_of a) (operand_of b) u h
taking-kind Bools at a b u h = over_arrays-kind None BoolKind u (has_if-gives (is_bool a && is_bool b) a_bool at u h).1

pub infix_verdict-kind : (at : Place) (op : Infix) (a b : Option ValueType) (u : ValueType) → type_by (infix_verdict at op a b) ≡ Some u → IsOfKind (given (taken op)) u
infix_verdict-kind at op None b u h = absurd cc
infix_verdict-kind at op (Some a) None u h = absurd cc
infix_verdict-kind at op (Some a) (Some b) u h = taking-kind (taken op) at a b u h
