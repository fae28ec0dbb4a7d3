-- Types that have kinds: each operator, bracket and method gives one where it gives a type, of what has such types.
-- Of what has no type nothing is said.
use Rattle.std.proofs.Common.{◌≡◌, ℕ, Bool, true, false, List, [], ◌∷◌, ◌++◌, Option, Some, None, refl, sym, ap, ◌∙◌}
use Rattle.std.specs.Prelude.{nat_lt, ◌&&◌, not, if◌then◌else◌}
use Rattle.std.specs.Option.{option_or}
use Rattle.std.proofs.lemmas.Option.{none-some}
use Rattle.dpl_syntax.specs.declared.place.Place.{Place}
use Rattle.dpl_syntax.specs.declared.refusal.Breach.{Breach}
use Rattle.dpl_syntax.specs.declared.refusal.Code.TheVariants.{WrongType}
use Rattle.dpl_language.specs.Tree.{Kind, IntKind, BoolKind, Prefix, Infix, Op, Word, LowBound, DomainOf}
use Rattle.dpl_rules.specs.Types.{Over, ValueType, Scalar, Range, Domain, Array, Promoted, Tuple, Locale, AllLocales, Cell, an_int, a_bool, same_kind, domain_of, array_of, is_int, is_bool, Operand, operand_of, op_kind}
use Rattle.dpl_rules.specs.Verdicts.{Part, Verdict, type_by, has_if, judged, with_type, owed, wanted, all_known, misranked, Has}
use Rattle.dpl_rules.specs.Operators.{over_arrays, prefix_kind, prefixed, prefix_verdict, reduced_over, reduced, reduction_verdict, agree, Takes, Ints, Alike, Bools, taken, between, alike, taking, infix_verdict, range_verdict, index_breaches, slice_breaches, square_verdict, round_verdict, index_rank, domain_over, word_verdict, dim_verdict, contains_verdict, expand_verdict}
use Rattle.dpl_sound.proofs.Given.{some-same}
use Rattle.dpl_words.specs.Words.{IntLeaf, TruthLeaf, RangeLeaf}
use Rattle.dpl_memory.specs.Memory.{VariableKind, PlainKind, DomainKind, TupleKind, ArrayKind}
use Rattle.dpl_typed.specs.Typed.{is_rank, is_tuple_rank}
use Rattle.dpl_typed.specs.Leaves.{kind_if, value_kind}
use Rattle.dpl_runnable.specs.Kinds.{HasKind}

-- ---- kinds, where a test holds
pub kind_if-some : (b : Bool) (k j : VariableKind) → kind_if b k ≡ Some j → (b ≡ true) × (k ≡ j)
kind_if-some true k j e = (refl, some-same k j e)
kind_if-some false k j e = absurd (none-some j e)

pub kind-same : (k j : VariableKind) → Some k ≡ Some j → k ≡ j
kind-same k j e = some-same k j e

pub domain-kind : (rank : ℕ) (s : Bool) → is_rank rank ≡ true → value_kind (Domain rank s) ≡ Some DomainKind
domain-kind rank s r = ap (λ b. kind_if b DomainKind) r

scalar-kind : (k : Kind) → (j : VariableKind) × (value_kind (Scalar k) ≡ Some j)
scalar-kind IntKind = (PlainKind IntLeaf, refl)
scalar-kind BoolKind = (PlainKind TruthLeaf, refl)

-- ---- what a type has
pub nothing : HasKind None
nothing t e = absurd (none-some t e)

pub just : (u : ValueType) → (k : VariableKind) × (value_kind u ≡ Some k) → HasKind (Some u)
just u k t e = (k.0, ap value_kind (sym (some-same u t e)) ∙ k.1)

has_if-kind : (b : Bool) (u : ValueType) (at : Place) → (k : VariableKind) × (value_kind u ≡ Some k) → HasKind (type_by (has_if b u at))
has_if-kind true u at k = just u k
has_if-kind false u at k = nothing

pub judged-kind : (b : Bool) (bs : List Breach) (u : ValueType) → (k : VariableKind) × (value_kind u ≡ Some k) → HasKind (type_by (judged b bs u))
judged-kind b (x ∷ bs) u k = nothing
judged-kind true [] u k = just u k
judged-kind false [] u k = nothing

-- What holds of ints and truth values, of ranges, domains, arrays, promoted values and tuples holds of each type that has a kind.
pub kind-cases : (Q : ValueType → Type 0) → ((l : Kind) → Q (Scalar l)) → ((s : Bool) → Q (Range s)) → ((rank : ℕ) (s : Bool) → is_rank rank ≡ true → Q (Domain rank s))
    → ((l : Kind) (over : Over) → is_rank over.rank ≡ true → Q (Array l over)) → ((l : Kind) (over : Over) → is_rank over.rank ≡ true → Q (Promoted l over))
    → ((rank : ℕ) → is_tuple_rank rank ≡ true → Q (Tuple rank)) → (t : ValueType) (k : VariableKind) → value_kind t ≡ Some k → Q t
kind-cases Q q r d a p u (Scalar l) k e = q l
kind-cases Q q r d a p u (Range s) k e = r s
kind-cases Q q r d a p u (Domain rank s) k e = d rank s (kind_if-some (is_rank rank) DomainKind k e).0
kind-cases Q q r d a p u (Array l over) k e = a l over (kind_if-some (is_rank over.rank) (ArrayKind l) k e).0
kind-cases Q q r d a p u (Promoted l over) k e = p l over (kind_if-some (is_rank over.rank) (ArrayKind l) k e).0
kind-cases Q q r d a p u (Tuple rank) k e = u rank (kind_if-some (is_tuple_rank rank) TupleKind k e).0
kind-cases Q q r d a p u Locale k e = absurd (none-some k e)
kind-cases Q q r d a p u AllLocales k e = absurd (none-some k e)
kind-cases Q q r d a p u (Cell l) k e = absurd (none-some k e)

-- what goes on with a type
with_type-kind : (go : ValueType → Verdict) → ((t : ValueType) (k : VariableKind) → value_kind t ≡ Some k → HasKind (type_by (go t)))
    → (o : Option ValueType) → HasKind o → HasKind (type_by (with_type o go))
with_type-kind go f None h = nothing
with_type-kind go f (Some t) h = let k = h t refl in f t k.0 k.1

-- ---- operators: arrays are over domains of ranks
abbrev IsRankedOver : Option Over → Type 0
IsRankedOver None = Unit {0}
IsRankedOver (Some over) = is_rank over.rank ≡ true

abbrev IsRankedOperand : Option Operand → Type 0
IsRankedOperand None = Unit {0}
IsRankedOperand (Some o) = IsRankedOver o.over

operand-ranked : (t : ValueType) (k : VariableKind) → value_kind t ≡ Some k → IsRankedOperand (operand_of t)
operand-ranked = kind-cases (λ t. IsRankedOperand (operand_of t)) (λ l. tt) (λ s. tt) (λ rank s r. tt) (λ l over r. r) (λ l over r. r) (λ rank r. tt)

over-kind : (o : Option Over) (k : Kind) → IsRankedOver o → (j : VariableKind) × (value_kind (over_arrays o k) ≡ Some j)
over-kind None k h = scalar-kind k
over-kind (Some over) k h = (ArrayKind k, ap (λ b. kind_if b (ArrayKind k)) h)

either-ranked : (a b : Option Over) → IsRankedOver a → IsRankedOver b → IsRankedOver (option_or a b)
either-ranked None b h g = g
either-ranked (Some over) b h g = h

prefixed-kind : (at : Place) (k : Kind) (o : Option Operand) → IsRankedOperand o → HasKind (type_by (prefixed at k o))
prefixed-kind at k None h = nothing
prefixed-kind at k (Some o) h = has_if-kind (same_kind k o.kind) (over_arrays o.over k) at (over-kind o.over k h)

pub prefix-kind : (at : Place) (op : Prefix) (o : Option ValueType) → HasKind o → HasKind (type_by (prefix_verdict at op o))
prefix-kind at op = with_type-kind (λ t. prefixed at (prefix_kind op) (operand_of t)) (λ t k e. prefixed-kind at (prefix_kind op) (operand_of t) (operand-ranked t k e))

reduced_over-kind : (at : Place) (k l : Kind) (o : Option Over) → HasKind (type_by (reduced_over at k l o))
reduced_over-kind at k l None = nothing
reduced_over-kind at k l (Some over) = has_if-kind (same_kind k l) (Scalar k) at (scalar-kind k)

reduced-kind : (at : Place) (k : Kind) (o : Option Operand) → HasKind (type_by (reduced at k o))
reduced-kind at k None = nothing
reduced-kind at k (Some o) = reduced_over-kind at k o.kind o.over

pub reduction-kind : (at : Place) (op : Op) (o : Option ValueType) → HasKind o → HasKind (type_by (reduction_verdict at op o))
reduction-kind at op = with_type-kind (λ t. reduced at (op_kind op) (operand_of t)) (λ t k e. reduced-kind at (op_kind op) (operand_of t))

between-kind : (at : Place) (l r k : Kind) (a b : Option Operand) → IsRankedOperand a → IsRankedOperand b → HasKind (type_by (between at l r k a b))
between-kind at l r k None None h g = nothing
between-kind at l r k None (Some b) h g = nothing
between-kind at l r k (Some a) None h g = nothing
between-kind at l r k (Some a) (Some b) h g =
    has_if-kind (same_kind l a.kind && same_kind r b.kind && agree a.over b.over) (over_arrays (option_or a.over b.over) k) at
    (over-kind (option_or a.over b.over) k (either-ranked a.over b.over h g))

alike-kind : (at : Place) (a b : Option Operand) → IsRankedOperand a → IsRankedOperand b → HasKind (type_by (alike at a b))
alike-kind at None b h g = nothing
alike-kind at (Some a) b h g = between-kind at a.kind a.kind BoolKind (Some a) b h g

taking-kind : (tk : Takes) (at : Place) (t u : ValueType) → IsRankedOperand (operand_of t) → IsRankedOperand (operand_of u) → HasKind (type_by (taking tk at t u))
taking-kind (Ints k) at t u h g = between-kind at IntKind IntKind k (operand_of t) (operand_of u) h g
taking-kind Alike at t u h g = alike-kind at (operand_of t) (operand_of u) h g
taking-kind Bools at t u h g = has_if-kind (is_bool t && is_bool u) a_bool at (PlainKind TruthLeaf, refl)

pub infix-kind : (at : Place) (op : Infix) (o p : Option ValueType) → HasKind o → HasKind p → HasKind (type_by (infix_verdict at op o p))
infix-kind at op o p h g =
    with_type-kind (λ t. with_type p (λ u. taking (taken op) at t u))
    (λ t k e. with_type-kind (λ u. taking (taken op) at t u) (λ u j f. taking-kind (taken op) at t u (operand-ranked t k e) (operand-ranked u j f)) p g) o h

-- ---- ranges and domains
pub range-kind : (ps : List Part) (strided : Bool) → HasKind (type_by (range_verdict ps strided))
range-kind ps strided = judged-kind (all_known ps) _ (Range strided) (PlainKind RangeLeaf, refl)

-- ---- brackets
pub square-kind : (last from : Place) (ps : List Part) (o : Option ValueType) → HasKind o → HasKind (type_by (with_type o (square_verdict last from ps)))
square-kind last from ps =
    with_type-kind (square_verdict last from ps)
    (kind-cases (λ t. HasKind (type_by (square_verdict last from ps t))) (λ l. nothing)
    (λ s. judged-kind (all_known ps) (slice_breaches last 1 ps) (Range s) (PlainKind RangeLeaf, refl))
    (λ rank s r. judged-kind (all_known ps) (slice_breaches last rank ps) (Domain rank s) (DomainKind, domain-kind rank s r))
    (λ l over r. judged-kind (all_known ps) (index_breaches last over.rank ps) (Scalar l) (scalar-kind l)) (λ l over r. nothing) (λ rank r. nothing))

pub round-kind : (last from : Place) (ps : List Part) (o : Option ValueType) → HasKind o → HasKind (type_by (with_type o (round_verdict last from ps)))
round-kind last from ps =
    with_type-kind (round_verdict last from ps)
    (kind-cases (λ t. HasKind (type_by (round_verdict last from ps t))) (λ l. nothing) (λ s. nothing) (λ rank s r. nothing)
    (λ l over r. judged-kind (all_known ps) (index_breaches last over.rank ps) (Scalar l) (scalar-kind l)) (λ l over r. nothing) (λ rank r. nothing))

-- ---- methods
an_int-kind : (k : VariableKind) × (value_kind an_int ≡ Some k)
an_int-kind = (PlainKind IntLeaf, refl)

domain_of-kind : (at : Place) (t : ValueType) (k : VariableKind) → value_kind t ≡ Some k → HasKind (type_by (domain_over at (array_of t)))
domain_of-kind at =
    kind-cases (λ t. HasKind (type_by (domain_over at (array_of t)))) (λ l. nothing) (λ s. nothing) (λ rank s r. nothing)
    (λ l over r. just (Domain over.rank over.strided) (DomainKind, domain-kind over.rank over.strided r)) (λ l over r. nothing) (λ rank r. nothing)

word_verdict-kind : (at : Place) (w : Word) (t : ValueType) (k : VariableKind) → value_kind t ≡ Some k → HasKind (type_by (word_verdict at w t))
word_verdict-kind at LowBound t k e = nothing
word_verdict-kind at DomainOf t k e = domain_of-kind at t k e
word_verdict-kind at _ t k e = has_if-kind _ an_int at an_int-kind

pub word-kind : (at : Place) (w : Word) (o : Option ValueType) → HasKind o → HasKind (type_by (with_type o (word_verdict at w)))
word-kind at w = with_type-kind (word_verdict at w) (word_verdict-kind at w)

dimension-kind : (b : Bool) (s : Bool) (at : Place) → HasKind (type_by (if b then Has (Range s) else misranked at))
dimension-kind true s at = just (Range s) (PlainKind RangeLeaf, refl)
dimension-kind false s at = nothing

pub dim-kind : (at rank_at : Place) (n : ℕ) (o : Option ValueType) → HasKind o → HasKind (type_by (with_type o (λ t. dim_verdict at rank_at n (domain_of t))))
dim-kind at rank_at n =
    with_type-kind (λ t. dim_verdict at rank_at n (domain_of t))
    (kind-cases (λ t. HasKind (type_by (dim_verdict at rank_at n (domain_of t)))) (λ l. nothing) (λ s. nothing) (λ rank s r. dimension-kind (nat_lt n rank) s rank_at)
    (λ l over r. nothing) (λ l over r. nothing) (λ rank r. nothing))

contains_by-kind : (at : Place) (ps : List Part) (o : Option ℕ) → HasKind (type_by (contains_verdict at ps o))
contains_by-kind at ps None = nothing
contains_by-kind at ps (Some rank) = judged-kind (all_known ps) (index_breaches at rank ps) a_bool (PlainKind TruthLeaf, refl)

pub contains-kind : (at : Place) (ps : List Part) (o : Option ValueType) → HasKind o → HasKind (type_by (with_type o (λ t. contains_verdict at ps (index_rank t))))
contains-kind at ps = with_type-kind (λ t. contains_verdict at ps (index_rank t)) (λ t k e. contains_by-kind at ps (index_rank t))

pub expand-kind : (at : Place) (p : Part) (o : Option ValueType) → HasKind o → HasKind (type_by (with_type o (λ t. expand_verdict at p (domain_of t))))
expand-kind at p =
    with_type-kind (λ t. expand_verdict at p (domain_of t))
    (kind-cases (λ t. HasKind (type_by (expand_verdict at p (domain_of t)))) (λ l. nothing) (λ s. nothing)
    (λ rank s r. judged-kind (all_known (p ∷ [])) (owed (not s) at WrongType ++ wanted is_int p) (Domain rank false) (DomainKind, domain-kind rank false r))
    (λ l over r. nothing) (λ l over r. nothing) (λ rank r. nothing))
