-- The rules of operators, indices, slices and methods: what each takes, and the type that it gives.
-- C3 stands at the operator, the bracket or the method's name that doesn't take its operands or what is before it.
use Rattle.std.specs.Prelude.{ℕ, nat_lt, ◌==◌, Bool, true, false, not, ◌&&◌, ◌||◌, if◌then◌else◌, List, [], ◌∷◌, ◌++◌, length, option_map, Option, Some, None}
use Rattle.std.specs.Option.{option_or}
use Rattle.dpl_syntax.specs.declared.place.Place.{Place}
use Rattle.dpl_language.specs.Tree.{Kind, IntKind, BoolKind, Prefix, Minus, Not, Infix, Less, LessEqual, Greater, GreaterEqual, Equal, NotEqual, And, Or, Op, Word, Size, LowBound, DomainOf, Id}
use Rattle.dpl_rules.specs.Types.{Over, ValueType, Scalar, Range, Domain, Array, Promoted, Locale, AllLocales, an_int, a_bool, same_kind, domain_of, array_of, tuple_of, is_locale, is_range, is_domain, has, Operand, operand_of, agrees, is_int, is_bool, is_plain_range, op_kind}
use Rattle.dpl_syntax.specs.declared.refusal.Code.TheVariants.{WrongType, WrongRank}
use Rattle.dpl_syntax.specs.declared.refusal.Breach.{Breach}
use Rattle.dpl_rules.specs.Verdicts.{Part, Verdict, Has, breach, owed, mistyped, misranked, has_if, judged, with_type, needs, where_given, all_known, wanted, each_wanted}

-- ---- operators
-- what the operands of an operator give at each index of the whole arrays in them, or by themselves where there are none
abbrev pub over_arrays : Option Over → Kind → ValueType
over_arrays None k = Scalar k
over_arrays (Some over) k = Promoted k over

-- `-` takes an int and `!` a bool; both take promoted operands
abbrev pub prefix_kind : Prefix → Kind
prefix_kind Minus = IntKind
prefix_kind Not = BoolKind

abbrev pub prefixed : Place → Kind → Option Operand → Verdict
prefixed at k o = needs at o (λ o. has_if (same_kind k o.kind) (over_arrays o.over k) at)

abbrev pub prefix_verdict : Place → Prefix → Option ValueType → Verdict
prefix_verdict at op t = with_type t (λ t. prefixed at (prefix_kind op) (operand_of t))

-- A reduction takes a whole array or a promoted expression, of bools for `&& ||` and of ints for the others.
abbrev pub reduced_over : Place → Kind → Kind → Option Over → Verdict
reduced_over at k l over = needs at over (λ over. has_if (same_kind k l) (Scalar k) at)

abbrev pub reduced : Place → Kind → Option Operand → Verdict
reduced at k o = needs at o (λ o. reduced_over at k o.kind o.over)

abbrev pub reduction_verdict : Place → Op → Option ValueType → Verdict
reduction_verdict at op t = with_type t (λ t. reduced at (op_kind op) (operand_of t))

-- the arrays in two operands are all of one index set
abbrev pub agree : Option Over → Option Over → Bool
agree None other = true
agree (Some over) other = agrees over other

-- what an operator takes between ints: ints, and what it gives of them; or two ints or two bools; or bools that aren't promoted
pub data Takes : Type 0 where
  Ints : Kind → Takes
  Alike : Takes
  Bools : Takes

-- `+ - * / %` take ints, `< <= > >=` ints and give bool, `== !=` two ints or two bools, `&& ||` bools
abbrev pub taken : Infix → Takes
taken Less = Ints BoolKind
taken LessEqual = Ints BoolKind
taken Greater = Ints BoolKind
taken GreaterEqual = Ints BoolKind
taken Equal = Alike
taken NotEqual = Alike
taken And = Bools
taken Or = Bools
taken _ = Ints IntKind

-- operands of these kinds, perhaps promoted; together they are over what the first is over, or else the second
abbrev pub between : Place → Kind → Kind → Kind → Option Operand → Option Operand → Verdict
between at left right result (Some a) (Some b) =
    has_if (same_kind left a.kind && same_kind right b.kind && agree a.over b.over) (over_arrays (option_or a.over b.over) result) at
between at left right result _ _ = mistyped at

-- operands of the same kind
abbrev pub alike : Place → Option Operand → Option Operand → Verdict
alike at a b = needs at a (λ o. between at o.kind o.kind BoolKind (Some o) b)

abbrev pub taking : Takes → Place → ValueType → ValueType → Verdict
taking (Ints result) at a b = between at IntKind IntKind result (operand_of a) (operand_of b)
taking Alike at a b = alike at (operand_of a) (operand_of b)
taking Bools at a b = has_if (is_bool a && is_bool b) a_bool at

abbrev pub infix_verdict : Place → Infix → Option ValueType → Option ValueType → Verdict
infix_verdict at op a b = with_type a (λ a. with_type b (λ b. taking (taken op) at a b))

-- ---- ranges and domains
-- the ends or the count of a range and its stride are ints
abbrev pub range_verdict : List Part → Bool → Verdict
range_verdict ps strided = judged (all_known ps) (each_wanted is_int ps) (Range strided)

-- a domain is strided where one of its ranges is
abbrev pub is_strided_range : ValueType → Bool
is_strided_range t = is_range t && not (is_plain_range t)

abbrev pub any_strided : List Part → Bool
any_strided [] = false
any_strided (p ∷ ps) = has is_strided_range p.type || any_strided ps

-- 1 to 3 ranges make a domain; more are C5 at the opening bracket
abbrev pub ranges_breaches : Place → List Part → List Breach
ranges_breaches from ps = each_wanted is_range ps ++ owed (nat_lt (length ps) 4) from WrongRank

abbrev pub ranges_verdict : Place → List Part → Verdict
ranges_verdict from ps = judged (all_known ps) (ranges_breaches from ps) (Domain (length ps) (any_strided ps))

-- one domain, or 1 to 3 ranges: in an array's type, and what a domain is created from
abbrev pub domain_or : Option (ℕ × Bool) → Verdict → Verdict
domain_or None otherwise = otherwise
domain_or (Some d) otherwise = Has (Domain d.0 d.1)

abbrev pub over_verdict : Place → List Part → Verdict
over_verdict from [] = ranges_verdict from []
over_verdict from (p ∷ []) = with_type p.type (λ t. domain_or (domain_of t) (ranges_verdict from (p ∷ [])))
over_verdict from (p ∷ q ∷ ps) = ranges_verdict from (p ∷ q ∷ ps)

-- ---- indices: as many ints as the rank, or one tuple name of that rank
-- a single part, which may be a tuple name
abbrev pub single_breaches : Place → ℕ → Place → ValueType → Option ℕ → List Breach
single_breaches last rank at t (Some n) = owed (n == rank) last WrongRank
single_breaches last rank at t None = if rank == 1 then owed (is_int t) at WrongType else breach last WrongRank

abbrev pub single_index : Place → ℕ → Place → Option ValueType → List Breach
single_index last rank at t = where_given t (λ t. single_breaches last rank at t (tuple_of t))

-- C5 stands at the last token before the opening bracket, and looks at the number of the parts alone
abbrev pub index_breaches : Place → ℕ → List Part → List Breach
index_breaches last rank [] = breach last WrongRank
index_breaches last rank (p ∷ []) = single_index last rank p.at p.type
index_breaches last rank (p ∷ q ∷ ps) =
    if length (p ∷ q ∷ ps) == rank then each_wanted is_int (p ∷ q ∷ ps) else breach last WrongRank

abbrev pub element_verdict : Place → Kind → ℕ → List Part → Verdict
element_verdict last k rank ps = judged (all_known ps) (index_breaches last rank ps) (Scalar k)

-- ---- brackets, behind a value whose last token is `last`
-- a slice takes as many unstrided ranges as the rank
abbrev pub slice_breaches : Place → ℕ → List Part → List Breach
slice_breaches last rank ps = if length ps == rank then each_wanted is_plain_range ps else breach last WrongRank

abbrev pub slice_verdict : Place → ℕ → List Part → ValueType → Verdict
slice_verdict last rank ps t = judged (all_known ps) (slice_breaches last rank ps) t

-- `Locales` takes one int
abbrev pub locale_breaches : Place → List Part → List Breach
locale_breaches last ps = if length ps == 1 then each_wanted is_int ps else breach last WrongRank

-- square brackets index an array or the locales, or slice a range or a domain
abbrev pub square_verdict : Place → Place → List Part → ValueType → Verdict
square_verdict last from ps (Range strided) = slice_verdict last 1 ps (Range strided)
square_verdict last from ps (Domain rank strided) = slice_verdict last rank ps (Domain rank strided)
square_verdict last from ps (Array k over) = element_verdict last k over.rank ps
square_verdict last from ps AllLocales = judged (all_known ps) (locale_breaches last ps) Locale
square_verdict last from ps _ = mistyped from

-- round brackets index arrays only
abbrev pub array_verdict : Place → Place → List Part → Option (Kind × Over) → Verdict
array_verdict last from ps a = needs from a (λ a. element_verdict last a.0 a.1.rank ps)

abbrev pub round_verdict : Place → Place → List Part → ValueType → Verdict
round_verdict last from ps t = array_verdict last from ps (array_of t)

-- ---- methods
-- the rank of a range is 1
abbrev pub rank_or : Option (ℕ × Bool) → Option ℕ
rank_or d = option_map {T = ℕ × Bool} {U = ℕ} (λ d. d.0) d

abbrev pub index_rank : ValueType → Option ℕ
index_rank t = if is_range t then Some 1 else rank_or (domain_of t)

abbrev pub domain_over : Place → Option (Kind × Over) → Verdict
domain_over at a = needs at a (λ a. Has (Domain a.1.rank a.1.strided))

-- `size` is a range's or a domain's, `first last low high` are a range's, `domain` is an array's and `id` a locale's.
-- `low` and `lowBound` of a domain stand only as where a map starts, and are C3 here.
abbrev pub word_verdict : Place → Word → ValueType → Verdict
word_verdict at Size t = has_if (is_range t || is_domain t) an_int at
word_verdict at LowBound t = mistyped at
word_verdict at DomainOf t = domain_over at (array_of t)
word_verdict at Id t = has_if (is_locale t) an_int at
word_verdict at _ t = has_if (is_range t) an_int at

-- `dim` counts a domain's dimensions from 0; C5 stands at its number
abbrev pub dim_verdict : Place → Place → ℕ → Option (ℕ × Bool) → Verdict
dim_verdict at rank_at d x = needs at x (λ x. if nat_lt d x.0 then Has (Range x.1) else misranked rank_at)

-- `contains` is a range's or a domain's, and takes an index
abbrev pub contains_verdict : Place → List Part → Option ℕ → Verdict
contains_verdict at ps rank = needs at rank (λ rank. judged (all_known ps) (index_breaches at rank ps) a_bool)

-- `expand` is an unstrided domain's, and takes an int
abbrev pub expand_verdict : Place → Part → Option (ℕ × Bool) → Verdict
expand_verdict at p x =
    needs at x (λ x. judged (all_known (p ∷ [])) (owed (not x.1) at WrongType ++ wanted is_int p) (Domain x.0 false))
