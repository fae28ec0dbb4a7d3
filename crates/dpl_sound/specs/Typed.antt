-- Which values are of a type, and what a state owes to the names in sight: a value of its declared type for each.
-- Type soundness is that an expression with a type then evaluates to a fault or to a value of that type.
use Rattle.std.specs.Prelude.{◌≡◌, ℕ, ℤ, Bool, true, false, List, [], ◌∷◌, length, Option, Some, None}
use Rattle.dpl_sets.specs.TextRanges.{TextRange}
use Rattle.dpl_language.specs.Tree.{Kind, IntKind, BoolKind}
use Rattle.dpl_language.specs.Values.{Value, Int, Truth, Range, Domain, Array, Cell, Locale, AllLocales, Tuple, Index}
use Rattle.dpl_language.specs.Ranges.{unstrided}
use Rattle.dpl_language.specs.Environment.{Environment}
use Rattle.dpl_language.specs.Names.{Text}
use Rattle.dpl_rules.specs.Types.{Over, ValueType, Scalar, Range as RangeType, Domain as DomainType, Array as ArrayType}
use Rattle.dpl_rules.specs.Types.{Promoted, Tuple as TupleType, Locale as LocaleType, AllLocales as AllLocalesType, Cell as CellType}
use Rattle.dpl_rules.specs.Sights.{Scopes, lookup, type_declared}
use Rattle.dpl_rules.specs.Verdicts.{Part}

-- ---- values
-- an int or a truth value, by its kind
abbrev pub OfKind : Kind → Value → Type 0
OfKind IntKind v = (n : ℤ) × (v ≡ Int n)
OfKind BoolKind v = (b : Bool) × (v ≡ Truth b)

-- a range without `by`: its two bounds say it all
abbrev pub IsPlain : TextRange → Type 0
IsPlain r = r ≡ unstrided r.value.low r.value.high

abbrev pub ArePlain : List TextRange → Type 0
ArePlain [] = Unit {0}
ArePlain (r ∷ rs) = IsPlain r × ArePlain rs

-- Of a type that isn't strided all ranges are without `by`. Of a strided one each may have it: `{1..4, 1..8 by 2}` is
-- strided and its first range isn't.
abbrev pub MayStride : Bool → List TextRange → Type 0
MayStride true rs = Unit {0}
MayStride false rs = ArePlain rs

-- as many ranges as the rank
abbrev pub AreRanked : ℕ → Bool → List TextRange → Type 0
AreRanked rank strided rs = (length rs ≡ rank) × MayStride strided rs

-- A value is of a type. No value is promoted by itself: it is int or bool at an index (see `type_at`).
abbrev pub HasType : Value → ValueType → Type 0
HasType v (Scalar k) = OfKind k v
HasType v (RangeType strided) = (r : TextRange) × (v ≡ Range r) × MayStride strided (r ∷ [])
HasType v (DomainType rank strided) = (rs : List TextRange) × (v ≡ Domain rs) × AreRanked rank strided rs
HasType v (ArrayType k over) = (rs : List TextRange) × (v ≡ Array k rs) × AreRanked over.rank over.strided rs
HasType v (Promoted k over) = ⊥
HasType v (TupleType rank) = (t : Index) × (v ≡ Tuple t) × (length t ≡ rank)
HasType v LocaleType = (k : ℤ) × (v ≡ Locale k)
HasType v AllLocalesType = v ≡ AllLocales
HasType v (CellType k) = v ≡ Cell k

-- What type the value of an expression is of, evaluated once or at an index of its whole arrays: at an index a whole
-- array is its element there. What operators give of whole arrays is a scalar either way; no sound program takes it once.
abbrev pub type_at : ValueType → Option Index → ValueType
type_at (Scalar k) at = Scalar k
type_at (RangeType strided) at = RangeType strided
type_at (DomainType rank strided) at = DomainType rank strided
type_at (ArrayType k over) None = ArrayType k over
type_at (ArrayType k over) (Some t) = Scalar k
type_at (Promoted k over) at = Scalar k
type_at (TupleType rank) at = TupleType rank
type_at LocaleType at = LocaleType
type_at AllLocalesType at = AllLocalesType
type_at (CellType k) at = CellType k

-- ---- lists: as many values as parts, each of its part's type where that has one
abbrev pub HasPartType : Value → Option ValueType → Type 0
HasPartType v None = Unit {0}
HasPartType v (Some t) = HasType v (type_at t None)

abbrev pub HaveTypes : List Value → List Part → Type 0
HaveTypes [] [] = Unit {0}
HaveTypes [] (p ∷ ps) = ⊥
HaveTypes (v ∷ vs) [] = ⊥
HaveTypes (v ∷ vs) (p ∷ ps) = HasPartType v p.type × HaveTypes vs ps

-- ---- states
-- Each name in sight that has a type has a value of that type, and an array of that name has elements of its kind.
pub record Fits {S : Type 0} (env : Environment Text S) (scopes : Scopes) (s : S) : Type 0 where
  pub values : (x : Text) (t : ValueType) → type_declared (lookup scopes x) ≡ Some t → HasType (env.get x s) t
  pub elements : (x : Text) (k : Kind) (over : Over) → type_declared (lookup scopes x) ≡ Some (ArrayType k over)
      → (t : Index) (v : Value) → env.element x t s ≡ Some v → OfKind k v
