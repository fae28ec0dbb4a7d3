-- The rules of declarations: the type that a declaration gives its name, and where it breaks a rule.
-- A declared type and its initial value agree; a name whose declaration is refused has no type.
use Rattle.std.specs.Prelude.{ℕ, nat_le, Bool, true, false, not, ◌&&◌, ◌||◌, if◌then◌else◌, List, [], ◌∷◌, ◌++◌, option_and_then, Option, Some, None}
use Rattle.dpl_syntax.specs.declared.place.Place.{Place}
use Rattle.dpl_language.specs.Tree.{MappedTree, ArrayTypeTree, TypeTree, ScalarType, SyncType, DomainType, ArrayType, CreateTree, InitTree, ItemInit, CreateInit, InitialTree, DeclareTree}
use Rattle.dpl_language.specs.Names.{Text}
use Rattle.dpl_language.specs.Phrases.{declared_over}
use Rattle.dpl_language.specs.Declarations.{type_of as written_type}
use Rattle.dpl_rules.specs.Types.{Origin, ValueType, Scalar, Domain, Array, Cell, domain_of, is_any_scalar, is_range, is_domain, is_locale, has, is_scalar, is_domain_of, fits_array}
use Rattle.dpl_syntax.specs.declared.refusal.Code.TheVariants.{NameTwice, WrongType, WrongRank}
use Rattle.dpl_syntax.specs.declared.refusal.Breach.{Breach}
use Rattle.dpl_rules.specs.Verdicts.{Part, type_by, broken_by, breach, owed, owed_type, wanted, where_given}
use Rattle.dpl_rules.specs.Places.{first_of_item}
use Rattle.dpl_rules.specs.Sights.{Sort, Configured, Constant, Variable, Declared, Scopes, lookup, declared_here, origin_in}
use Rattle.dpl_rules.specs.Operators.{rank_or, over_verdict}
use Rattle.dpl_rules.specs.Expressions.{item_parts, items_breaches, side_part, side_breaches}
use Rattle.dpl_rules.specs.Maps.{mapped_breaches}

abbrev pub domain_in : Option ValueType → Option (ℕ × Bool)
domain_in t = option_and_then domain_of t

-- the rank of a domain
abbrev pub type_rank : Option ValueType → Option ℕ
type_rank t = rank_or (domain_in t)

-- ---- what a type takes as an initial value
-- an int or a bool, or what such a cell holds; an unstrided domain of the rank; what each element of an array can be given
abbrev pub is_initial : ValueType → ValueType → Bool
is_initial (Scalar k) t = is_scalar k t
is_initial (Domain rank strided) t = is_domain_of rank false t
is_initial (Array k over) t = fits_array k over t
is_initial (Cell k) t = is_scalar k t
is_initial _ t = false

-- a name without a type takes ints, bools, ranges, domains and locales; an array is declared with its type
abbrev pub is_kept : ValueType → Bool
is_kept t = is_any_scalar t || is_range t || is_domain t || is_locale t

-- where a type is declared, an initial value that it doesn't take is told at that value's first token
abbrev pub agreeing : Option ValueType → Part → List Breach
agreeing declared p = where_given declared (λ declared. owed_type (is_initial declared) p.at p.type)

-- beside a type no `dmapped` stands
abbrev pub unmapped : Option (MappedTree Text) → List Breach
unmapped mapped = where_given mapped (λ m. breach m.at WrongType)

-- what is mapped is a domain, and what isn't may be kept
abbrev pub is_untyped : Option (MappedTree Text) → ValueType → Bool
is_untyped None t = is_kept t
is_untyped (Some m) t = is_domain t

-- ---- the domain that an array is over
-- a bare domain name stands for its declaration, anything else for the array itself
abbrev pub base_by : Origin → Option Declared → Origin
base_by self None = self
base_by self (Some d) = if has is_domain d.type then d.origin else self

-- ---- `config const` is an int or a bool; else it is C3 at the type's first token, or at the initial value's
abbrev pub config_type : TypeTree Text → List Breach
config_type (ScalarType at k) = []
config_type (SyncType at kind_at k) = breach at WrongType
config_type (DomainType d) = breach d.at WrongType
config_type (ArrayType a) = breach a.from WrongType

abbrev pub sort_of : Option Place → Bool → Sort
sort_of None true = Constant
sort_of None false = Variable
sort_of (Some config) constant = Configured

abbrev pub unless_refused : List Breach → Option ValueType → Option ValueType
unless_refused [] t = t
unless_refused (b ∷ bs) t = None

module _ (scopes : Scopes) where
  abbrev pub base_over : Origin → Option Text → Origin
  base_over self None = self
  base_over self (Some x) = base_by self (lookup scopes x)

  abbrev pub over_domain : Origin → ArrayTypeTree Text → Option (ℕ × Bool) → Option ValueType
  over_domain self a None = None
  over_domain self a (Some d) =
      Some (Array a.kind (record { rank = d.0; strided = d.1; base = base_over self (declared_over a.over) }))

  abbrev pub array_type : Origin → ArrayTypeTree Text → Option ValueType
  array_type self a = over_domain self a (domain_in (type_by (over_verdict a.from (item_parts scopes a.over))))

  -- ---- types
  -- the type that is written; `domain(k)` is unstrided
  abbrev pub declared_type : Origin → TypeTree Text → Option ValueType
  declared_type self (ScalarType at k) = Some (Scalar k)
  declared_type self (SyncType at kind_at k) = Some (Cell k)
  declared_type self (DomainType d) = Some (Domain d.rank false)
  declared_type self (ArrayType a) = array_type self a

  -- a domain's rank is 1 to 3, which is C5 at the number; an array is over one domain or 1 to 3 ranges
  abbrev pub type_breaches : TypeTree Text → List Breach
  type_breaches (DomainType d) =
      owed (nat_le 1 d.rank && nat_le d.rank 3) d.rank_at WrongRank ++ mapped_breaches scopes (Some d.rank) d.mapped
  type_breaches (ArrayType a) = items_breaches scopes a.over ++ broken_by (over_verdict a.from (item_parts scopes a.over))
  type_breaches _ = []

  -- ---- initial values
  abbrev pub init_part : InitTree Text → Part
  init_part (ItemInit item mapped) = side_part scopes item
  init_part (CreateInit c) = record { at = c.at; type = type_by (over_verdict c.from (item_parts scopes c.items)) }

  abbrev pub create_breaches : CreateTree Text → List Breach
  create_breaches c = items_breaches scopes c.items ++ broken_by (over_verdict c.from (item_parts scopes c.items))

  -- of a name without a type
  abbrev pub untyped_breaches : InitTree Text → List Breach
  untyped_breaches (ItemInit item mapped) =
      side_breaches scopes item ++ owed_type (is_untyped mapped) (first_of_item item) (side_part scopes item).type
      ++ mapped_breaches scopes (type_rank (side_part scopes item).type) mapped
  untyped_breaches (CreateInit c) = create_breaches c

  -- beside a type, with which it agrees; a created domain is told by its first word
  abbrev pub typed_breaches : Option ValueType → InitTree Text → List Breach
  typed_breaches declared (ItemInit item mapped) =
      side_breaches scopes item ++ agreeing declared (side_part scopes item) ++ unmapped mapped
      ++ mapped_breaches scopes (type_rank (side_part scopes item).type) mapped
  typed_breaches declared (CreateInit c) = create_breaches c ++ breach c.at WrongType

  abbrev pub typed_initial : Option ValueType → Option (InitialTree Text) → List Breach
  typed_initial declared initial = where_given initial (λ i. typed_breaches declared i.init)

  abbrev pub initial_type : Option (InitialTree Text) → Option ValueType
  initial_type initial = option_and_then {T = InitialTree Text} {U = ValueType} (λ i. (init_part i.init).type) initial

  abbrev pub config_by : Option (TypeTree Text) → Option (InitialTree Text) → List Breach
  config_by None initial = where_given initial (λ i. wanted is_any_scalar (init_part i.init))
  config_by (Some t) initial = config_type t

  abbrev pub config_breaches : Option Place → DeclareTree Text → List Breach
  config_breaches config d = where_given config (λ config. config_by (written_type d.typed) d.initial)

  -- ---- a declaration
  abbrev pub written_breaches : Origin → Option (TypeTree Text) → Option (InitialTree Text) → List Breach
  written_breaches self None initial = where_given initial (λ i. untyped_breaches i.init)
  written_breaches self (Some t) initial = type_breaches t ++ typed_initial (declared_type self t) initial

  abbrev pub type_given : Origin → Option (TypeTree Text) → Option (InitialTree Text) → Option ValueType
  type_given self None initial = initial_type initial
  type_given self (Some t) initial = declared_type self t

  -- a name stands once in a scope
  abbrev pub declaration_breaches : DeclareTree Text → List Breach
  declaration_breaches d =
      owed (not (declared_here scopes d.name.name)) d.name.at NameTwice
      ++ written_breaches (origin_in scopes d.name.name) (written_type d.typed) d.initial ++ config_breaches d.config d

  -- what it declares; where a rule is broken in it, the name has no type
  abbrev pub declared_by : DeclareTree Text → Declared
  declared_by d =
      record {
        origin = origin_in scopes d.name.name;
        sort = sort_of d.config d.constant;
        type = unless_refused (declaration_breaches d) (type_given (origin_in scopes d.name.name) (written_type d.typed) d.initial);
      }
