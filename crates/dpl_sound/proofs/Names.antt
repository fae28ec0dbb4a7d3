-- The value of a name, and the element of a whole array at an index.
use Rattle.std.proofs.Common.{◌≡◌, Bool, true, false, Option, Some, None, refl, sym, subst}
use Rattle.std.specs.Prelude.{if◌then◌else◌}
use Rattle.std.specs.Result.{IfOk}
use Rattle.dpl_syntax.specs.declared.place.Place.{Place}
use Rattle.dpl_syntax.specs.declared.refusal.Code.TheVariants.{CellMisused}
use Rattle.dpl_language.specs.Tree.{Placed, Kind, IntKind, BoolKind}
use Rattle.dpl_language.specs.Values.{Value, Index, array_domain}
use Rattle.dpl_language.specs.Names.{Text}
use Rattle.dpl_language.specs.Environment.{Environment, Limits}
use Rattle.dpl_language.specs.Expressions.{named}
use Rattle.dpl_rules.specs.Types.{Over, ValueType, Scalar, Range as RangeType, Domain as DomainType, Array as ArrayType}
use Rattle.dpl_rules.specs.Types.{Promoted, Tuple as TupleType, Locale as LocaleType, AllLocales as AllLocalesType, Cell as CellType, is_cell}
use Rattle.dpl_rules.specs.Verdicts.{Has, Breaks, breach, type_by}
use Rattle.dpl_rules.specs.Sights.{Declared, Scopes, lookup, type_declared}
use Rattle.dpl_rules.specs.Expressions.{plain_name, name_verdict}
use Rattle.dpl_sound.specs.Typed.{OfKind, HasType, type_at, Fits}
use Rattle.dpl_sound.proofs.Given.{some-same, with_type-gives}
use Rattle.dpl_sound.proofs.Results.{found-if}

-- ---- types
plain-gives : (b : Bool) (at : Place) (t u : ValueType) → type_by (if b then Breaks (breach at CellMisused) else Has t) ≡ Some u → t ≡ u
plain-gives true at t u h = absurd cc
plain-gives false at t u h = some-same t u h

-- a name with a type has its declaration's
pub name_verdict-gives : (at : Place) (o : Option Declared) (u : ValueType) → type_by (name_verdict at o) ≡ Some u → type_declared o ≡ Some u
name_verdict-gives at None u h = absurd cc
name_verdict-gives at (Some d) u h =
    let given = with_type-gives d.type (plain_name at) u h in
    subst (λ t. d.type ≡ Some t) (plain-gives (is_cell given.0) at given.0 u given.2) given.1

-- ---- values
-- what is of a type is of that type where it is evaluated once
pub has-once : (t : ValueType) (v : Value) → HasType v t → HasType v (type_at t None)
has-once (Promoted k over) v h = elim h [ ]
has-once _ v h = h

module _ {S : Type 0} (limits : Limits) (env : Environment Text S) (s : S) where
  -- an array of that name has elements of its kind
  abbrev pub ElementsFit : Text → ValueType → Type 0
  ElementsFit x t = (k : Kind) (over : Over) → t ≡ ArrayType k over → (i : Index) (w : Value) → env.element x i s ≡ Some w → OfKind k w

  -- at an index a name that is no array has its own value
  abbrev At : Placed Text → Index → ValueType → Value → Type 0
  At x i t v = IfOk (named limits env (Some i) x (array_domain v) v s) (λ w. HasType w (type_at t (Some i)))

  named-at : (x : Placed Text) (i : Index) (t : ValueType) (v : Value) → HasType v t → ElementsFit x.name t → At x i t v
  named-at x i (Scalar IntKind) v h fit = subst (At x i (Scalar IntKind)) (sym h.1) (h.0, refl)
  named-at x i (Scalar BoolKind) v h fit = subst (At x i (Scalar BoolKind)) (sym h.1) (h.0, refl)
  named-at x i (RangeType strided) v h fit = subst (At x i (RangeType strided)) (sym h.1) (h.0, refl, h.2)
  named-at x i (DomainType rank strided) v h fit = subst (At x i (DomainType rank strided)) (sym h.1) (h.0, refl, h.2)
  named-at x i (ArrayType k over) v h fit =
      subst (At x i (ArrayType k over)) (sym h.1) (found-if (OfKind k) x.at (env.element x.name i s) (fit k over refl i))
  named-at x i (Promoted k over) v h fit = elim h [ ]
  named-at x i (TupleType rank) v h fit = subst (At x i (TupleType rank)) (sym h.1) (h.0, refl, h.2)
  named-at x i LocaleType v h fit = subst (At x i LocaleType) (sym h.1) (h.0, refl)
  named-at x i AllLocalesType v h fit = subst (At x i AllLocalesType) (sym h) refl
  named-at x i (CellType k) v h fit = subst (At x i (CellType k)) (sym h) refl

  pub named-has : (x : Placed Text) (o : Option Index) (t : ValueType) (v : Value) → HasType v t → ElementsFit x.name t
      → IfOk (named limits env o x (array_domain v) v s) (λ w. HasType w (type_at t o))
  named-has x None t v h fit = has-once t v h
  named-has x (Some i) t v h fit = named-at x i t v h fit

-- the elements of a name of a type, in a state that fits
pub elements-fit : {S : Type 0} (env : Environment Text S) (scopes : Scopes) (s : S) → Fits env scopes s → (limits : Limits) (x : Text) (t : ValueType)
    → type_declared (lookup scopes x) ≡ Some t → ElementsFit limits env s x t
elements-fit env scopes s fits limits x t d k over e = fits.elements x k over (subst (λ t. type_declared (lookup scopes x) ≡ Some t) e d)
