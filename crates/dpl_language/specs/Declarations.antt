-- What declarations mean.
-- A name is known from the end of its declaration, so its initial value is evaluated before it is.
use Rattle.std.specs.Prelude.{nat_lt, pos, Option, Some, None, Result, Ok, List, [], ◌∷◌, map}
use Rattle.dpl_syntax.specs.declared.place.Place.{Place}
use Rattle.dpl_history.specs.declared.cell.CellState.TheVariants.{Empty, Full}
use Rattle.dpl_language.specs.Tree.{Placed, Kind, ItemTree, TypeTree, ScalarType, SyncType, DomainType, ArrayType, ArrayTypeTree, InitTree, ItemInit, CreateInit, TypedTree, InitialTree, DeclareTree}
use Rattle.dpl_sets.specs.TextRanges.{TextRange}
use Rattle.dpl_language.specs.Values.{Value, Int, Domain, Index, ranges_in, default, kept_number, Fault, fault, Budget, ArrayTooLarge}
use Rattle.dpl_language.specs.Ranges.{indices_in, size_in, too_large, empty_domain}
use Rattle.dpl_language.specs.Outcome.{Done, Run, with_ok, with_value, unless, naming_value}
use Rattle.dpl_language.specs.Environment.{Content, Plain, ArrayOf, CellOf, Environment, Limits}
use Rattle.dpl_language.specs.Phrases.{declared_over}
use Rattle.dpl_language.specs.Expressions.{item_of, domain_of, whole_item}
use Rattle.dpl_language.specs.Assignments.{evaluated}

-- the values at some indices, in order; a fault names the turn of its index
abbrev pub gathered : (Index → Result Value Fault) → List Index → Result (List Value) Fault
gathered value [] = Ok []
gathered value (t ∷ ts) = with_ok (naming_value t (value t)) (λ v. with_ok (gathered value ts) (λ vs. Ok (v ∷ vs)))

-- the same value at each index of a domain
abbrev pub filled : Value → List TextRange → List Value
filled v rs = map (λ t. v) (indices_in rs)

-- an array, but for its elements: over which bare domain name it is declared, its kind and its domain
pub record Shell (N : Type 0) : Type 0 where
  pub over : Option N
  pub kind : Kind
  pub ranges : List TextRange

-- the array with these elements
abbrev pub array_with : {N : Type 0} → Shell N → List Value → Content N
array_with a vs = ArrayOf a.over a.kind a.ranges vs

abbrev pub type_of : {N : Type 0} → Option (TypedTree N) → Option (TypeTree N)
type_of None = None
type_of (Some t) = Some t.type

module _ {N S : Type 0} (limits : Limits) (env : Environment N S) where
  -- one more name in the innermost scope
  abbrev pub declaring : Placed N → Content N → Run S
  declaring x c s done = Done (env.declare x.name c s) done

  -- an initial value, and what is done with it; `createDomain(X)` means X, and a map is not looked at
  abbrev pub initial_then : InitTree N → (Value → Run S) → Run S
  initial_then (ItemInit item mapped) go s done = evaluated limits env item go s done
  initial_then (CreateInit c) go s done = with_value (domain_of limits env c.from c.items s) go s done

  -- a declaration without an initial value, and with one
  abbrev pub declare_with : Placed N → Content N → (Value → Content N) → Option (InitialTree N) → Run S
  declare_with x default make None s done = declaring x default s done
  declare_with x default make (Some i) s done = initial_then i.init (λ v. declaring x (make v)) s done

  -- An array's initial value, which is assigned to the whole array (see `assign_array`): a right side without a whole
  -- array is evaluated once, and then the budget is tested, at `=`; a promoted one is evaluated at each index, behind
  -- the budget. A name is known from the end of its declaration: in `{ var A: [D] int = A + 1; }` the second A is the
  -- outer one.
  abbrev pub array_of_item : Placed N → Shell N → Place → ItemTree N → Option (List TextRange) → Run S
  array_of_item x a at item None s done =
      evaluated limits env item (λ v.
      unless (nat_lt limits.budget (size_in a.ranges)) (fault Budget at)
      (declaring x (array_with a (filled v a.ranges)))) s done
  array_of_item x a at item (Some arrays) s done =
      unless (nat_lt limits.budget (size_in a.ranges)) (fault Budget at)
      (λ s done. with_value (gathered (λ t. item_of limits env item (Some t) s) (indices_in a.ranges))
      (λ vs. declaring x (array_with a vs)) s done) s done

  -- an array without an initial value holds 0 or false everywhere; a created domain is no array's initial value
  abbrev pub array_of_init : Placed N → Shell N → Place → InitTree N → Run S
  array_of_init x a at (ItemInit item mapped) s done = array_of_item x a at item (whole_item limits env item s) s done
  array_of_init x a at (CreateInit c) s done = declaring x (array_with a (filled (default a.kind) a.ranges)) s done

  abbrev pub array_of : Placed N → Shell N → Option (InitialTree N) → Run S
  array_of x a None s done = declaring x (array_with a (filled (default a.kind) a.ranges)) s done
  array_of x a (Some i) s done = array_of_init x a i.equals i.init s done

  -- An array's declaration evaluates its domain, then tests that it isn't too large, else it is F8 at the declared
  -- name; then it makes the array, and then it assigns.
  abbrev pub declare_array : Placed N → ArrayTypeTree N → Option (InitialTree N) → Run S
  declare_array x a initial s done =
      with_value (domain_of limits env a.from a.over s) (λ d.
      unless (too_large (ranges_in d)) (fault ArrayTooLarge x.at)
      (array_of x (record { over = declared_over a.over; kind = a.kind; ranges = ranges_in d }) initial)) s done

  -- A declaration by its type. Without an initial value it gives 0, false, an empty cell or an empty domain;
  -- with one a cell is full. A declaration without a type has an initial value.
  abbrev pub declare_typed : Placed N → Option (TypeTree N) → Option (InitialTree N) → Run S
  declare_typed x None = declare_with x (Plain (Int (pos 0))) (λ v. Plain v)
  declare_typed x (Some (ScalarType at k)) = declare_with x (Plain (default k)) (λ v. Plain v)
  declare_typed x (Some (SyncType at kind_at k)) =
      declare_with x (CellOf k Empty) (λ v. CellOf k (Full (kept_number v)))
  declare_typed x (Some (DomainType d)) = declare_with x (Plain (Domain (empty_domain d.rank))) (λ v. Plain v)
  declare_typed x (Some (ArrayType a)) = declare_array x a

  -- the value of the command line takes the place of the initial value, which is then not evaluated
  abbrev pub given_or : Placed N → Option Value → Run S → Run S
  given_or x None go s done = go s done
  given_or x (Some v) go s done = declaring x (Plain v) s done

  -- only a `config const` asks the command line
  abbrev pub declare_by : Option Place → DeclareTree N → Run S
  declare_by None d s done = declare_typed d.name (type_of d.typed) d.initial s done
  declare_by (Some config) d s done =
      given_or d.name (env.given d.name.name s) (declare_typed d.name (type_of d.typed) d.initial) s done

  abbrev pub declare : DeclareTree N → Run S
  declare d = declare_by d.config d
