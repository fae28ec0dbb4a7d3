-- The rules of what loops run over, of their variables and of their intents; and what their bodies have in sight.
-- What a loop runs over and its intents are outside the loop's scope; its body's scope is inside it.
use Rattle.std.specs.Prelude.{ℕ, ◌==◌, Bool, true, false, not, ◌&&◌, ◌||◌, bytes_eq, if◌then◌else◌, List, [], ◌∷◌, ◌++◌, length, unwrap_or, Option, Some, None}
use Rattle.dpl_syntax.specs.declared.place.Place.{Place}
use Rattle.dpl_language.specs.Tree.{Placed, Op, ItemTree, One, RangeItem, VariablesTree, OneVariable, ManyVariables, IntentTree, ReduceIntent, RefIntent, WithTree}
use Rattle.dpl_language.specs.Tree.{LoopWord, ForallWord, CoforallWord, StmtTree, Declare}
use Rattle.dpl_language.specs.Names.{Text}
use Rattle.dpl_language.specs.Phrases.{parts, intents_of}
use Rattle.dpl_rules.specs.Types.{ValueType, Tuple, Locale, an_int, domain_of, is_range, is_domain, is_all_locales, is_cell, has, is_scalar, op_kind}
use Rattle.dpl_syntax.specs.declared.refusal.Code.TheVariants.{UnknownName, NameTwice, WrongType, ConstantWritten, WrongRank, CellMisused}
use Rattle.dpl_syntax.specs.declared.refusal.Breach.{Breach}
use Rattle.dpl_rules.specs.Verdicts.{breach, owed, owed_type, where_given}
use Rattle.dpl_rules.specs.Places.{first_of_item, first_of_variables}
use Rattle.dpl_rules.specs.Sights.{LoopVariable, Declared, Scopes, lookup, declared_here, enter, add, origin_in, is_constant, Reducing}
use Rattle.dpl_rules.specs.Expressions.{bare_locales, locales_or, none_where, item_type, item_breaches}
use Rattle.dpl_rules.specs.Declarations.{declared_by}
use Rattle.dpl_rules.specs.Operators.{rank_or}

-- a coforall runs over a range or `Locales`, a forall over a range or a domain, a `for` over all three
abbrev pub over_domains : LoopWord → Bool
over_domains CoforallWord = false
over_domains _ = true

abbrev pub over_locales : LoopWord → Bool
over_locales ForallWord = false
over_locales _ = true

abbrev pub runs_over : LoopWord → ValueType → Bool
runs_over word t = is_range t || (over_domains word && is_domain t) || (over_locales word && is_all_locales t)

-- ---- variables
-- a range, a domain of rank 1 and `Locales` give one value a turn, a domain of rank 2 or 3 as many ints as its rank
abbrev pub turn_rank : ValueType → ℕ
turn_rank t = unwrap_or (rank_or (domain_of t)) 1

-- a single variable: a locale, an int or a tuple name
abbrev pub one_type : ValueType → ValueType
one_type t = if is_all_locales t then Locale else (if turn_rank t == 1 then an_int else Tuple (turn_rank t))

abbrev pub fits_variables : VariablesTree Text → ValueType → Bool
fits_variables (OneVariable x) t = true
fits_variables (ManyVariables from xs upto) t = length (parts xs) == turn_rank t

-- what the variables are, by what the loop runs over; they have no types where the loop can't run over it
abbrev pub variable_type : VariablesTree Text → ValueType → Option ValueType
variable_type (OneVariable x) t = Some (one_type t)
variable_type (ManyVariables from xs upto) t = if length (parts xs) == turn_rank t then Some an_int else None

abbrev pub typed_variable : LoopWord → VariablesTree Text → Option ValueType → Option ValueType
typed_variable word xs None = None
typed_variable word xs (Some t) = if runs_over word t then variable_type xs t else None

-- no two variables of a loop have one name
abbrev pub each_once : Scopes → List (Placed Text) → List Breach
each_once ss [] = []
each_once ss (x ∷ xs) =
    owed (not (declared_here ss x.name)) x.at NameTwice
    ++ each_once (add (record { origin = origin_in ss x.name; sort = LoopVariable; type = None }) ss) xs

-- ---- intents
-- a reduce variable is known, no constant, no cell, and of the kind that the operator takes
abbrev pub reduce_intent : Op → Place → Option Declared → List Breach
reduce_intent op at None = breach at UnknownName
reduce_intent op at (Some d) =
    owed (not (is_constant d.sort)) at ConstantWritten
    ++ (if has is_cell d.type then breach at CellMisused else owed_type (is_scalar (op_kind op)) at d.type)

-- `ref` takes a `var` of any type, and any cell
abbrev pub ref_intent : Place → Option Declared → List Breach
ref_intent at None = breach at UnknownName
ref_intent at (Some d) = if has is_cell d.type then [] else owed (not (is_constant d.sort)) at ConstantWritten

abbrev pub is_among : Text → List Text → Bool
is_among x [] = false
is_among x (y ∷ ys) = if bytes_eq x y then true else is_among x ys

-- ---- a loop's variables, in a scope of their own
abbrev pub add_variables : Option ValueType → List (Placed Text) → Scopes → Scopes
add_variables t [] ss = ss
add_variables t (x ∷ xs) ss =
    add_variables t xs (add (record { origin = origin_in ss x.name; sort = LoopVariable; type = t }) ss)

abbrev pub variables_of : VariablesTree Text → List (Placed Text)
variables_of (OneVariable x) = x ∷ []
variables_of (ManyVariables from xs upto) = parts xs

-- as many variables as the rank, or one; else it is C5 at their first token
abbrev pub header_of : LoopWord → VariablesTree Text → ItemTree Text → Option ValueType → List Breach
header_of word xs item None = []
header_of word xs item (Some t) =
    if runs_over word t then owed (fits_variables xs t) (first_of_variables xs) WrongRank
    else breach (first_of_item item) WrongType

module _ (scopes : Scopes) where
  -- the word `Locales` by itself, or an item's type
  abbrev pub over_type : ItemTree Text → Option ValueType
  over_type (One e) = locales_or (bare_locales e) (item_type scopes (One e))
  over_type (RangeItem low at dots high by) = item_type scopes (RangeItem low at dots high by)

  abbrev pub over_breaches : ItemTree Text → List Breach
  over_breaches (One e) = none_where (bare_locales e) (item_breaches scopes (One e))
  over_breaches (RangeItem low at dots high by) = item_breaches scopes (RangeItem low at dots high by)

  abbrev pub header_breaches : LoopWord → VariablesTree Text → ItemTree Text → List Breach
  header_breaches word xs item = over_breaches item ++ header_of word xs item (over_type item) ++ each_once (enter scopes) (variables_of xs)

  -- a name stands once in a list of intents
  abbrev pub intent_breaches : List Text → List (IntentTree Text) → List Breach
  intent_breaches before [] = []
  intent_breaches before (ReduceIntent at op word x ∷ rest) =
      owed (not (is_among x.name before)) x.at NameTwice ++ reduce_intent op x.at (lookup scopes x.name)
      ++ intent_breaches (x.name ∷ before) rest
  intent_breaches before (RefIntent at x ∷ rest) =
      owed (not (is_among x.name before)) x.at NameTwice ++ ref_intent x.at (lookup scopes x.name)
      ++ intent_breaches (x.name ∷ before) rest

  abbrev pub with_breaches : Option (WithTree Text) → List Breach
  with_breaches intents = where_given intents (λ w. intent_breaches [] (parts w.intents))

  -- what a body has in sight: its own scope is inside that of the loop's variables
  abbrev pub in_loop : LoopWord → VariablesTree Text → ItemTree Text → Scopes
  in_loop word xs item = enter (add_variables (typed_variable word xs (over_type item)) (variables_of xs) (enter scopes))

  -- the reduce variables of a forall
  abbrev pub reducing_in : Option (WithTree Text) → Reducing
  reducing_in intents = record { depth = length scopes; variables = intents_of intents }

  -- what is in sight behind a statement: a name from the end of its declaration on
  abbrev pub behind : StmtTree Text → Scopes
  behind (Declare d) = add (declared_by scopes d) scopes
  behind _ = scopes
