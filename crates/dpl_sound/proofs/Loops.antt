-- What a loop runs over has its type, and its variables in a turn have theirs: so a state that has what the scopes
-- declare has in a turn what the body's scopes declare.
use Rattle.std.proofs.Common.{◌≡◌, ℕ, ℤ, pos, Bool, true, false, List, [], ◌∷◌, length, Option, Some, None, refl, sym, ap, ◌∙◌, subst}
use Rattle.std.specs.Prelude.{◌==◌, ◌&&◌, ◌||◌, not, is_some, bytes_eq, if◌then◌else◌}
use Rattle.std.specs.Result.{IfOk}
use Rattle.std.proofs.lemmas.Bool.Decides.{Decides-eqb}
use Rattle.dpl_syntax.specs.declared.place.Place.{Place}
use Rattle.dpl_syntax.specs.declared.refusal.Code.TheVariants.{NameTwice}
use Rattle.dpl_language.specs.Tree.{Placed, LocalesWord, ItemTree, One, RangeItem, VariablesTree, OneVariable, ManyVariables, LoopWord}
use Rattle.dpl_language.specs.Values.{Value, Int, AllLocales, Index}
use Rattle.dpl_language.specs.Ranges.{loop_ranges, index_value, loop_value}
use Rattle.dpl_language.specs.Names.{Text, State, by_name}
use Rattle.dpl_language.specs.Environment.{Environment, Limits, Plain}
use Rattle.dpl_language.specs.Phrases.{parts}
use Rattle.dpl_language.specs.Expressions.{value_of, item_of}
use Rattle.dpl_language.specs.Loops.{declare_each, bound_to}
use Rattle.dpl_rules.specs.Types.{ValueType, Scalar, Range as RangeType, Domain as DomainType, Array as ArrayType, Promoted}
use Rattle.dpl_rules.specs.Types.{Tuple as TupleType, Locale as LocaleType, AllLocales as AllLocalesType, Cell as CellType, an_int}
use Rattle.dpl_rules.specs.Verdicts.{owed}
use Rattle.dpl_rules.specs.Sights.{LoopVariable, Declared, Scopes, find, declared_here, enter, add, origin_in}
use Rattle.dpl_rules.specs.Loops.{over_domains, over_locales, runs_over, turn_rank, one_type, typed_variable, each_once, add_variables, over_type, in_loop, variables_of}
use Rattle.dpl_rules.proofs.Admission.{second_empty}
use Rattle.dpl_sound.specs.Formed.{ItemFormed}
use Rattle.dpl_sound.specs.Typed.{HasType, type_at, Fits}
use Rattle.dpl_sound.specs.Stores.{ContentFits}
use Rattle.dpl_sound.specs.Runs.{Keeps}
use Rattle.dpl_sound.proofs.Given.{some-same}
use Rattle.dpl_sound.proofs.Sound.{bare-by, value_of-has, item_of-has}
use Rattle.dpl_sound.proofs.Stores.{declared-fits, enter-fits}

-- ---- what a loop runs over: the bare word `Locales` too
module _ {S : Type 0} (limits : Limits) (env : Environment Text S) (scopes : Scopes) (s : S) (fits : Fits env scopes s) where
  pub over-has : (item : ItemTree Text) (u : ValueType) → ItemFormed item → over_type scopes item ≡ Some u → IfOk (item_of limits env item None s) (λ v. HasType v (type_at u None))
  over-has (One e) u f h =
      bare-by scopes (λ e. IfOk (value_of limits env e None s) (λ v. HasType v (type_at u None))) e u h (λ own. value_of-has limits env scopes s fits e f u own None)
      (λ at all. subst (λ t. IfOk (value_of limits env (LocalesWord at) None s) (λ v. HasType v (type_at t None))) all refl)
  over-has (RangeItem low at dots high by) u f h = item_of-has limits env scopes s fits (RangeItem low at dots high by) f u h None

-- ---- a single variable
int_of_one : (t : Index) → length t ≡ 1 → HasType (index_value t) an_int
int_of_one [] h = absurd cc
int_of_one (i ∷ []) h = (i, refl)
int_of_one (i ∷ j ∷ is) h = absurd cc

tuple_of_more : (rank : ℕ) (t : Index) → length t ≡ rank → (rank ≡ 1 → ⊥) → HasType (index_value t) (TupleType rank)
tuple_of_more rank [] h more = ([], refl, h)
tuple_of_more rank (i ∷ []) h more = elim (more (sym h)) [ ]
tuple_of_more rank (i ∷ j ∷ is) h more = (i ∷ j ∷ is, refl, h)

index_by : (rank : ℕ) (t : Index) (b : Bool) → (rank == 1) ≡ b → length t ≡ rank → HasType (index_value t) (if b then an_int else TupleType rank)
index_by rank t true e h = int_of_one t (h ∙ (Decides-eqb rank 1).0 e)
index_by rank t false e h = tuple_of_more rank t h (λ one. true_false (sym ((Decides-eqb rank 1).1 one) ∙ e))
  where
    true_false : true ≡ false → ⊥
    true_false h = absurd cc

locale_of_turn : (t : Index) → HasType (loop_value AllLocales t) LocaleType
locale_of_turn [] = (_, refl)
locale_of_turn (i ∷ is) = (_, refl)

if_given : (b : Bool) (o : Option ValueType) (w : ValueType) → (if b then o else None) ≡ Some w → (b ≡ true) × (o ≡ Some w)
if_given true o w h = (refl, h)
if_given false o w h = absurd cc

runs_over_none : (a b : Bool) → (false || (a && false) || (b && false)) ≡ true → ⊥
runs_over_none true true h = absurd cc
runs_over_none true false h = absurd cc
runs_over_none false true h = absurd cc
runs_over_none false false h = absurd cc

-- a loop's value in a turn, by the type of what it runs over; the index has a coordinate for each of its ranges
abbrev pub TurnsHave : ℕ → Value → ValueType → Type 0
TurnsHave locales over w = (t : Index) → length t ≡ length (loop_ranges locales over) → HasType (loop_value over t) w

pub loop_value-has : (locales : ℕ) (word : LoopWord) (u w : ValueType) (over : Value) → HasType over (type_at u None) → (if runs_over word u then Some (one_type u) else None) ≡ Some w
    → TurnsHave locales over w
loop_value-has locales word (Scalar k) w over hv h = elim (runs_over_none (over_domains word) (over_locales word) (if_given (runs_over word (Scalar k)) (Some (one_type (Scalar k))) w h).0) [ ]
loop_value-has locales word (RangeType strided) w over hv h =
    subst (λ v. TurnsHave locales v w) (sym hv.1) (λ t n. subst (HasType (index_value t)) (some-same an_int w (if_given (runs_over word (RangeType strided)) (Some an_int) w h).1) (int_of_one t n))
loop_value-has locales word (DomainType rank strided) w over hv h =
    subst (λ v. TurnsHave locales v w) (sym hv.1)
    (λ t n. subst (HasType (index_value t)) (some-same (one_type (DomainType rank strided)) w (if_given (runs_over word (DomainType rank strided)) (Some (one_type (DomainType rank strided))) w h).1)
    (index_by rank t (rank == 1) refl (n ∙ hv.2.0)))
loop_value-has locales word (ArrayType k over) w v hv h = elim (runs_over_none (over_domains word) (over_locales word) (if_given (runs_over word (ArrayType k over)) (Some (one_type (ArrayType k over))) w h).0) [ ]
loop_value-has locales word (Promoted k over) w v hv h = elim (runs_over_none (over_domains word) (over_locales word) (if_given (runs_over word (Promoted k over)) (Some (one_type (Promoted k over))) w h).0) [ ]
loop_value-has locales word (TupleType rank) w v hv h = elim (runs_over_none (over_domains word) (over_locales word) (if_given (runs_over word (TupleType rank)) (Some (one_type (TupleType rank))) w h).0) [ ]
loop_value-has locales word LocaleType w v hv h = elim (runs_over_none (over_domains word) (over_locales word) (if_given (runs_over word LocaleType) (Some (one_type LocaleType)) w h).0) [ ]
loop_value-has locales word AllLocalesType w v hv h =
    subst (λ v. TurnsHave locales v w) (sym hv) (λ t n. subst (HasType (loop_value AllLocales t)) (some-same LocaleType w (if_given (runs_over word AllLocalesType) (Some LocaleType) w h).1) (locale_of_turn t))
loop_value-has locales word (CellType k) w v hv h = elim (runs_over_none (over_domains word) (over_locales word) (if_given (runs_over word (CellType k)) (Some (one_type (CellType k))) w h).0) [ ]

-- ---- several variables: ints
many-int : (b : Bool) (w : ValueType) → (if b then Some an_int else None) ≡ Some w → an_int ≡ w
many-int b w h = some-same an_int w (if_given b (Some an_int) w h).1

-- which names a scope has hangs on their names alone
abbrev pub SameNames : Scopes → Scopes → Type 0
SameNames ss ts = (x : Text) → declared_here ss x ≡ declared_here ts x

is_some-if : (b : Bool) (d : Declared) (o : Option Declared) → is_some (if b then Some d else o) ≡ (if b then true else is_some o)
is_some-if true d o = refl
is_some-if false d o = refl

declared_here-add : (d : Declared) (ss : Scopes) (x : Text) → declared_here (add d ss) x ≡ (if bytes_eq x d.origin.name then true else declared_here ss x)
declared_here-add d [] x = is_some-if (bytes_eq x d.origin.name) d None
declared_here-add d (s ∷ ss) x = is_some-if (bytes_eq x d.origin.name) d (find s x)

abbrev variable : Option ValueType → Scopes → Text → Declared
variable t ss x = record { origin = origin_in ss x; sort = LoopVariable; type = t }

pub same_names-add : (ss ts : Scopes) (o p : Option ValueType) (y : Text) → SameNames ss ts → SameNames (add (variable o ss y) ss) (add (variable p ts y) ts)
same_names-add ss ts o p y h x =
    declared_here-add (variable o ss y) ss x ∙ ap (λ b. if bytes_eq x y then true else b) (h x) ∙ sym (declared_here-add (variable p ts y) ts x)

-- a name for each coordinate; ss has the same names as ts, of which the rule has told that none stands twice
declare_each-keeps : (xs : List (Placed Text)) (o : Option ValueType) (i : Index) (ss ts : Scopes) (s : State) → ((n : ℤ) → ContentFits o (Plain (Int n))) → SameNames ss ts
    → each_once ts xs ≡ [] → Keeps ss s → Keeps (add_variables o xs ss) (declare_each by_name xs i s)
declare_each-keeps [] o i ss ts s fits same h kept = kept
declare_each-keeps (x ∷ xs) o [] ss ts s fits same h kept =
    let front = owed (not (declared_here ts x.name)) x.at NameTwice in
    declare_each-keeps xs o [] (add (variable o ss x.name) ss) (add (variable None ts x.name) ts) (by_name.declare x.name (Plain (Int (pos 0))) s) fits
    (same_names-add ss ts o None x.name same) (second_empty front _ h) (declared-fits ss s.store (variable o ss x.name) (Plain (Int (pos 0))) kept (fits (pos 0)))
declare_each-keeps (x ∷ xs) o (n ∷ i) ss ts s fits same h kept =
    let front = owed (not (declared_here ts x.name)) x.at NameTwice in
    declare_each-keeps xs o i (add (variable o ss x.name) ss) (add (variable None ts x.name) ts) (by_name.declare x.name (Plain (Int n)) s) fits
    (same_names-add ss ts o None x.name same) (second_empty front _ h) (declared-fits ss s.store (variable o ss x.name) (Plain (Int n)) kept (fits n))

-- ---- a turn
module _ (locales : ℕ) (scopes : Scopes) where
  many_fits : (word : LoopWord) (from : Place) (xs : _) (upto : Place) (o : Option ValueType) (n : ℤ) → ContentFits (typed_variable word (ManyVariables from xs upto) o) (Plain (Int n))
  many_fits word from xs upto None n = tt
  many_fits word from xs upto (Some u) n = by (runs_over word u) (length (parts xs) == turn_rank u)
    where
      by : (a b : Bool) → ContentFits (if a then (if b then Some an_int else None) else None) (Plain (Int n))
      by true true = ((n, refl), tt)
      by true false = tt
      by false b = tt

  one_fits : (word : LoopWord) (x : Placed Text) (o : Option ValueType) (over : Value) (t : Index) → ((u : ValueType) → o ≡ Some u → HasType over (type_at u None))
      → length t ≡ length (loop_ranges locales over) → ContentFits (typed_variable word (OneVariable x) o) (Plain (loop_value over t))
  one_fits word x None over t hv n = tt
  one_fits word x (Some u) over t hv n = by (if runs_over word u then Some (one_type u) else None) refl
    where
      by : (p : Option ValueType) → (if runs_over word u then Some (one_type u) else None) ≡ p → ContentFits p (Plain (loop_value over t))
      by None e = tt
      by (Some w) e = (loop_value-has locales word u w over (hv u refl) e t n, tt)

  -- The scope of the variables, and inside it that of the body. The index has a coordinate for each range, and no two
  -- variables have one name.
  pub bound_to-keeps : (word : LoopWord) (xs : VariablesTree Text) (item : ItemTree Text) (over : Value) (t : Index) (s : State)
      → ((u : ValueType) → over_type scopes item ≡ Some u → HasType over (type_at u None)) → length t ≡ length (loop_ranges locales over) → each_once (enter scopes) (variables_of xs) ≡ []
      → Keeps scopes s → Keeps (in_loop scopes word xs item) (by_name.enter (bound_to by_name xs over t (by_name.enter s)))
  bound_to-keeps word (OneVariable x) item over t s hv n h kept =
      let type = typed_variable word (OneVariable x) (over_type scopes item) in
      enter-fits (add (variable type (enter scopes) x.name) (enter scopes)) (bound_to by_name (OneVariable x) over t (by_name.enter s)).store
      (declared-fits (enter scopes) (by_name.enter s).store (variable type (enter scopes) x.name) (Plain (loop_value over t)) (enter-fits scopes s.store kept)
      (one_fits word x (over_type scopes item) over t hv n))
  bound_to-keeps word (ManyVariables from xs upto) item over t s hv n h kept =
      let type = typed_variable word (ManyVariables from xs upto) (over_type scopes item) in
      enter-fits (add_variables type (parts xs) (enter scopes)) (bound_to by_name (ManyVariables from xs upto) over t (by_name.enter s)).store
      (declare_each-keeps (parts xs) type t (enter scopes) (enter scopes) (by_name.enter s) (many_fits word from xs upto (over_type scopes item)) (λ x. refl) h (enter-fits scopes s.store kept))
