-- Behind a declaration that needs nothing which doesn't run and that breaks no rule each name in sight has a type of some kind
-- again; and so has each in a loop's body.
use Rattle.std.proofs.Common.{◌≡◌, ℕ, ◌==◌, Bool, true, false, List, [], ◌∷◌, ◌++◌, Option, Some, None, refl, sym, ap, ◌∙◌, subst, arith}
use Rattle.std.specs.Prelude.{nat_lt, nat_le, ◌&&◌, ◌||◌, bytes_eq, if◌then◌else◌}
use Rattle.std.specs.Option.{option_or}
use Rattle.std.proofs.lemmas.Option.{none-some}
use Rattle.std.proofs.lemmas.Bool.Decides.{nat_tests}
use Rattle.dpl_syntax.specs.declared.place.Place.{Place}
use Rattle.dpl_syntax.specs.declared.refusal.Breach.{Breach}
use Rattle.dpl_language.specs.Tree.{Placed, Kind, IntKind, BoolKind, ItemTree, One, RangeItem, VariablesTree, OneVariable, ManyVariables, MappedTree, DomainTypeTree, TypeTree, ScalarType, SyncType, DomainType, ArrayType, InitTree, ItemInit, CreateInit, TypedTree, InitialTree, DeclareTree, Declare, LoopWord, ForWord, ForallWord, CoforallWord}
use Rattle.dpl_language.specs.Names.{Text}
use Rattle.dpl_language.specs.Phrases.{ReadTree, item_read}
use Rattle.dpl_language.specs.Declarations.{type_of as written_type}
use Rattle.dpl_language.specs.Spelled.{SaysType}
use Rattle.dpl_grammar.specs.Each.{IfThere}
use Rattle.dpl_spelling.specs.Spelt.{ItemSpelt, TypeSpelt, InitSpelt, TypedSpelt, InitialSpelt, DeclareSpelt}
use Rattle.dpl_agreement.specs.Untasked.{UntaskedIf, UntaskedItem, UntaskedType, UntaskedTyped, UntaskedInit, UntaskedInitial, UntaskedDeclare}
use Rattle.dpl_syntax.specs.declared.refusal.Code.TheVariants.{WrongType, WrongRank}
use Rattle.dpl_rules.specs.Types.{Origin, ValueType, Scalar, Domain, Promoted, Tuple, is_domain, an_int, cell_of}
use Rattle.dpl_rules.specs.Verdicts.{owed, owed_type, breach}
use Rattle.dpl_rules.specs.Places.{first_of_item, first_of_variables}
use Rattle.dpl_rules.specs.Sights.{Declared, LoopVariable, Scopes, find, lookup, type_declared, origin_in, add, enter}
use Rattle.dpl_rules.specs.Expressions.{locales_or, none_where, item_type, item_breaches, cell_declared, read_or_type, kind_read, side_part, side_breaches}
use Rattle.dpl_rules.specs.Maps.{mapped_breaches}
use Rattle.dpl_rules.specs.Declarations.{type_rank, is_kept, is_untyped, unless_refused, declared_type, type_breaches, init_part, untyped_breaches, typed_initial, config_breaches, written_breaches, type_given, declaration_breaches, declared_by}
use Rattle.dpl_rules.specs.Loops.{over_domains, over_locales, runs_over, one_type, fits_variables, variable_type, typed_variable, header_of, over_type, over_breaches, variables_of, add_variables, header_breaches, in_loop, behind, each_once}
use Rattle.dpl_rules.specs.Breaches.{top}
use Rattle.dpl_rules.proofs.Admission.{first_empty, second_empty}
use Rattle.dpl_sound.proofs.Given.{some-same, both_so}
use Rattle.dpl_words.specs.Words.{IntLeaf, TruthLeaf}
use Rattle.dpl_memory.specs.Memory.{VariableKind, PlainKind, DomainKind, TupleKind}
use Rattle.dpl_typed.specs.Leaves.{kind_if, value_kind}
use Rattle.dpl_typed.specs.Typed.{is_rank, is_tuple_rank}
use Rattle.dpl_bound.specs.Sights.{is_promoted_type}
use Rattle.dpl_runnable.specs.Kinds.{IsVariable, IsNamed, AreVariables}
use Rattle.dpl_runnable.proofs.Arrays.{created-named, array_type-named}
use Rattle.dpl_runnable.proofs.Owed.{owed-holds, owed_type-holds}
use Rattle.dpl_runnable.proofs.Kept.{kind-cases}
use Rattle.dpl_runnable.proofs.Expressions.{not_bare, RunnableItem, runnable_item}

-- ---- scopes
pub top-variables : AreVariables top
top-variables x d h = absurd (none-some d h)

pub enter-variables : (scopes : Scopes) → AreVariables scopes → AreVariables (enter scopes)
enter-variables scopes names x d h = names x d h

found-variable : (b : Bool) (d : Declared) (o p : Option Declared) → IsNamed d.type → ((c : Declared) → option_or o p ≡ Some c → IsNamed c.type)
    → (c : Declared) → option_or (if b then Some d else o) p ≡ Some c → IsNamed c.type
found-variable true d o p variable others c h = subst (λ (c : Declared). IsNamed c.type) (some-same d c h) variable
found-variable false d o p variable others c h = others c h

pub add-variables : (scopes : Scopes) (d : Declared) → AreVariables scopes → IsNamed d.type → AreVariables (add d scopes)
add-variables [] d names variable x c h = found-variable (bytes_eq x d.origin.name) d None None variable (λ c e. names x c e) c h
add-variables (s ∷ ss) d names variable x c h = found-variable (bytes_eq x d.origin.name) d (find s x) (lookup ss x) variable (names x) c h

-- ---- types
scalar-variable : (k : Kind) → IsNamed (Some (Scalar k))
scalar-variable IntKind = record { kind = PlainKind IntLeaf; type = _; is = refl; of_kind = refl; single = refl }
scalar-variable BoolKind = record { kind = PlainKind TruthLeaf; type = _; is = refl; of_kind = refl; single = refl }

domain-variable : (rank : ℕ) (strided : Bool) → is_rank rank ≡ true → IsNamed (Some (Domain rank strided))
domain-variable rank strided r = record { kind = DomainKind; type = _; is = refl; of_kind = ap (λ b. kind_if b DomainKind) r; single = refl }

-- a name without a type is given nothing promoted
is_kept-single : (t : ValueType) → is_kept t ≡ true → is_promoted_type t ≡ false
is_kept-single (Promoted k over) h = absurd cc
is_kept-single _ h = refl

-- what is mapped is a domain, which may be kept too
pub is_domain-kept : (t : ValueType) → is_domain t ≡ true → is_kept t ≡ true
is_domain-kept (Domain rank strided) h = refl
is_domain-kept _ h = absurd cc

pub is_untyped-kept : (mapped : Option (MappedTree Text)) (t : ValueType) → is_untyped mapped t ≡ true → is_kept t ≡ true
is_untyped-kept None t h = h
is_untyped-kept (Some m) t h = is_domain-kept t h

-- the ranks that a domain's type may have
pub one_to_three : (rank : ℕ) → (nat_le 1 rank && nat_le rank 3) ≡ true → is_rank rank ≡ true
one_to_three rank e =
    let both = both_so (nat_le 1 rank) (nat_le rank 3) e in
    let from = both.0 in
    let upto = both.1 in
    let some : nat_lt 0 rank ≡ true = grind (arith, nat_tests, from) in
    let few : nat_lt rank 4 ≡ true = grind (arith, nat_tests, upto) in
    ap (λ b. b && nat_lt rank 4) some ∙ few

-- ---- what loops run over
-- what breaks no rule of a header is run over, by variables that fit it
pub record IsTurned (word : LoopWord) (xs : VariablesTree Text) (t : ValueType) : Type 0 where
  pub runs : runs_over word t ≡ true
  pub fits : fits_variables xs t ≡ true

pub header-turned : (word : LoopWord) (xs : VariablesTree Text) (item : ItemTree Text) (t : ValueType) → header_of word xs item (Some t) ≡ [] → IsTurned word xs t
header-turned word xs item t h = by (runs_over word t) refl h
  where
    by : (b : Bool) → runs_over word t ≡ b → (if b then owed (fits_variables xs t) (first_of_variables xs) WrongRank else breach (first_of_item item) WrongType) ≡ [] → IsTurned word xs t
    by true e h = record { runs = e; fits = owed-holds (fits_variables xs t) (first_of_variables xs) WrongRank h }
    by false e h = absurd cc

-- no loop runs over what is no range, no domain and not all locales
pub runs_over-nothing : (word : LoopWord) → ((over_domains word && false) || (over_locales word && false)) ≡ true → ⊥
runs_over-nothing ForWord h = absurd cc
runs_over-nothing ForallWord h = absurd cc
runs_over-nothing CoforallWord h = absurd cc

-- ---- a loop's variables: ints, but for the one variable over a domain of more dimensions, which is a tuple
pub two_or_three : (rank : ℕ) → is_rank rank ≡ true → (rank == 1) ≡ false → is_tuple_rank rank ≡ true
two_or_three rank r e =
    let both = both_so (nat_lt 0 rank) (nat_lt rank 4) r in
    let some = both.0 in
    let two : nat_lt 1 rank ≡ true = grind (arith, nat_tests, some, e) in
    ap (λ b. b && nat_lt rank 4) two ∙ both.1

tuple-variable : (rank : ℕ) → is_rank rank ≡ true → (b : Bool) → (rank == 1) ≡ b → IsNamed (Some (if b then an_int else Tuple rank))
tuple-variable rank r true e = scalar-variable IntKind
tuple-variable rank r false e = record { kind = TupleKind; type = _; is = refl; of_kind = ap (λ b. kind_if b TupleKind) (two_or_three rank r e); single = refl }

one_type-variable : (word : LoopWord) (t : ValueType) (k : VariableKind) → value_kind t ≡ Some k → runs_over word t ≡ true → IsNamed (Some (one_type t))
one_type-variable word =
    kind-cases (λ t. runs_over word t ≡ true → IsNamed (Some (one_type t))) (λ l h. absurd (runs_over-nothing word h)) (λ s h. scalar-variable IntKind)
    (λ rank s r h. tuple-variable rank r (rank == 1) refl) (λ l over r h. absurd (runs_over-nothing word h)) (λ l over r h. absurd (runs_over-nothing word h))
    (λ rank r h. absurd (runs_over-nothing word h))

variable_type-variable : (word : LoopWord) (xs : VariablesTree Text) (t : ValueType) (k : VariableKind) → value_kind t ≡ Some k → IsTurned word xs t → IsNamed (variable_type xs t)
variable_type-variable word (OneVariable x) t k e h = one_type-variable word t k e h.runs
variable_type-variable word (ManyVariables from xs upto) t k e h = subst (λ b. IsNamed (if b then Some an_int else None)) (sym h.fits) (scalar-variable IntKind)

typed_variable-variable : (word : LoopWord) (xs : VariablesTree Text) (item : ItemTree Text) (o : Option ValueType) → IsVariable o → header_of word xs item o ≡ [] → IsNamed (typed_variable word xs o)
typed_variable-variable word xs item o p h =
    let told = header-turned word xs item p.type (subst (λ o. header_of word xs item o ≡ []) p.is h) in
    subst (λ o. IsNamed (typed_variable word xs o)) (sym p.is)
    (subst (λ b. IsNamed (if b then variable_type xs p.type else None)) (sym told.runs) (variable_type-variable word xs p.type p.kind p.of_kind told))

add_variables-variables : (o : Option ValueType) → IsNamed o → (xs : List (Placed Text)) (scopes : Scopes) → AreVariables scopes → AreVariables (add_variables o xs scopes)
add_variables-variables o p [] scopes names = names
add_variables-variables o p (x ∷ xs) scopes names =
    let d : Declared = record { origin = origin_in scopes x.name; sort = LoopVariable; type = o } in
    add_variables-variables o p xs (add d scopes) (add-variables scopes d names p)

module _ (scopes : Scopes) (P : Place → Type 0) (names : AreVariables scopes) where
  -- ---- right sides: no name is a cell's, so that none is read as one
  no_cell : (o : Option Declared) → ((d : Declared) → o ≡ Some d → IsNamed d.type) → cell_declared (type_declared o) ≡ None
  no_cell None h = refl
  no_cell (Some d) h =
      let p = h d refl in
      ap cell_declared p.is ∙ kind-cases (λ t. cell_of t ≡ None) (λ l. refl) (λ s. refl) (λ rank s r. refl) (λ l over r. refl) (λ l over r. refl) (λ rank r. refl) p.type p.kind p.of_kind

  unread : (o : Option (ReadTree Text)) → kind_read scopes o ≡ None
  unread None = refl
  unread (Some r) = no_cell (lookup scopes r.name.name) (names r.name.name)

  pub side-item : (item : ItemTree Text) → (side_part scopes item).type ≡ item_type scopes item
  side-item item = ap (λ o. read_or_type o (item_type scopes item)) (unread (item_read item))

  pub runnable_side : (item : ItemTree Text) → ItemSpelt P ⊥ item → UntaskedItem item → side_breaches scopes item ≡ [] → RunnableItem scopes P names item
  runnable_side item s c h = runnable_item scopes P names item s c (subst (λ o. none_where o (item_breaches scopes item) ≡ []) (unread (item_read item)) h)

  side-variable : (item : ItemTree Text) → ItemSpelt P ⊥ item → UntaskedItem item → side_breaches scopes item ≡ [] → IsVariable (side_part scopes item).type
  side-variable item s c h = subst IsVariable (sym (side-item item)) (runnable_side item s c h).variable

  -- ---- declarations
  init-variable : (init : InitTree Text) → InitSpelt P ⊥ init → UntaskedInit init → untyped_breaches scopes init ≡ [] → IsNamed (init_part scopes init).type
  init-variable (ItemInit item mapped) s c h =
      let side = side_breaches scopes item in
      let kept = owed_type (is_untyped mapped) (first_of_item item) (side_part scopes item).type in
      let front = first_empty (side ++ kept) (mapped_breaches scopes (type_rank (side_part scopes item).type) mapped) h in
      let p = side-variable item s.0 c.0 (first_empty side kept front) in
      let told = owed_type-holds (is_untyped mapped) (first_of_item item) (side_part scopes item).type p.type p.is (second_empty side kept front) in
      record { kind = p.kind; type = p.type; is = p.is; of_kind = p.of_kind; single = is_kept-single p.type (is_untyped-kept mapped p.type told) }
  init-variable (CreateInit m) s c h = created-named scopes P names m.from m.items s.4 c h

  -- a domain's type has a rank
  pub domain_type-rank : (d : DomainTypeTree Text) → type_breaches scopes (DomainType d) ≡ [] → (nat_le 1 d.rank && nat_le d.rank 3) ≡ true
  domain_type-rank d h =
      let ranked = nat_le 1 d.rank && nat_le d.rank 3 in
      owed-holds ranked d.rank_at WrongRank (first_empty (owed ranked d.rank_at WrongRank) (mapped_breaches scopes (Some d.rank) d.mapped) h)

  type-variable : (self : Origin) (t : TypeTree Text) → TypeSpelt P ⊥ t → UntaskedType t → type_breaches scopes t ≡ [] → IsNamed (declared_type scopes self t)
  type-variable self (ScalarType at k) s c h = scalar-variable k
  type-variable self (SyncType at kind_at k) s c h = absurd c
  type-variable self (DomainType d) s c h = domain-variable d.rank false (one_to_three d.rank (domain_type-rank d h))
  type-variable self (ArrayType a) s c h = array_type-named scopes P names self a s.1 c h

  given-variable : (self : Origin) (w : Option (TypedTree Text)) (i : Option (InitialTree Text)) → SaysType w i → IfThere (TypedSpelt P ⊥) w → IfThere (InitialSpelt P ⊥) i
      → UntaskedIf UntaskedTyped w → UntaskedIf UntaskedInitial i → written_breaches scopes self (written_type w) i ≡ [] → IsNamed (type_given scopes self (written_type w) i)
  given-variable self None None says r s v c h = elim says [ ]
  given-variable self None (Some i) says r s v c h = init-variable i.init s.1 c h
  given-variable self (Some t) i says r s v c h = type-variable self t.type r.1 v (first_empty (type_breaches scopes t.type) (typed_initial scopes (declared_type scopes self t.type) i) h)

  unrefused-variable : (bs : List Breach) (o : Option ValueType) → bs ≡ [] → IsNamed o → IsNamed (unless_refused bs o)
  unrefused-variable [] o h p = p
  unrefused-variable (b ∷ bs) o h p = absurd cc

  -- what is declared has a type of such a kind
  pub declared_by-variable : (d : DeclareTree Text) → DeclareSpelt P ⊥ d → UntaskedDeclare d → declaration_breaches scopes d ≡ [] → IsNamed (declared_by scopes d).type
  declared_by-variable d s c h =
      let self = origin_in scopes d.name.name in
      let written = written_breaches scopes self (written_type d.typed) d.initial in
      unrefused-variable (declaration_breaches scopes d) (type_given scopes self (written_type d.typed) d.initial) h
      (given-variable self d.typed d.initial s.0 s.4 s.5 c.0 c.1 (second_empty _ written (first_empty _ (config_breaches scopes d.config d) h)))

  pub declaration-variables : (d : DeclareTree Text) → DeclareSpelt P ⊥ d → UntaskedDeclare d → declaration_breaches scopes d ≡ [] → AreVariables (behind scopes (Declare d))
  declaration-variables d s c h = add-variables scopes (declared_by scopes d) names (declared_by-variable d s c h)

  -- ---- loops
  -- what a loop runs over is no bare word
  pub over-type : (item : ItemTree Text) → UntaskedItem item → over_type scopes item ≡ item_type scopes item
  over-type (One e) c = ap (λ o. locales_or o (item_type scopes (One e))) (not_bare e c)
  over-type (RangeItem low at dots high by) c = refl

  over-told : (item : ItemTree Text) → UntaskedItem item → over_breaches scopes item ≡ item_breaches scopes item
  over-told (One e) c = ap (λ o. none_where o (item_breaches scopes (One e))) (not_bare e c)
  over-told (RangeItem low at dots high by) c = refl

  pub runnable_over : (item : ItemTree Text) → ItemSpelt P ⊥ item → UntaskedItem item → over_breaches scopes item ≡ [] → RunnableItem scopes P names item
  runnable_over item s c h = runnable_item scopes P names item s c (sym (over-told item c) ∙ h)

  -- in a loop's body each variable of the loop is an int or a tuple
  pub in_loop-variables : (word : LoopWord) (xs : VariablesTree Text) (item : ItemTree Text) → ItemSpelt P ⊥ item → UntaskedItem item → header_breaches scopes word xs item ≡ []
      → AreVariables (in_loop scopes word xs item)
  in_loop-variables word xs item s c h =
      let over = over_breaches scopes item in
      let head = header_of word xs item (over_type scopes item) in
      let front = first_empty (over ++ head) (each_once (enter scopes) (variables_of xs)) h in
      let type = typed_variable word xs (over_type scopes item) in
      let variable = subst IsVariable (sym (over-type item c)) (runnable_over item s c (first_empty over head front)).variable in
      enter-variables (add_variables type (variables_of xs) (enter scopes))
      (add_variables-variables type (typed_variable-variable word xs item (over_type scopes item) variable (second_empty over head front)) (variables_of xs) (enter scopes) (enter-variables scopes names))
