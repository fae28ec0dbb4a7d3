-- The heads of loops: a head that breaks no rule, and whose parts are plain, runs over a range or a domain, and its variables have
-- the type of a turn's.
use Rattle.std.proofs.Common.{◌≡◌, ◌≢◌, ℕ, suc, ◌==◌, ne_eqb, Bool, true, false, List, [], ◌∷◌, length, map, Option, Some, None, refl, sym, ap, ◌∙◌, subst, arith}
use Rattle.std.specs.Prelude.{nat_lt, ◌&&◌, ◌||◌, if◌then◌else◌}
use Rattle.std.proofs.lemmas.Bool.Decides.{nat_tests}
use Rattle.dpl_syntax.specs.declared.refusal.Breach.{Breach}
use Rattle.dpl_syntax.specs.declared.refusal.Code.TheVariants.{WrongType, WrongRank}
use Rattle.dpl_language.specs.Tree.{Placed, AfterComma, ExprTree, LocalesWord, ItemTree, One, RangeItem, VariablesTree, OneVariable, ManyVariables, LoopWord}
use Rattle.dpl_language.specs.Names.{Text}
use Rattle.dpl_tree.specs.declared.statement.NextName.{NextName}
use Rattle.dpl_rules.specs.Types.{ValueType, Range, Domain, Tuple, AllLocales, an_int, has, is_int, is_range, is_domain}
use Rattle.dpl_rules.specs.Verdicts.{owed, breach}
use Rattle.dpl_rules.specs.Places.{first_of_item, first_of_variables}
use Rattle.dpl_rules.specs.Breaches.{least_from}
use Rattle.dpl_rules.specs.Sights.{Scopes}
use Rattle.dpl_rules.specs.Expressions.{bare_locales, locales_or, none_where, type_of, expr_breaches, item_type, item_breaches}
use Rattle.dpl_rules.specs.Loops.{over_domains, over_locales, runs_over, fits_variables, variable_type, typed_variable, header_of, over_type, over_breaches}
use Rattle.dpl_sound.proofs.Given.{both_so}
use Rattle.dpl_sound.proofs.Known.{item_type-known}
use Rattle.dpl_lowered.specs.LoweredExpressions.{Once}
use Rattle.dpl_memory.specs.Memory.{Variable}
use Rattle.dpl_typed.specs.declared.typed.Typed.{Typed}
use Rattle.dpl_typed.specs.Leaves.{IsFound}
use Rattle.dpl_typed.specs.Typed.{type_of_typed, types_of, typed_item, is_rank, is_tuple_rank, has_node}
use Rattle.dpl_typed.specs.Lowered.{item_leaves}
use Rattle.dpl_typed.specs.Simple.{IsSimple, IsSimpleItem}
use Rattle.dpl_typed.specs.Stands.{StandsForItem}
use Rattle.dpl_typed.specs.Told.{Tells}
use Rattle.dpl_typed.specs.Where.{WhereSimpleItem}
use Rattle.dpl_heads.specs.declared.head.Iterable.{Iterable}
use Rattle.dpl_heads.specs.declared.head.Iterable.TheVariants as iterable
use Rattle.dpl_heads.specs.Plain.{HasSeveral, IsPlainHead}
use Rattle.dpl_heads.specs.Made.{IsIterated, is_one_turn, is_turn, IsOneInt, IsRun}
use Rattle.dpl_heads.specs.Listed.{names_in}
use Rattle.dpl_types.proofs.Unbroken.{unbroken, owed-holds}
use Rattle.dpl_heads.proofs.Known.{known-types, some-found}

pub length_names : (xs : List NextName) → length (names_in xs) ≡ length xs
length_names [] = refl
length_names (x ∷ xs) = ap suc (length_names xs)

-- ---- what is written: no simple item is the word `Locales`
not_bare : (ss : Scopes) (e : ExprTree Text) → IsSimple (IsFound ss) e → bare_locales e ≡ None
not_bare ss (LocalesWord at) h = absurd h
not_bare ss _ h = refl

over-type : (ss : Scopes) (item : ItemTree Text) → IsSimpleItem (IsFound ss) item → over_type ss item ≡ item_type ss item
over-type ss (One e) h = ap (λ o. locales_or o (type_of ss e)) (not_bare ss e h)
over-type ss (RangeItem low at dots high by) h = refl

over-breaches : (ss : Scopes) (item : ItemTree Text) → IsSimpleItem (IsFound ss) item → over_breaches ss item ≡ item_breaches ss item
over-breaches ss (One e) h = ap (λ o. none_where o (expr_breaches ss e)) (not_bare ss e h)
over-breaches ss (RangeItem low at dots high by) h = refl

-- ---- what breaks no rule of a header is run over, by variables that fit it
record IsTurned (word : LoopWord) (xs : VariablesTree Text) (t : ValueType) : Type 0 where
  pub runs : runs_over word t ≡ true
  pub fits : fits_variables xs t ≡ true

header-turned : (word : LoopWord) (xs : VariablesTree Text) (item : ItemTree Text) (t : ValueType) → header_of word xs item (Some t) ≡ [] → IsTurned word xs t
header-turned word xs item t h = by (runs_over word t) refl h
  where
    by : (b : Bool) → runs_over word t ≡ b → (if b then owed (fits_variables xs t) (first_of_variables xs) WrongRank else breach (first_of_item item) WrongType) ≡ [] → IsTurned word xs t
    by true e h = record { runs = e; fits = owed-holds (fits_variables xs t) (first_of_variables xs) WrongRank h }
    by false e h = absurd cc

-- no loop runs over what is no range, no domain and not all locales
neither : (a b : Bool) → ((a && false) || (b && false)) ≡ true → ⊥
neither true true h = absurd cc
neither true false h = absurd cc
neither false true h = absurd cc
neither false false h = absurd cc

runs-nothing : (word : LoopWord) (t : ValueType) → is_range t ≡ false → is_domain t ≡ false → has_node t ≡ true → runs_over word t ≡ true → ⊥
runs-nothing word (Range strided) r d n h = absurd cc
runs-nothing word (Domain rank strided) r d n h = absurd cc
runs-nothing word AllLocales r d n h = absurd (let f : false ≡ true = n in cc)
runs-nothing word _ r d n h = neither (over_domains word) (over_locales word) h

-- ---- over a range there is one variable, an int
two_or_more : (n : ℕ) → (suc (suc n) == 1) ≡ false
two_or_more n = ne_eqb (suc (suc n)) 1 (λ e. omega (arith, e))

not_one : (first : Placed Text) (others : List (AfterComma (Placed Text))) → others ≢ [] → (length (first ∷ map {A = AfterComma (Placed Text)} {B = Placed Text} (λ x. x.part) others) == 1) ≡ true → ⊥
not_one first [] several h = several refl
not_one first (y ∷ ys) several h =
    let no = two_or_more (length (map {A = AfterComma (Placed Text)} {B = Placed Text} (λ x. x.part) ys)) in
    absurd cc

one-int : (xs : VariablesTree Text) (strided : Bool) → HasSeveral xs → fits_variables xs (Range strided) ≡ true → IsOneInt xs (variable_type xs (Range strided))
one-int (OneVariable x) strided several h = refl
one-int (ManyVariables from xs upto) strided several h = not_one xs.first xs.others several h

range-run : (word : LoopWord) (xs : VariablesTree Text) (t : ValueType) → is_range t ≡ true → HasSeveral xs → fits_variables xs t ≡ true → IsOneInt xs (typed_variable word xs (Some t))
range-run word xs (Range strided) r several h = one-int xs strided several h
range-run word xs _ r several h = absurd (let f : false ≡ true = r in cc)

one_int-turn : (xs : VariablesTree Text) (t : Option ValueType) → IsOneInt xs t → has (is_turn xs) t ≡ true
one_int-turn (OneVariable x) t h = ap (has is_one_turn) h
one_int-turn (ManyVariables from xs upto) t h = absurd h

-- ---- over a domain there are ints, as many as its rank, or one tuple
two_or_three : (rank : ℕ) → is_rank rank ≡ true → (rank == 1) ≡ false → is_tuple_rank rank ≡ true
two_or_three rank r e =
    let both = both_so (nat_lt 0 rank) (nat_lt rank 4) r in
    let some = both.0 in
    let two : nat_lt 1 rank ≡ true = grind (arith, nat_tests, some, e) in
    ap (λ b. b && nat_lt rank 4) two ∙ both.1

one-turn : (rank : ℕ) → is_rank rank ≡ true → (b : Bool) → (rank == 1) ≡ b → is_one_turn (if b then an_int else Tuple rank) ≡ true
one-turn rank r true e = refl
one-turn rank r false e = two_or_three rank r e

turned : (xs : VariablesTree Text) (rank : ℕ) (strided : Bool) → is_rank rank ≡ true → fits_variables xs (Domain rank strided) ≡ true → has (is_turn xs) (variable_type xs (Domain rank strided)) ≡ true
turned (OneVariable x) rank strided r h = one-turn rank r (rank == 1) refl
turned (ManyVariables from xs upto) rank strided r h = ap (λ (b : Bool). has is_int (if b then Some an_int else None)) h

domain-run : (word : LoopWord) (xs : VariablesTree Text) (t : ValueType) → is_domain t ≡ true → has_node t ≡ true → IsTurned word xs t → has (is_turn xs) (typed_variable word xs (Some t)) ≡ true
domain-run word xs (Domain rank strided) d n h =
    ap (λ (b : Bool). has (is_turn xs) (if b then variable_type xs (Domain rank strided) else None)) h.runs ∙ turned xs rank strided n h.fits
domain-run word xs _ d n h = absurd (let f : false ≡ true = d in cc)

-- ---- a head
value-run : (word : LoopWord) (xs : VariablesTree Text) (item : ItemTree Variable) (v : Typed) (o : Iterable) → HasSeveral xs → IsTurned word xs (type_of_typed v) → has_node (type_of_typed v) ≡ true
    → typed_item Once v ≡ item → IsIterated (Some v) o → IsRun xs item (typed_variable word xs (Some (type_of_typed v))) o
value-run word xs item v (iterable.Range r) several turns node is h =
    let one = range-run word xs (type_of_typed v) h.0 several turns.fits in
    record { turn = one_int-turn xs (typed_variable word xs (Some (type_of_typed v))) one; over = h.1 ∙ is; fits = one }
value-run word xs item v (iterable.Domain d) several turns node is h = record { turn = domain-run word xs (type_of_typed v) h.0 node turns; over = h.1 ∙ is; fits = tt }
value-run word xs item v iterable.Nothing several turns node is h = absurd (runs-nothing word (type_of_typed v) h.0 h.1 node turns.runs)

pub head-made : (ss : Scopes) (word : LoopWord) (xs : VariablesTree Text) (item : ItemTree Text) (found : Option Typed) (over t : Option ValueType) (o : Iterable) (p q r : Option Breach)
    → Tells (over_type ss item) (over_breaches ss item) found p q → over ≡ types_of found → r ≡ least_from q (header_of word xs item over) → t ≡ typed_variable word xs over
    → IsIterated found o → WhereSimpleItem ss item (StandsForItem found (λ m. item_leaves ss m item)) → r ≡ None → IsPlainHead ss xs item → IsRun xs (item_leaves ss Once item) t o
head-made ss word xs item found over t o p q r (typed, told) same header variables is node none plain =
    let own = unbroken q (header_of word xs item over) (sym header ∙ none) in
    let whole = unbroken p (over_breaches ss item) (sym told ∙ own.0) in
    let type = item_type-known ss (known-types ss plain.known) item (sym (over-breaches ss item plain.simple) ∙ whole.1) in
    let there = some-found found type.0 (typed ∙ over-type ss item plain.simple ∙ type.1) in
    let as_found : over ≡ Some (type_of_typed there.0) = same ∙ ap types_of there.1 in
    let turns = header-turned word xs item (type_of_typed there.0) (subst (λ (u : Option ValueType). header_of word xs item u ≡ []) as_found own.1) in
    let stands = subst (λ (f : Option Typed). StandsForItem f (λ m. item_leaves ss m item)) there.1 (node plain.simple plain.near) in
    let iterates = subst (λ (f : Option Typed). IsIterated f o) there.1 is in
    subst (λ (u : Option ValueType). IsRun xs (item_leaves ss Once item) u o) (sym (variables ∙ ap (typed_variable word xs) as_found))
    (value-run word xs (item_leaves ss Once item) there.0 o plain.several turns stands.1 (stands.0 Once) iterates)
