-- The scope of a loop's variables: where these are of a turn's type and each is there once, what is in sight stays known.
-- Closed again, it leaves the scopes around it.
use Rattle.std.proofs.Common.{◌≡◌, true, false, not, is_some, List, [], ◌∷◌, drop, Option, Some, None, refl, sym, ap, ◌∙◌, subst}
use Rattle.dpl_syntax.specs.declared.refusal.Breach.{Breach}
use Rattle.dpl_syntax.specs.declared.refusal.Code.TheVariants.{NameTwice}
use Rattle.dpl_language.specs.Tree.{IntKind, Placed, ItemTree, VariablesTree, OneVariable, ManyVariables, LoopWord}
use Rattle.dpl_language.specs.Names.{Text}
use Rattle.dpl_rules.specs.Types.{ValueType, Scalar, Tuple, has, is_int}
use Rattle.dpl_rules.specs.Verdicts.{owed}
use Rattle.dpl_rules.specs.Breaches.{least_from}
use Rattle.dpl_rules.specs.Sights.{Declared, Scope, Scopes, find, declared_here, enter, add}
use Rattle.dpl_rules.specs.Loops.{each_once, add_variables, variables_of, in_loop}
use Rattle.dpl_rules.proofs.Admission.{first_empty, second_empty}
use Rattle.dpl_words.specs.Words.{IntLeaf}
use Rattle.dpl_memory.specs.Memory.{VariableKind, PlainKind, TupleKind}
use Rattle.dpl_typed.specs.Leaves.{kind_if, kind_by}
use Rattle.dpl_bound.specs.Sights.{is_promoted_by, AreKnownScopes}
use Rattle.dpl_bound.specs.Bounds.{loop_variable, loop_type}
use Rattle.dpl_heads.specs.Made.{is_one_turn, is_turn}
use Rattle.dpl_types.proofs.Unbroken.{unbroken, owed-holds}
use Rattle.dpl_heads.proofs.Once.{each_once_typed}

-- ---- the type of a turn's variables has a kind, and is none of promoted expressions
record IsVariable (t : Option ValueType) : Type 0 where
  pub kind : VariableKind
  pub of_kind : kind_by t ≡ Some kind
  pub single : is_promoted_by t ≡ false

one-variable : (t : Option ValueType) → has is_one_turn t ≡ true → IsVariable t
one-variable (Some (Scalar IntKind)) h = record { kind = PlainKind IntLeaf; of_kind = refl; single = refl }
one-variable (Some (Tuple rank)) h = record { kind = TupleKind; of_kind = ap (λ b. kind_if b TupleKind) h; single = refl }
one-variable _ h = absurd (let f : false ≡ true = h in cc)

int-turn : (t : Option ValueType) → has is_int t ≡ true → has is_one_turn t ≡ true
int-turn (Some (Tuple rank)) h = absurd (let f : false ≡ true = h in cc)
int-turn _ h = h

turn-variable : (xs : VariablesTree Text) (t : Option ValueType) → has (is_turn xs) t ≡ true → IsVariable t
turn-variable (OneVariable x) t h = one-variable t h
turn-variable (ManyVariables from xs upto) t h = one-variable t (int-turn t h)

-- ---- each is new in its scope
undeclared : (o : Option Declared) → not (is_some o) ≡ true → o ≡ None
undeclared None h = refl
undeclared (Some d) h = absurd (let f : false ≡ true = h in cc)

variables-known : (t : Option ValueType) → IsVariable t → (xs : List (Placed Text)) (s : Scope) (ss : Scopes) → AreKnownScopes (s ∷ ss) → each_once (s ∷ ss) xs ≡ [] → AreKnownScopes (add_variables t xs (s ∷ ss))
variables-known t v [] s ss known h = known
variables-known t v (x ∷ xs) s ss known h =
    let d = loop_variable t (s ∷ ss) x.name in
    let twice = owed (not (declared_here (s ∷ ss) x.name)) x.at NameTwice in
    let rest = each_once (add (loop_variable None (s ∷ ss) x.name) (s ∷ ss)) xs in
    let new = undeclared (find s x.name) (owed-holds (not (declared_here (s ∷ ss) x.name)) x.at NameTwice (first_empty twice rest h)) in
    variables-known t v xs (d ∷ s) ss (((v.kind, v.of_kind, refl, v.single), new, known.0), known.1) (each_once_typed t x (s ∷ ss) xs ∙ second_empty twice rest h)

-- ---- a loop's scope
pub entered-known : (xs : VariablesTree Text) (t : Option ValueType) (ss us vs : Scopes) (o p : Option Breach) → us ≡ enter ss → vs ≡ add_variables t (variables_of xs) us
    → p ≡ least_from o (each_once us (variables_of xs)) → p ≡ None → has (is_turn xs) t ≡ true → AreKnownScopes ss → AreKnownScopes vs
entered-known xs t ss us vs o p opened declared told none turns known =
    let whole = unbroken o (each_once us (variables_of xs)) (sym told ∙ none) in
    let once : each_once (enter ss) (variables_of xs) ≡ [] = ap (λ rs. each_once rs (variables_of xs)) (sym opened) ∙ whole.1 in
    subst AreKnownScopes (sym (declared ∙ ap (add_variables t (variables_of xs)) opened)) (variables-known t (turn-variable xs t turns) (variables_of xs) [] ss (tt, known) once)

-- inside it stands that of the body
pub inside-loop : (word : LoopWord) (xs : VariablesTree Text) (item : ItemTree Text) (t : Option ValueType) (ss us : Scopes) → t ≡ loop_type ss word xs item
    → us ≡ add_variables t (variables_of xs) (enter ss) → enter us ≡ in_loop ss word xs item
inside-loop word xs item t ss us typed opened = ap enter (opened ∙ ap (λ (t : Option ValueType). add_variables t (variables_of xs) (enter ss)) typed)

pub left-again : (t : Option ValueType) (xs : List (Placed Text)) (s : Scope) (ss : Scopes) → drop 1 (add_variables t xs (s ∷ ss)) ≡ ss
left-again t [] s ss = refl
left-again t (x ∷ xs) s ss = left-again t xs (loop_variable t (s ∷ ss) x.name ∷ s) ss
