-- Arguments and conditions that a text spells, that need nothing which doesn't run and that break no rule: an argument is a
-- text, an int, a truth value or a whole array's name, and a condition is a truth value.
use Rattle.std.proofs.Common.{◌≡◌, true, List, [], ◌∷◌, ◌++◌, map, Option, Some, None, refl, ap, ◌∙◌, subst}
use Rattle.dpl_language.specs.Tree.{Placed, AfterComma, Listed, BoolKind, ExprTree, Number, TruthWord, Named, LocalesWord, LocaleCount, HereWord, Grouped, DomainLiteral, Prefixed, Reduced, Chain, Postfixed, One, ArgumentTree, TextArgument, ExprArgument}
use Rattle.dpl_language.specs.Names.{Text}
use Rattle.dpl_language.specs.Phrases.{bare_name}
use Rattle.dpl_language.specs.Writing.{arguments_of}
use Rattle.dpl_grammar.specs.Each.{Each, IfThere}
use Rattle.dpl_spelling.specs.Spelt.{PartSpelt, ListSpelt, ExprSpelt, ArgumentSpelt}
use Rattle.dpl_agreement.specs.Untasked.{UntaskedIf, UntaskedOthers, UntaskedList, UntaskedExpr, UntaskedArgument}
use Rattle.dpl_rules.specs.Types.{ValueType, is_bool}
use Rattle.dpl_rules.specs.Verdicts.{wanted, owed_type}
use Rattle.dpl_rules.specs.Places.{first_of}
use Rattle.dpl_rules.specs.Sights.{Scopes, Reducing}
use Rattle.dpl_rules.specs.Expressions.{type_of, expr_breaches, side_part, side_breaches}
use Rattle.dpl_rules.specs.Assignments.{is_printed, printed_breaches, condition_breaches}
use Rattle.dpl_rules.proofs.Admission.{first_empty, second_empty}
use Rattle.dpl_words.specs.Words.{IntLeaf, TruthLeaf}
use Rattle.dpl_memory.specs.Memory.{VariableKind, PlainKind}
use Rattle.dpl_typed.specs.Leaves.{value_kind, kind_by}
use Rattle.dpl_nodes.specs.Spots.{IsNear}
use Rattle.dpl_runnable.specs.Kinds.{AreVariables, IsScalarKind}
use Rattle.dpl_runnable.specs.Runnable.{IsExprOf, IsShown, IsRunnableArgument, AreRunnableArguments}
use Rattle.dpl_runnable.proofs.Kept.{kind-cases}
use Rattle.dpl_runnable.proofs.Expressions.{runnable}
use Rattle.dpl_runnable.proofs.Owed.{owed_type-holds, is_scalar-is, scalar-by, is_any_scalar-kind, array-kind}
use Rattle.dpl_runnable.proofs.Scopes.{side-item, runnable_side}
use Rattle.dpl_runnable.proofs.Changes.{untasked}

-- ---- what is printed is an int, a truth value or a whole array's name
scalar-shown : (k : VariableKind) (e : ExprTree Text) → IsScalarKind k → IsShown k e
scalar-shown (PlainKind IntLeaf) e h = tt
scalar-shown (PlainKind TruthLeaf) e h = tt
scalar-shown _ e h = absurd h

module _ (t : ValueType) (k : VariableKind) (of_kind : value_kind t ≡ Some k) where
  named-shown : (x : Placed Text) → is_printed (Some x) t ≡ true → IsShown k (Named x)
  named-shown x =
      kind-cases (λ t. value_kind t ≡ Some k → is_printed (Some x) t ≡ true → IsShown k (Named x)) (λ l e h. scalar-by (λ k. IsShown k (Named x)) tt tt l k e) (λ s e h. absurd cc)
      (λ rank s r e h. absurd cc) (λ l over r e h. subst (λ k. IsShown k (Named x)) (array-kind l over k e) (x, refl)) (λ l over r e h. absurd cc) (λ rank r e h. absurd cc) t k of_kind of_kind

  other-shown : (e : ExprTree Text) → is_printed None t ≡ true → IsShown k e
  other-shown e h = scalar-shown k e (is_any_scalar-kind t k of_kind h)

  is_printed-shown : (e : ExprTree Text) → is_printed (bare_name e) t ≡ true → IsShown k e
  is_printed-shown (Number at n) h = other-shown (Number at n) h
  is_printed-shown (TruthWord at b) h = other-shown (TruthWord at b) h
  is_printed-shown (Named x) h = named-shown x h
  is_printed-shown (LocalesWord at) h = other-shown (LocalesWord at) h
  is_printed-shown (LocaleCount at) h = other-shown (LocaleCount at) h
  is_printed-shown (HereWord at) h = other-shown (HereWord at) h
  is_printed-shown (Grouped from item upto) h = other-shown (Grouped from item upto) h
  is_printed-shown (DomainLiteral from items upto) h = other-shown (DomainLiteral from items upto) h
  is_printed-shown (Prefixed at op e) h = other-shown (Prefixed at op e) h
  is_printed-shown (Reduced at op word e) h = other-shown (Reduced at op word e) h
  is_printed-shown (Chain e rest) h = other-shown (Chain e rest) h
  is_printed-shown (Postfixed e posts) h = other-shown (Postfixed e posts) h

module _ (scopes : Scopes) (names : AreVariables scopes) (forall : Option Reducing) where
  -- ---- arguments
  argument-runnable : (a : ArgumentTree Text) (rest : List (ArgumentTree Text)) → ArgumentSpelt IsNear ⊥ a → UntaskedArgument a
      → printed_breaches (untasked scopes forall) (a ∷ rest) ≡ [] → IsRunnableArgument scopes a
  argument-runnable (TextArgument at cs) rest s c h = tt
  argument-runnable (ExprArgument e) rest s c h =
      let sight = untasked scopes forall in
      let side = side_breaches scopes (One e) in
      let printed = wanted (is_printed (bare_name e)) (side_part scopes (One e)) in
      let front = first_empty (side ++ printed) (printed_breaches sight rest) h in
      let value = runnable_side scopes IsNear names (One e) s c (first_empty side printed front) in
      let p = value.variable in
      let shown = owed_type-holds (is_printed (bare_name e)) (side_part scopes (One e)).at (side_part scopes (One e)).type p.type
      (side-item scopes IsNear names (One e) ∙ p.is) (second_empty side printed front) in
      record {
        kind = p.kind;
        expr = record { found = value.found; kind = ap kind_by p.is ∙ p.of_kind; near = s };
        shown = is_printed-shown p.type p.kind p.of_kind e shown;
      }

  argument-rest : (a : ArgumentTree Text) (rest : List (ArgumentTree Text)) → printed_breaches (untasked scopes forall) (a ∷ rest) ≡ []
      → printed_breaches (untasked scopes forall) rest ≡ []
  argument-rest (TextArgument at cs) rest h = h
  argument-rest (ExprArgument e) rest h =
      let sight = untasked scopes forall in
      second_empty (side_breaches scopes (One e) ++ wanted (is_printed (bare_name e)) (side_part scopes (One e))) (printed_breaches sight rest) h

  others-runnable : (xs : List (AfterComma (ArgumentTree Text))) → Each (PartSpelt IsNear ⊥ (ArgumentSpelt IsNear ⊥)) xs → UntaskedOthers UntaskedArgument xs
      → printed_breaches (untasked scopes forall) (map {A = AfterComma (ArgumentTree Text)} {B = ArgumentTree Text} (λ x. x.part) xs) ≡ []
      → AreRunnableArguments scopes (map {A = AfterComma (ArgumentTree Text)} {B = ArgumentTree Text} (λ x. x.part) xs)
  others-runnable [] s c h = tt
  others-runnable (x ∷ xs) s c h =
      let rest = map {A = AfterComma (ArgumentTree Text)} {B = ArgumentTree Text} (λ x. x.part) xs in (
        argument-runnable x.part rest s.0.1 c.0 h,
        others-runnable xs s.1 c.1 (argument-rest x.part rest h),
      )

  pub runnable_arguments : (xs : Option (Listed (ArgumentTree Text))) → IfThere (ListSpelt IsNear ⊥ (ArgumentSpelt IsNear ⊥)) xs → UntaskedIf (UntaskedList UntaskedArgument) xs
      → printed_breaches (untasked scopes forall) (arguments_of xs) ≡ [] → AreRunnableArguments scopes (arguments_of xs)
  runnable_arguments None s c h = tt
  runnable_arguments (Some xs) s c h =
      let rest = map {A = AfterComma (ArgumentTree Text)} {B = ArgumentTree Text} (λ x. x.part) xs.others in (
        argument-runnable xs.first rest s.0 c.0 h,
        others-runnable xs.others s.1 c.1 (argument-rest xs.first rest h),
      )

  -- ---- conditions
  pub runnable_condition : (e : ExprTree Text) → ExprSpelt IsNear ⊥ e → UntaskedExpr e → condition_breaches (untasked scopes forall) e ≡ [] → IsExprOf scopes e (PlainKind TruthLeaf)
  runnable_condition e s c h =
      let own = expr_breaches scopes e in
      let wrong = owed_type is_bool (first_of e) (type_of scopes e) in
      let value = runnable scopes IsNear names e s c (first_empty own wrong h) in
      let p = value.variable in
      let one = is_scalar-is BoolKind p.type (owed_type-holds is_bool (first_of e) (type_of scopes e) p.type p.is (second_empty own wrong h)) in
      record { found = value.found; kind = ap kind_by p.is ∙ ap value_kind one; near = s }
