-- Prints, argument by argument: what they owe is the same whatever forall is around, and what is shown stands for all of them.
-- Arguments so far, with what is made of those that are left, are all arguments.
use Rattle.std.proofs.Common.{◌≡◌, ◌<◌, ℕ, ◌+◌, Bool, true, false, List, [], ◌∷◌, ◌++◌, length, drop, get_or, map, Bor, Option, Some, None, refl, sym, ap, subst, ◌∙◌, append_assoc, append-nil}
use Rattle.std.specs.Prelude.{option_map}
use Rattle.std.proofs.lemmas.List.{drop_more}
use Rattle.dpl_syntax.specs.declared.refusal.Breach.{Breach}
use Rattle.dpl_language.specs.Names.{Text}
use Rattle.dpl_language.specs.Tree.{AfterComma, Listed, ArgumentTree, TextArgument, ExprArgument, WriteTree, Write}
use Rattle.dpl_language.specs.Writing.{arguments_of}
use Rattle.dpl_agreement.specs.Renamed.{renamed_argument, map_comma, map_listed}
use Rattle.dpl_tree.specs.declared.statement.NextArgument.{NextArgument}
use Rattle.dpl_tree.specs.Statements.{argument_view, next_argument_view}
use Rattle.dpl_rules.specs.Assignments.{printed_breaches}
use Rattle.dpl_rules.specs.Breaches.{least_from}
use Rattle.dpl_rules.specs.Sights.{Scopes, Reducing}
use Rattle.dpl_lowered.specs.Shapes.{nowhere, relisted}
use Rattle.dpl_lowered.specs.LoweredStatements.{lowered_argument}
use Rattle.dpl_memory.specs.Memory.{known_variable}
use Rattle.dpl_memory.specs.Resolved.{variable_of}
use Rattle.dpl_nodes.specs.declared.step.Argument.{Argument}
use Rattle.dpl_nodes.specs.declared.step.Step.{Write as WriteStep}
use Rattle.dpl_nodes.specs.Steps.{step_view, next_argument_view as next_node_view, arguments_view as nodes_view, argument_view as node_view}
use Rattle.dpl_types.proofs.Breaches.{least_from_append}
use Rattle.dpl_bound.specs.Run.{stmt_leaves}
use Rattle.dpl_bound.specs.Sights.{bound_in, AreKnownScopes}
use Rattle.dpl_prints.specs.Plain.{IsPlainArgument, ArePlainArguments}
use Rattle.dpl_types.proofs.Unbroken.{unbroken}
use Rattle.dpl_prints.specs.Told.{within, argument_told, printed_told, arguments_in}
use Rattle.dpl_prints.specs.Made.{IsArgumentAs, AreArgumentsAs, listed, AreBehind, AreSoFar}

-- ---- what is told
pub printed_breaches_told : (scopes : Scopes) (forall : Option Reducing) (in_task : Bool) (xs : List (ArgumentTree Text)) → printed_breaches (within scopes forall in_task) xs ≡ printed_told scopes in_task xs
printed_breaches_told scopes forall in_task [] = refl
printed_breaches_told scopes forall in_task (TextArgument at cs ∷ xs) = printed_breaches_told scopes forall in_task xs
printed_breaches_told scopes forall true (ExprArgument e ∷ xs) = ap (λ bs. argument_told scopes true (ExprArgument e) ++ bs) (printed_breaches_told scopes forall true xs)
printed_breaches_told scopes forall false (ExprArgument e ∷ xs) = ap (λ bs. argument_told scopes false (ExprArgument e) ++ bs) (printed_breaches_told scopes forall false xs)

pub arguments_next : (xs : List NextArgument) → map {A = AfterComma (ArgumentTree Text)} {B = ArgumentTree Text} (λ x. x.part) (map next_argument_view xs) ≡ arguments_in xs
arguments_next [] = refl
arguments_next (x ∷ xs) = ap (λ rest. argument_view x.argument ∷ rest) (arguments_next xs)

told-step : (scopes : Scopes) (in_task : Bool) (xs : List NextArgument) (k : ℕ) (d : NextArgument) → k < length xs → (o p : Option Breach)
    → p ≡ least_from o (argument_told scopes in_task (argument_view (get_or xs k d).argument))
    → least_from p (printed_told scopes in_task (arguments_in (drop (k + 1) xs))) ≡ least_from o (printed_told scopes in_task (arguments_in (drop k xs)))
told-step scopes in_task xs k d within o p told =
    let left = printed_told scopes in_task (arguments_in (drop (k + 1) xs)) in
    rw (drop_more xs k d within) (ap (λ q. least_from q left) told ∙ sym (least_from_append o (argument_told scopes in_task (argument_view (get_or xs k d).argument)) left))

-- ---- what is made
module _ (ss : Scopes) where
  -- of none so far
  pub none-made : (before : List Argument) (args : List (ArgumentTree Text)) → AreSoFar ss before args args before
  none-made before args = record { more = []; same = sym (append-nil before); made = λ rest f. f }

  -- of one more
  pub one-made : (before : List Argument) (args : List (ArgumentTree Text)) (a : ArgumentTree Text) (left : List (ArgumentTree Text)) (all : List Argument) (b : Option Argument) → AreSoFar ss before args (a ∷ left) all → IsArgumentAs ss a b
      → AreSoFar ss before args left (all ++ listed b)
  one-made before args a left all None so is = absurd is
  one-made before args a left all (Some b) so is = record {
    more = so.more ++ b ∷ [];
    same = ap (λ xs. xs ++ b ∷ []) so.same ∙ append_assoc before so.more (b ∷ []);
    made = λ rest f. subst (AreArgumentsAs ss args) (sym (append_assoc so.more (b ∷ []) rest)) (so.made (b ∷ rest) (is, f));
  }

  -- and of all
  pub all-made : (before : List Argument) (args left : List (ArgumentTree Text)) (all : List Argument) → left ≡ [] → AreSoFar ss before args left all → AreBehind ss before args all
  all-made before args left all none so = record {
    more = so.more;
    same = so.same;
    made = subst (AreArgumentsAs ss args) (append-nil so.more) (so.made [] (subst (λ left. AreArgumentsAs ss left []) (sym none) tt));
  }

  -- behind the first, where nothing was there before it
  pub arguments-made : (a : ArgumentTree Text) (rest : List (ArgumentTree Text)) (none first all : List Argument) (b : Option Argument) → none ≡ [] → first ≡ none ++ listed b → IsArgumentAs ss a b → AreBehind ss first rest all
      → AreArgumentsAs ss (a ∷ rest) all
  arguments-made a rest none first all None empty begun is behind = absurd is
  arguments-made a rest none first all (Some b) empty begun is behind =
      let same = behind.same ∙ ap (λ xs. xs ++ behind.more) (begun ∙ ap (λ xs. xs ++ b ∷ []) empty) in
      subst (AreArgumentsAs ss (a ∷ rest)) (sym same) (is, behind.made)

-- ---- THE STATEMENT
module _ (ss : Scopes) where
  others-node : (xs : List (AfterComma (ArgumentTree Text))) (bs : List Argument) → AreArgumentsAs ss (map (λ x. x.part) xs) bs
      → map (λ x. record { comma = nowhere; part = lowered_argument known_variable x.part }) (map (map_comma (renamed_argument variable_of)) (map (map_comma (renamed_argument (bound_in ss))) xs)) ≡ map next_node_view bs
  others-node [] [] f = refl
  others-node [] (b ∷ bs) f = absurd f
  others-node (x ∷ xs) [] f = absurd f
  others-node (x ∷ xs) (b ∷ bs) f =
      ap (λ y. record { comma = nowhere; part = y } ∷ map (λ z. record { comma = nowhere; part = lowered_argument known_variable z.part }) (map (map_comma (renamed_argument variable_of)) (map (map_comma (renamed_argument (bound_in ss))) xs))) f.0
      ∙ ap (λ ys. next_node_view b ∷ ys) (others-node xs bs f.1)

  arguments-node : (xs : Option (Listed (ArgumentTree Text))) (bs : List Argument) → AreArgumentsAs ss (arguments_of xs) bs
      → option_map (relisted (lowered_argument known_variable)) (option_map (map_listed (renamed_argument variable_of)) (option_map (map_listed (renamed_argument (bound_in ss))) xs)) ≡ nodes_view bs
  arguments-node None [] f = refl
  arguments-node None (b ∷ bs) f = absurd f
  arguments-node (Some xs) [] f = absurd f
  arguments-node (Some xs) (b ∷ bs) f =
      ap (λ x. Some (record { first = x; others = map (λ z. record { comma = nowhere; part = lowered_argument known_variable z.part }) (map (map_comma (renamed_argument variable_of)) (map (map_comma (renamed_argument (bound_in ss))) xs.others)) })) f.0
      ∙ ap (λ ys. Some (record { first = node_view b; others = ys })) (others-node xs.others bs f.1)

  pub print-made : (w : WriteTree Text) (xs : Option (Listed (ArgumentTree Text))) (bs : Bor (List Argument)) → w.arguments ≡ xs → AreArgumentsAs ss (arguments_of xs) bs.now
      → stmt_leaves ss (Write w) ≡ step_view (WriteStep w.ends_line bs)
  print-made w xs bs is f =
      ap (λ xs. Write (record { at = nowhere; ends_line = w.ends_line; from = nowhere; arguments = xs; upto = nowhere; semicolon = nowhere }))
      (arguments-node w.arguments bs.now (subst (λ xs. AreArgumentsAs ss (arguments_of xs) bs.now) (sym is) f))

-- ---- one argument more
module _ (ss : Scopes) (xs : List NextArgument) (k : ℕ) (d : NextArgument) (within : k < length xs) where
  next-is : arguments_in (drop k xs) ≡ argument_view (get_or xs k d).argument ∷ arguments_in (drop (k + 1) xs)
  next-is = ap arguments_in (drop_more xs k d within)

  plain-step : ArePlainArguments ss (arguments_in (drop k xs)) → IsPlainArgument ss (argument_view (get_or xs k d).argument) × ArePlainArguments ss (arguments_in (drop (k + 1) xs))
  plain-step h = subst (ArePlainArguments ss) next-is h

  pub arguments-step : (in_task : Bool) (before all after : List Argument) (b : Option Argument) (o p : Option Breach) → p ≡ least_from o (argument_told ss in_task (argument_view (get_or xs k d).argument))
      → (p ≡ None → AreKnownScopes ss → IsPlainArgument ss (argument_view (get_or xs k d).argument) → IsArgumentAs ss (argument_view (get_or xs k d).argument) b) → after ≡ all ++ listed b
      → (ArePlainArguments ss (arguments_in xs) → ArePlainArguments ss (arguments_in (drop k xs)))
      → (o ≡ None → AreKnownScopes ss → ArePlainArguments ss (arguments_in xs) → AreSoFar ss before (arguments_in xs) (arguments_in (drop k xs)) all)
      → (least_from p (printed_told ss in_task (arguments_in (drop (k + 1) xs))) ≡ least_from o (printed_told ss in_task (arguments_in (drop k xs))))
      × (ArePlainArguments ss (arguments_in xs) → ArePlainArguments ss (arguments_in (drop (k + 1) xs)))
      × (p ≡ None → AreKnownScopes ss → ArePlainArguments ss (arguments_in xs) → AreSoFar ss before (arguments_in xs) (arguments_in (drop (k + 1) xs)) after)
  arguments-step in_task before all after b o p told node pushed plain so_far =
      let a = argument_view (get_or xs k d).argument in
      let left = arguments_in (drop (k + 1) xs) in (
        told-step ss in_task xs k d within o p told,
        λ h. (plain-step (plain h)).1,
        λ none known h.
            let here = unbroken o (argument_told ss in_task a) (sym told ∙ none) in
            let so = subst (λ args. AreSoFar ss before (arguments_in xs) args all) next-is (so_far here.0 known h) in
            subst (AreSoFar ss before (arguments_in xs) left) (sym pushed) (one-made ss before (arguments_in xs) a left all b so (node none known (plain-step (plain h)).0)),
      )
