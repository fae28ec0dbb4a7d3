-- The parts of statements without expressions: lists, loops' variables, reduce intents.
-- What is asked of each is asked of its lowered form with the same answer.
use Rattle.std.proofs.Common.{◌≡◌, List, [], ◌∷◌, refl, ap, ◌∙◌, Some, None, Option, map}
use Rattle.std.specs.Prelude.{option_map, pos}
use mathlib.Core.Path.{fun_ext}
use Rattle.dpl_language.specs.Values.{Value, Int, Index}
use Rattle.dpl_language.specs.Tree.{Placed, AfterComma, Listed, Op, TypeTree}
use Rattle.dpl_language.specs.Tree.{ArgumentTree, IntentTree, VariablesTree, OneVariable, ManyVariables}
use Rattle.dpl_language.specs.Outcome.{Run}
use Rattle.dpl_language.specs.Environment.{Environment, Plain}
use Rattle.dpl_language.specs.Phrases.{parts, intents_of, reduce_intents, first_name}
use Rattle.dpl_language.specs.Declarations.{type_of}
use Rattle.dpl_language.specs.Writing.{arguments_of}
use Rattle.dpl_language.specs.Loops.{scoped, declare_each, bound_to, turn_of}
use Rattle.dpl_lowered.specs.Shapes.{nowhere, unplaced, relisted}
use Rattle.dpl_lowered.specs.LoweredStatements.{written_type, lowered_variables, behind_comma, with_intents}

pub parts-relisted : {A B : Type 0} (f : A → B) (xs : Listed A) → parts (relisted f xs) ≡ map f (parts xs)
parts-relisted {A} {B} f xs = ap (λ ys. f xs.first ∷ ys) (others-relisted xs.others)
  where
    others-relisted : (cs : List (AfterComma A))
        → map {A = AfterComma B} {B = B} (λ c. c.part) (map {A = AfterComma A} {B = AfterComma B} (λ c. record { comma = nowhere; part = f c.part }) cs) ≡ map f (map {A = AfterComma A} {B = A} (λ c. c.part) cs)
    others-relisted [] = refl
    others-relisted (c ∷ cs) = ap (λ ys. f c.part ∷ ys) (others-relisted cs)

pub arguments-relisted : {N : Type 0} (f : ArgumentTree N → ArgumentTree N) (xs : Option (Listed (ArgumentTree N))) → arguments_of (option_map (relisted f) xs) ≡ map f (arguments_of xs)
arguments-relisted f None = refl
arguments-relisted f (Some xs) = parts-relisted f xs

module _ {N : Type 0} where
  reduce_intents-made : (ps : List (N × Op)) → reduce_intents (map {A = AfterComma (IntentTree N)} {B = IntentTree N} (λ x. x.part) (map {A = N × Op} {B = AfterComma (IntentTree N)} behind_comma ps)) ≡ ps
  reduce_intents-made [] = refl
  reduce_intents-made (p ∷ ps) = ap (λ qs. p ∷ qs) (reduce_intents-made ps)

  pub intents_of-made : (ps : List (N × Op)) → intents_of (with_intents ps) ≡ ps
  intents_of-made [] = refl
  intents_of-made (p ∷ ps) = ap (λ qs. p ∷ qs) (reduce_intents-made ps)

  pub type_of-written : (type : Option (TypeTree N)) → type_of (option_map written_type type) ≡ type
  type_of-written None = refl
  type_of-written (Some type) = refl

pub first_name-lowered : {N : Type 0} (xs : VariablesTree N) → first_name (lowered_variables xs) ≡ first_name xs
first_name-lowered (OneVariable x) = refl
first_name-lowered (ManyVariables from xs upto) = refl

module _ {N S : Type 0} (env : Environment N S) where
  declare_each-unplaced : (xs : List (Placed N)) (t : Index) (s : S) → declare_each env (map unplaced xs) t s ≡ declare_each env xs t s
  declare_each-unplaced [] t s = refl
  declare_each-unplaced (x ∷ xs) [] s = declare_each-unplaced xs [] (env.declare x.name (Plain (Int (pos 0))) s)
  declare_each-unplaced (x ∷ xs) (i ∷ t) s = declare_each-unplaced xs t (env.declare x.name (Plain (Int i)) s)

  bound_to-lowered : (xs : VariablesTree N) (over : Value) (t : Index) (s : S) → bound_to env (lowered_variables xs) over t s ≡ bound_to env xs over t s
  bound_to-lowered (OneVariable x) over t s = refl
  bound_to-lowered (ManyVariables from xs upto) over t s =
      ap (λ ys. declare_each env ys t s) (parts-relisted unplaced xs) ∙ declare_each-unplaced (parts xs) t s

  -- a turn, with the same body
  pub turn_of-lowered : (xs : VariablesTree N) (over : Value) (a b : Run S) → a ≡ b → turn_of env (lowered_variables xs) over a ≡ turn_of env xs over b
  turn_of-lowered xs over a b e =
      fun_ext (λ t. ap (λ bound. scoped env (λ s done. scoped env a (bound s) done)) (fun_ext (λ s. bound_to-lowered xs over t s)))
      ∙ ap (turn_of env xs over) e
