-- The head of a loop that runs: it is over a range or a domain, its variables have a type, and each has a name of its own.
-- So its variables are new in the loop's scope, and of the kinds that turns give.
use Rattle.std.proofs.Common.{◌≡◌, ℕ, Bool, true, false, List, [], ◌∷◌, Option, Some, None, refl, sym, ap, ◌∙◌, subst}
use Rattle.std.specs.Prelude.{◌==◌, not, ◌&&◌, ◌||◌, if◌then◌else◌}
use Rattle.dpl_syntax.specs.declared.refusal.Code.TheVariants.{NameTwice}
use Rattle.dpl_language.specs.Tree.{Placed, ExprTree, Number, TruthWord, Named, LocalesWord, LocaleCount, HereWord, Grouped, DomainLiteral, Prefixed, Reduced, Chain, Postfixed, ItemTree, One, RangeItem, VariablesTree, OneVariable, ManyVariables, LoopWord, ForWord, ForallWord, CoforallWord}
use Rattle.dpl_language.specs.Names.{Text}
use Rattle.dpl_language.specs.Phrases.{parts}
use Rattle.dpl_agreement.specs.Untasked.{UntaskedLoop}
use Rattle.dpl_rules.specs.Types.{ValueType, Range, Domain, Tuple, an_int}
use Rattle.dpl_rules.specs.Verdicts.{owed}
use Rattle.dpl_rules.specs.Sights.{LoopVariable, Scopes, declared_here, enter, add, origin_in}
use Rattle.dpl_rules.specs.Expressions.{item_type}
use Rattle.dpl_rules.specs.Loops.{over_domains, over_locales, one_type, variable_type, fits_variables, typed_variable, each_once, variables_of, over_type}
use Rattle.dpl_rules.proofs.Admission.{first_empty, second_empty}
use Rattle.dpl_sound.proofs.Given.{owed_not-holds}
use Rattle.dpl_sound.proofs.Loops.{SameNames, same_names-add}
use Rattle.dpl_memory.specs.Memory.{VariableKind, DomainKind, TupleKind}
use Rattle.dpl_typed.specs.Leaves.{kind_if, value_kind, kind_by}
use Rattle.dpl_typed.specs.Simple.{IsSimple, IsSimpleItem}
use Rattle.dpl_typed.specs.Typed.{is_rank}
use Rattle.dpl_runnable.proofs.Kept.{kind_if-some}
use Rattle.dpl_bound.specs.Bounds.{loop_variable, loop_type}
use Rattle.dpl_runnable.specs.InSight.{IsTurnKind, AreTurnKinds, AreFresh}
use Rattle.dpl_runnable.specs.Runnable.{IsOneVariable, RunsOver, IsRunnableHeader}
use Rattle.dpl_runnable.proofs.Scopes.{two_or_three}

-- WHAT A LOOP RUNS OVER is no bare word
pub over-simple : (P : Text → Type 0) (ss : Scopes) (item : ItemTree Text) → IsSimpleItem P item → over_type ss item ≡ item_type ss item
over-simple P ss (One e) h = by e h
  where
    by : (e : ExprTree Text) → IsSimple P e → over_type ss (One e) ≡ item_type ss (One e)
    by (Number at n) h = refl
    by (TruthWord at b) h = refl
    by (Named x) h = refl
    by (LocalesWord at) h = absurd h
    by (LocaleCount at) h = refl
    by (HereWord at) h = refl
    by (Grouped from item upto) h = refl
    by (DomainLiteral from items upto) h = refl
    by (Prefixed at op e) h = refl
    by (Reduced at op word e) h = refl
    by (Chain e rest) h = refl
    by (Postfixed e posts) h = refl
over-simple P ss (RangeItem low at dots high by) h = refl

-- EACH NAME is new
same_here : (ss ts : Scopes) (xs : List (Placed Text)) (t : Option ValueType) → SameNames ss ts → each_once ts xs ≡ [] → AreFresh t xs ss
same_here ss ts [] t same once = tt
same_here ss ts (x ∷ xs) t same once =
    let front = owed (not (declared_here ts x.name)) x.at NameTwice in
    let behind = add (record { origin = origin_in ts x.name; sort = LoopVariable; type = None }) ts in (
      same x.name ∙ owed_not-holds (declared_here ts x.name) x.at NameTwice (first_empty front (each_once behind xs) once),
      same_here (add (loop_variable t ss x.name) ss) behind xs t (same_names-add ss ts t None x.name same) (second_empty front (each_once behind xs) once),
    )

pub once-fresh : (ss : Scopes) (xs : VariablesTree Text) (t : Option ValueType) → each_once (enter ss) (variables_of xs) ≡ [] → AreFresh t (variables_of xs) (enter ss)
once-fresh ss (OneVariable x) t once = (refl, tt)
once-fresh ss (ManyVariables from xs upto) t once = same_here (enter ss) (enter ss) (parts xs) t (λ x. refl) once

-- THEIR TYPE
tuple-turns : (rank : ℕ) → is_rank rank ≡ true → (b : Bool) → (rank == 1) ≡ b → IsTurnKind (value_kind (if b then an_int else Tuple rank))
tuple-turns rank r true e = tt
tuple-turns rank r false e = subst IsTurnKind (sym (ap (λ b. kind_if b TupleKind) (two_or_three rank r e))) tt

domain-turns : (xs : VariablesTree Text) (rank : ℕ) (strided : Bool) → is_rank rank ≡ true → fits_variables xs (Domain rank strided) ≡ true → (t : ValueType) × (variable_type xs (Domain rank strided) ≡ Some t) × AreTurnKinds xs (value_kind t)
domain-turns (OneVariable x) rank strided r fits = (one_type (Domain rank strided), refl, tuple-turns rank r (rank == 1) refl)
domain-turns (ManyVariables from xs upto) rank strided r fits = (an_int, ap (λ b. if b then Some an_int else None) fits, refl)

range-turns : (xs : VariablesTree Text) (strided : Bool) → IsOneVariable xs → (t : ValueType) × (variable_type xs (Range strided) ≡ Some t) × AreTurnKinds xs (value_kind t)
range-turns (OneVariable x) strided one = (an_int, refl, tt)
range-turns (ManyVariables from xs upto) strided one = absurd one

-- what runs without tasks runs over domains
over-domains : (word : LoopWord) → UntaskedLoop word → over_domains word ≡ true
over-domains ForWord untasked = refl
over-domains ForallWord untasked = refl
over-domains CoforallWord untasked = absurd untasked

runs-typed : (word : LoopWord) → UntaskedLoop word → (xs : VariablesTree Text) (u : ValueType) (k : VariableKind) → RunsOver xs u → value_kind u ≡ Some k
    → (t : ValueType) × (typed_variable word xs (Some u) ≡ Some t) × AreTurnKinds xs (value_kind t)
runs-typed word untasked xs (Range strided) k runs e = range-turns xs strided runs
runs-typed word untasked xs (Domain rank strided) k runs e =
    let typed = domain-turns xs rank strided (kind_if-some (is_rank rank) DomainKind k e).0 runs in (
      typed.0,
      ap (λ b. if (b && true) || (over_locales word && false) then variable_type xs (Domain rank strided) else None) (over-domains word untasked) ∙ typed.1,
      typed.2,
    )
runs-typed word untasked xs _ k runs e = absurd runs

module _ (ss : Scopes) (xs : VariablesTree Text) (item : ItemTree Text) (h : IsRunnableHeader ss xs item) where
  pub of_kind : value_kind h.type ≡ Some h.kind
  of_kind = ap kind_by (sym h.is) ∙ h.over.kind

  pub over-known : over_type ss item ≡ Some h.type
  over-known = over-simple _ ss item h.over.found ∙ h.is

  pub header-typed : (word : LoopWord) → UntaskedLoop word → (t : ValueType) × (loop_type ss word xs item ≡ Some t) × AreTurnKinds xs (value_kind t)
  header-typed word untasked =
      let typed = runs-typed word untasked xs h.type h.kind h.runs of_kind in
      (typed.0, ap (typed_variable word xs) over-known ∙ typed.1, typed.2)

  pub header-fresh : (t : Option ValueType) → AreFresh t (variables_of xs) (enter ss)
  header-fresh t = once-fresh ss xs t h.once
