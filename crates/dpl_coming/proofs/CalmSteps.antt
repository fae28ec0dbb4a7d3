-- Typed statements are calm where they stand, with foralls where these are entered: none operates on a cell or starts tasks.
use Rattle.std.proofs.Common.{◌≡◌, ℕ, Bool, List, [], ◌∷◌, map, refl, None}
use Rattle.dpl_syntax.specs.declared.place.Place.{Place}
use Rattle.dpl_language.specs.Tree.{AfterComma, ExprTree, ItemTree, One, ArgumentTree, VariablesTree, ForWord, ForallWord, StmtTree, Stmts}
use Rattle.dpl_language.specs.Phrases.{item_read, cell_read}
use Rattle.dpl_lowered.specs.Shapes.{nowhere}
use Rattle.dpl_lowered.specs.LoweredExpressions.{EachTurn}
use Rattle.dpl_lowered.specs.LoweredStatements.{with_intents}
use Rattle.dpl_memory.specs.Memory.{Variable}
use Rattle.dpl_standing.specs.Standing.{Standing, Outside, InTurn, IsOutside}
use Rattle.dpl_nodes.specs.declared.placing.Placing.{Placing}
use Rattle.dpl_nodes.specs.declared.step.Argument.{Argument}
use Rattle.dpl_nodes.specs.declared.step.Argument.TheVariants.{Text as TextNode, Int as IntNode, Truth as TruthNode, Array as ArrayNode}
use Rattle.dpl_nodes.specs.declared.step.Beginning.{Beginning}
use Rattle.dpl_nodes.specs.declared.step.Beginning.TheVariants.{Value, Empty}
use Rattle.dpl_nodes.specs.declared.step.Initial.{Initial}
use Rattle.dpl_nodes.specs.declared.step.Initial.TheVariants.{Zeros, Falses, Ints, Truths}
use Rattle.dpl_nodes.specs.declared.step.ArrayDeclaration.{ArrayDeclaration}
use Rattle.dpl_nodes.specs.declared.step.StepWord.TheVariants as word
use Rattle.dpl_nodes.specs.declared.step.IntDeed.{IntDeed}
use Rattle.dpl_nodes.specs.declared.step.IntDeed.TheVariants as deeds
use Rattle.dpl_nodes.specs.declared.step.TruthTarget.{TruthTarget}
use Rattle.dpl_nodes.specs.declared.step.TruthTarget.TheVariants as target
use Rattle.dpl_nodes.specs.declared.step.TruthDeed.{TruthDeed}
use Rattle.dpl_nodes.specs.declared.step.TruthDeed.TheVariants as deed
use Rattle.dpl_nodes.specs.declared.step.Intent.{Intent}
use Rattle.dpl_nodes.specs.declared.step.Step.{Step, Nothing as NothingStep, Int as IntStep, DeclareRange, SetRange, Truth as TruthStep, DeclareDomain, SetDomain, DeclareArray, SetElement, SetArray, SetTruthArray, Write as WriteStep, Block', If', Headed', For', Forall', ForEach', ForallEach', Row_of-Step, end_of-Step, more_of-Step}
use Rattle.dpl_nodes.specs.declared.step.Else.{Else as ElseNode, Absent, Do'}
use Rattle.dpl_nodes.specs.Typed.{int_view, truth_view, range_item, domain_view}
use Rattle.dpl_nodes.specs.Steps.{int_changed, truth_changed, truth_stated, domain_declared, array_declared, written_as, argument_view, next_argument_view, intent_view, variable_in, names_view, listed, step_view}
use Rattle.dpl_nodes.proofs.Unread.{cell_read-int, cell_read-truth, item_read-range, cell_read-domain}
use Rattle.dpl_nodes.proofs.Promotions.{cell_read-promoted_int, cell_read-promoted_truth}
use Rattle.dpl_readings.specs.Readings.{outside, forall_of, step_in, else_in, row_in, steps_in}
use Rattle.dpl_coming.specs.Calm.{CalmIf, AllCalmIf, ElseCalmIf}
use Rattle.dpl_coming.proofs.CalmTrees.{expr-calm, loop-calm, AreUnread, IsUnread, unread-calm}

-- NO RIGHT SIDE is a read of a cell
int-unread : (d : IntDeed) (slot : ℕ) (i : ItemTree Variable) → item_read i ≡ None → IsUnread (int_changed d slot i)
int-unread deeds.Declare slot i none = none
int-unread deeds.Config slot i none = none
int-unread deeds.Set slot i none = none
int-unread deeds.Add slot i none = none
int-unread deeds.Subtract slot i none = none
int-unread deeds.Multiply slot i none = none
int-unread (deeds.Divide at) slot i none = none
int-unread (deeds.Remainder at) slot i none = none
int-unread deeds.Reduce slot i none = none

truth-unread : (d : TruthDeed) (slot : ℕ) (i : ItemTree Variable) → item_read i ≡ None → IsUnread (truth_changed d slot i)
truth-unread deed.Declare slot i none = none
truth-unread deed.Config slot i none = none
truth-unread deed.Set slot i none = none
truth-unread deed.Reduce slot i none = none

stated-unread : (t : TruthTarget) (e : ExprTree Variable) → cell_read e ≡ None → IsUnread (truth_stated t e)
stated-unread (target.Slot d slot) e none = truth-unread d slot (One e) none
stated-unread (target.Element x t) e none = none

domain-unread : (slot : ℕ) (b : Beginning) (p : Placing) → IsUnread (domain_declared slot b p)
domain-unread slot (Value e) p = cell_read-domain e.now
domain-unread slot (Empty rank) p = tt

array-unread : (d : ArrayDeclaration) (i : Initial) → d.initial ≡ i → IsUnread (array_declared d)
array-unread d Zeros e = rw e tt
array-unread d Falses e = rw e tt
array-unread d (Ints at x) e = rw e (cell_read-promoted_int EachTurn x.now)
array-unread d (Truths at x) e = rw e (cell_read-promoted_truth EachTurn x.now)

argument-unread : (a : Argument) (rest : List (ArgumentTree Variable)) → AreUnread rest → AreUnread (argument_view a ∷ rest)
argument-unread (TextNode bytes) rest f = f
argument-unread (IntNode e) rest f = (cell_read-int e.now, f)
argument-unread (TruthNode e) rest f = (cell_read-truth e.now, f)
argument-unread (ArrayNode k slot) rest f = (refl, f)

others-unread : (xs : List Argument) → AreUnread (map {A = AfterComma (ArgumentTree Variable)} {B = ArgumentTree Variable} (λ x. x.part) (map next_argument_view xs))
others-unread [] = tt
others-unread (a ∷ xs) = argument-unread a _ (others-unread xs)

pub written-unread : (ends_line : Bool) (xs : List Argument) → IsUnread (written_as ends_line xs)
written-unread ends_line [] = tt
written-unread ends_line (a ∷ xs) = argument-unread a _ (others-unread xs)

-- those that hold no other
abbrev pub HoldsNone : Step → Type 0
HoldsNone (Block' p shape row) = ⊥
HoldsNone (If' condition p shape row otherwise) = ⊥
HoldsNone (Headed' word at condition p shape row) = ⊥
HoldsNone (For' at slot over p shape row) = ⊥
HoldsNone (Forall' at slot over changed p shape row) = ⊥
HoldsNone (ForEach' at names over p shape row) = ⊥
HoldsNone (ForallEach' at names over changed p shape row) = ⊥
HoldsNone _ = Unit {0}

module _ (foralls : Type 0) where
  -- what stands outside alone is nothing elsewhere
  outside-calm : (w : Standing) (t : StmtTree Variable) → (IsOutside w → CalmIf foralls t) → CalmIf foralls (outside w t)
  outside-calm Outside t c = c tt
  outside-calm InTurn t c = tt

  pub simple-calm : (w : Standing) (s : Step) → HoldsNone s → CalmIf foralls (step_in w s)
  simple-calm w NothingStep none = tt
  simple-calm w (IntStep d slot e) none = unread-calm foralls (step_view (IntStep d slot e)) (int-unread d slot (One (int_view e.now)) (cell_read-int e.now))
  simple-calm w (DeclareRange slot e) none = unread-calm foralls (step_view (DeclareRange slot e)) (item_read-range e.now)
  simple-calm w (SetRange slot e) none = unread-calm foralls (step_view (SetRange slot e)) (item_read-range e.now)
  simple-calm w (TruthStep t e) none = unread-calm foralls (step_view (TruthStep t e)) (stated-unread t (truth_view e.now) (cell_read-truth e.now))
  simple-calm w (DeclareDomain slot b p) none = unread-calm foralls (step_view (DeclareDomain slot b p)) (domain-unread slot b p)
  simple-calm w (SetDomain x e) none = unread-calm foralls (step_view (SetDomain x e)) (cell_read-domain e.now)
  simple-calm w (DeclareArray d) none = unread-calm foralls (step_view (DeclareArray d)) (array-unread d.now d.now.initial refl)
  simple-calm w (SetElement x t op at e) none = unread-calm foralls (step_view (SetElement x t op at e)) (cell_read-int e.now)
  simple-calm w (SetArray x op at e) none = unread-calm foralls (step_view (SetArray x op at e)) (cell_read-promoted_int EachTurn e.now)
  simple-calm w (SetTruthArray x at e) none = unread-calm foralls (step_view (SetTruthArray x at e)) (cell_read-promoted_truth EachTurn e.now)
  simple-calm w (WriteStep ends_line xs) none = outside-calm w (written_as ends_line xs.now) (λ is. unread-calm foralls (written_as ends_line xs.now) (written-unread ends_line xs.now))
  simple-calm w _ none = absurd none

  -- a forall whose turns are calm, where it may be entered
  pub forall_of-calm : foralls → (at : Place) (xs : VariablesTree Variable) (i : ItemTree Variable) (intents : List Intent) (body : Stmts Variable) → AllCalmIf foralls body → CalmIf foralls (forall_of at xs i intents body)
  forall_of-calm may at xs i intents body calm = loop-calm foralls ForallWord at xs nowhere i (with_intents (map intent_view intents)) (listed body) may calm

  mutual
    pub step-calm : (w : Standing) → (IsOutside w → foralls) → (s : Step) → CalmIf foralls (step_in w s)
    step-calm w may (Block' p shape row) = row-calm w may row
    step-calm w may (If' condition p shape row otherwise) = (expr-calm foralls (truth_view condition.now) None, row-calm w may row, else-calm w may otherwise)
    step-calm w may (Headed' word.While at condition p shape row) = (expr-calm foralls (truth_view condition.now) None, row-calm w may row, tt)
    step-calm w may (For' at slot over p shape row) = loop-calm foralls ForWord at.now (variable_in slot) nowhere (range_item over.now) None (listed (row_in w row)) tt (row-calm w may row)
    step-calm w may (ForEach' at names over p shape row) = loop-calm foralls ForWord at.now (names_view names) nowhere (One (domain_view over.now)) None (listed (row_in w row)) tt (row-calm w may row)
    step-calm w may (Forall' at slot over changed p shape row) =
        outside-calm w _ (λ is. forall_of-calm (may is) at.now (variable_in slot) (range_item over.now) changed.now.reduced.now (row_in InTurn row) (row-calm InTurn absurd row))
    step-calm w may (ForallEach' at names over changed p shape row) =
        outside-calm w _ (λ is. forall_of-calm (may is) at.now (names_view names) (One (domain_view over.now)) changed.now.reduced.now (row_in InTurn row) (row-calm InTurn absurd row))
    step-calm w may s = simple-calm w s tt

    else-calm : (w : Standing) → (IsOutside w → foralls) → (o : ElseNode) → ElseCalmIf foralls (else_in w o)
    else-calm w may Absent = tt
    else-calm w may (Do' p s) = step-calm w may s

    row-calm : (w : Standing) → (IsOutside w → foralls) → {m : _} (row : Row_of-Step m) → AllCalmIf foralls (row_in w row)
    row-calm w may end_of-Step = tt
    row-calm w may (more_of-Step s row) = (step-calm w may s, row-calm w may row)

  pub steps-calm : (w : Standing) → (IsOutside w → foralls) → (ss : List Step) → AllCalmIf foralls (steps_in w ss)
  steps-calm w may [] = tt
  steps-calm w may (s ∷ ss) = (step-calm w may s, steps-calm w may ss)
