-- The turns of a typed forall, and right sides in them.
use Rattle.std.proofs.Common.{Some, None, ◌≡◌, ℕ, List, [], refl, subst}
use Rattle.dpl_language.specs.Tree.{Op, ExprTree, Stmts}
use Rattle.dpl_language.specs.Values.{Domain, Index}
use Rattle.dpl_language.specs.Environment.{Limits}
use Rattle.dpl_language.specs.Loops.{bound_to}
use Rattle.dpl_language.specs.Statements.{exec_all}
use Rattle.dpl_memory.specs.Memory.{Variable, in_memory}
use Rattle.dpl_nodes.specs.declared.step.Names.{Names}
use Rattle.dpl_nodes.specs.declared.step.Names.TheVariants.{Int as IntName, Tuple as TupleName, Each}
use Rattle.dpl_nodes.specs.declared.tree.IntExpr.{IntExpr, Number, Local as IntLocal, Negative' as IntNegative', Sum' as IntSum', Difference' as IntDifference', Product' as IntProduct', Quotient' as IntQuotient', Remainder' as IntRemainder', Chain' as IntChain', Row_of-IntLink, end_of-IntLink, more_of-IntLink}
use Rattle.dpl_nodes.specs.declared.tree.BoolExpr.{BoolExpr, Truth as TruthNode, Local as TruthLocal, Not' as TruthNot', Chain' as TruthChain', Row_of-TruthLink, end_of-TruthLink, more_of-TruthLink, Compare as TruthCompare}
use Rattle.dpl_nodes.specs.Typed.{int_view, int_links, int_infix, int_place, truth_view, truth_links, junction_view}
use Rattle.dpl_nodes.specs.Steps.{names_view}
use Rattle.dpl_lowered.specs.Shapes.{nowhere, two, grouped}
use Rattle.dpl_agreement.specs.Scopes.{fits_expr}
use Rattle.dpl_apart.specs.Memories.{MayBeApart, Changes}
use Rattle.dpl_turns.specs.Bodies.{OwnNames, loop_variables, body_changes, turn_scoping, KeepsApart}
use Rattle.dpl_turns.specs.Typed.{own_of}
use Rattle.dpl_turns.proofs.Bodies.{body-apart}

own-variables : (names : Names) → loop_variables (own_of names) [] ≡ names_view names
own-variables (IntName slot) = refl
own-variables (TupleName slot) = refl
own-variables (Each first others) = refl

-- each binds its index to the names, then runs a body, as `index_turn` does
pub names-apart : (limits : Limits) (rank : ℕ) (names : Names) (written : List ℕ) (reduced : List (ℕ × Op)) (body : Stmts Variable) → KeepsApart rank (own_of names) [] written reduced body
    → MayBeApart (body_changes rank (own_of names) [] written reduced) (λ t s done. exec_all limits in_memory body (bound_to in_memory (names_view names) (Domain []) t s) done)
names-apart limits rank names written reduced body keeps =
    subst (λ xs. MayBeApart (body_changes rank (own_of names) [] written reduced) (λ t s done. exec_all limits in_memory body (bound_to in_memory xs (Domain []) t s) done)) (own-variables names)
    (body-apart limits rank (own_of names) [] written reduced body keeps)

-- ---- right sides
module _ (h : Changes) (own : OwnNames) (t i : Index) where
  -- what is evaluated once fits at an index too, since its names are plain
  mutual
    pub int_view-fits : (e : IntExpr) → fits_expr (turn_scoping h own t) None (int_view e) tt → fits_expr (turn_scoping h own t) (Some i) (int_view e) tt
    int_view-fits (Number n) fits = tt
    int_view-fits (IntLocal slot) fits = (fits, tt)
    int_view-fits (IntNegative' p e) fits = int_view-fits e fits
    int_view-fits (IntSum' p a q b) fits = (int_view-fits a fits.0, (int_view-fits b fits.1.0, tt))
    int_view-fits (IntDifference' p a q b) fits = (int_view-fits a fits.0, (int_view-fits b fits.1.0, tt))
    int_view-fits (IntProduct' p a q b) fits = (int_view-fits a fits.0, (int_view-fits b fits.1.0, tt))
    int_view-fits (IntQuotient' p a q b at) fits = (int_view-fits a fits.0, (int_view-fits b fits.1.0, tt))
    int_view-fits (IntRemainder' p a q b at) fits = (int_view-fits a fits.0, (int_view-fits b fits.1.0, tt))
    int_view-fits (IntChain' p first q shape row) fits = int_links-fit row (int_view first) (int_view-fits first) fits
    int_view-fits _ fits = fits

    -- and so does a chain, where what came so far does
    int_links-fit : {m : _} (row : Row_of-IntLink m) (a : ExprTree Variable) → (fits_expr (turn_scoping h own t) None a tt → fits_expr (turn_scoping h own t) (Some i) a tt)
        → fits_expr (turn_scoping h own t) None (grouped a (int_links row)) tt → fits_expr (turn_scoping h own t) (Some i) (grouped a (int_links row)) tt
    int_links-fit end_of-IntLink a so_far fits = so_far fits
    int_links-fit (more_of-IntLink op p e row) a so_far fits =
        int_links-fit row (two a (int_place op) (int_infix op) (int_view e)) (λ both. (so_far both.0, (int_view-fits e both.1.0, tt))) fits

  mutual
    pub truth_view-fits : (e : BoolExpr) → fits_expr (turn_scoping h own t) None (truth_view e) tt → fits_expr (turn_scoping h own t) (Some i) (truth_view e) tt
    truth_view-fits (TruthNode b) fits = tt
    truth_view-fits (TruthLocal slot) fits = (fits, tt)
    truth_view-fits (TruthNot' p e) fits = truth_view-fits e fits
    truth_view-fits (TruthChain' p first q shape row) fits = truth_links-fit row (truth_view first) (truth_view-fits first) fits
    truth_view-fits (TruthCompare c a b) fits = (int_view-fits a.now fits.0, (int_view-fits b.now fits.1.0, tt))
    truth_view-fits _ fits = fits

    truth_links-fit : {m : _} (row : Row_of-TruthLink m) (a : ExprTree Variable) → (fits_expr (turn_scoping h own t) None a tt → fits_expr (turn_scoping h own t) (Some i) a tt)
        → fits_expr (turn_scoping h own t) None (grouped a (truth_links row)) tt → fits_expr (turn_scoping h own t) (Some i) (grouped a (truth_links row)) tt
    truth_links-fit end_of-TruthLink a so_far fits = so_far fits
    truth_links-fit (more_of-TruthLink op p e row) a so_far fits =
        truth_links-fit row (two a nowhere (junction_view op) (truth_view e)) (λ both. (so_far both.0, (truth_view-fits e both.1.0, tt))) fits
