-- What prints and calls of cells do, part by part: what one argument does stands before what the others do.
-- A call is held where its name has the type of a cell.
use Rattle.std.proofs.Common.{◌≡◌, ◌<◌, ℕ, ◌+◌, Bool, List, [], ◌∷◌, ◌++◌, length, drop, get_or, is_some, Option, Some, None, refl, sym, ap, ◌∙◌, append-nil}
use Rattle.std.proofs.lemmas.List.{drop_more}
use Rattle.dpl_language.specs.Names.{Text}
use Rattle.dpl_language.specs.Tree.{Placed, CallTree, ArgumentTree, TextArgument, ExprArgument}
use Rattle.dpl_tree.specs.declared.statement.NextArgument.{NextArgument}
use Rattle.dpl_tree.specs.Statements.{argument_view}
use Rattle.dpl_rules.specs.Deeds.{Deed, ACellCall, held_if, expr_deeds}
use Rattle.dpl_rules.specs.Doings.{arguments_deeds, call_argument_deeds, call_deeds}
use Rattle.dpl_rules.specs.Expressions.{cell_declared}
use Rattle.dpl_rules.specs.Sights.{Scopes, lookup, type_declared}
use Rattle.dpl_rules.specs.Types.{ValueType, has, is_cell}
use Rattle.dpl_deeds.proofs.Steps.{added_then}
use Rattle.dpl_prints.specs.Done.{argument_deeds}
use Rattle.dpl_prints.specs.Told.{arguments_in}

-- ---- arguments
pub arguments_deeds_first : (scopes : Scopes) (a : ArgumentTree Text) (rest : List (ArgumentTree Text)) → arguments_deeds scopes (a ∷ rest) ≡ argument_deeds scopes a ++ arguments_deeds scopes rest
arguments_deeds_first scopes (TextArgument at cs) rest = refl
arguments_deeds_first scopes (ExprArgument e) rest = ap (λ ds. ds ++ arguments_deeds scopes rest) (sym (append-nil (expr_deeds scopes e)))

-- one more, behind the deeds so far
pub argument-done : (scopes : Scopes) (a : ArgumentTree Text) (rest : List (ArgumentTree Text)) (o p : List Deed) → p ≡ o ++ argument_deeds scopes a
    → p ++ arguments_deeds scopes rest ≡ o ++ arguments_deeds scopes (a ∷ rest)
argument-done scopes a rest o p added =
    added_then o p (argument_deeds scopes a) (arguments_deeds scopes rest) added ∙ ap (λ ds. o ++ ds) (sym (arguments_deeds_first scopes a rest))

pub done-step : (scopes : Scopes) (xs : List NextArgument) (k : ℕ) (d : NextArgument) → k < length xs → (o p : List Deed) → p ≡ o ++ argument_deeds scopes (argument_view (get_or xs k d).argument)
    → p ++ arguments_deeds scopes (arguments_in (drop (k + 1) xs)) ≡ o ++ arguments_deeds scopes (arguments_in (drop k xs))
done-step scopes xs k d within o p added =
    rw (drop_more xs k d within) (argument-done scopes (argument_view (get_or xs k d).argument) (arguments_in (drop (k + 1) xs)) o p added)

-- where no argument is left, all is done
pub all-done : (scopes : Scopes) (left : List (ArgumentTree Text)) (o p : List Deed) → left ≡ [] → p ++ arguments_deeds scopes left ≡ o → p ≡ o
all-done scopes left o p none done = sym (append-nil p) ∙ ap (λ xs. p ++ arguments_deeds scopes xs) (sym none) ∙ done

-- ---- calls
cell-held : (t : Option ValueType) → is_some (cell_declared t) ≡ has is_cell t
cell-held None = refl
cell-held (Some t) = refl

pub call-done : (scopes : Scopes) (x : Placed Text) (call : CallTree Text) (holds : Bool) (o p q : List Deed) → holds ≡ is_some (cell_declared (type_declared (lookup scopes x.name)))
    → p ≡ o ++ held_if holds x.at ACellCall → q ≡ p ++ call_argument_deeds scopes call → q ≡ o ++ call_deeds scopes x call
call-done scopes x call holds o p q is held argued =
    argued
    ∙ added_then o p (held_if holds x.at ACellCall) (call_argument_deeds scopes call) held
    ∙ ap (λ b. o ++ (held_if b x.at ACellCall ++ call_argument_deeds scopes call)) (is ∙ cell-held (type_declared (lookup scopes x.name)))
