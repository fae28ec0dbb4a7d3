-- The rules on what the body of a forall or of a coforall does, C6 to C10, one function a rule; and C7 elsewhere.
-- Outer is what is declared outside the loop, its variables not among it.
use Rattle.std.specs.Prelude.{ℕ, ◌+◌, ◌==◌, Bool, true, false, not, ◌&&◌, ◌||◌, bytes_eq, if◌then◌else◌, List, [], ◌∷◌, ◌++◌, map, Option}
use Rattle.dpl_language.specs.Tree.{Placed, VariablesTree, WithTree, Op, Sum, Product, Assign, SetAdd, SetMultiply, SetReduce, ItemTree, TargetTree, Whole, Element}
use Rattle.dpl_language.specs.Names.{Text}
use Rattle.dpl_rules.specs.Types.{Origin, same_origin, ValueType, is_any_scalar, is_domain, is_array, is_promoted, is_locale, has}
use Rattle.dpl_syntax.specs.declared.refusal.Code.TheVariants.{WrittenElsewhere, ReadElsewhere, OuterChanged, NotInForall, NotInCoforall}
use Rattle.dpl_syntax.specs.declared.refusal.Breach.{Breach}
use Rattle.dpl_rules.specs.Verdicts.{owed, where_given}
use Rattle.dpl_rules.specs.Sights.{Declared, Scopes, lookup, is_outside, Reducing, is_reduced}
use Rattle.dpl_rules.specs.Expressions.{item_type}
use Rattle.dpl_rules.specs.Loops.{variables_of, reducing_in}
use Rattle.dpl_rules.specs.Deeds.{IndexPart, AtName, Holding, ACellCall, AnOn, AHere, AReduceIntent, Deed, Reads, ReadsAt, Writes, WritesAt, Holds, each, item_deeds}

-- a forall as its body's rules see it: its variables, its reduce variables, and how many scopes are open around it
pub record ForallScope : Type 0 where
  pub variables : List Text
  pub reducing : Reducing

abbrev pub names_of : List (Placed Text) → List Text
names_of xs = map {A = Placed Text} {B = Text} (λ x. x.name) xs

-- a forall that stands where these scopes are open
abbrev pub forall_scope : Scopes → VariablesTree Text → Option (WithTree Text) → ForallScope
forall_scope ss xs intents = record { variables = names_of (variables_of xs); reducing = reducing_in ss intents }

abbrev pub is_outer : ForallScope → Declared → Bool
is_outer loop d = is_outside loop.reducing.depth d

-- ---- the own index: the loop's variables in order, or its tuple name
-- the loop's variables stand in the scope that it opens
abbrev pub is_variable : ForallScope → Text → Declared → Bool
is_variable loop x d = d.origin.depth == loop.reducing.depth + 1 && bytes_eq x d.origin.name

abbrev pub is_variable_at : ForallScope → Text → IndexPart → Bool
is_variable_at loop x (AtName d) = is_variable loop x d
is_variable_at loop x _ = false

abbrev pub are_variables : ForallScope → List Text → List IndexPart → Bool
are_variables loop [] [] = true
are_variables loop (x ∷ xs) (i ∷ is) = is_variable_at loop x i && are_variables loop xs is
are_variables loop _ _ = false

abbrev pub is_own : ForallScope → List IndexPart → Bool
is_own loop is = are_variables loop loop.variables is

-- ---- what a body writes
-- an outer array
abbrev pub is_outer_array : ForallScope → Declared → Bool
is_outer_array loop d = is_outer loop d && has is_array d.type

abbrev pub written_by : ForallScope → Declared → List Origin
written_by loop d = if is_outer_array loop d then d.origin ∷ [] else []

-- the outer arrays that a body writes
abbrev pub written_arrays : ForallScope → List Deed → List Origin
written_arrays loop [] = []
written_arrays loop (Writes at d op ∷ ds) = written_by loop d ++ written_arrays loop ds
written_arrays loop (WritesAt at d is op ∷ ds) = written_by loop d ++ written_arrays loop ds
written_arrays loop (_ ∷ ds) = written_arrays loop ds

abbrev pub is_in : Origin → List Origin → Bool
is_in o [] = false
is_in o (p ∷ ps) = same_origin o p || is_in o ps

-- ---- C6: a forall writes an outer array at its own index alone
abbrev pub write_breaches : ForallScope → Deed → List Breach
write_breaches loop (Writes at d op) = owed (not (is_outer_array loop d)) at WrittenElsewhere
write_breaches loop (WritesAt at d is op) = owed (not (is_outer_array loop d) || is_own loop is) at WrittenElsewhere
write_breaches loop _ = []

-- ---- C7: an array that a forall writes is read at its own index alone
abbrev pub read_breaches : ForallScope → List Origin → Deed → List Breach
read_breaches loop written (Reads at d) = owed (not (is_in d.origin written)) at ReadElsewhere
read_breaches loop written (ReadsAt at d is) = owed (not (is_in d.origin written) || is_own loop is) at ReadElsewhere
read_breaches loop written _ = []

-- ---- C8: an outer scalar, locale or domain is changed through its reduce intent alone, and a reduce variable isn't read
-- `reduce=` goes on with every operator, `+=` with `+` and `*=` with `*`
abbrev pub goes_on : Assign → Op → Bool
goes_on SetReduce op = true
goes_on SetAdd Sum = true
goes_on SetMultiply Product = true
goes_on _ _ = false

-- the assignment goes on with the operator of the intent that names the variable
abbrev pub goes_on_in : List (Text × Op) → Text → Assign → Bool
goes_on_in [] x op = false
goes_on_in (v ∷ vs) x op = if bytes_eq x v.0 then goes_on op v.1 else goes_on_in vs x op

abbrev pub is_scalar_or_domain : ValueType → Bool
is_scalar_or_domain t = is_any_scalar t || is_locale t || is_domain t

-- a name that may be written so: it isn't outer, or is no scalar or domain, or the assignment goes on with its intent
abbrev pub may_change : ForallScope → Declared → Assign → Bool
may_change loop d op =
    not (is_outer loop d) || (not (has is_scalar_or_domain d.type) || goes_on_in loop.reducing.variables d.origin.name op)

abbrev pub change_breaches : ForallScope → Deed → List Breach
change_breaches loop (Reads at d) = owed (not (is_reduced loop.reducing d)) at OuterChanged
change_breaches loop (ReadsAt at d is) = owed (not (is_reduced loop.reducing d)) at OuterChanged
change_breaches loop (Writes at d op) = owed (may_change loop d op) at OuterChanged
change_breaches loop (WritesAt at d is op) = owed (may_change loop d op) at OuterChanged
change_breaches loop (Holds at h) = []

-- ---- C9: a forall's body holds no print, forall, coforall, reduction, cell call, `on`, `here`, and declares no array,
-- domain or cell
abbrev pub forall_holds : Holding → Bool
forall_holds AReduceIntent = true
forall_holds _ = false

abbrev pub holding_breaches : Deed → List Breach
holding_breaches (Holds at h) = owed (forall_holds h) at NotInForall
holding_breaches _ = []

-- ---- a forall's body, deed by deed
abbrev pub deed_breaches : ForallScope → List Origin → Deed → List Breach
deed_breaches loop written d =
    write_breaches loop d ++ read_breaches loop written d ++ change_breaches loop d ++ holding_breaches d

abbrev pub forall_breaches : ForallScope → List Deed → List Breach
forall_breaches loop ds = each (deed_breaches loop (written_arrays loop ds)) ds

-- ---- C10: a coforall's body writes no outer name, holds no print, forall, coforall, reduction or reduce intent, and
-- declares no array, domain or cell
abbrev pub task_holds : Holding → Bool
task_holds ACellCall = true
task_holds AnOn = true
task_holds AHere = true
task_holds _ = false

abbrev pub task_deed : ℕ → Deed → List Breach
task_deed depth (Writes at d op) = owed (not (is_outside depth d)) at NotInCoforall
task_deed depth (WritesAt at d is op) = owed (not (is_outside depth d)) at NotInCoforall
task_deed depth (Holds at h) = owed (task_holds h) at NotInCoforall
task_deed depth _ = []

abbrev pub task_breaches : ℕ → List Deed → List Breach
task_breaches depth ds = each (task_deed depth) ds

-- ---- C7 in a promoted assignment: it doesn't read its target by an index list
abbrev pub element_read : Origin → Deed → List Breach
element_read o (ReadsAt at d is) = owed (not (same_origin o d.origin)) at ReadElsewhere
element_read o _ = []

abbrev pub whole_target : Option Declared → List Deed → List Breach
whole_target d ds = where_given d (λ d. if has is_array d.type then each (element_read d.origin) ds else [])

abbrev pub promoted_breaches : Scopes → TargetTree Text → ItemTree Text → List Breach
promoted_breaches ss (Whole x) item =
    if has is_promoted (item_type ss item) then whole_target (lookup ss x.name) (item_deeds ss item) else []
promoted_breaches ss (Element x shape from es upto) item = []
