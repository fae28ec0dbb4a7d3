-- What is known around a statement: each name in sight has a type of some kind, and the forall around, if there is one, breaks
-- no rule, so that its body holds no other forall and changes its reduce variables by `reduce=`.
use Rattle.std.proofs.Common.{◌≡◌, true, List, [], ◌∷◌, ◌++◌, Option, Some, None, refl}
use Rattle.dpl_syntax.specs.declared.place.Place.{Place}
use Rattle.dpl_language.specs.Tree.{Op, ItemTree, VariablesTree, WithTree, LoopWord, StmtTree, Declare}
use Rattle.dpl_language.specs.Names.{Text}
use Rattle.dpl_language.specs.Phrases.{intents_of}
use Rattle.dpl_agreement.specs.Renamed.{renamed_intents}
use Rattle.dpl_spelling.specs.Spelt.{ItemSpelt, StmtSpelt}
use Rattle.dpl_agreement.specs.Untasked.{UntaskedItem, UntaskedStmt}
use Rattle.dpl_rules.specs.Types.{Origin}
use Rattle.dpl_rules.specs.Sights.{Scopes, Reducing, Sight, lookup, enter}
use Rattle.dpl_rules.specs.Assignments.{may_reduce_in}
use Rattle.dpl_rules.specs.Declarations.{declared_by}
use Rattle.dpl_rules.specs.Loops.{header_breaches, with_breaches, reducing_in, in_loop, behind}
use Rattle.dpl_rules.specs.Deeds.{AForall, Deed, Holds, each}
use Rattle.dpl_rules.specs.Bodies.{forall_scope, deed_breaches}
use Rattle.dpl_rules.specs.Breaches.{stmt_breaches}
use Rattle.dpl_rules.proofs.Admission.{first-each, second-each}
use Rattle.dpl_memory.specs.Memory.{VariableKind}
use Rattle.dpl_memory.specs.Resolved.{Bound}
use Rattle.dpl_typed.specs.Leaves.{kind_in}
use Rattle.dpl_bound.specs.Sights.{bound_in}
use Rattle.dpl_runnable.specs.Kinds.{AreVariables, IsScalarKind}
use Rattle.dpl_runnable.specs.Runnable.{IsReduced}
use Rattle.dpl_runnable.proofs.Scopes.{enter-variables, in_loop-variables, declaration-variables}
use Rattle.dpl_runnable.proofs.Changes.{untasked}
use Rattle.dpl_runnable.proofs.Reduced.{IsInside, inside-enter, inside-add, inside-loop, reduced}

-- a forall: the scopes around it, its variables and its intents; and the arrays that its body writes
pub record Turning : Type 0 where
  pub outer : Scopes
  pub variables : VariablesTree Text
  pub intents : Option (WithTree Text)
  pub written : List Origin

-- ---- what a statement has in sight, in the body of a forall or in none
abbrev pub forall_by : Option Turning → Option Reducing
forall_by None = None
forall_by (Some f) = Some (reducing_in f.outer f.intents)

abbrev pub intents_by : Option Turning → List (Bound × Op)
intents_by None = []
intents_by (Some f) = renamed_intents (bound_in f.outer) (intents_of f.intents)

abbrev pub sight_by : Option Turning → Scopes → Sight
sight_by f scopes = untasked scopes (forall_by f)

pub record IsUnbroken (f : Turning) (scopes : Scopes) : Type 0 where
  pub names : AreVariables f.outer
  pub told : with_breaches f.outer f.intents ≡ []
  pub inside : IsInside f.outer scopes

abbrev pub IsAround : Option Turning → Scopes → Type 0
IsAround None scopes = Unit {0}
IsAround (Some f) scopes = IsUnbroken f scopes

pub record Stands (f : Option Turning) (scopes : Scopes) : Type 0 where
  pub names : AreVariables scopes
  pub around : IsAround f scopes

-- ---- what it may do
abbrev pub MayDoIn : Option Turning → List Deed → Type 0
MayDoIn None ds = Unit {0}
MayDoIn (Some f) ds = each (deed_breaches (forall_scope f.outer f.variables f.intents) f.written) ds ≡ []

pub first-done : (f : Option Turning) (ds es : List Deed) → MayDoIn f (ds ++ es) → MayDoIn f ds
first-done None ds es m = tt
first-done (Some f) ds es m = first-each (deed_breaches (forall_scope f.outer f.variables f.intents) f.written) ds es m

pub second-done : (f : Option Turning) (ds es : List Deed) → MayDoIn f (ds ++ es) → MayDoIn f es
second-done None ds es m = tt
second-done (Some f) ds es m = second-each (deed_breaches (forall_scope f.outer f.variables f.intents) f.written) ds es m

-- no forall stands in a forall
pub forall-refuted : (f : Turning) (at : Place) (ds : List Deed) → MayDoIn (Some f) (Holds at AForall ∷ ds) → ⊥
forall-refuted f at ds m = absurd cc

-- ---- in the scopes of blocks and loops, and behind statements
enter-around : (f : Option Turning) (scopes : Scopes) → IsAround f scopes → IsAround f (enter scopes)
enter-around None scopes around = tt
enter-around (Some f) scopes around = record { names = around.names; told = around.told; inside = inside-enter f.outer scopes around.inside }

loop-around : (f : Option Turning) (word : LoopWord) (xs : VariablesTree Text) (item : ItemTree Text) (scopes : Scopes) → IsAround f scopes → IsAround f (in_loop scopes word xs item)
loop-around None word xs item scopes around = tt
loop-around (Some f) word xs item scopes around =
    record { names = around.names; told = around.told; inside = inside-loop f.outer scopes word xs item (inside-enter f.outer scopes around.inside) }

pub enter-stands : (f : Option Turning) (scopes : Scopes) → Stands f scopes → Stands f (enter scopes)
enter-stands f scopes s = record { names = enter-variables scopes s.names; around = enter-around f scopes s.around }

module _ (P : Place → Type 0) (scopes : Scopes) where
  pub loop-stands : (f : Option Turning) (word : LoopWord) (xs : VariablesTree Text) (item : ItemTree Text) → Stands f scopes → ItemSpelt P ⊥ item → UntaskedItem item
      → header_breaches scopes word xs item ≡ [] → Stands f (in_loop scopes word xs item)
  loop-stands f word xs item at s c h = record { names = in_loop-variables scopes P at.names word xs item s c h; around = loop-around f word xs item scopes at.around }

  behind-around : (f : Option Turning) (t : StmtTree Text) → IsAround f scopes → IsAround f (behind scopes t)
  behind-around None t around = tt
  behind-around (Some f) (Declare d) around =
      record { names = around.names; told = around.told; inside = inside-add f.outer scopes (declared_by scopes d) refl around.inside }
  behind-around (Some f) _ around = around

  behind-variables : (f : Option Turning) (t : StmtTree Text) → AreVariables scopes → StmtSpelt P ⊥ t → UntaskedStmt t → stmt_breaches (sight_by f scopes) t ≡ [] → AreVariables (behind scopes t)
  behind-variables f (Declare d) names s c h = declaration-variables scopes P names d s c h
  behind-variables f _ names s c h = names

  pub behind-stands : (f : Option Turning) (t : StmtTree Text) → Stands f scopes → StmtSpelt P ⊥ t → UntaskedStmt t → stmt_breaches (sight_by f scopes) t ≡ [] → Stands f (behind scopes t)
  behind-stands f t at s c h = record { names = behind-variables f t at.names s c h; around = behind-around f t at.around }

-- ---- `reduce=`: outside foralls there is none
pub reduced-around : (f : Option Turning) (scopes : Scopes) → IsAround f scopes → (x : Text) (k : VariableKind) → kind_in scopes x ≡ Some k → may_reduce_in (forall_by f) (lookup scopes x) ≡ true
    → IsReduced scopes (intents_by f) x k × IsScalarKind k
reduced-around None scopes around x k kind h = absurd cc
reduced-around (Some f) scopes around x k kind h = reduced f.outer around.names f.intents around.told scopes around.inside x k kind h
