-- The foralls of a program in the order of its text, those inside loops and tasks too, each with what it has in sight.
-- What a body holds of foralls stands behind the forall itself.
use Rattle.std.specs.Prelude.{List, [], ◌∷◌, ◌++◌, Option}
use Rattle.dpl_syntax.specs.declared.place.Place.{Place}
use Rattle.dpl_language.specs.Tree.{VariablesTree, ItemTree, WithTree, LoopWord, ForallWord, StmtTree, Nothing, Declare, Assigned, Call, Write, Block, If, Headed, Loop, Body, WordBody, BlockBody, Stmts, NoStmts, Then, Else, NoElse, ElseDo}
use Rattle.dpl_language.specs.Names.{Text}
use Rattle.dpl_rules.specs.Sights.{Scopes, enter}
use Rattle.dpl_rules.specs.Loops.{in_loop, behind}
use Rattle.dpl_rules.specs.Deeds.{Deed}
use Rattle.dpl_rules.specs.Doings.{body_deeds}
use Rattle.dpl_rules.specs.Bodies.{ForallScope, forall_scope}

-- a forall, the place of its word, and the scopes that are open around it
pub record ForallIn : Type 0 where
  pub at : Place
  pub scopes : Scopes
  pub variables : VariablesTree Text
  pub over : ItemTree Text
  pub intents : Option (WithTree Text)
  pub body : Body Text

-- a forall as its body's rules see it, and what its body does
abbrev pub scope_in : ForallIn → ForallScope
scope_in f = forall_scope f.scopes f.variables f.intents

abbrev pub deeds_in : ForallIn → List Deed
deeds_in f = body_deeds (in_loop f.scopes ForallWord f.variables f.over) f.body

-- a loop, where it is a forall
abbrev pub forall_by : LoopWord → ForallIn → List ForallIn
forall_by ForallWord f = f ∷ []
forall_by _ f = []

abbrev mutual
  pub foralls : Scopes → StmtTree Text → List ForallIn
  foralls ss (Nothing at) = []
  foralls ss (Declare d) = []
  foralls ss (Assigned target sign item semicolon) = []
  foralls ss (Call x dot call semicolon) = []
  foralls ss (Write w) = []
  foralls ss (Block from ts upto) = all_foralls (enter ss) ts
  foralls ss (If at e first second) = body_foralls (enter ss) first ++ else_foralls (enter ss) second
  foralls ss (Headed word at e body) = body_foralls (enter ss) body
  foralls ss (Loop word at xs within item intents body) =
      forall_by word (record { at = at; scopes = ss; variables = xs; over = item; intents = intents; body = body })
      ++ body_foralls (in_loop ss word xs item) body

  pub body_foralls : Scopes → Body Text → List ForallIn
  body_foralls ss (WordBody at t) = foralls ss t
  body_foralls ss (BlockBody from ts upto) = all_foralls ss ts

  pub all_foralls : Scopes → Stmts Text → List ForallIn
  all_foralls ss NoStmts = []
  all_foralls ss (Then t rest) = foralls ss t ++ all_foralls (behind ss t) rest

  pub else_foralls : Scopes → Else Text → List ForallIn
  else_foralls ss NoElse = []
  else_foralls ss (ElseDo at t) = foralls ss t
