-- Each tree that tokens spell is written as specs/Written.antt says.
-- That is less than what is true of every such tree, and of places and tokens nothing is asked.
use Rattle.std.proofs.Common.{ℕ, List, [], ◌∷◌}
use Rattle.dpl_syntax.specs.declared.place.Place.{Place}
use Rattle.dpl_syntax.specs.declared.token.Token.{Token}
use Rattle.dpl_language.specs.Names.{Text}
use Rattle.dpl_language.specs.Tree.{StmtTree, Declare, Block, If, Headed, Loop, Body, WordBody, BlockBody, Stmts, NoStmts, Then, Else, NoElse, ElseDo, VariablesTree, OneVariable, ManyVariables}
use Rattle.dpl_grammar.specs.Each.{Each}
use Rattle.dpl_spelling.specs.Grammar.{Program}
use Rattle.dpl_spelling.specs.Spelt.{IsInner, AreInner, VariablesSpelt, StmtSpelt, BodySpelt, StmtsSpelt, ElseSpelt}
use Rattle.dpl_spelling.specs.Theorem.{Spells}
use Rattle.dpl_spelling.proofs.Spelt.{TokenSpelt}
use Rattle.dpl_spelling.proofs.SpeltStatements.{Spells-spelt}
use Rattle.dpl_runnable.specs.Written.{HasSeveral, IsWrittenStmt, IsWrittenBody, AreWrittenStmts, IsWrittenElse, IsWrittenTop, AreWrittenTops}

abbrev Anywhere : Place → Type 0
Anywhere at = Unit {0}

variables-several : (xs : VariablesTree Text) → VariablesSpelt Anywhere (Unit {0}) xs → HasSeveral xs
variables-several (OneVariable x) s = tt
variables-several (ManyVariables from xs upto) s = s.3

mutual
  stmt-written : (t : StmtTree Text) → StmtSpelt Anywhere (Unit {0}) t → IsInner t → IsWrittenStmt t
  stmt-written (Declare d) s inner = inner
  stmt-written (Block from ts upto) s inner = stmts-written ts s.1 s.3
  stmt-written (If at e first second) s inner = (body-written first s.2, else-written second s.3)
  stmt-written (Headed word at e body) s inner = body-written body s.2
  stmt-written (Loop word at xs within item intents body) s inner = (variables-several xs s.1, body-written body s.5)
  stmt-written _ s inner = tt

  body-written : (b : Body Text) → BodySpelt Anywhere (Unit {0}) b → IsWrittenBody b
  body-written (WordBody at t) s = stmt-written t s.1 s.2
  body-written (BlockBody from ts upto) s = stmts-written ts s.1 s.3

  stmts-written : (ts : Stmts Text) → StmtsSpelt Anywhere (Unit {0}) ts → AreInner ts → AreWrittenStmts ts
  stmts-written NoStmts s inner = tt
  stmts-written (Then t rest) s inner = (stmt-written t s.0 inner.0, stmts-written rest s.1 inner.1)

  else-written : (t : Else Text) → ElseSpelt Anywhere (Unit {0}) t → IsWrittenElse t
  else-written NoElse s = tt
  else-written (ElseDo at t) s = stmt-written t s.1 s.2

top-written : (t : StmtTree Text) → StmtSpelt Anywhere (Unit {0}) t → IsWrittenTop t
top-written (Declare d) s = tt
top-written t s = stmt-written t s tt

tops-written : (ts : Stmts Text) → StmtsSpelt Anywhere (Unit {0}) ts → AreWrittenTops ts
tops-written NoStmts s = tt
tops-written (Then t rest) s = (top-written t s.0, tops-written rest s.1)

each-anywhere : (ts : List Token) → Each (TokenSpelt Anywhere (Unit {0})) ts
each-anywhere [] = tt
each-anywhere (k ∷ ks) = ((tt, λ is. tt), each-anywhere ks)

pub Spells-written : (d : ℕ) (ts : List Token) (t : Program) → Spells d ts t → AreWrittenTops t.stmts
Spells-written d ts t s = tops-written t.stmts (Spells-spelt Anywhere (Unit {0}) d ts t s (each-anywhere ts))
