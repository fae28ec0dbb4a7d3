-- What is true of each tree that tokens spell and that its names and places don't say: a loop's brackets hold two variables or
-- more, and a `config const` stands at the top level alone.
use Rattle.std.specs.Prelude.{◌≡◌, None}
use Rattle.dpl_language.specs.Tree.{StmtTree, Nothing, Declare, Assigned, Call, Write, Block, If, Headed, Loop, Body, WordBody, BlockBody, Stmts, NoStmts, Then, Else, NoElse, ElseDo}
use Rattle.dpl_language.specs.Names.{Text}
pub use Rattle.dpl_heads.specs.Plain.{HasSeveral}

-- ---- statements below the top level
abbrev mutual
  pub IsWrittenStmt : StmtTree Text → Type 0
  IsWrittenStmt (Nothing at) = Unit {0}
  IsWrittenStmt (Declare d) = d.config ≡ None
  IsWrittenStmt (Assigned target sign item semicolon) = Unit {0}
  IsWrittenStmt (Call x dot call semicolon) = Unit {0}
  IsWrittenStmt (Write w) = Unit {0}
  IsWrittenStmt (Block from ts upto) = AreWrittenStmts ts
  IsWrittenStmt (If at e first second) = IsWrittenBody first × IsWrittenElse second
  IsWrittenStmt (Headed word at e body) = IsWrittenBody body
  IsWrittenStmt (Loop word at xs within item intents body) = HasSeveral xs × IsWrittenBody body

  pub IsWrittenBody : Body Text → Type 0
  IsWrittenBody (WordBody at t) = IsWrittenStmt t
  IsWrittenBody (BlockBody from ts upto) = AreWrittenStmts ts

  pub AreWrittenStmts : Stmts Text → Type 0
  AreWrittenStmts NoStmts = Unit {0}
  AreWrittenStmts (Then t rest) = IsWrittenStmt t × AreWrittenStmts rest

  pub IsWrittenElse : Else Text → Type 0
  IsWrittenElse NoElse = Unit {0}
  IsWrittenElse (ElseDo at t) = IsWrittenStmt t

-- ---- the top level
abbrev pub IsWrittenTop : StmtTree Text → Type 0
IsWrittenTop (Declare d) = Unit {0}
IsWrittenTop t = IsWrittenStmt t

abbrev pub AreWrittenTops : Stmts Text → Type 0
AreWrittenTops NoStmts = Unit {0}
AreWrittenTops (Then t rest) = IsWrittenTop t × AreWrittenTops rest
