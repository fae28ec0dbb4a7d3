-- Where the statements of a tree stand, in the order of its text: a statement with a body before what stands in it.
-- It is said of trees whatever stands for their names.
use Rattle.std.specs.Prelude.{List, [], ◌∷◌, ◌++◌}
use Rattle.dpl_syntax.specs.declared.place.Place.{Place}
use Rattle.dpl_language.specs.Tree.{TargetTree, Whole, Element, StmtTree, Nothing, Declare, Assigned, Call, Write, Block, If, Headed, Loop, Body, WordBody, BlockBody, Stmts, NoStmts, Then, Else, NoElse, ElseDo}

module _ {N : Type 0} where
  abbrev pub target_place : TargetTree N → Place
  target_place (Whole x) = x.at
  target_place (Element x shape from es upto) = x.at

  -- A declaration stands at `const` or `var`, an assignment or a cell's call at its name, and each other statement at its first token.
  abbrev mutual
    pub stmt_places : StmtTree N → List Place
    stmt_places (Nothing at) = at ∷ []
    stmt_places (Declare d) = d.at ∷ []
    stmt_places (Assigned target sign item semicolon) = target_place target ∷ []
    stmt_places (Call x dot call semicolon) = x.at ∷ []
    stmt_places (Write w) = w.at ∷ []
    stmt_places (Block from ts upto) = from ∷ stmts_places ts
    stmt_places (If at e first second) = at ∷ body_places first ++ else_places second
    stmt_places (Headed word at e body) = at ∷ body_places body
    stmt_places (Loop word at xs within item intents body) = at ∷ body_places body

    pub body_places : Body N → List Place
    body_places (WordBody at t) = stmt_places t
    body_places (BlockBody from ts upto) = stmts_places ts

    pub stmts_places : Stmts N → List Place
    stmts_places NoStmts = []
    stmts_places (Then t rest) = stmt_places t ++ stmts_places rest

    pub else_places : Else N → List Place
    else_places NoElse = []
    else_places (ElseDo at t) = stmt_places t
