-- A lowered tree may stand where the tree may, whatever is known of its names: lowering adds no print and no loop.
-- A body of one statement becomes a list of one, which stands where the statement does.
use Rattle.dpl_language.specs.Tree.{StmtTree, Write, Block, If, Headed, Loop, Body, WordBody, BlockBody, Stmts, NoStmts, Then, Else, NoElse, ElseDo}
use Rattle.dpl_lowered.specs.Known.{Known}
use Rattle.dpl_lowered.specs.LoweredStatements.{lowered_stmt, lowered_body, lowered_stmts, lowered_else}
use Rattle.dpl_standing.specs.Standing.{Standing, in_body, MayStand, BodyMayStand, AllMayStand, ElseMayStand}

module _ {N : Type 0} (known : N → Known) where
  mutual
    pub stands-lowered : (w : Standing) (t : StmtTree N) → MayStand w t → MayStand w (lowered_stmt known t)
    stands-lowered w (Write t) h = h
    stands-lowered w (Block from ts upto) h = stmts_stand-lowered w ts h
    stands-lowered w (If at e first second) h = (body_stands-lowered w first h.0, else_stands-lowered w second h.1)
    stands-lowered w (Headed word at e body) h = body_stands-lowered w body h
    stands-lowered w (Loop word at xs within item intents body) h = (h.0, body_stands-lowered (in_body w word) body h.1)
    stands-lowered w _ h = tt

    pub body_stands-lowered : (w : Standing) (t : Body N) → BodyMayStand w t → BodyMayStand w (lowered_body known t)
    body_stands-lowered w (WordBody at t) h = (stands-lowered w t h, tt)
    body_stands-lowered w (BlockBody from ts upto) h = stmts_stand-lowered w ts h

    pub stmts_stand-lowered : (w : Standing) (ts : Stmts N) → AllMayStand w ts → AllMayStand w (lowered_stmts known ts)
    stmts_stand-lowered w NoStmts h = tt
    stmts_stand-lowered w (Then t rest) h = (stands-lowered w t h.0, stmts_stand-lowered w rest h.1)

    pub else_stands-lowered : (w : Standing) (t : Else N) → ElseMayStand w t → ElseMayStand w (lowered_else known t)
    else_stands-lowered w NoElse h = tt
    else_stands-lowered w (ElseDo at t) h = stands-lowered w t h
