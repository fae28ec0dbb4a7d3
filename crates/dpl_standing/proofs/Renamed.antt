-- Where a tree may stand doesn't depend on its names: with other things in their place it may stand there too.
-- From a renamed tree to the tree, and back.
use Rattle.dpl_language.specs.Tree.{StmtTree, Write, Block, If, Headed, Loop, Body, WordBody, BlockBody, Stmts, NoStmts, Then, Else, NoElse, ElseDo}
use Rattle.dpl_agreement.specs.Renamed.{renamed_stmt, renamed_body, renamed_stmts, renamed_else}
use Rattle.dpl_standing.specs.Standing.{Standing, in_body, MayStand, BodyMayStand, AllMayStand, ElseMayStand}

module _ {M N : Type 0} (f : M → N) where
  -- ---- a tree whose renamed tree may stand somewhere
  mutual
    pub renamed-stands : (w : Standing) (t : StmtTree M) → MayStand w (renamed_stmt f t) → MayStand w t
    renamed-stands w (Write t) h = h
    renamed-stands w (Block from ts upto) h = renamed_stmts-stand w ts h
    renamed-stands w (If at e first second) h = (renamed_body-stands w first h.0, renamed_else-stands w second h.1)
    renamed-stands w (Headed word at e body) h = renamed_body-stands w body h
    renamed-stands w (Loop word at xs within item intents body) h = (h.0, renamed_body-stands (in_body w word) body h.1)
    renamed-stands w _ h = tt

    pub renamed_body-stands : (w : Standing) (t : Body M) → BodyMayStand w (renamed_body f t) → BodyMayStand w t
    renamed_body-stands w (WordBody at t) h = renamed-stands w t h
    renamed_body-stands w (BlockBody from ts upto) h = renamed_stmts-stand w ts h

    pub renamed_stmts-stand : (w : Standing) (ts : Stmts M) → AllMayStand w (renamed_stmts f ts) → AllMayStand w ts
    renamed_stmts-stand w NoStmts h = tt
    renamed_stmts-stand w (Then t rest) h = (renamed-stands w t h.0, renamed_stmts-stand w rest h.1)

    pub renamed_else-stands : (w : Standing) (t : Else M) → ElseMayStand w (renamed_else f t) → ElseMayStand w t
    renamed_else-stands w NoElse h = tt
    renamed_else-stands w (ElseDo at t) h = renamed-stands w t h

  -- ---- a renamed tree
  mutual
    pub stands-renamed : (w : Standing) (t : StmtTree M) → MayStand w t → MayStand w (renamed_stmt f t)
    stands-renamed w (Write t) h = h
    stands-renamed w (Block from ts upto) h = stmts_stand-renamed w ts h
    stands-renamed w (If at e first second) h = (body_stands-renamed w first h.0, else_stands-renamed w second h.1)
    stands-renamed w (Headed word at e body) h = body_stands-renamed w body h
    stands-renamed w (Loop word at xs within item intents body) h = (h.0, body_stands-renamed (in_body w word) body h.1)
    stands-renamed w _ h = tt

    pub body_stands-renamed : (w : Standing) (t : Body M) → BodyMayStand w t → BodyMayStand w (renamed_body f t)
    body_stands-renamed w (WordBody at t) h = stands-renamed w t h
    body_stands-renamed w (BlockBody from ts upto) h = stmts_stand-renamed w ts h

    pub stmts_stand-renamed : (w : Standing) (ts : Stmts M) → AllMayStand w ts → AllMayStand w (renamed_stmts f ts)
    stmts_stand-renamed w NoStmts h = tt
    stmts_stand-renamed w (Then t rest) h = (stands-renamed w t h.0, stmts_stand-renamed w rest h.1)

    pub else_stands-renamed : (w : Standing) (t : Else M) → ElseMayStand w t → ElseMayStand w (renamed_else f t)
    else_stands-renamed w NoElse h = tt
    else_stands-renamed w (ElseDo at t) h = stands-renamed w t h
