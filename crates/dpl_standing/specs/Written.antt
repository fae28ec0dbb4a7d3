-- The first array of which statements write an element, in the order of their text, whether or not it is reached.
-- It is said of trees whatever stands for their names, and told by what is asked of these.
use Rattle.std.specs.Prelude.{Option, Some, None}
use Rattle.std.specs.Option.{option_or}
use Rattle.dpl_language.specs.Tree.{TargetTree, Whole, Element, StmtTree, Nothing, Declare, Assigned, Call, Write, Block, If, Headed, Loop, Body, WordBody, BlockBody, Stmts, NoStmts, Then, Else, NoElse, ElseDo}

module _ {N M : Type 0} (told : N → M) where
  abbrev pub target_written : TargetTree N → Option M
  target_written (Whole x) = None
  target_written (Element x shape from es upto) = Some (told x.name)

  abbrev mutual
    pub first_written : StmtTree N → Option M
    first_written (Nothing at) = None
    first_written (Declare d) = None
    first_written (Assigned target sign item semicolon) = target_written target
    first_written (Call x dot call semicolon) = None
    first_written (Write t) = None
    first_written (Block from ts upto) = first_among ts
    first_written (If at e first second) = option_or (first_in_body first) (first_in_else second)
    first_written (Headed word at e body) = first_in_body body
    first_written (Loop word at xs within item intents body) = first_in_body body

    pub first_in_body : Body N → Option M
    first_in_body (WordBody at t) = first_written t
    first_in_body (BlockBody from ts upto) = first_among ts

    pub first_among : Stmts N → Option M
    first_among NoStmts = None
    first_among (Then t rest) = option_or (first_written t) (first_among rest)

    pub first_in_else : Else N → Option M
    first_in_else NoElse = None
    first_in_else (ElseDo at t) = first_written t
