-- Where statements stand: outside of all foralls, or in a turn of one, which prints nothing and makes no turns of its own.
-- It is said of trees whatever stands for their names; a tree that breaks no rule is one.
use Rattle.dpl_language.specs.Tree.{LoopWord, ForWord, StmtTree, Nothing, Declare, Assigned, Call, Write, Block, If, Headed, Loop, Body, WordBody, BlockBody, Stmts, NoStmts, Then, Else, NoElse, ElseDo}

pub data Standing : Type 0 where
  Outside : Standing
  InTurn : Standing

-- what stands outside of foralls alone
abbrev pub IsOutside : Standing → Type 0
IsOutside Outside = Unit {0}
IsOutside InTurn = ⊥

-- A print and a forall stand outside, and what stands in a forall's body stands in a turn. A task is as a turn here.
abbrev pub LoopMayStand : Standing → LoopWord → Type 0
LoopMayStand w ForWord = Unit {0}
LoopMayStand w _ = IsOutside w

abbrev pub in_body : Standing → LoopWord → Standing
in_body w ForWord = w
in_body w _ = InTurn

module _ {N : Type 0} where
  abbrev mutual
    pub MayStand : Standing → StmtTree N → Type 0
    MayStand w (Nothing at) = Unit {0}
    MayStand w (Declare d) = Unit {0}
    MayStand w (Assigned target sign item semicolon) = Unit {0}
    MayStand w (Call x dot call semicolon) = Unit {0}
    MayStand w (Write t) = IsOutside w
    MayStand w (Block from ts upto) = AllMayStand w ts
    MayStand w (If at e first second) = BodyMayStand w first × ElseMayStand w second
    MayStand w (Headed word at e body) = BodyMayStand w body
    MayStand w (Loop word at xs within item intents body) = LoopMayStand w word × BodyMayStand (in_body w word) body

    pub BodyMayStand : Standing → Body N → Type 0
    BodyMayStand w (WordBody at t) = MayStand w t
    BodyMayStand w (BlockBody from ts upto) = AllMayStand w ts

    pub AllMayStand : Standing → Stmts N → Type 0
    AllMayStand w NoStmts = Unit {0}
    AllMayStand w (Then t rest) = MayStand w t × AllMayStand w rest

    pub ElseMayStand : Standing → Else N → Type 0
    ElseMayStand w NoElse = Unit {0}
    ElseMayStand w (ElseDo at t) = MayStand w t
