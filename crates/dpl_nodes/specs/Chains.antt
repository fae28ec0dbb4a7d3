-- A chain of operators, or of posts, of which the first ones have been walked.
use Rattle.std.specs.Prelude.{◌≡◌}
use Rattle.dpl_language.specs.Tree.{ExprTree, Links, Posts}
use Rattle.dpl_lowered.specs.Shapes.{grouped, stacked_on}
use Rattle.dpl_memory.specs.Memory.{Variable}

-- What came so far is a tree of which something holds, and with the operands that are left it is the whole.
pub record IsSoFar (whole : ExprTree Variable) (left : Links Variable) (Holds : ExprTree Variable → Type 0) : Type 0 where
  pub tree : ExprTree Variable
  pub same : grouped tree left ≡ whole
  pub holds : Holds tree

-- The same of posts behind a base.
pub record IsPostedSoFar (whole : ExprTree Variable) (left : Posts Variable) (Holds : ExprTree Variable → Type 0) : Type 0 where
  pub tree : ExprTree Variable
  pub same : stacked_on tree left ≡ whole
  pub holds : Holds tree
