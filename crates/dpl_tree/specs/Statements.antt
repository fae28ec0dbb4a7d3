-- The plain statement and the plain program that those in memory stand for.
-- What is written as a text stands for the bytes that its escapes mean.
use Rattle.std.specs.Prelude.{ℕ, List, [], ◌∷◌, map, None}
use Rattle.dpl_syntax.specs.Text.{text_value}
use Rattle.dpl_tree.specs.View.{Spelled, name_view, expr_view, exprs_view, item_view}
use Rattle.dpl_tree.specs.Declarations.{optional, declare_view}
use Rattle.dpl_tree.specs.declared.statement.Argument.{Argument}
use Rattle.dpl_tree.specs.declared.statement.Argument.TheVariants.{Text, Expr}
use Rattle.dpl_tree.specs.declared.statement.NextArgument.{NextArgument}
use Rattle.dpl_tree.specs.declared.statement.Arguments.{Arguments}
use Rattle.dpl_tree.specs.declared.statement.Write.{Write as WriteNode}
use Rattle.dpl_tree.specs.declared.statement.Intent.{Intent}
use Rattle.dpl_tree.specs.declared.statement.Intent.TheVariants.{Reduce, Ref}
use Rattle.dpl_tree.specs.declared.statement.NextIntent.{NextIntent}
use Rattle.dpl_tree.specs.declared.statement.With.{With}
use Rattle.dpl_tree.specs.declared.statement.NextName.{NextName}
use Rattle.dpl_tree.specs.declared.statement.Variables.{Variables}
use Rattle.dpl_tree.specs.declared.statement.Variables.TheVariants as variables
use Rattle.dpl_tree.specs.declared.statement.Target.{Target}
use Rattle.dpl_tree.specs.declared.statement.Target.TheVariants as target
use Rattle.dpl_tree.specs.declared.statement.AssignSign.{AssignSign}
use Rattle.dpl_tree.specs.declared.statement.Call.{Call as CallNode}
use Rattle.dpl_tree.specs.declared.statement.Call.TheVariants as call
use Rattle.dpl_tree.specs.declared.statement.HeadWord.{HeadWord as HeadWordNode}
use Rattle.dpl_tree.specs.declared.statement.HeadWord.TheVariants as head
use Rattle.dpl_tree.specs.declared.statement.ParallelWord.{ParallelWord}
use Rattle.dpl_tree.specs.declared.statement.ParallelWord.TheVariants as parallel
use Rattle.dpl_tree.specs.declared.statement.Stmt.{Stmt, Nothing as NothingNode, Declare as DeclareNode, Assigned as AssignedNode, Call as CellCallNode, Write as WriteStmt, Block', If', Headed', For', Parallel', Row_of-Stmt, end_of-Stmt, more_of-Stmt}
use Rattle.dpl_tree.specs.declared.statement.Body.{Body as BodyNode, Word', Block' as BlockBody'}
use Rattle.dpl_tree.specs.declared.statement.Else.{Else as ElseNode, Absent, Do'}
use Rattle.dpl_tree.specs.declared.statement.ModuleName.{ModuleName}
use Rattle.dpl_tree.specs.declared.statement.NextModule.{NextModule}
use Rattle.dpl_tree.specs.declared.statement.Use.{Use}
use Rattle.dpl_tree.specs.declared.statement.Program.{Program}
use Rattle.dpl_language.specs.Tree.{Placed, AfterComma, Listed, ArgumentTree, TextArgument, ExprArgument, WriteTree, IntentTree, ReduceIntent, RefIntent, WithTree, VariablesTree, OneVariable, ManyVariables, TargetTree, Whole, Element, AssignTree, CallTree, ReadCall, ResetCall, WriteCall, HeadWord, WhileWord, OnWord, LoopWord, ForWord, ForallWord, CoforallWord, StmtTree, Nothing, Declare, Assigned, Call, Write, Block, If, Headed, Loop, Body, WordBody, BlockBody, Stmts, NoStmts, Then, Else, NoElse, ElseDo, ModuleTree, UseTree, ProgramTree}

abbrev pub argument_view : Argument → Spelled ArgumentTree
argument_view (Text at bytes) = TextArgument at (text_value bytes.now)
argument_view (Expr e) = ExprArgument (expr_view e.now)

abbrev pub next_argument_view : NextArgument → AfterComma (Spelled ArgumentTree)
next_argument_view n = record { comma = n.comma; part = argument_view n.argument }

abbrev pub arguments_view : Arguments → Listed (Spelled ArgumentTree)
arguments_view a = record { first = argument_view a.first; others = map next_argument_view a.others.now }

abbrev pub written_view : WriteNode → Spelled WriteTree
written_view w = record { at = w.at; ends_line = w.ends_line; from = w.from; arguments = optional arguments_view w.arguments; upto = w.upto; semicolon = w.semicolon }

abbrev pub intent_view : Intent → Spelled IntentTree
intent_view (Reduce at op word x) = ReduceIntent at op word (name_view x)
intent_view (Ref at x) = RefIntent at (name_view x)

abbrev pub next_intent_view : NextIntent → AfterComma (Spelled IntentTree)
next_intent_view n = record { comma = n.comma; part = intent_view n.intent }

abbrev pub with_view : With → Spelled WithTree
with_view w = record { at = w.at; from = w.from; intents = record { first = intent_view w.first; others = map next_intent_view w.others.now }; upto = w.upto }

abbrev pub next_name_view : NextName → AfterComma (Placed (List ℕ))
next_name_view n = record { comma = n.comma; part = name_view n.name }

abbrev pub variables_view : Variables → Spelled VariablesTree
variables_view (variables.One x) = OneVariable (name_view x)
variables_view (variables.Many from first others upto) = ManyVariables from (record { first = name_view first; others = map next_name_view others.now }) upto

abbrev pub target_view : Target → Spelled TargetTree
target_view (target.Whole x) = Whole (name_view x)
target_view (target.Element e) = Element (name_view e.now.name) e.now.shape e.now.from (exprs_view e.now.exprs) e.now.upto

abbrev pub sign_view : AssignSign → AssignTree
sign_view s = record { at = s.at; op = s.op; last = s.last }

abbrev pub call_view : CallNode → Spelled CallTree
call_view (call.Read at word from upto) = ReadCall at word from upto
call_view (call.Reset at from upto) = ResetCall at from upto
call_view (call.Write at word from e upto) = WriteCall at word from (expr_view e.now) upto

abbrev pub head_word : HeadWordNode → HeadWord
head_word head.While = WhileWord
head_word head.On = OnWord

abbrev pub parallel_word : ParallelWord → LoopWord
parallel_word parallel.Forall = ForallWord
parallel_word parallel.Coforall = CoforallWord

abbrev mutual
  pub stmt_view : Stmt → Spelled StmtTree
  stmt_view (NothingNode at) = Nothing at
  stmt_view (DeclareNode d) = Declare (declare_view d.now)
  stmt_view (AssignedNode a) = Assigned (target_view a.now.target) (sign_view a.now.sign) (item_view a.now.value) a.now.semicolon
  stmt_view (CellCallNode c) = Call (name_view c.now.name) c.now.dot (call_view c.now.call) c.now.semicolon
  stmt_view (WriteStmt w) = Write (written_view w.now)
  stmt_view (Block' p from q shape row upto) = Block from (stmts_view row) upto
  stmt_view (If' p at condition body otherwise) = If at (expr_view condition.now) (body_view body) (else_view otherwise)
  stmt_view (Headed' p word at e body) = Headed (head_word word) at (expr_view e.now) (body_view body)
  stmt_view (For' p at xs within over body) = Loop ForWord at (variables_view xs) within (item_view over) None (body_view body)
  stmt_view (Parallel' p word at xs within over with body) = Loop (parallel_word word) at (variables_view xs) within (item_view over) (optional with_view with) (body_view body)

  pub body_view : BodyNode → Spelled Body
  body_view (Word' at p s) = WordBody at (stmt_view s)
  body_view (BlockBody' from p shape row upto) = BlockBody from (stmts_view row) upto

  pub else_view : ElseNode → Spelled Else
  else_view Absent = NoElse
  else_view (Do' at p s) = ElseDo at (stmt_view s)

  pub stmts_view : {m : _} → Row_of-Stmt m → Spelled Stmts
  stmts_view end_of-Stmt = NoStmts
  stmts_view (more_of-Stmt s row) = Then (stmt_view s) (stmts_view row)

-- the same for a list of statements
abbrev pub stmts_of : List Stmt → Spelled Stmts
stmts_of [] = NoStmts
stmts_of (s ∷ ss) = Then (stmt_view s) (stmts_of ss)

abbrev pub module_name_view : ModuleName → ModuleTree
module_name_view m = record { at = m.at; word = m.word }

abbrev pub next_module_view : NextModule → AfterComma ModuleTree
next_module_view n = record { comma = n.comma; part = module_name_view n.module }

abbrev pub use_view : Use → UseTree
use_view u = record { at = u.at; modules = record { first = module_name_view u.first; others = map next_module_view u.others.now }; semicolon = u.semicolon }

abbrev pub program_view : Program → Spelled ProgramTree
program_view p = record { uses = map use_view p.uses.now; stmts = stmts_of p.stmts.now; end = p.end }
