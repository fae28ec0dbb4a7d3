-- The grammar of statements. Above each rule stands its line of the grammar.
-- A body that is no block goes one level deeper, from its first token on; an `else` belongs to the nearest `if` that can take it.
use Rattle.std.specs.Prelude.{ℕ, Bool, true, false, List, [], ◌∷◌, Option, None, refl}
use Rattle.dpl_syntax.specs.declared.place.Place.{Place}
use Rattle.dpl_syntax.specs.declared.token.Keyword.{Keyword}
use Rattle.dpl_syntax.specs.declared.token.Keyword.TheVariants as word_of
use Rattle.dpl_syntax.specs.declared.token.Contextual.TheVariants as contextual_of
use Rattle.dpl_syntax.specs.declared.token.Sign.TheVariants as sign_of
use Rattle.dpl_language.specs.Tree.{Placed, Op, Assign, AssignTree, Set, SetAdd, SetSubtract, SetMultiply, SetDivide, SetRemainder, SetReduce, ReadWord, ReadFEWord, ReadFFWord, WriteWord, WriteEFWord, WriteFFWord, WriteXFWord, ArgumentTree, TextArgument, ExprArgument, IntentTree, ReduceIntent, RefIntent, WithTree, VariablesTree, OneVariable, ManyVariables, BracketPair, Square, Round, TargetTree, Whole, Element, CallTree, ReadCall, ResetCall, WriteCall, Nothing, Assigned, Call, Write, Block, If, Headed, Loop, Body, WordBody, BlockBody, Stmts, NoStmts, Then, NoElse, ElseDo, HeadWord, WhileWord, OnWord, LoopWord, ForWord, ForallWord, CoforallWord}
use Rattle.dpl_grammar.specs.Classes.{Class, texts, sign, keyword, contextual}
use Rattle.dpl_grammar.specs.Rule.{token, below, either, many, ◌⟶◌, ◌⨾◌, ◌↓◌, ◌∎, done, maybe, means, closed, lower, choice, ended, dangling}
use Rattle.dpl_spelling.specs.Nested.{Expression, Item, Statement, ExpressionBelow, StatementBelow, PlainBelow, takes_else, body_takes_else, Rule, Late}
use Rattle.dpl_spelling.specs.Expressions.{bytes_of, name, after_comma, listed, exprs, expression, item, by_operator}
use Rattle.dpl_spelling.specs.Declarations.{if_there, declaration}

-- Statements that begin with a name.

-- "[" expr { "," expr } "]" and the like, behind a name
abbrev pub element : BracketPair → Class → Class → Rule (Placed (List ℕ) → TargetTree (List ℕ))
element shape from upto = from ↓ exprs ⨾ token upto ∎ ⟶ λ k es l x. Element x shape k.at es l.at

-- [ "[" expr { "," expr } "]" | "(" expr { "," expr } ")" ], behind a target's name
unfoldable pub target_end : Rule (Placed (List ℕ) → TargetTree (List ℕ))
target_end = either (element Square (sign sign_of.OpenSquare) (sign sign_of.CloseSquare)) (either (element Round (sign sign_of.OpenRound) (sign sign_of.CloseRound)) (done (λ x. Whole x)))

abbrev pub assign_by : Class → Assign → Rule AssignTree
assign_by class op = token class ∎ ⟶ λ k. record { at = k.at; op = op; last = k.at }

-- assignop = "=" | "+=" | "-=" | "*=" | "/=" | "%=" | "reduce" "="
unfoldable pub assign_sign : Rule AssignTree
assign_sign =
    either (assign_by (sign sign_of.Assign) Set)
    (either (assign_by (sign sign_of.PlusAssign) SetAdd)
    (either (assign_by (sign sign_of.MinusAssign) SetSubtract)
    (either (assign_by (sign sign_of.StarAssign) SetMultiply)
    (either (assign_by (sign sign_of.SlashAssign) SetDivide)
    (either (assign_by (sign sign_of.PercentAssign) SetRemainder)
    (token (keyword word_of.Reduce) ⨾ token (sign sign_of.Assign) ∎ ⟶ λ k l. record { at = k.at; op = SetReduce; last = l.at }))))))

-- target assignop item ";", behind the target's name
unfoldable pub assignment_end : Rule (Placed (List ℕ) → Statement)
assignment_end = target_end ⨾ assign_sign ⨾ item ⨾ token (sign sign_of.Semicolon) ∎ ⟶ λ target s i k x. Assigned (target x) s i k.at

abbrev pub write_call : Class → WriteWord → Rule (CallTree (List ℕ))
write_call class word = token class ⨾ sign sign_of.OpenRound ↓ below ExpressionBelow ⨾ token (sign sign_of.CloseRound) ∎ ⟶ λ w k e l. WriteCall w.at word k.at e l.at

abbrev pub read_call : Class → ReadWord → Rule (CallTree (List ℕ))
read_call class word = token class ⨾ sign sign_of.OpenRound ↓ token (sign sign_of.CloseRound) ∎ ⟶ λ w k l. ReadCall w.at word k.at l.at

-- "reset" "(" ")"
unfoldable pub reset_call : Rule (CallTree (List ℕ))
reset_call = token (contextual contextual_of.Reset) ⨾ sign sign_of.OpenRound ↓ token (sign sign_of.CloseRound) ∎ ⟶ λ w k l. ResetCall w.at k.at l.at

-- cellcall = ("writeEF" | "writeFF" | "writeXF") "(" expr ")" | ("reset" | "readFE" | "readFF") "(" ")"
unfoldable pub cell_call : Rule (CallTree (List ℕ))
cell_call =
    either (write_call (contextual contextual_of.WriteEF) WriteEFWord)
    (either (write_call (contextual contextual_of.WriteFF) WriteFFWord)
    (either (write_call (contextual contextual_of.WriteXF) WriteXFWord)
    (either reset_call
    (either (read_call (contextual contextual_of.ReadFE) ReadFEWord)
    (read_call (contextual contextual_of.ReadFF) ReadFFWord)))))

-- "." cellcall ";", behind a cell's name
unfoldable pub call_end : Rule (Placed (List ℕ) → Statement)
call_end = token (sign sign_of.Dot) ⨾ cell_call ⨾ token (sign sign_of.Semicolon) ∎ ⟶ λ d c k x. Call x d.at c k.at

-- target assignop item ";" | name "." cellcall ";"
unfoldable pub named_statement : Rule Statement
named_statement = name ⨾ either call_end assignment_end ∎ ⟶ λ x make. make x

-- Output.

-- arg = text | expr
unfoldable pub argument : Rule (ArgumentTree (List ℕ))
argument = either (token texts ∎ ⟶ λ k. TextArgument k.at (bytes_of k.kind)) (below ExpressionBelow ∎ ⟶ λ e. ExprArgument e)

-- "write" | "writeln": whether it ends the line
abbrev pub write_word : Rule (Place × Bool)
write_word = either (means (keyword word_of.Write) false) (means (keyword word_of.Writeln) true)

-- ("write" | "writeln") "(" [ arg { "," arg } ] ")" ";"
unfoldable pub output : Rule Statement
output = write_word ⨾ sign sign_of.OpenRound ↓ maybe (listed argument) ⨾ token (sign sign_of.CloseRound) ⨾ token (sign sign_of.Semicolon) ∎
    ⟶ λ w k xs l s. Write (record { at = w.0; ends_line = w.1; from = k.at; arguments = xs; upto = l.at; semicolon = s.at })

-- Blocks and bodies.

abbrev pub stmts_of : List Statement → Stmts (List ℕ)
stmts_of [] = NoStmts
stmts_of (s ∷ ss) = Then s (stmts_of ss)

-- block = "{" { stmt } "}"
unfoldable pub block : {T : Type 0} → (Place → Stmts (List ℕ) → Place → T) → Rule T
block make = sign sign_of.OpenCurly ↓ many (below StatementBelow) ⨾ token (sign sign_of.CloseCurly) ∎ ⟶ λ k ss l. make k.at (stmts_of ss) l.at

-- stmt, as a part: a block on this level, any other statement one level deeper
unfoldable pub part : Late Statement takes_else
part = choice (closed (block Block)) (lower PlainBelow)

-- word stmt | block, for the words `do` and `then`
unfoldable pub body : Keyword → Late (Body (List ℕ)) body_takes_else
body word = choice (ended (token (keyword word)) part (λ k s. WordBody k.at s) (λ k s. refl)) (closed (block BlockBody))

-- Statements with bodies.

-- a word and an expression, which a body follows
pub record Condition : Type 0 where
  pub at : Place
  pub value : Expression

-- word expr
unfoldable pub condition : Keyword → Rule Condition
condition word = token (keyword word) ⨾ expression ∎ ⟶ λ k e. record { at = k.at; value = e }

-- a condition, and what is done where it holds
pub record Conditional : Type 0 where
  pub condition : Condition
  pub body : Body (List ℕ)

-- "if" expr ( "then" stmt | block )
unfoldable pub consequence : Late Conditional (λ c. body_takes_else c.body)
consequence = ended (condition word_of.If) (body word_of.Then) (λ c b. record { condition = c; body = b }) (λ c b. refl)

-- `else` and what is done else
pub record Otherwise : Type 0 where
  pub at : Place
  pub stmt : Statement

-- "else" stmt
unfoldable pub alternative : Late Otherwise (λ o. takes_else o.stmt)
alternative = ended (token (keyword word_of.Else)) part (λ k s. record { at = k.at; stmt = s }) (λ k s. refl)

-- "if" expr ( "then" stmt | block ) [ "else" stmt ]
unfoldable pub if_else : Late Statement takes_else
if_else = dangling consequence alternative (λ c. If c.condition.at c.condition.value c.body NoElse) (λ c o. If c.condition.at c.condition.value c.body (ElseDo o.at o.stmt)) (λ c. refl) (λ c o. refl)

-- ("while" | "on") expr body
unfoldable pub headed : Keyword → HeadWord → Late Statement takes_else
headed wanted word = ended (condition wanted) (body word_of.Do) (λ c b. Headed word c.at c.value b) (λ c b. refl)

-- vars = name | "(" name "," name [ "," name ] ")"
unfoldable pub variables : Rule (VariablesTree (List ℕ))
variables = either (name ∎ ⟶ λ x. OneVariable x)
    (sign sign_of.OpenRound ↓ name ⨾ after_comma name ⨾ maybe (after_comma name) ⨾ token (sign sign_of.CloseRound) ∎
    ⟶ λ k x y z l. ManyVariables k.at (record { first = x; others = y ∷ if_there z }) l.at)

-- redop
abbrev pub reduce_operator : Rule (Place × Op)
reduce_operator = by_operator means

-- intent = "ref" name | redop "reduce" name
unfoldable pub intent : Rule (IntentTree (List ℕ))
intent = either (token (keyword word_of.Ref) ⨾ name ∎ ⟶ λ k x. RefIntent k.at x) (reduce_operator ⨾ token (keyword word_of.Reduce) ⨾ name ∎ ⟶ λ o k x. ReduceIntent o.0 o.1 k.at x)

-- with = "with" "(" intent { "," intent } ")"
unfoldable pub with_intents : Rule (WithTree (List ℕ))
with_intents = token (keyword word_of.With) ⨾ sign sign_of.OpenRound ↓ listed intent ⨾ token (sign sign_of.CloseRound) ∎
    ⟶ λ w k xs l. record { at = w.at; from = k.at; intents = xs; upto = l.at }

-- a loop's word, its variables and what it runs over
pub record LoopHead : Type 0 where
  pub at : Place
  pub variables : VariablesTree (List ℕ)
  pub within : Place
  pub over : Item

-- word vars "in" item
unfoldable pub loop_head : Keyword → Rule LoopHead
loop_head word = token (keyword word) ⨾ variables ⨾ token (keyword word_of.In) ⨾ item ∎ ⟶ λ k xs l i. record { at = k.at; variables = xs; within = l.at; over = i }

-- "for" vars "in" item body
unfoldable pub for_loop : Late Statement takes_else
for_loop = ended (loop_head word_of.For) (body word_of.Do) (λ h b. Loop ForWord h.at h.variables h.within h.over None b) (λ h b. refl)

-- a loop's head and its intents, if it has any
pub record ParallelHead : Type 0 where
  pub loop : LoopHead
  pub with : Option (WithTree (List ℕ))

-- word vars "in" item [ with ]
unfoldable pub parallel_head : Keyword → Rule ParallelHead
parallel_head word = loop_head word ⨾ maybe with_intents ∎ ⟶ λ h w. record { loop = h; with = w }

-- ("forall" | "coforall") vars "in" item [ with ] body
unfoldable pub parallel_loop : Keyword → LoopWord → Late Statement takes_else
parallel_loop wanted word = ended (parallel_head wanted) (body word_of.Do) (λ h b. Loop word h.loop.at h.loop.variables h.loop.within h.loop.over h.with b) (λ h b. refl)

-- a statement that is no block and has no body
unfoldable pub simple_statement : Rule Statement
simple_statement = either declaration (either (token (sign sign_of.Semicolon) ∎ ⟶ λ k. Nothing k.at) (either named_statement output))

-- a statement that is no block
unfoldable pub plain_statement : Late Statement takes_else
plain_statement = choice (closed simple_statement) (choice if_else (choice (headed word_of.While WhileWord)
    (choice for_loop (choice (parallel_loop word_of.Forall ForallWord) (choice (parallel_loop word_of.Coforall CoforallWord) (headed word_of.On OnWord))))))

-- stmt = ("const" | "var") declrest | block | ";" | target assignop item ";" | name "." cellcall ";" | ("write" | "writeln") ..
--     | "if" .. | "while" .. | "for" .. | "forall" .. | "coforall" .. | "on" ..
unfoldable pub statement : Late Statement takes_else
statement = choice (closed (block Block)) plain_statement
