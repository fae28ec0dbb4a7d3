-- The rules of the grammar that may stand one level deeper, and what the values of rules are made of.
-- Brackets, prefixes and bodies go one level deeper; at most 64 levels are read.
use Rattle.std.specs.Prelude.{ℕ, Bool, true, false, List, [], ◌++◌}
use Rattle.dpl_syntax.specs.declared.token.Keyword.TheVariants.{True, False, Locales, NumLocales, Here, Min, Max, Const, Var, Write as WriteWord, Writeln, If as IfWord, Else as ElseWord, While as WhileWord, For as ForWord, Forall as ForallWord, Coforall as CoforallWord, On as OnWord, By as ByWord}
use Rattle.dpl_syntax.specs.declared.token.Sign.TheVariants as sign_of
use Rattle.dpl_language.specs.Tree.{ExprTree, ItemTree, Listed, StartTree, StmtTree, If, Headed, Loop, Body, WordBody, BlockBody, NoElse, ElseDo}
use Rattle.dpl_grammar.specs.Classes.{Class, names, numbers, sign, keyword}
use Rattle.dpl_grammar.specs.Rule.{Hints, Names, Rule as RuleOf, Late as LateOf}

-- trees as they are spelled: a name is its text
abbrev pub Expression : Type 0
Expression = ExprTree (List ℕ)

abbrev pub Item : Type 0
Item = ItemTree (List ℕ)

abbrev pub Statement : Type 0
Statement = StmtTree (List ℕ)

-- what stands in a bracket that begins where a map starts: an item, or the expressions of a tuple
pub data Inside : Type 0 where
  OneItem : Item → Inside
  Tuple : Listed Expression → Inside

-- Whether an `else` may follow: the statement ends in an `if` without one.
abbrev mutual
  pub takes_else : Statement → Bool
  takes_else (If at e body NoElse) = true
  takes_else (If at e body (ElseDo k s)) = takes_else s
  takes_else (Headed word at e body) = body_takes_else body
  takes_else (Loop word at xs within over with body) = body_takes_else body
  takes_else _ = false

  pub body_takes_else : Body (List ℕ) → Bool
  body_takes_else (WordBody at s) = takes_else s
  body_takes_else (BlockBody from ss upto) = false

-- The rules that may stand one level deeper: what a bracket holds, the operands of prefixes,
-- what stands in a bracket where a map starts, the statements of a block, and a body that is no block.
pub data Nested : Type 0 where
  ItemBelow : Nested
  ExpressionBelow : Nested
  NegBelow : Nested
  NotBelow : Nested
  RedBelow : Nested
  StartBelow : Nested
  InsideBelow : Nested
  StatementBelow : Nested
  PlainBelow : Nested

abbrev pub Value : Nested → Type 0
Value ItemBelow = Item
Value StartBelow = StartTree (List ℕ)
Value InsideBelow = Inside
Value StatementBelow = Statement
Value PlainBelow = Statement
Value _ = Expression

-- HINTS for the reader: what each of them begins with

abbrev pub reduce_signs : Class
reduce_signs = sign sign_of.Plus ++ (sign sign_of.Star ++ (sign sign_of.AndAnd ++ (sign sign_of.OrOr ++ (sign sign_of.And ++ (sign sign_of.Or ++ (sign sign_of.Caret ++ (keyword Min ++ keyword Max)))))))

abbrev pub begins_red : Class
begins_red = reduce_signs ++ (names ++ (numbers ++ (keyword True ++ (keyword False ++ (keyword Locales ++ (keyword NumLocales ++ (keyword Here ++ (sign sign_of.OpenCurly ++ sign sign_of.OpenRound))))))))

abbrev pub begins_not : Class
begins_not = sign sign_of.Not ++ begins_red

abbrev pub begins_expression : Class
begins_expression = sign sign_of.Minus ++ begins_not

abbrev pub begins_plain : Class
begins_plain = keyword Const ++ (keyword Var ++ (sign sign_of.Semicolon ++ (names ++ (keyword WriteWord ++ (keyword Writeln ++ (keyword IfWord ++ (keyword WhileWord ++ (keyword ForWord ++ (keyword ForallWord ++ (keyword CoforallWord ++ keyword OnWord))))))))))

abbrev pub begins : Nested → Class
begins NotBelow = begins_not
begins RedBelow = begins_red
begins StatementBelow = sign sign_of.OpenCurly ++ begins_plain
begins PlainBelow = begins_plain
begins _ = begins_expression

-- what may go on with each of them

abbrev pub after_base : Class
after_base = sign sign_of.OpenSquare ++ (sign sign_of.OpenRound ++ sign sign_of.Dot)

abbrev pub product_signs : Class
product_signs = sign sign_of.Star ++ (sign sign_of.Slash ++ sign sign_of.Percent)

abbrev pub sum_signs : Class
sum_signs = sign sign_of.Plus ++ sign sign_of.Minus

abbrev pub relation_signs : Class
relation_signs = sign sign_of.Less ++ (sign sign_of.LessEqual ++ (sign sign_of.Greater ++ sign sign_of.GreaterEqual))

abbrev pub equality_signs : Class
equality_signs = sign sign_of.Equal ++ sign sign_of.NotEqual

abbrev pub after_expression : Class
after_expression = after_base ++ (product_signs ++ (sum_signs ++ (relation_signs ++ (equality_signs ++ (sign sign_of.AndAnd ++ sign sign_of.OrOr)))))

abbrev pub after_item : Class
after_item = after_expression ++ (sign sign_of.DotDot ++ (sign sign_of.DotDotLess ++ keyword ByWord))

abbrev pub goes_on : Nested → Class
goes_on ItemBelow = after_item
goes_on ExpressionBelow = after_expression
goes_on NegBelow = after_base ++ product_signs
goes_on NotBelow = after_base
goes_on RedBelow = after_base
goes_on StartBelow = after_expression
goes_on InsideBelow = sign sign_of.Comma ++ after_item
goes_on StatementBelow = []
goes_on PlainBelow = []

abbrev pub late_after : Nested → Class
late_after StatementBelow = keyword ElseWord
late_after PlainBelow = keyword ElseWord
late_after _ = []

abbrev pub lets_late : (n : Nested) → Value n → Bool
lets_late StatementBelow s = takes_else s
lets_late PlainBelow s = takes_else s
lets_late _ x = false

abbrev pub hints : Hints Nested
hints = record { first = begins; more = goes_on; late = late_after }

abbrev pub nested : Names
nested = record { Name = Nested; Value = Value; lets = lets_late; hints = hints }

abbrev pub Rule : Type 0 → Type 1
Rule T = RuleOf nested T

abbrev pub Late : (T : Type 0) → (T → Bool) → Type 1
Late T lets = LateOf nested T lets
