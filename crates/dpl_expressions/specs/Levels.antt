-- The levels of operators between operands, as the parser's one function for chains takes them.
-- Nothing of the grammar is defined here: each level names its rules.
use Rattle.dpl_syntax.specs.declared.place.Place.{Place}
use Rattle.dpl_language.specs.Tree.{AfterComma, Infix, Op, Sum as SumOf, Product, AllOf, AnyOf, BitAnd, BitOr, BitXor, Least, Greatest, ReadWord, ReadFEWord, ReadFFWord}
use Rattle.dpl_tree.specs.declared.expression.Link.{Link}
use Rattle.dpl_tree.specs.declared.expression.NextItem.{NextItem}
use Rattle.dpl_tree.specs.View.{expr_view, item_view}
use Rattle.dpl_expressions.specs.declared.level.Level.{Level}
use Rattle.dpl_expressions.specs.declared.level.Level.TheVariants.{Sum, Relation, Equality, And, Or}
use Rattle.dpl_syntax.specs.declared.token.Keyword.TheVariants.{Min, Max}
use Rattle.dpl_syntax.specs.declared.token.Sign.TheVariants as sign_of
use Rattle.dpl_syntax.specs.declared.token.Contextual.TheVariants as contextual_of
use Rattle.dpl_grammar.specs.Classes.{Class, sign, keyword, contextual}
use Rattle.dpl_spelling.specs.Nested.{Expression, Item, Rule}
use Rattle.dpl_spelling.specs.Expressions.{Further, further, base, neg, sum, relation, equality, conjunction, expression_from, sum_operator, relation_operator, equality_operator, and_operator, or_operator}

-- the rule of a level
abbrev pub level_rule : Level → Rule Expression → Rule Expression
level_rule Sum = sum
level_rule Relation = relation
level_rule Equality = equality
level_rule And = conjunction
level_rule Or = expression_from

-- its operands
abbrev pub operand_rule : Level → Rule Expression → Rule Expression
operand_rule Sum = neg
operand_rule Relation = sum
operand_rule Equality = relation
operand_rule And = equality
operand_rule Or = conjunction

-- its operators
abbrev pub operator_rule : Level → Rule (Place × Infix)
operator_rule Sum = sum_operator
operator_rule Relation = relation_operator
operator_rule Equality = equality_operator
operator_rule And = and_operator
operator_rule Or = or_operator

-- operator operand, behind the first operand
abbrev pub further_rule : Level → Rule Further
further_rule level = further (operator_rule level) (operand_rule level base)

-- a link of the tree, as it is spelled
abbrev pub further_view : Link → Further
further_view l = record { at = l.at; op = l.op; right = expr_view l.right.now }

-- the token of a reduction's operator
abbrev pub op_class : Op → Class
op_class SumOf = sign sign_of.Plus
op_class Product = sign sign_of.Star
op_class AllOf = sign sign_of.AndAnd
op_class AnyOf = sign sign_of.OrOr
op_class BitAnd = sign sign_of.And
op_class BitOr = sign sign_of.Or
op_class BitXor = sign sign_of.Caret
op_class Least = keyword Min
op_class Greatest = keyword Max

-- a comma and the item behind it, as they are spelled
abbrev pub next_item_view : NextItem → AfterComma Item
next_item_view n = record { comma = n.comma; part = item_view n.item }

-- the word of a method that reads a cell
abbrev pub read_class : ReadWord → Class
read_class ReadFEWord = contextual contextual_of.ReadFE
read_class ReadFFWord = contextual contextual_of.ReadFF
