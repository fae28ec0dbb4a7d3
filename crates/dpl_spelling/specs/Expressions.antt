-- The grammar of expressions and items. Above each rule stands its line of the grammar:
-- braces mean any number, square brackets at most one, words in quotes are tokens. `↓` stands behind a token that goes one level deeper.
use Rattle.std.specs.Prelude.{ℕ, ℤ, pos, Bool, true, false, cond, List, [], ◌∷◌, Option, Some, None, refl}
use Rattle.dpl_syntax.specs.declared.place.Place.{Place}
use Rattle.dpl_syntax.specs.declared.token.Token.{Token}
use Rattle.dpl_syntax.specs.declared.token.Kind.{Kind}
use Rattle.dpl_syntax.specs.declared.token.Kind.TheVariants as kind
use Rattle.dpl_syntax.specs.declared.token.Keyword.TheVariants as word_of
use Rattle.dpl_syntax.specs.declared.token.Contextual.TheVariants as contextual_of
use Rattle.dpl_syntax.specs.declared.token.Sign.TheVariants as sign_of
use Rattle.dpl_syntax.specs.Tokens.{contextual_text}
use Rattle.dpl_syntax.specs.Text.{text_value}
use Rattle.dpl_language.specs.Phrases.{natural}
use Rattle.dpl_language.specs.Tree.{Placed, AfterComma, Listed, Infix, Add, Subtract, Multiply, Divide, Remainder, Less, LessEqual, Greater, GreaterEqual, Equal, NotEqual, And, Or, Minus, Not, Op, Sum, Product, AllOf, AnyOf, BitAnd, BitOr, BitXor, Least, Greatest, Dots, Closed, HalfOpen, Counted, Word, Size, First, Last, Low, High, LowBound, DomainOf, Id, ReadWord, ReadFEWord, ReadFFWord, Number, TruthWord, Named, LocalesWord, LocaleCount, HereWord, Grouped, DomainLiteral, Prefixed, Reduced, Chain, Postfixed, One, RangeItem, Stride, NoStride, By, Links, NoLinks, Link, Posts, NoPosts, Post, PostTree, Brackets, Rounds, Dotted, MethodTree, Plainly, Dim, Contains, Expand, CellRead, Items, FirstItem, MoreItems, NoItems, NextItem, Exprs, FirstExpr, MoreExprs, NoExprs, NextExpr}
use Rattle.dpl_grammar.specs.Classes.{Class, names, numbers, sign, keyword, contextual}
use Rattle.dpl_grammar.specs.Rule.{Beginning, Whole, Begun, token, below, either, many, run, complete, ◌⟶◌, ◌⨾◌, ◌↓◌, ◌∎, done, maybe, means, closed, opened, choice, ended}
use Rattle.dpl_spelling.specs.Nested.{Expression, Item, ItemBelow, ExpressionBelow, NegBelow, NotBelow, RedBelow, Rule, Late}

-- What a token stands for.

-- the bytes of a name, and those that a text's escapes mean
abbrev pub bytes_of : Kind → List ℕ
bytes_of (kind.Name text) = text
bytes_of (kind.Contextual w) = contextual_text w
bytes_of (kind.Text raw) = text_value raw
bytes_of _ = []

-- the value of a number
abbrev pub value_of : Kind → ℤ
value_of (kind.Number n) = n
value_of _ = pos 0

-- a name
abbrev pub name : Rule (Placed (List ℕ))
name = token names ∎ ⟶ λ k. record { at = k.at; name = bytes_of k.kind }

-- a number and its place
abbrev pub number_token : Rule (Place × ℤ)
number_token = token numbers ∎ ⟶ λ k. (k.at, value_of k.kind)

-- Lists with commas.

-- "," a
unfoldable pub after_comma : {A : Type 0} → Rule A → Rule (AfterComma A)
after_comma a = token (sign sign_of.Comma) ⨾ a ∎ ⟶ λ k x. record { comma = k.at; part = x }

-- a { "," a }
unfoldable pub listed : {A : Type 0} → Rule A → Rule (Listed A)
listed a = a ⨾ many (after_comma a) ∎ ⟶ λ x xs. record { first = x; others = xs }

abbrev pub more_items : List (AfterComma Item) → MoreItems (List ℕ)
more_items [] = NoItems
more_items (x ∷ xs) = NextItem x.comma x.part (more_items xs)

abbrev pub more_exprs : List (AfterComma Expression) → MoreExprs (List ℕ)
more_exprs [] = NoExprs
more_exprs (x ∷ xs) = NextExpr x.comma x.part (more_exprs xs)

-- item { "," item }, in a bracket
unfoldable pub items : Rule (Items (List ℕ))
items = listed (below ItemBelow) ∎ ⟶ λ xs. FirstItem xs.first (more_items xs.others)

-- expr { "," expr }, in a bracket
unfoldable pub exprs : Rule (Exprs (List ℕ))
exprs = listed (below ExpressionBelow) ∎ ⟶ λ xs. FirstExpr xs.first (more_exprs xs.others)

-- Methods and what else stands behind a base.

abbrev pub plain_method : Class → Word → Rule (MethodTree (List ℕ))
plain_method class word = token class ∎ ⟶ λ k. Plainly k.at word

-- ("readFE" | "readFF") "(" ")", the one or the other
abbrev pub cell_read : Class → ReadWord → Rule (MethodTree (List ℕ))
cell_read class word = token class ⨾ sign sign_of.OpenRound ↓ token (sign sign_of.CloseRound) ∎ ⟶ λ w k l. CellRead w.at word k.at l.at

-- "dim" "(" number ")"
unfoldable pub dim : Rule (MethodTree (List ℕ))
dim = token (contextual contextual_of.Dim) ⨾ sign sign_of.OpenRound ↓ number_token ⨾ token (sign sign_of.CloseRound) ∎ ⟶ λ w k n l. Dim w.at k.at n.0 (natural n.1) l.at

-- "contains" "(" expr { "," expr } ")"
unfoldable pub contains : Rule (MethodTree (List ℕ))
contains = token (contextual contextual_of.Contains) ⨾ sign sign_of.OpenRound ↓ exprs ⨾ token (sign sign_of.CloseRound) ∎ ⟶ λ w k es l. Contains w.at k.at es l.at

-- "expand" "(" expr ")"
unfoldable pub expand : Rule (MethodTree (List ℕ))
expand = token (contextual contextual_of.Expand) ⨾ sign sign_of.OpenRound ↓ below ExpressionBelow ⨾ token (sign sign_of.CloseRound) ∎ ⟶ λ w k e l. Expand w.at k.at e l.at

-- the words of methods without arguments: the first, and the others
abbrev pub plain_words : (Class × Word) × List (Class × Word)
plain_words = (
  (contextual contextual_of.Size, Size),
  (contextual contextual_of.First, First) ∷ (contextual contextual_of.Last, Last) ∷ (contextual contextual_of.Low, Low) ∷ (contextual contextual_of.High, High)
      ∷ (contextual contextual_of.LowBound, LowBound) ∷ (keyword word_of.Domain, DomainOf) ∷ (contextual contextual_of.Id, Id) ∷ [],
)

-- the one word, or one of the others
abbrev pub plain_among : Class × Word → List (Class × Word) → Rule (MethodTree (List ℕ))
plain_among w [] = plain_method w.0 w.1
plain_among w (v ∷ vs) = either (plain_method w.0 w.1) (plain_among v vs)

-- "size" | "first" | "last" | "low" | "high" | "lowBound" | "domain" | "id"
unfoldable pub plain_methods : Rule (MethodTree (List ℕ))
plain_methods = plain_among plain_words.0 plain_words.1

-- method = "dim" .. | "contains" .. | "expand" .. | ("readFE" | "readFF") "(" ")" | "size" | "first" | "last" | "low" | "high" | "lowBound" | "domain" | "id"
unfoldable pub method : Rule (MethodTree (List ℕ))
method =
    either dim
    (either contains
    (either expand
    (either (cell_read (contextual contextual_of.ReadFE) ReadFEWord)
    (either (cell_read (contextual contextual_of.ReadFF) ReadFFWord)
    plain_methods))))

-- "[" item { "," item } "]"
unfoldable pub brackets : Rule (PostTree (List ℕ))
brackets = sign sign_of.OpenSquare ↓ items ⨾ token (sign sign_of.CloseSquare) ∎ ⟶ λ k xs l. Brackets k.at xs l.at

-- "(" expr { "," expr } ")"
unfoldable pub rounds : Rule (PostTree (List ℕ))
rounds = sign sign_of.OpenRound ↓ exprs ⨾ token (sign sign_of.CloseRound) ∎ ⟶ λ k es l. Rounds k.at es l.at

-- "." method
unfoldable pub dotted : Rule (PostTree (List ℕ))
dotted = token (sign sign_of.Dot) ⨾ method ∎ ⟶ λ k m. Dotted k.at m

unfoldable pub post : Rule (PostTree (List ℕ))
post = either brackets (either rounds dotted)

-- The levels of expressions. Each takes its base: what its first operand may begin with.

-- a word that is an expression
abbrev pub expression_word : Class → (Place → Expression) → Rule Expression
expression_word class make = token class ∎ ⟶ λ k. make k.at

-- "{" item { "," item } "}"
unfoldable pub domain_literal : Rule Expression
domain_literal = sign sign_of.OpenCurly ↓ items ⨾ token (sign sign_of.CloseCurly) ∎ ⟶ λ k xs l. DomainLiteral k.at xs l.at

-- "(" item ")"
unfoldable pub grouped : Rule Expression
grouped = sign sign_of.OpenRound ↓ below ItemBelow ⨾ token (sign sign_of.CloseRound) ∎ ⟶ λ k x l. Grouped k.at x l.at

-- the bases that don't begin with a round bracket:
-- name | number | "true" | "false" | "{" item { "," item } "}" | "Locales" | "numLocales" | "here"
unfoldable pub simple_base : Rule Expression
simple_base =
    either (name ∎ ⟶ λ x. Named x)
    (either (number_token ∎ ⟶ λ n. Number n.0 n.1)
    (either (expression_word (keyword word_of.True) (λ at. TruthWord at true))
    (either (expression_word (keyword word_of.False) (λ at. TruthWord at false))
    (either (expression_word (keyword word_of.Locales) (λ at. LocalesWord at))
    (either (expression_word (keyword word_of.NumLocales) (λ at. LocaleCount at))
    (either (expression_word (keyword word_of.Here) (λ at. HereWord at))
    domain_literal))))))

-- base = .. | "(" item ")"
unfoldable pub base : Rule Expression
base = either simple_base grouped

abbrev pub posts_of : List (PostTree (List ℕ)) → Posts (List ℕ)
posts_of [] = NoPosts
posts_of (p ∷ ps) = Post p (posts_of ps)

-- a base with what stands behind it; alone where nothing does
unfoldable pub postfixed : Expression → List (PostTree (List ℕ)) → Expression
postfixed e [] = e
postfixed e (p ∷ ps) = Postfixed e (posts_of (p ∷ ps))

-- postfix = base { "[" .. "]" | "(" .. ")" | "." method }
unfoldable pub postfix : Rule Expression → Rule Expression
postfix b = b ⨾ many post ∎ ⟶ postfixed

-- redop = "+" | "*" | "&&" | "||" | "&" | "|" | "^" | "min" | "max", each as what the rule makes of it
abbrev pub by_operator : {T : Type 0} → (Class → Op → Rule T) → Rule T
by_operator rule =
    either (rule (sign sign_of.Plus) Sum)
    (either (rule (sign sign_of.Star) Product)
    (either (rule (sign sign_of.AndAnd) AllOf)
    (either (rule (sign sign_of.OrOr) AnyOf)
    (either (rule (sign sign_of.And) BitAnd)
    (either (rule (sign sign_of.Or) BitOr)
    (either (rule (sign sign_of.Caret) BitXor)
    (either (rule (keyword word_of.Min) Least)
    (rule (keyword word_of.Max) Greatest))))))))

-- redop "reduce" red, for one operator
abbrev pub reduction_by : Class → Op → Rule Expression
reduction_by class op = class ↓ token (keyword word_of.Reduce) ⨾ below RedBelow ∎ ⟶ λ k w e. Reduced k.at op w.at e

-- redop "reduce" red
unfoldable pub reduction : Rule Expression
reduction = by_operator reduction_by

-- red = redop "reduce" red | postfix
unfoldable pub red : Rule Expression → Rule Expression
red b = either reduction (postfix b)

-- "!" not
unfoldable pub complement : Rule Expression
complement = sign sign_of.Not ↓ below NotBelow ∎ ⟶ λ k e. Prefixed k.at Not e

-- not = "!" not | red
unfoldable pub not : Rule Expression → Rule Expression
not b = either complement (red b)

-- a further operand of a chain, behind its operator
pub record Further : Type 0 where
  pub at : Place
  pub op : Infix
  pub right : Expression

abbrev pub links_of : List Further → Links (List ℕ)
links_of [] = NoLinks
links_of (l ∷ ls) = Link l.at l.op l.right (links_of ls)

-- the first operand and the others, grouped to the left; the first one alone where there are no others
unfoldable pub chain_of : Expression → List Further → Expression
chain_of first [] = first
chain_of first (l ∷ ls) = Chain first (links_of (l ∷ ls))

-- an operator and its right operand
abbrev pub further_of : Place × Infix → Expression → Further
further_of o x = record { at = o.0; op = o.1; right = x }

-- operator operand
unfoldable pub further : Rule (Place × Infix) → Rule Expression → Rule Further
further operator operand = operator ⨾ operand ∎ ⟶ further_of

-- mulop = "*" | "/" | "%"
abbrev pub product_operator : Rule (Place × Infix)
product_operator = either (means (sign sign_of.Star) Multiply) (either (means (sign sign_of.Slash) Divide) (means (sign sign_of.Percent) Remainder))

-- whether a factor is negated, as only the last one may be
abbrev pub is_negated : Expression → Bool
is_negated (Prefixed at Minus e) = true
is_negated _ = false

-- "-" neg
abbrev pub minus : Rule (Place × Expression)
minus = sign sign_of.Minus ↓ below NegBelow ∎ ⟶ λ k e. (k.at, e)

-- "-" neg, as an expression
abbrev pub negated : Rule Expression
negated = minus ∎ ⟶ λ m. Prefixed m.0 Minus m.1

-- "-" neg | not
abbrev pub factor : Late Expression is_negated
factor = choice (opened minus (λ m. Prefixed m.0 Minus m.1) (λ m. refl)) (closed (not base))

-- mulop not | mulop "-" neg
unfoldable pub further_factor : Late Further (λ f. is_negated f.right)
further_factor = ended product_operator factor further_of (λ o x. refl)

-- mul = not { mulop not } [ mulop "-" neg ]
unfoldable pub product : Rule Expression → Rule Expression
product b = not b ⨾ run (λ f. is_negated f.right) further_factor ∎ ⟶ chain_of

-- neg = "-" neg | mul
unfoldable pub neg : Rule Expression → Rule Expression
neg b = either negated (product b)

-- "+" | "-"
abbrev pub sum_operator : Rule (Place × Infix)
sum_operator = either (means (sign sign_of.Plus) Add) (means (sign sign_of.Minus) Subtract)

-- sum = neg { ("+" | "-") neg }
unfoldable pub sum : Rule Expression → Rule Expression
sum b = neg b ⨾ many (further sum_operator (neg base)) ∎ ⟶ chain_of

-- "<" | "<=" | ">" | ">="
abbrev pub relation_operator : Rule (Place × Infix)
relation_operator = either (means (sign sign_of.Less) Less) (either (means (sign sign_of.LessEqual) LessEqual) (either (means (sign sign_of.Greater) Greater) (means (sign sign_of.GreaterEqual) GreaterEqual)))

-- rel = sum { ("<" | "<=" | ">" | ">=") sum }
unfoldable pub relation : Rule Expression → Rule Expression
relation b = sum b ⨾ many (further relation_operator (sum base)) ∎ ⟶ chain_of

-- "==" | "!="
abbrev pub equality_operator : Rule (Place × Infix)
equality_operator = either (means (sign sign_of.Equal) Equal) (means (sign sign_of.NotEqual) NotEqual)

-- eq = rel { ("==" | "!=") rel }
unfoldable pub equality : Rule Expression → Rule Expression
equality b = relation b ⨾ many (further equality_operator (relation base)) ∎ ⟶ chain_of

-- "&&"
abbrev pub and_operator : Rule (Place × Infix)
and_operator = means (sign sign_of.AndAnd) And

-- and = eq { "&&" eq }
unfoldable pub conjunction : Rule Expression → Rule Expression
conjunction b = equality b ⨾ many (further and_operator (equality base)) ∎ ⟶ chain_of

-- "||"
abbrev pub or_operator : Rule (Place × Infix)
or_operator = means (sign sign_of.OrOr) Or

-- expr = and { "||" and }
unfoldable pub expression_from : Rule Expression → Rule Expression
expression_from b = conjunction b ⨾ many (further or_operator (conjunction base)) ∎ ⟶ chain_of

abbrev pub expression : Rule Expression
expression = expression_from base

-- Items.

-- whether the operator stands between sums, and not in one
abbrev pub is_in_sum : Infix → Bool
is_in_sum Add = true
is_in_sum Subtract = true
is_in_sum Multiply = true
is_in_sum Divide = true
is_in_sum Remainder = true
is_in_sum _ = false

abbrev pub are_in_sum : Links (List ℕ) → Bool
are_in_sum NoLinks = true
are_in_sum (Link at op e rest) = is_in_sum op

-- an item that is an expression; or, where that is a sum, what a range may begin with
abbrev pub after_first : Expression → Beginning Expression Item
after_first (Chain e rest) = cond (are_in_sum rest) (Begun (Chain e rest)) (Whole (One (Chain e rest)))
after_first e = Begun e

-- `..`, or `..` and `#` at the place
abbrev pub closed_or_counted : Option Token → Dots
closed_or_counted None = Closed
closed_or_counted (Some k) = Counted k.at

-- ".." | ".." "#" | "..<"
unfoldable pub range_dots : Rule (Place × Dots)
range_dots = either (token (sign sign_of.DotDot) ⨾ maybe (token (sign sign_of.Hash)) ∎ ⟶ λ k h. (k.at, closed_or_counted h)) (means (sign sign_of.DotDotLess) HalfOpen)

-- [ "by" sum ]
unfoldable pub stride : Rule (Stride (List ℕ))
stride = either (token (keyword word_of.By) ⨾ sum base ∎ ⟶ λ k e. By k.at e) (done NoStride)

-- ( ".." sum | ".." "#" sum | "..<" sum ) [ "by" sum ], behind a range's low end
unfoldable pub range_end : Rule (Expression → Item)
range_end = range_dots ⨾ sum base ⨾ stride ∎ ⟶ λ d high by low. RangeItem low d.0 d.1 high by

-- item = expr | sum ( ".." sum | ".." "#" sum | "..<" sum ) [ "by" sum ]
unfoldable pub item : Rule Item
item = complete expression after_first (either range_end (done (λ e. One e)))
