-- An example: the grammar of a small language, which is read, and rules with faults, which are told.
-- A name is told apart by its place: the n-th token of a row stands at column n.
use Rattle.std.proofs.Common.{◌≡◌, ℕ, ◌+◌, Bool, true, false, List, [], ◌∷◌, ◌++◌, codes, drop, Ok, Err, refl}
use Rattle.dpl_syntax.specs.declared.place.Place.{Place}
use Rattle.dpl_syntax.specs.declared.token.Keyword.TheVariants.{Do, Else, If, Sync, Then, While, Write}
use Rattle.dpl_syntax.specs.declared.token.Sign.TheVariants.{DotDot, Plus, Minus, Star, OpenRound, CloseRound, Semicolon}
use Rattle.dpl_syntax.specs.declared.token.Kind.{Kind}
use Rattle.dpl_syntax.specs.declared.token.Kind.TheVariants.{Name as NameKind, Keyword, Sign, End}
use Rattle.dpl_syntax.specs.declared.token.Token.{Token}
use Rattle.dpl_grammar.specs.Classes.{Class, names, end, sign, keyword}
use Rattle.dpl_grammar.specs.Reader.{Unexpected, NoRoom, next_in, each_at, run_turns_at}
use Rattle.dpl_grammar.specs.Rule.{Names, Rule, token, below, either, Beginning, Whole, Begun, many, run, complete, whole, ◌⟶◌, ◌⨾◌, ◌↓◌, ◌∎, done, maybe, Late, closed, opened, lower, choice, ended, dangling, Grammar, deep, spelled}
use Rattle.dpl_grammar.specs.Reading.{read, deep_at, faults, late_faults, below_faults, GoesOn, BeginsAlike, MayBeEmpty, HasToken, GoesDeeperTwice, Unnamed, Misnamed}
use Rattle.dpl_grammar.proofs.Grammars.{ReadsRule, reads}
use Rattle.dpl_grammar.proofs.Depths.{read_spelled, spelled_once}
use Rattle.dpl_grammar.proofs.Flat.{read_anywhere}
use Rattle.dpl_grammar.proofs.Deeper.{rule_refuses}

-- trees

pub data Expression : Type 0 where
  Name : ℕ → Expression
  Bracketed : Expression → Expression
  Negated : Expression → Expression
  Product : Expression → Expression → Expression
  Sum : Expression → Expression → Expression

pub data Item : Type 0 where
  One : Expression → Item
  Range : Expression → Expression → Item

mutual
  pub data Statement : Type 0 where
    Written : Item → Statement
    Block : Statements → Statement
    Loop : Expression → Statement → Statement
    Conditional : Expression → Statement → Statement
    Alternative : Expression → Statement → Statement → Statement

  pub data Statements : Type 0 where
    NoStatements : Statements
    Before : Statement → Statements → Statements

abbrev statements_of : List Statement → Statements
statements_of [] = NoStatements
statements_of (s ∷ ss) = Before s (statements_of ss)

-- products and sums group to the left

abbrev product_of : Expression → List Expression → Expression
product_of x [] = x
product_of x (y ∷ ys) = product_of (Product x y) ys

abbrev sum_of : Expression → List Expression → Expression
sum_of x [] = x
sum_of x (y ∷ ys) = sum_of (Sum x y) ys

abbrev is_negated : Expression → Bool
is_negated (Name n) = false
is_negated (Bracketed x) = false
is_negated (Negated x) = true
is_negated (Product x y) = false
is_negated (Sum x y) = false

abbrev is_sum : Expression → Bool
is_sum (Name n) = false
is_sum (Bracketed x) = false
is_sum (Negated x) = false
is_sum (Product x y) = false
is_sum (Sum x y) = true

-- whether an `else` behind the statement belongs to it
abbrev takes_else : Statement → Bool
takes_else (Written x) = false
takes_else (Block ss) = false
takes_else (Loop x s) = takes_else s
takes_else (Conditional x s) = true
takes_else (Alternative x s t) = takes_else t

-- the grammar

pub data Nested : Type 0 where
  ExpressionBelow : Nested
  TermBelow : Nested
  StatementBelow : Nested
  BodyBelow : Nested

abbrev begins_expression : Class
begins_expression = sign Minus ++ (names ++ sign OpenRound)

abbrev begins_body : Class
begins_body = keyword Write ++ (keyword While ++ keyword If)

abbrev nested : Names
nested = record {
  Name = Nested;
  Value = elim [ ExpressionBelow ↦ Expression | TermBelow ↦ Expression | StatementBelow ↦ Statement | BodyBelow ↦ Statement ];
  lets = elim [ ExpressionBelow ↦ λ x. false | TermBelow ↦ λ x. false | StatementBelow ↦ takes_else | BodyBelow ↦ takes_else ];
  hints = record {
    first = elim [ ExpressionBelow ↦ begins_expression | TermBelow ↦ begins_expression | StatementBelow ↦ keyword Sync ++ begins_body | BodyBelow ↦ begins_body ];
    more = elim [ ExpressionBelow ↦ sign Star ++ sign Plus | TermBelow ↦ sign Star | StatementBelow ↦ [] | BodyBelow ↦ [] ];
    late = elim [ ExpressionBelow ↦ [] | TermBelow ↦ [] | StatementBelow ↦ keyword Else | BodyBelow ↦ keyword Else ];
  };
}

-- factor = name | "(" expression ")"
abbrev factor : Rule nested Expression
factor = either (token names ∎ ⟶ λ k. Name k.at.column) (sign OpenRound ↓ below ExpressionBelow ⨾ token (sign CloseRound) ∎ ⟶ λ k x l. Bracketed x)

-- "-" term, behind which each operator is late
abbrev negated : Late nested Expression is_negated
negated = opened (sign Minus ↓ below TermBelow ∎ ⟶ λ k x. x) (λ x. Negated x) (λ x. refl)

-- "*" (factor | "-" term)
abbrev further : Late nested Expression is_negated
further = ended (token (sign Star)) (choice (closed factor) negated) (λ k x. x) (λ k x. refl)

-- term = "-" term | factor { "*" factor } [ "*" "-" term ]
abbrev term : Rule nested Expression
term = either (whole negated) (factor ⨾ run is_negated further ∎ ⟶ product_of)

-- "+"
abbrev plus : Rule nested Place
plus = token (sign Plus) ∎ ⟶ λ k. k.at

-- expression = term { "+" term }
abbrev expression : Rule nested Expression
expression = term ⨾ many (plus ⨾ term ∎ ⟶ λ k x. x) ∎ ⟶ sum_of

-- an item that is a sum; or, of anything else, what a range may begin with
abbrev after_first : Bool → Expression → Beginning Expression Item
after_first true x = Whole (One x)
after_first false x = Begun x

-- item = expression | term ".." term
abbrev item : Rule nested Item
item = complete expression (λ x. after_first (is_sum x) x) (either (token (sign DotDot) ⨾ term ∎ ⟶ λ k y x. Range x y) (done (λ x. One x)))

-- block = "sync" "(" { statement } ")"
abbrev block : Rule nested Statement
block = token (keyword Sync) ⨾ sign OpenRound ↓ many (below StatementBelow) ⨾ token (sign CloseRound) ∎ ⟶ λ w k ss l. Block (statements_of ss)

-- a block, or another statement one level deeper
abbrev body : Late nested Statement takes_else
body = choice (closed block) (lower BodyBelow)

-- "while" expression "do" body
abbrev loop : Late nested Statement takes_else
loop = ended (token (keyword While) ⨾ expression ⨾ token (keyword Do) ∎ ⟶ λ w x k. x) body (λ x s. Loop x s) (λ x s. refl)

-- "if" expression "then" body
abbrev consequence : Late nested (Expression × Statement) (λ c. takes_else c.1)
consequence = ended {P = Expression} (token (keyword If) ⨾ expression ⨾ token (keyword Then) ∎ ⟶ λ w x k. x) body (λ x s. (x, s)) (λ x s. refl)

-- "else" body
abbrev alternative : Late nested Statement takes_else
alternative = ended (token (keyword Else)) body (λ k s. s) (λ k s. refl)

-- "if" expression "then" body [ "else" body ]
abbrev conditional : Late nested Statement takes_else
conditional = dangling consequence alternative (λ c. Conditional c.0 c.1) (λ c t. Alternative c.0 c.1 t) (λ c. refl) (λ c t. refl)

-- "write" item ";" | "while" .. | "if" ..
abbrev unblocked : Late nested Statement takes_else
unblocked = choice (closed (token (keyword Write) ⨾ item ⨾ token (sign Semicolon) ∎ ⟶ λ w x k. Written x)) (choice loop conditional)

abbrev statement : Late nested Statement takes_else
statement = choice (closed block) unblocked

-- { statement } END
abbrev program : Rule nested (List Statement)
program = many (whole statement) ⨾ token end ∎ ⟶ λ ss k. ss

abbrev grammar : Grammar nested
grammar = record { rule = elim [ ExpressionBelow ↦ closed expression | TermBelow ↦ closed term | StatementBelow ↦ statement | BodyBelow ↦ unblocked ] }

-- no rule has a fault, so each is read

nested_right : (n : Nested) → below_faults grammar [] n ≡ []
nested_right ExpressionBelow = refl
nested_right TermBelow = refl
nested_right StatementBelow = refl
nested_right BodyBelow = refl

program_reads : (d : ℕ) → ReadsRule grammar [] d program
program_reads d = reads grammar [] nested_right program refl d

-- at another token than its first ones, it is refused there
item_refused : (d : ℕ) (ts : List Token) → next_in begins_expression ts ≡ false → read item (deep_at grammar d) ts ≡ Err (Unexpected, ts)
item_refused d ts h = rule_refuses grammar [] nested_right d ts item refl refl h

-- an operator is read alike with any number of levels
plus_anywhere : (d e : ℕ) → read plus (deep_at grammar d) ≡ read plus (deep_at grammar e)
plus_anywhere d e = read_anywhere grammar plus refl d e

-- rows of tokens, and what they spell

abbrev row_from : ℕ → List Kind → List Token
row_from n [] = []
row_from n (k ∷ ks) = record { kind = k; at = record { line = 1; column = n } } ∷ row_from (n + 1) ks

abbrev row : List Kind → List Token
row ks = row_from 1 (ks ++ End ∷ [])

abbrev a_name : Kind
a_name = NameKind (codes "x")

abbrev written : ℕ → Statement
written n = Written (One (Name n))

-- if x then if x then write x; else write x;
abbrev nearest : List Token
nearest = row (
    Keyword If ∷ a_name ∷ Keyword Then ∷ Keyword If ∷ a_name ∷ Keyword Then ∷ Keyword Write ∷ a_name ∷ Sign Semicolon
    ∷ Keyword Else ∷ Keyword Write ∷ a_name ∷ Sign Semicolon ∷ [])

-- the `else` belongs to the nearest `if`
abbrev nearest_tree : List Statement
nearest_tree = Conditional (Name 2) (Alternative (Name 5) (written 8) (written 12)) ∷ []

nearest_read : read program (deep_at grammar 2) nearest ≡ Ok (nearest_tree, [])
unfolding each_at run_turns_at
nearest_read = refl

nearest_spelled : (spelled program (deep grammar 2)).Spells nearest nearest_tree
nearest_spelled = read_spelled program_reads 2 nearest nearest_tree nearest_read

-- and to no other, with any number of levels
nearest_only : (d : ℕ) (ss : List Statement) → (spelled program (deep grammar d)).Spells nearest ss → ss ≡ nearest_tree
nearest_only d ss s = spelled_once program_reads d 2 nearest ss nearest_tree s nearest_spelled

-- with one level, there is no room for the inner body
nearest_deep : read program (deep_at grammar 1) nearest ≡ Err (NoRoom, drop 6 nearest)
unfolding each_at run_turns_at
nearest_deep = refl

-- if x then sync ( if x then write x; ) else write x;
-- What stands in a block takes no `else` from behind it.
abbrev closed_off : List Token
closed_off = row (
    Keyword If ∷ a_name ∷ Keyword Then ∷ Keyword Sync ∷ Sign OpenRound ∷ Keyword If ∷ a_name ∷ Keyword Then ∷ Keyword Write ∷ a_name ∷ Sign Semicolon ∷ Sign CloseRound
    ∷ Keyword Else ∷ Keyword Write ∷ a_name ∷ Sign Semicolon ∷ [])

closed_off_read : read program (deep_at grammar 2) closed_off ≡ Ok (Alternative (Name 2) (Block (Before (Conditional (Name 7) (written 10)) NoStatements)) (written 15) ∷ [], [])
unfolding each_at run_turns_at
closed_off_read = refl

-- if x then while x do if x then write x; else write x; else write x;
-- An `else` passes by what has one.
abbrev two_elses : List Token
two_elses = row (
    Keyword If ∷ a_name ∷ Keyword Then ∷ Keyword While ∷ a_name ∷ Keyword Do ∷ Keyword If ∷ a_name ∷ Keyword Then ∷ Keyword Write ∷ a_name ∷ Sign Semicolon
    ∷ Keyword Else ∷ Keyword Write ∷ a_name ∷ Sign Semicolon ∷ Keyword Else ∷ Keyword Write ∷ a_name ∷ Sign Semicolon ∷ [])

two_elses_read : read program (deep_at grammar 3) two_elses ≡ Ok (Alternative (Name 2) (Loop (Name 5) (Alternative (Name 8) (written 11) (written 15))) (written 19) ∷ [], [])
unfolding each_at run_turns_at
two_elses_read = refl

-- x * - x * x + x
-- What stands behind a negated factor is its operand.
abbrev operands : List Token
operands = row (a_name ∷ Sign Star ∷ Sign Minus ∷ a_name ∷ Sign Star ∷ a_name ∷ Sign Plus ∷ a_name ∷ [])

operands_read : read item (deep_at grammar 1) operands ≡ Ok (One (Sum (Product (Name 1) (Negated (Product (Name 4) (Name 6)))) (Name 8)), drop 8 operands)
unfolding each_at run_turns_at
operands_read = refl

-- ( ( x ) )
abbrev brackets : List Token
brackets = row (Sign OpenRound ∷ Sign OpenRound ∷ a_name ∷ Sign CloseRound ∷ Sign CloseRound ∷ [])

brackets_read : read item (deep_at grammar 2) brackets ≡ Ok (One (Bracketed (Bracketed (Name 3))), drop 5 brackets)
unfolding each_at run_turns_at
brackets_read = refl

-- with one level, there is no room for the second bracket
brackets_deep : read item (deep_at grammar 1) brackets ≡ Err (NoRoom, drop 1 brackets)
unfolding each_at run_turns_at
brackets_deep = refl

-- x * x .. x
abbrev range : List Token
range = row (a_name ∷ Sign Star ∷ a_name ∷ Sign DotDot ∷ a_name ∷ [])

range_read : read item (deep_at grammar 1) range ≡ Ok (Range (Product (Name 1) (Name 3)) (Name 5), drop 5 range)
unfolding each_at run_turns_at
range_read = refl

-- x + x .. x: behind a sum no `..` follows
abbrev sum_bound : List Token
sum_bound = row (a_name ∷ Sign Plus ∷ a_name ∷ Sign DotDot ∷ a_name ∷ [])

sum_bound_read : read item (deep_at grammar 1) sum_bound ≡ Ok (One (Sum (Name 1) (Name 3)), drop 3 sum_bound)
unfolding each_at run_turns_at
sum_bound_read = refl

-- rules with faults, and which

-- expression "+": the `+` is taken for the expression's
goes_on : faults grammar [] false (expression ⨾ token (sign Plus) ∎ ⟶ λ x k. x) ≡ GoesOn (sign Plus) ∷ []
goes_on = refl

-- name | expression
begins_alike : faults grammar [] false (either (token names ∎ ⟶ λ k. Name k.at.column) expression) ≡ BeginsAlike names ∷ []
begins_alike = refl

-- { [ name ] }
may_be_empty : faults grammar [] false (many (maybe (token names))) ≡ MayBeEmpty ∷ (BeginsAlike names ∷ [])
may_be_empty = refl

-- where no front has END
has_token : faults grammar end false program ≡ HasToken end ∷ []
has_token = refl

-- "do" term, one level deeper: where there is no room, `-` would want two levels
goes_deeper_twice : faults grammar [] false (token (keyword Do) ⨾ below TermBelow ∎ ⟶ λ k x. x) ≡ GoesDeeperTwice ∷ []
goes_deeper_twice = refl

-- a run whose negated factors don't end it: `*` is theirs as well as the run's
factors_go_on : faults grammar [] false (run (λ x. false) (ended (token (sign Star)) (choice (closed factor) (closed (whole negated))) (λ k x. x) (λ k x. refl))) ≡ BeginsAlike (sign Star) ∷ []
factors_go_on = refl

-- expression [ "+" ]
sum_or_plus : late_faults grammar [] false (dangling {lets = λ x. true} (closed {lets = λ x. false} expression) (closed {lets = λ k. true} (token (sign Plus))) (λ x. x) (λ x k. x) (λ x. refl) (λ x k. refl)) ≡ GoesOn (sign Plus) ∷ []
sum_or_plus = refl

-- where an expression is called a term, and a body a statement
abbrev misnamed : Grammar nested
misnamed = record { rule = elim [ ExpressionBelow ↦ closed expression | TermBelow ↦ closed expression | StatementBelow ↦ unblocked | BodyBelow ↦ unblocked ] }

unnamed : below_faults misnamed [] TermBelow ≡ Unnamed (sign Plus) ∷ []
unnamed = refl

not_begun : below_faults misnamed [] StatementBelow ≡ Misnamed (keyword Sync) ∷ []
not_begun = refl
