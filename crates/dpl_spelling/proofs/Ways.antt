-- Rules that part by what an expression or a statement begins with.
-- Each equation has the rule's reader on its left side, and on its right the test that the parser makes and its two ways.
use Rattle.std.proofs.Common.{◌≡◌, ℕ, List, ◌++◌, cond, refl, ap}
use Rattle.dpl_syntax.specs.declared.token.Token.{Token}
use Rattle.dpl_syntax.specs.declared.token.Keyword.TheVariants as word_of
use Rattle.dpl_syntax.specs.declared.token.Sign.TheVariants as sign_of
use Rattle.dpl_language.specs.Tree.{InitTree, ItemInit, WhileWord, OnWord, ForallWord, CoforallWord, Block, UseTree}
use Rattle.dpl_grammar.specs.Classes.{Class, sign, keyword}
use Rattle.dpl_grammar.specs.Reader.{Reader, next_in, many_at}
use Rattle.dpl_grammar.specs.Rule.{below, many, maybe, ◌⟶◌, ◌⨾◌, ◌∎}
use Rattle.dpl_grammar.specs.Reading.{first}
use Rattle.dpl_spelling.specs.Nested.{begins, begins_expression, StatementBelow, PlainBelow, Rule}
use Rattle.dpl_spelling.specs.Expressions.{item}
use Rattle.dpl_spelling.specs.Declarations.{mapped, created, init, config_declaration}
use Rattle.dpl_spelling.specs.Statements.{block, part, if_else, headed, for_loop, parallel_loop, simple_statement, plain_statement, statement}
use Rattle.dpl_spelling.specs.Grammar.{use_line, top, grammar}
use Rattle.dpl_grammar.proofs.Flat.{read_anywhere}
use Rattle.dpl_spelling.specs.Parts.{begins_simple}
use Rattle.dpl_spelling.specs.Reading.{at, late_at}
use Rattle.dpl_spelling.proofs.AllRules.{all_rules}

-- an item with or without a map, as an initial value
abbrev pub item_init : Rule (InitTree (List ℕ))
item_init = item ⨾ maybe mapped ∎ ⟶ λ x m. ItemInit x m

first_item_init : first item_init ≡ begins_expression
unfolding all_rules
first_item_init = refl

pub read_init : (d : ℕ) (ts : List Token) → at init d ts ≡ cond (next_in begins_expression ts) (at item_init d ts) (at created d ts)
unfolding all_rules
read_init d ts = ap (λ (c : Class). cond (next_in c ts) (at item_init d ts) (at created d ts)) first_item_init

-- Statements.

pub read_part : (d : ℕ) (ts : List Token) → late_at part d ts ≡ cond (next_in (sign sign_of.OpenCurly) ts) (at (block Block) d ts) (at (below PlainBelow) d ts)
unfolding all_rules
read_part d ts = refl

pub read_plain : (d : ℕ) (ts : List Token) → late_at plain_statement d ts ≡
    cond (next_in begins_simple ts) (at simple_statement d ts)
    (cond (next_in (keyword word_of.If) ts) (late_at if_else d ts)
    (cond (next_in (keyword word_of.While) ts) (late_at (headed word_of.While WhileWord) d ts)
    (cond (next_in (keyword word_of.For) ts) (late_at for_loop d ts)
    (cond (next_in (keyword word_of.Forall) ts) (late_at (parallel_loop word_of.Forall ForallWord) d ts)
    (cond (next_in (keyword word_of.Coforall) ts) (late_at (parallel_loop word_of.Coforall CoforallWord) d ts)
    (late_at (headed word_of.On OnWord) d ts))))))
unfolding all_rules
read_plain d ts = refl

-- Programs.

pub read_use_lines : (d : ℕ) (ts : List Token) → at (many use_line) d ts ≡ many_at (keyword word_of.Use) (at use_line d) ts
unfolding all_rules
read_use_lines d ts = refl

pub read_uses : (d : ℕ) (ts : List Token) → at (many use_line) d ts ≡ at (many use_line) 0 ts
unfolding all_rules
read_uses d ts = ap (λ (r : Reader (List UseTree)). r ts) (read_anywhere grammar (many use_line) refl d 0)

pub read_top : (d : ℕ) (ts : List Token) → at top d ts ≡ cond (next_in (begins StatementBelow) ts) (late_at statement d ts) (at config_declaration d ts)
unfolding all_rules
read_top d ts = refl

pub read_tops : (d : ℕ) (ts : List Token) → at (many top) d ts ≡ many_at (begins StatementBelow ++ keyword word_of.Config) (at top d) ts
unfolding all_rules
read_tops d ts = refl
