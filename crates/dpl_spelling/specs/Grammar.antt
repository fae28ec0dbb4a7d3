-- The grammar of programs, and each rule that may stand one level deeper.
-- Read `Nested`, `Expressions`, `Declarations` and `Statements` before it.
use Rattle.std.specs.Prelude.{ℕ, List}
use Rattle.dpl_syntax.specs.declared.place.Place.{Place}
use Rattle.dpl_syntax.specs.declared.token.Keyword.TheVariants as word_of
use Rattle.dpl_syntax.specs.declared.token.Contextual.TheVariants as contextual_of
use Rattle.dpl_syntax.specs.declared.token.Sign.TheVariants as sign_of
use Rattle.dpl_language.specs.Tree.{Module, ModuleTree, BlockModule, CyclicModule, BlockCyclicModule, UseTree, ProgramTree}
use Rattle.dpl_grammar.specs.Classes.{Class, end, sign, keyword, contextual}
use Rattle.dpl_grammar.specs.Rule.{token, either, many, whole, closed, ◌⟶◌, ◌⨾◌, ◌∎, Grammar}
use Rattle.dpl_spelling.specs.Nested.{Statement, Rule, nested, ItemBelow, ExpressionBelow, NegBelow, NotBelow, RedBelow, StartBelow, InsideBelow, StatementBelow, PlainBelow}
use Rattle.dpl_spelling.specs.Expressions.{listed, base, red, not, neg, expression, item}
use Rattle.dpl_spelling.specs.Declarations.{start, inside, config_declaration}
use Rattle.dpl_spelling.specs.Statements.{stmts_of, plain_statement, statement}

abbrev pub Program : Type 0
Program = ProgramTree (List ℕ)

abbrev pub used : Class → Module → Rule ModuleTree
used class word = token class ∎ ⟶ λ k. record { at = k.at; word = word }

-- module = "BlockDist" | "CyclicDist" | "BlockCycDist"
unfoldable pub module_name : Rule ModuleTree
module_name = either (used (contextual contextual_of.BlockDist) BlockModule) (either (used (contextual contextual_of.CyclicDist) CyclicModule) (used (contextual contextual_of.BlockCycDist) BlockCyclicModule))

-- use = "use" module { "," module } ";"
unfoldable pub use_line : Rule UseTree
use_line = token (keyword word_of.Use) ⨾ listed module_name ⨾ token (sign sign_of.Semicolon) ∎ ⟶ λ k ms l. record { at = k.at; modules = ms; semicolon = l.at }

-- top = stmt | "config" "const" declrest
unfoldable pub top : Rule Statement
top = either (whole statement) config_declaration

-- { use } { top }
unfoldable pub tops : Rule (Place → Program)
tops = many use_line ⨾ many top ∎ ⟶ λ us ss at. record { uses = us; stmts = stmts_of ss; end = at }

-- program = { use } { top } END
unfoldable pub program : Rule Program
program = tops ⨾ token end ∎ ⟶ λ make k. make k.at

-- each rule that may stand one level deeper
unfoldable pub grammar : Grammar nested
grammar = record {
  rule = elim [
    | ItemBelow ↦ closed item
    | ExpressionBelow ↦ closed expression
    | NegBelow ↦ closed (neg base)
    | NotBelow ↦ closed (not base)
    | RedBelow ↦ closed (red base)
    | StartBelow ↦ closed start
    | InsideBelow ↦ closed inside
    | StatementBelow ↦ statement
    | PlainBelow ↦ plain_statement
  ];
}
