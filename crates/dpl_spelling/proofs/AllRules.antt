-- Every rule of the grammar, for proofs that unfold them. A rule is named here and in no other list of proofs.
-- `unfolding all_rules` stands under a signature.
use Rattle.std.specs.Prelude.{⊤}
use Rattle.dpl_spelling.specs.Expressions as expressions
use Rattle.dpl_spelling.specs.Declarations as declarations
use Rattle.dpl_spelling.specs.Statements as statements
use Rattle.dpl_spelling.specs.Grammar as programs

-- bases and what stands behind them
unfoldable rules_of_bases : ⊤
unfolding expressions.after_comma expressions.listed expressions.items expressions.exprs expressions.dim expressions.contains expressions.expand expressions.plain_methods expressions.method expressions.brackets expressions.rounds expressions.dotted expressions.post expressions.domain_literal expressions.grouped expressions.simple_base expressions.base expressions.postfixed expressions.postfix
rules_of_bases = tt

-- operators and items
unfoldable rules_of_items : ⊤
unfolding expressions.reduction expressions.red expressions.complement expressions.not expressions.chain_of expressions.further expressions.further_factor expressions.product expressions.neg expressions.sum expressions.relation expressions.equality expressions.conjunction expressions.expression_from expressions.range_dots expressions.stride expressions.range_end expressions.item
rules_of_items = tt

-- maps and declarations
unfoldable rules_of_declarations : ⊤
unfolding declarations.tuple_end declarations.inside declarations.bracket declarations.expression_end declarations.start declarations.argument_end declarations.box_argument declarations.start_argument declarations.block_map declarations.cyclic_map declarations.block_cyclic_map declarations.map declarations.mapped declarations.sync_type declarations.domain_type declarations.array_type declarations.declared_type declarations.typed declarations.created declarations.init declarations.initial declarations.declared declarations.declare_end declarations.declaration declarations.config_declaration
rules_of_declarations = tt

-- statements
unfoldable rules_of_statements : ⊤
unfolding statements.target_end statements.assign_sign statements.assignment_end statements.reset_call statements.cell_call statements.call_end statements.named_statement statements.argument statements.output statements.block statements.part statements.body statements.condition statements.consequence statements.alternative statements.if_else statements.headed statements.variables statements.intent statements.with_intents statements.loop_head statements.for_loop statements.parallel_head statements.parallel_loop statements.simple_statement statements.plain_statement statements.statement
rules_of_statements = tt

-- programs, and all of it
unfoldable pub all_rules : ⊤
unfolding rules_of_bases rules_of_items rules_of_declarations rules_of_statements programs.module_name programs.use_line programs.top programs.tops programs.program programs.grammar
all_rules = tt
