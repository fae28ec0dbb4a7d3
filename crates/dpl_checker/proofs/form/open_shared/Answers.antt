-- The intents are told before the head, and stand behind it in the rule.
use Rattle.dpl_tree.specs.View.{item_view}
use Rattle.dpl_tree.specs.Declarations.{optional}
use Rattle.dpl_tree.specs.Statements.{variables_view, with_view}
use Rattle.dpl_rules.specs.Loops.{header_breaches, with_breaches}
use Rattle.dpl_heads.specs.Told.{word_view}
use Rattle.dpl_checker.proofs.Steps.{told_before}
use Rattle.dpl_checker.proofs.Made.{untold}
use Rattle.dpl_checker.proofs.form.open_shared.Goals as goal

pub returns-clause-walks : goal.returns-clause-walks
returns-clause-walks c =
    let walk = c.args.walk.now in
    let header = header_breaches walk.scopes (word_view c.args.word) (variables_view c.args.variables.now) (item_view c.args.over.now) in
    let with = with_breaches walk.scopes (optional with_view c.args.with.now) in
    let opened = c.in-Ok-open_loop.ensures.walks in record {
      scopes = opened.scopes;
      slots = opened.slots;
      deeds = opened.deeds;
      told = told_before walk.first c.intents.new.first c.open_loop.new.walk.first header with c.in-Ok.ensures.told opened.told;
      counts = opened.counts;
    }

pub returns-clause-reduced : goal.returns-clause-reduced
returns-clause-reduced c = λ none known.
    let header = header_breaches c.args.walk.now.scopes (word_view c.args.word) (variables_view c.args.variables.now) (item_view c.args.over.now) in
    c.in-Ok.ensures.node (untold c.intents.new.first c.open_loop.new.walk.first header c.in-Ok-open_loop.ensures.walks.told none) known
