-- That there is a forall is put before what its head does, and its intents behind it.
use Rattle.std.specs.Prelude.{◌++◌}
use Rattle.dpl_tree.specs.View.{item_view}
use Rattle.dpl_tree.specs.Declarations.{optional}
use Rattle.dpl_tree.specs.Statements.{with_view}
use Rattle.dpl_rules.specs.Deeds.{AForall, held, item_deeds}
use Rattle.dpl_rules.specs.Doings.{with_deeds}
use Rattle.dpl_checker.proofs.Steps.{adds_then}
use Rattle.dpl_checker.proofs.form.open_forall.Goals as goal

pub returns-clause-walks : goal.returns-clause-walks
returns-clause-walks c =
    let turns = c.args.turns.now in
    let before = c.args.walk.now.deeds.items in
    let behind = c.open_shared.new.walk.deeds.items in
    let over = item_deeds c.args.walk.now.scopes (item_view turns.over) in
    let opened = c.in-Ok-open_shared.ensures.walks in record {
      scopes = opened.scopes;
      slots = opened.slots;
      deeds = adds_then before behind c.with_deeds.new.deeds.items (held turns.at AForall ++ over) (with_deeds (optional with_view turns.with))
          (adds_then before c.held.new.deeds.items behind (held turns.at AForall) over c.in-Ok.ensures opened.deeds) c.in-Ok-with_deeds.ensures;
      told = opened.told;
      counts = opened.counts;
    }
