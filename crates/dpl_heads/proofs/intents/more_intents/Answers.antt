-- The intent that is next is one of those that are left.
use Rattle.std.proofs.Common.{map, ◌∙◌}
use Rattle.dpl_nodes.specs.Steps.{intent_view}
use Rattle.dpl_heads.proofs.Seen.{intents_step}
use Rattle.dpl_heads.proofs.Kept.{kept_step}
use Rattle.dpl_heads.proofs.intents.more_intents.Goals as goal

pub loop-next-preserved : goal.loop-next-preserved
loop-next-preserved c =
    let at = c.loop-next in
    let ss = c.args.scopes.now in
    let xs = c.args.others.now in
    let made = c.in-Ok.ensures in
    record {
      told = intents_step ss xs at.next-index _ c.loop-next-test.true at.seen c.intent.new.seen at.first c.intent.new.first made.seen made.told ∙ at.invariant.told;
      kept = kept_step ss xs at.next-index _ c.loop-next-test.true (map intent_view at.kept.items) (map intent_view c.intent.new.kept.items) made.kept ∙ at.invariant.kept;
    }
