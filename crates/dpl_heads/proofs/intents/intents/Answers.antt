-- The first intent, and then the others.
use Rattle.std.proofs.Common.{map, ap, ◌∙◌}
use Rattle.dpl_nodes.specs.Steps.{intent_view}
use Rattle.dpl_typed.proofs.Standing.{if_ok, on_any}
use Rattle.dpl_heads.proofs.Seen.{intents_told}
use Rattle.dpl_heads.proofs.Kept.{with-kept}
use Rattle.dpl_heads.proofs.intents.intents.Goals as goal

pub returns-in-Ok-more_intents-clause-told : goal.returns-in-Ok-more_intents-clause-told
returns-in-Ok-more_intents-clause-told c =
    let head = c.in-Ok-intent.ensures in
    let rest = c.in-Ok-more_intents.ensures in
    on_any c.list-in-Some.result
    (intents_told c.args.scopes.now c.args.with.now c.in-Some.with c.in-Ok.seen c.intent.new.seen c.args.first.now c.intent.new.first c.more_intents.new.first c.in-Some.is c.in-Ok.ensures head.seen head.told rest.told)

pub returns-in-Ok-more_intents-clause-node : goal.returns-in-Ok-more_intents-clause-node
returns-in-Ok-more_intents-clause-node c =
    let head = c.in-Ok-intent.ensures in
    let rest = c.in-Ok-more_intents.ensures in
    let told = intents_told c.args.scopes.now c.args.with.now c.in-Some.with c.in-Ok.seen c.intent.new.seen c.args.first.now c.intent.new.first c.more_intents.new.first c.in-Some.is c.in-Ok.ensures head.seen head.told rest.told in
    if_ok c.list-in-Some.result
    (λ is same. λ none known. ap (map intent_view) same
    ∙ with-kept c.args.scopes.now c.args.with.now c.in-Some.with c.new-kept.result.items c.intent.new.kept.items c.more_intents.new.kept.items c.args.first.now c.more_intents.new.first c.in-Some.is c.new-kept.ensures.items head.kept rest.kept told none known)
    c.list-in-Some.ensures
