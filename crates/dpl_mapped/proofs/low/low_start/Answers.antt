-- Behind a domain, and behind anything else, which is an int where no rule is broken.
use Rattle.std.proofs.Common.{ap, ◌∙◌}
use Rattle.dpl_language.specs.Tree.{Plainly, StartExpr}
use Rattle.dpl_lowered.specs.LoweredExpressions.{Times, Once, is_end}
use Rattle.dpl_lowered.specs.Shapes.{kept}
use Rattle.dpl_nodes.specs.Typed.{dotted}
use Rattle.dpl_tree.specs.View.{expr_view, posts_of}
use Rattle.dpl_typed.specs.Lowered.{leaves_of}
use Rattle.dpl_typed.proofs.Standing.{if_ok, if_both, stands-argument}
use Rattle.dpl_mapped.specs.Told.{bound_word, front_standing}
use Rattle.dpl_mapped.proofs.Lows.{domain-told, int-told, low-int, ended-int}
use Rattle.dpl_mapped.proofs.low.low_start.Goals as goal

pub returns-in-Ok-least-clause-told : goal.returns-in-Ok-least-clause-told
returns-in-Ok-least-clause-told c =
    domain-told c.args.scopes.now c.args.rank c.args.word c.args.ends c.in-Some.domain c.in-Ok.of c.args.first.now c.front.new.first c.low_rank.new.first c.in-Ok.ensures.told
    c.in-Some.ensures.ranks c.low_rank.ensures

pub returns-in-Ok-least-clause-node : goal.returns-in-Ok-least-clause-node
returns-in-Ok-least-clause-node c = λ none at simple near.
    let ss = c.args.scopes.now in
    let e = front_standing c.args.ends in
    let low = c.args.ends.low in
    c.in-Ok-least.ensures at
    ∙ ap (λ v. StartExpr (dotted v (Plainly low.at (bound_word low.bound))))
    (c.in-Some.ensures.node (leaves_of ss Once e) (stands-argument c.in-Ok.of (λ m. leaves_of ss m e) (c.in-Ok.ensures.node simple near)))

pub returns-in-Ok-word-clause-told : goal.returns-in-Ok-word-clause-told
returns-in-Ok-word-clause-told c =
    if_ok c.int_start.result
    (λ r h. int-told c.args.scopes.now c.args.rank c.args.word c.first_of.result c.args.ends c.low_word-called.result c.in-Ok.of c.in-Ok-word.found c.args.first.now
    c.front.new.first c.word.new.first c.int_start.new.first c.in-Ok.ensures.told c.in-None.ensures.ranks c.low_word-called.ensures c.in-Ok-word.ensures.told c.first_of.ensures h)
    c.int_start.ensures.told

pub returns-in-Ok-word-clause-node : goal.returns-in-Ok-word-clause-node
returns-in-Ok-word-clause-node c =
    let ss = c.args.scopes.now in
    let base = expr_view c.args.ends.base.now in
    let ps = posts_of c.args.ends.behind.now in
    let e = front_standing c.args.ends in
    let low = c.args.ends.low in
    let w = c.low_word-called.result in
    let found = c.in-Ok-word.found in
    if_both c.int_start.result
    (λ r told made. λ none at simple near.
    let node = c.in-Ok-word.ensures.node (λ m. leaves_of ss m e) (c.in-Ok.ensures.node simple near) at in
    ended-int ss e low w found r c.low_word-called.ensures
    (low-int ss base ps c.in-Ok.of found c.args.rank c.args.word c.first_of.result low.at w c.args.first.now c.front.new.first c.word.new.first c.int_start.new.first c.in-Ok.ensures.told c.in-Ok-word.ensures.told
    told none simple)
    (stands-argument found (λ (m : Times). dotted (leaves_of ss Once e) (Plainly (kept (is_end w) low.at) w)) node) made)
    c.int_start.ensures.told c.int_start.ensures.node
