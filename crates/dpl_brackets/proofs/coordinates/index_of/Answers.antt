-- Three ints.
use Rattle.std.proofs.Common.{ap, subst, ◌∙◌}
use Rattle.dpl_language.specs.Tree.{One}
use Rattle.dpl_nodes.specs.Typed.{int_view, index_items, index_exprs}
use Rattle.dpl_typed.specs.Stands.{AreItems, AreArguments}
use Rattle.dpl_typed.proofs.Standing.{if_ok}
use Rattle.dpl_brackets.proofs.Parts.{list-three, int-item, int-argument, items-of-three, exprs-of-three}
use Rattle.dpl_brackets.proofs.coordinates.index_of.Goals as goal

pub returns-in-len3-clause-items : goal.returns-in-len3-clause-items
returns-in-len3-clause-items c =
    let a = c.a-item-then-parts-lt4 in
    let b = c.b-item-then-parts-lt4 in
    let d = c.c-item in
    let x = c.int_of-in-len3 in
    let y = c.int_of-in-len3-2 in
    let z = c.int_of-in-len3-3 in
    let three = list-three c.args.parts.now a.result b.result d.result c.in-len3.len_at_least c.in-len3.len_below a.is b.is d.is in
    if_ok c.node-in-len3.result
    (λ t e. λ is few seen.
    ap index_items e
    ∙ items-of-three a.result b.result d.result (One (int_view x.result.now)) (One (int_view y.result.now)) (One (int_view z.result.now)) is
    (int-item a.result.found x.result x.ensures) (int-item b.result.found y.result y.ensures) (int-item d.result.found z.result z.ensures) (subst (λ ps. AreItems ps is) three seen))
    c.node-in-len3.ensures

pub returns-in-len3-clause-exprs : goal.returns-in-len3-clause-exprs
returns-in-len3-clause-exprs c =
    let a = c.a-item-then-parts-lt4 in
    let b = c.b-item-then-parts-lt4 in
    let d = c.c-item in
    let x = c.int_of-in-len3 in
    let y = c.int_of-in-len3-2 in
    let z = c.int_of-in-len3-3 in
    let three = list-three c.args.parts.now a.result b.result d.result c.in-len3.len_at_least c.in-len3.len_below a.is b.is d.is in
    if_ok c.node-in-len3.result
    (λ t e. λ es few seen.
    ap index_exprs e
    ∙ exprs-of-three a.result b.result d.result (int_view x.result.now) (int_view y.result.now) (int_view z.result.now) es
    (int-argument a.result.found x.result x.ensures) (int-argument b.result.found y.result y.ensures) (int-argument d.result.found z.result z.ensures) (subst (λ ps. AreArguments ps es) three seen))
    c.node-in-len3.ensures
