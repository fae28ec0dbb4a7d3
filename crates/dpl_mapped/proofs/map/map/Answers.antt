-- Where nothing was told of either, both starts of a map by blocks and cycles are made.
use Rattle.std.proofs.Common.{sym, ap, subst, ◌∙◌}
use Rattle.dpl_tree.specs.Declarations.{map_view, start_view}
use Rattle.dpl_rules.specs.Maps.{start_breaches}
use Rattle.dpl_lowered.specs.LoweredStatements.{block_cyclic_map}
use Rattle.dpl_nodes.specs.Steps.{start_view as node_view}
use Rattle.dpl_mapped.specs.Starts.{start_leaves}
use Rattle.dpl_mapped.specs.Named.{map_leaves, IsPlainMap}
use Rattle.dpl_mapped.specs.Made.{IsStartAs}
use Rattle.dpl_types.proofs.Unbroken.{unbroken}
use Rattle.dpl_mapped.proofs.map.map.Goals as goal

pub returns-in_default-from-clause-node : goal.returns-in_default-from-clause-node
returns-in_default-from-clause-node c = λ none plain.
    let ss = c.args.scopes.now in
    let m = c.in-BlockCyclic.map in
    let here = subst (λ m. IsPlainMap ss c.args.rank (map_view m)) c.in-BlockCyclic.is plain in
    let before = (unbroken c.start-in-BlockCyclic.new.first (start_breaches ss c.args.rank m.word (start_view m.size)) (sym c.in-Ok-start-3.ensures.told ∙ none)).0 in
    subst (IsStartAs ss (start_view m.start)) c.in_default-from.is (c.in-Ok-start-2.ensures.node before (here.0, here.1.0, here.2.4))

pub returns-in-Some-sizes-clause-node : goal.returns-in-Some-sizes-clause-node
returns-in-Some-sizes-clause-node c = λ none plain.
    let ss = c.args.scopes.now in
    let m = c.in-BlockCyclic.map in
    let here = subst (λ m. IsPlainMap ss c.args.rank (map_view m)) c.in-BlockCyclic.is plain in
    let before = (unbroken c.start-in-BlockCyclic.new.first (start_breaches ss c.args.rank m.word (start_view m.size)) (sym c.in-Ok-start-3.ensures.told ∙ none)).0 in
    let from = subst (IsStartAs ss (start_view m.start)) c.in-Some-from.is (c.in-Ok-start-2.ensures.node before (here.0, here.1.0, here.2.4)) in
    let sizes = subst (IsStartAs ss (start_view m.size)) c.in-Some-sizes.is (c.in-Ok-start-3.ensures.node none (here.0, here.1.1, here.2.7)) in
    ap (λ s. block_cyclic_map s (node_view c.in-Some-sizes.sizes)) from ∙ ap (λ s. block_cyclic_map (start_leaves ss (start_view m.start)) s) sizes
    ∙ ap (λ m. map_leaves ss (map_view m)) (sym c.in-BlockCyclic.is)
