-- The slot holds the domain without an index, and has its root.
use Rattle.std.proofs.Common.{List, sym, ap, ◌∙◌}
use Rattle.dpl_sets.specs.TextRanges.{TextRange}
use Rattle.dpl_language.specs.Outcome.{Done}
use Rattle.dpl_simple.specs.Lineages.{empty_root}
use Rattle.dpl_simple.proofs.Rooting.{rooted_memory, dealt-domain, exec-empty}
use Rattle.dpl_simple.proofs.domain.declare_empty.Goals as goal

pub returns-clause-ends : goal.returns-clause-ends
returns-clause-ends g c done =
    let limits = c.args.frame.now.limits in
    let s = c.args.frame.now.memory in
    let root = λ (rs : List TextRange). empty_root limits c.args.placing.now rs s in
    exec-empty limits s c.args.slot done c.args.rank c.args.placing.now
    ∙ ap (λ rs. Done (rooted_memory c.args.slot s root rs) done) (sym c.empty.ensures)
    ∙ ap (λ m. Done m done)
    (dealt-domain c.args.slot root _ c.domain.result c.empty.result c.args.frame.now c.declare_domain.new.self c.deal.new.self
    c.declare_domain.ensures c.domain.ensures (c.root-root.ensures ∙ c.in_ok-lineage.ensures c.domain.result) c.deal.ensures)
