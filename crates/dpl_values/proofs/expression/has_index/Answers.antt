-- Whether a domain has an index is by the values of both.
-- These are the answers to the goals of `has_index`.
use Rattle.std.proofs.Common.{rules, Ok, refl, ◌∙◌}
use Rattle.std.proofs.lemmas.Result.{err_from_is_err_and}
use Rattle.dpl_language.specs.Values.{Truth}
use Rattle.dpl_language.specs.Ranges.{contains_index}
use Rattle.dpl_nodes.specs.Typed.{index_exprs}
use Rattle.dpl_loop.proofs.Folding.{with_ok-ends}
use Rattle.dpl_values.specs.Reductions.{MayRefuseReduction, EachInIndex, EachInHasIndex}
use Rattle.dpl_values.proofs.Telling.{refused-within}
use Rattle.dpl_values.proofs.Views.{domain_contains}
use Rattle.dpl_values.proofs.expression.has_index.Goals as goal

pub returns-in_err-index : goal.returns-in_err-index
returns-in_err-index g c =
    let wider = refused-within (g.G.Gate.may_refuse c.args.gate.now) c.args.frame.now in
    let p = err_from_is_err_and c.from_residual-in_err-index.result c.from_residual-in_err-index.ensures.1 in
    rw (p.1, p.2)
    (with_ok-ends (MayRefuseReduction (g.G.Gate.may_refuse c.args.gate.now) c.args.frame.now (EachInIndex c.args.t.now)) _ (λ t. t) c.index_value.new.turn c.in_err-index.field-0.0 _
    (λ t. Ok (Truth (contains_index c.in_ok-domain.domain t))) _ Truth
    (wider (EachInIndex c.args.t.now) (EachInHasIndex c.args.d.now c.args.t.now) (λ Holds all. all.1))
    (domain_contains c.args.frame.now.limits c.args.frame.now.memory c.args.d.now (index_exprs c.args.t.now) c.in_ok-domain.domain _ c.in_ok-domain.ensures refl)
    c.in_err-index.ensures)

pub returns : goal.returns
returns g c =
    domain_contains c.args.frame.now.limits c.args.frame.now.memory c.args.d.now (index_exprs c.args.t.now) c.in_ok-domain.domain _ c.in_ok-domain.ensures c.in_ok-index.ensures
    ∙ search rules
