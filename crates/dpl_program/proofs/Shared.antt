-- The body of a forall, and an assignment to a whole array, may be shared among workers: the trees of its statements may, as those of all
-- expressions in them. For trees that lead back to themselves (a ring of types) the toolchain has this from the fields of each of their types;
-- all of it in one search is too much for it.
use denote.Ref.{NamedLft}
use denote.Param.Send.{IsSync, sendable}
use denote.Param.SendFields.{as_row_sync}
use Rattle.std.proofs.Crossing.{crosses}
use Rattle.dpl_nodes.proofs.tree.DomainExpr.TheLaws.TheKnot as IntKnot
use Rattle.dpl_nodes.proofs.tree.BoolExpr.TheLaws.TheKnot as TruthKnot
use Rattle.dpl_nodes.proofs.step.Else.TheLaws.TheKnot as StepKnot
use Rattle.dpl_nodes.specs.contracts.tree.IntExpr as int
use Rattle.dpl_nodes.specs.contracts.tree.BoolExpr as truth
use Rattle.dpl_nodes.specs.contracts.tree.RangeExpr as range
use Rattle.dpl_nodes.specs.contracts.tree.DomainExpr as domain
use Rattle.dpl_nodes.specs.contracts.tree.PromotedInt as ints
use Rattle.dpl_nodes.specs.contracts.tree.PromotedTruth as truths
use Rattle.dpl_nodes.specs.contracts.step.ArrayDeclaration as array
use Rattle.dpl_nodes.specs.contracts.step.Step as step
use Rattle.dpl_elements.specs.contracts.whole.WholeTurns as wholes
use Rattle.dpl_program.specs.contracts.body.Body as body

pub ruleset rings = (crosses, IntKnot.crosses, TruthKnot.crosses, sendable)

pub int-sync : (κ : NamedLft) → IsSync (int.the_row κ)
int-sync κ = search rings depth 60 fits 20000

pub range-sync : (κ : NamedLft) → IsSync (range.the_row κ)
range-sync κ = search rings depth 60 fits 20000

pub domain-sync : (κ : NamedLft) → IsSync (domain.the_row κ)
domain-sync κ = search rings depth 60 fits 20000

pub truth-sync : (κ : NamedLft) → IsSync (truth.the_row κ)
truth-sync κ = search (int-sync, range-sync, domain-sync, rings) depth 60 fits 20000

pub ruleset nodes = (int-sync, range-sync, domain-sync, truth-sync, rings)

pub ints-sync : (κ : NamedLft) → IsSync (ints.the_row κ)
ints-sync κ = search nodes depth 60 fits 20000

pub truths-sync : (κ : NamedLft) → IsSync (truths.the_row κ)
truths-sync κ = search (ints-sync, nodes) depth 60 fits 20000

pub array-sync : (κ : NamedLft) → IsSync (array.the_row κ)
array-sync κ = search (ints-sync, truths-sync, nodes) depth 60 fits 20000

pub ruleset fields = (array-sync, ints-sync, truths-sync, nodes)

pub step-sync : (κ : NamedLft) → IsSync (step.the_row κ)
step-sync κ =
    as_row_sync (step.the_field κ)
    (StepKnot.sync-Step κ (λ h s. search sendable)
    (search fields depth 60 fits 20000)
    (search fields depth 60 fits 20000)
    (search fields depth 60 fits 20000)
    (search fields depth 60 fits 20000)
    (search fields depth 60 fits 20000)
    (search fields depth 60 fits 20000)
    (search fields depth 60 fits 20000)
    (search fields depth 60 fits 20000)
    (search fields depth 60 fits 20000)
    (search fields depth 60 fits 20000)
    (search fields depth 60 fits 20000)
    (search fields depth 60 fits 20000)
    (search fields depth 60 fits 20000)
    (search fields depth 60 fits 20000)
    (search fields depth 60 fits 20000)
    (search fields depth 60 fits 20000)
    (search fields depth 60 fits 20000)
    (search fields depth 60 fits 20000)
    (search fields depth 60 fits 20000)
    (λ h s. search sendable)
    (search fields depth 60 fits 20000)
    (search fields depth 60 fits 20000)
    (search fields depth 60 fits 20000))

pub body-sync : (κ λ' : NamedLft) → IsSync (body.the_row κ λ')
body-sync κ λ' = search (step-sync, fields) depth 60 fits 20000

pub wholes-sync : (κ λ' : NamedLft) → IsSync (wholes.the_row κ λ')
wholes-sync κ λ' = search fields depth 60 fits 20000
