-- What an operator makes of truth values is the whole's value; and a tree is what its form says.
-- These are the answers to the goals of the functions of operators on truth values in turns.
use Rattle.std.proofs.Common.{◌≡◌, ◌+◌, not, List, map, drop, None, Ok, arith, subst, sym, ap, ◌∙◌, rules}
use Rattle.dpl_syntax.proofs.Walks.{drop-end}
use Rattle.dpl_array.specs.Elements.{Row}
use Rattle.dpl_language.specs.Tree.{ExprTree, Not}
use Rattle.dpl_language.specs.Arithmetic.{prefix_of}
use Rattle.dpl_language.specs.Outcome.{with_ok}
use Rattle.dpl_language.specs.Environment.{Limits}
use Rattle.dpl_language.specs.Expressions.{value_of}
use Rattle.dpl_lowered.specs.Shapes.{nowhere, two, grouped}
use Rattle.dpl_memory.specs.Memory.{Variable, Memory, in_memory}
use Rattle.dpl_nodes.specs.declared.tree.BoolExpr.{BoolExpr}
use Rattle.dpl_nodes.specs.declared.step.Names.{Names}
use Rattle.dpl_nodes.specs.Typed.{truth_view, truth_links_of, junction_view}
use Rattle.dpl_nodes.proofs.Chains.{truth_view-chain, truth_links-from, so_far-next}
use Rattle.dpl_loop.specs.declared.strip.Strip.{Strip}
use Rattle.dpl_strips.specs.Strips.{Written, written, IsInOwnTurn}
use Rattle.dpl_strips.specs.Truths.{TruthsHoldInTurns}
use Rattle.dpl_strips.proofs.Truths.{joined-at, joined-hold, so_far-whole}
use Rattle.dpl_strips.proofs.truth_strips.+truths.Goals as goal

pub linked-returns-clause-values : goal.linked-returns-clause-values
linked-returns-clause-values g t c a left =
    let frame = c.args.frame.now in
    let op = c.args.link.now.op in
    let b = truth_view c.args.link.now.right.now in
    let at = λ (e : ExprTree Variable) (u : Memory). value_of frame.limits in_memory e None u in
    joined-hold c.args.names.now (map written c.args.targets.now) frame.memory c.args.strip.now c.turn_truths.new.strip c.join.new.strip c.min-size.result c.join.ensures.row
    (c.turn_truths.ensures.row ∙ c.none-right.ensures.row) c.join.ensures.left c.join.ensures.right (search rules)
    (at a) (at b) (at (two a nowhere (junction_view op) b)) op (λ u x y left right. joined-at frame.limits None u op a b x y left right)
    left c.turn_truths.ensures.values c.join.ensures.words

-- the words of a strip are the truth values of a tree
abbrev HoldIn : (limits : Limits) (names : Names) (xs : List Written) (s : Memory) (strip : Strip) → ExprTree Variable → Type 0
HoldIn limits names xs s strip e = TruthsHoldInTurns names xs (λ u. value_of limits in_memory e None u) s strip

pub chained-loop-link-preserved : goal.chained-loop-link-preserved
chained-loop-link-preserved g t c =
    let frame = c.args.frame.now in
    let links = c.args.links.now in
    let k = c.loop-link.link-index in
    let link = c.link-item.result in
    let Holds = HoldIn frame.limits c.args.names.now (map written c.args.targets.now) frame.memory in (
      c.linked.ensures.row ∙ c.loop-link.invariant.0,
      so_far-next (grouped (truth_view c.args.first.now) (truth_links_of links)) nowhere (junction_view link.op) (truth_view link.right.now)
          (truth_links_of (drop k links)) (truth_links_of (drop (k + 1) links)) (Holds c.loop-link.strip) (Holds c.linked.new.strip)
          (truth_links-from links k link c.loop-link-test.true c.link-item.is) c.linked.ensures.values c.loop-link.invariant.1,
    )

pub chained-returns-clause-values : goal.chained-returns-clause-values
chained-returns-clause-values g t c =
    let frame = c.args.frame.now in
    let links = c.args.links.now in
    let k = c.loop-link.link-index in
    so_far-whole (grouped (truth_view c.args.first.now) (truth_links_of links)) (truth_links_of (drop k links))
    (HoldIn frame.limits c.args.names.now (map written c.args.targets.now) frame.memory c.loop-link.strip)
    (ap truth_links_of (drop-end links k c.loop-link-test.false)) c.loop-link.invariant.1

pub opposites-returns-clause-values : goal.opposites-returns-clause-values
opposites-returns-clause-values g t c k below cap =
    let was = c.turn_truths.ensures.values k (omega (arith, below, c.oppose.ensures.size)) cap in (
      not was.0,
      c.oppose.ensures.words k cap was.0 was.1,
      λ u turn. ap (λ r. with_ok r (λ v. Ok (prefix_of Not v)))
          (was.2 u (subst (λ (row : Row). IsInOwnTurn c.args.names.now (map written c.args.targets.now) row k c.args.frame.now.memory u) c.oppose.ensures.row turn)),
    )

-- truth values of a tree are those of what it is the same as
of_form : (limits : Limits) (names : Names) (xs : List Written) (s : Memory) (strip : Strip) (e form : BoolExpr) → e ≡ form
    → TruthsHoldInTurns names xs (λ u. value_of limits in_memory (truth_view form) None u) s strip
    → TruthsHoldInTurns names xs (λ u. value_of limits in_memory (truth_view e) None u) s strip
of_form limits names xs s strip e form is holds =
    subst (λ e. TruthsHoldInTurns names xs (λ u. value_of limits in_memory (truth_view e) None u) s strip) (sym is) holds

pub turn_truths-returns-in-Local-clause-values : goal.turn_truths-returns-in-Local-clause-values
turn_truths-returns-in-Local-clause-values g t c =
    let frame = c.args.frame.now in
    of_form frame.limits c.args.names.now (map written c.args.targets.now) frame.memory c.local.new.strip c.args.e.now _ c.in-Local.is c.local.ensures.values

pub turn_truths-returns-in-Element-clause-values : goal.turn_truths-returns-in-Element-clause-values
turn_truths-returns-in-Element-clause-values g t c =
    let frame = c.args.frame.now in
    of_form frame.limits c.args.names.now (map written c.args.targets.now) frame.memory c.element.new.strip c.args.e.now _ c.in-Element.is (c.element.ensures.values c.in-Element.field-2.now)

pub turn_truths-returns-in-Not-clause-values : goal.turn_truths-returns-in-Not-clause-values
turn_truths-returns-in-Not-clause-values g t c =
    let frame = c.args.frame.now in
    of_form frame.limits c.args.names.now (map written c.args.targets.now) frame.memory c.opposites.new.strip c.args.e.now _ c.in-Not.is c.opposites.ensures.values

pub turn_truths-returns-in-Chain-clause-values : goal.turn_truths-returns-in-Chain-clause-values
turn_truths-returns-in-Chain-clause-values g t c =
    let frame = c.args.frame.now in
    subst (HoldIn frame.limits c.args.names.now (map written c.args.targets.now) frame.memory c.chained.new.strip)
    (sym (ap truth_view c.in-Chain.is ∙ truth_view-chain c.in-Chain.first c.in-Chain.links)) c.chained.ensures.values

pub turn_truths-returns-in-Compare-clause-values : goal.turn_truths-returns-in-Compare-clause-values
turn_truths-returns-in-Compare-clause-values g t c =
    let frame = c.args.frame.now in
    of_form frame.limits c.args.names.now (map written c.args.targets.now) frame.memory c.compared.new.strip c.args.e.now _ c.in-Compare.is c.compared.ensures.values
