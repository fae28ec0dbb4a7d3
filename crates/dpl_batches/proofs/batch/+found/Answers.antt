-- Statements by their forms: each comes to what is kept back after it.
-- These are the answers to the goals of the functions that find statements.
use Rattle.std.proofs.Common.{◌≡◌, ◌<◌, ◌≤◌, ◌+◌, Some, drop, length, slice_get, option_map, sym, subst, ap, ◌∙◌, arith, rules}
use Rattle.std.proofs.lemmas.Option.{slice_get-get_or}
use Rattle.dpl_range.proofs.Lists.{drop-slice_get}
use Rattle.dpl_language.specs.Tree.{If, NoStmts, Then}
use Rattle.dpl_lowered.specs.Shapes.{nowhere}
use Rattle.dpl_standing.specs.Standing.{Outside}
use Rattle.dpl_nodes.specs.Typed.{truth_view}
use Rattle.dpl_nodes.specs.Steps.{listed}
use Rattle.dpl_readings.specs.Readings.{step_in, else_in, steps_in}
use Rattle.dpl_readings.proofs.Views.{block_in, if_in}
use Rattle.dpl_batches.specs.Stores.{AreFound, else_body}
use Rattle.dpl_batches.proofs.Found.{block-found, branch-found, branches-found, LeftToFind, next-left}
use Rattle.dpl_batches.proofs.batch.+found.Goals as goal

pub branches-returns-clause-found : goal.branches-returns-clause-found
branches-returns-clause-found g t c w =
    let f = c.args.frame.now in
    let names = c.args.lanes.now.names.now in
    let row = c.args.lanes.now.row in
    let xs = c.args.stores.now in
    let mask = option_map (λ ms. ms.now) c.args.lanes.now.mask in
    let zs = c.statement.new.stores in
    let size = c.statement.result in
    subst (λ t. AreFound f.limits names row f.memory (Then (step_in w t) NoStmts) mask size xs zs) (sym c.in-If.is)
    (subst (λ t. AreFound f.limits names row f.memory (Then t NoStmts) mask size xs zs) (sym (if_in w c.in-If.condition c.in-If.body c.in-If.otherwise))
    (branches-found f.limits names row f.memory mask c.narrow.new.holds.words (truth_view c.in-If.condition.now) (steps_in w c.in-If.body.now) xs c.statements-left.new.stores
    c.min-known.result c.statements-left.result c.requires.apart c.found_truths.new.strip c.found_truths.ensures.row (search rules) c.statements-left.ensures.most
    c.narrow.ensures c.found_truths.ensures.values (c.statements-left.ensures.found w)
    (else_in w c.in-If.otherwise) c.turn_over.new.met.words zs size c.statement.ensures.most c.turn_over.ensures
    (subst (λ o. AreFound f.limits names row f.memory (else_body (else_in w o)) (Some c.turn_over.new.met.words) size c.statements-left.new.stores zs) (sym c.in-Do.is) (c.statement.ensures.found w))))

pub branches-returns-in_default-otherwise-clause-found : goal.branches-returns-in_default-otherwise-clause-found
branches-returns-in_default-otherwise-clause-found g t c w =
    let f = c.args.frame.now in
    let names = c.args.lanes.now.names.now in
    let row = c.args.lanes.now.row in
    let xs = c.args.stores.now in
    let mask = option_map (λ ms. ms.now) c.args.lanes.now.mask in
    let ys = c.statements-left.new.stores in
    let left = c.statements-left.result in
    subst (λ t. AreFound f.limits names row f.memory (Then (step_in w t) NoStmts) mask left xs ys) (sym c.in-If.is)
    (subst (λ t. AreFound f.limits names row f.memory (Then t NoStmts) mask left xs ys) (sym (if_in w c.in-If.condition c.in-If.body c.in-If.otherwise))
    (subst (λ o. AreFound f.limits names row f.memory (Then (If nowhere (truth_view c.in-If.condition.now) (listed (steps_in w c.in-If.body.now)) (else_in w o)) NoStmts) mask left xs ys)
    (sym c.in_default-otherwise.is)
    (branch-found f.limits names row f.memory mask c.narrow.new.holds.words (truth_view c.in-If.condition.now) (steps_in w c.in-If.body.now) xs ys
    c.min-known.result left c.requires.apart c.found_truths.new.strip c.found_truths.ensures.row (search rules) c.statements-left.ensures.most
    c.narrow.ensures c.found_truths.ensures.values (c.statements-left.ensures.found w))))

pub statement-returns-in-Block-clause-found : goal.statement-returns-in-Block-clause-found
statement-returns-in-Block-clause-found g t c w =
    let f = c.args.frame.now in
    let names = c.args.lanes.now.names.now in
    let row = c.args.lanes.now.row in
    let xs = c.args.stores.now in
    let mask = option_map (λ ms. ms.now) c.args.lanes.now.mask in
    let ys = c.statements.new.stores in
    let size = c.statements.result in
    subst (λ t. AreFound f.limits names row f.memory (Then (step_in w t) NoStmts) mask size xs ys) (sym c.in-Block.is)
    (subst (λ t. AreFound f.limits names row f.memory (Then t NoStmts) mask size xs ys) (sym (block_in w c.in-Block.body))
    (block-found f.limits names row f.memory mask (steps_in w c.in-Block.body.now) size xs ys (c.statements.ensures.found w)))

pub statements-loop-k-preserved : goal.statements-loop-k-preserved
statements-loop-k-preserved g t c =
    let f = c.args.frame.now in
    let names = c.args.lanes.now.names.now in
    let row = c.args.lanes.now.row in
    let mask = option_map (λ ms. ms.now) c.args.lanes.now.mask in
    let body = c.args.body.now in
    let xs = c.args.stores.now in
    let ys = c.loop-k.stores in
    let zs = c.statement-left.new.stores in
    let left = c.loop-k.left in
    let size = c.statement-left.result in
    let k = c.loop-k.k in
    let step = c.index-body-k.result in
    let within : k < length body = search rules in
    let at : slice_get body k ≡ Some step = slice_get-get_or body k step within ∙ ap Some (sym c.index-body-k.is) in
    let fewer : size ≤ left = c.statement-left.ensures.most in
    let found = c.statement-left.ensures.found in
    let before = c.loop-k.invariant in
    record {
      fewer = omega (arith, fewer, before.fewer);
      few = c.statement-left.ensures.few;
      apart = c.statement-left.ensures.apart;
      alike = (found Outside).alike ∙ before.alike;
      there = λ j below cap there. (found Outside).there j below cap (before.there j (omega (arith, below, fewer)) cap there);
      does = λ w.
          let whole = steps_in w body in
          let next = subst (λ ts. LeftToFind f.limits names row f.memory mask whole xs (steps_in w ts) left ys) (drop-slice_get body k step at) (before.does w) in
          next-left f.limits names row f.memory mask whole xs (step_in w step) (steps_in w (drop (k + 1) body)) ys zs left size fewer before.alike before.there next (found w);
    }

-- of no turn nothing is said
pub statements-returns-then-left-eq0-clause-found : goal.statements-returns-then-left-eq0-clause-found
statements-returns-then-left-eq0-clause-found g t c w = record {
  alike = (c.statement-left.ensures.found Outside).alike ∙ c.loop-k.invariant.alike;
  there = λ k below. absurd (omega (arith, below));
  does = λ k below. absurd (omega (arith, below));
}
