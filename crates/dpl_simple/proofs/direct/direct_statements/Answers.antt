-- Each statement that is done goes over to what is left behind it.
use Rattle.std.proofs.Common.{◌≡◌, ◌≤◌, ◌<◌, ◌+◌, true, drop, length, slice_get, Some, arith, rules, refl, sym, ap, ◌∙◌}
use Rattle.std.proofs.lemmas.Option.{slice_get-get_or}
use Rattle.dpl_syntax.proofs.Walks.{drop-end}
use Rattle.dpl_range.proofs.Lists.{drop-slice_get}
use Rattle.dpl_language.specs.Outcome.{then_do}
use Rattle.dpl_language.specs.Statements.{exec, exec_all}
use Rattle.dpl_readings.specs.Readings.{step_in, steps_in}
use Rattle.dpl_coming.specs.Noting.{noting}
use Rattle.dpl_coming.specs.Walks.{with_rest}
use Rattle.dpl_coming.proofs.Walking.{goes-nothing, goes-over, goes-then}
use Rattle.dpl_simple.proofs.direct.direct_statements.Goals as goal

pub loop-k-init : goal.loop-k-init
loop-k-init g c = record { goes = λ w note site o. goes-nothing site o c.args.frame.now.memory _; limits = refl }

pub loop-k-preserved : goal.loop-k-preserved
loop-k-preserved g c =
    let limits = c.args.frame.now.limits in
    let steps = c.args.steps.now in
    let k = c.loop-k.k in
    let s = c.index-steps-k.result in
    let here = c.loop-k.frame.memory in
    let next = c.direct_statement.new.frame.memory in
    let made : c.direct_statement.result ≡ true = search rules in
    let within : k < length steps = search rules in
    let at : slice_get steps k ≡ Some s = slice_get-get_or steps k s within ∙ ap Some (sym c.index-steps-k.is) in
    record {
      goes = λ w note site o.
          let left = exec_all limits (noting note) (steps_in w (drop (k + 1) steps)) in
          goes-then site o o o c.args.frame.now.memory here next _ _ left (c.loop-k.invariant.goes w note site o)
          (goes-over site o here next _ left (λ rest d.
          ap (λ ss. exec_all limits (noting note) (steps_in w ss) (with_rest site rest here) d) (drop-slice_get steps k s at)
          ∙ ap (λ l. then_do (exec l (noting note) (step_in w s) (with_rest site rest here) d) left) (sym c.loop-k.invariant.limits)
          ∙ ap (λ o. then_do o left) (c.direct_statement.ensures.done made w note site rest d)));
      limits = c.direct_statement.ensures.limits ∙ c.loop-k.invariant.limits;
    }

pub returns-clause-goes : goal.returns-clause-goes
returns-clause-goes g c w note site o =
    let steps = c.args.steps.now in
    let here = c.loop-k.frame.memory in
    let past : length steps ≤ c.loop-k.k = search rules in
    let whole : length steps ≤ length steps = omega arith in
    goes-then site o o o c.args.frame.now.memory here here _ _ _ (c.loop-k.invariant.goes w note site o)
    (goes-over site o here here _ _ (λ rest d.
    ap (λ ss. exec_all c.args.frame.now.limits (noting note) (steps_in w ss) (with_rest site rest here) d) (drop-end steps c.loop-k.k past ∙ sym (drop-end steps (length steps) whole))))
