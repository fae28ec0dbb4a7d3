-- Words put side by side are the changes of their elements.
-- These are the answers to the goals of `put_row`.
use Rattle.std.proofs.Common.{◌≤◌, pos, take, length, get_or, ap, ◌∙◌, Some, arith, rules}
use Rattle.std.proofs.lemmas.List.{get_or-take}
use Rattle.std.proofs.lemmas.Option.{slice_get-get_or}
use Rattle.dpl_strips.proofs.Strips.{take-few}
use Rattle.dpl_elements.proofs.Alongside.{arrays_put}
use Rattle.dpl_elements.proofs.PutRows.{are-put}
use Rattle.dpl_elements.proofs.row.put_row.Goals as goal

pub returns-clause-put : goal.returns-clause-put
returns-clause-put g c =
    let f = c.args.frame.now in
    let strip = c.changed.new.strip in
    let size = c.min-size.result in
    let words = take size strip.words in
    let made = c.put_along.result in
    let few : size ≤ 64 = search rules in
    let small : size ≤ strip.size = search rules in
    let long : length words ≤ size = take-few size strip.words in (
      arrays_put c.args.name.now.slot c.args.at words f.memory.arrays made,
      c.put_along.ensures.changes,
      are-put f.limits c.args.name.now c.args.op c.args.sign.now c.args.at c.args.strip.now made words f.memory.arrays
          (omega (arith, c.rank.ensures.rank, c.rank.ensures.limits))
          (λ some. c.changed.ensures.divides (omega (arith, some, long, small, c.put_along.ensures.most)))
          c.step.ensures.moves
          c.put_along.ensures.there
          (λ k below. (get_or strip.words k (pos 0), slice_get-get_or words k (pos 0) (omega (arith, below, c.put_along.ensures.most)) ∙ ap Some (get_or-take size strip.words k (pos 0) (omega (arith, below, long, c.put_along.ensures.most))), λ old at. c.changed.ensures.words k old (omega (arith, below, long, small, c.put_along.ensures.most)) (omega (arith, below, long, few, c.put_along.ensures.most)) at)),
    )
