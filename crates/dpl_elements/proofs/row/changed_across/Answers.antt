-- The elements are the old words, which are gathered.
-- These are the answers to the goals of `changed_across`.
use Rattle.std.proofs.Common.{◌≡◌, ◌<◌, ◌≤◌, pos, None, get_or, take, sym, ap, ◌∙◌, arith, rules}
use Rattle.std.proofs.lemmas.List.{get_or-take}
use Rattle.std.proofs.lemmas.Option.{same_Some}
use Rattle.dpl_language.specs.Values.{Int}
use Rattle.dpl_language.specs.Arithmetic.{assigned}
use Rattle.dpl_strips.proofs.Strips.{take-few}
use Rattle.dpl_elements.proofs.row.changed_across.Goals as goal

pub returns-clause-words : goal.returns-clause-words
returns-clause-words g c k old below cap at =
    let words = c.gather.new.strip.words in
    let size = c.min-size.result in
    let few : size ≤ c.gather.new.strip.size = search rules in
    let within : k < size = omega (arith, below, c.combine.ensures.old, take-few size words) in
    let there = c.gather.ensures.words k (omega (arith, within, few)) cap in
    let same : old ≡ get_or (take size words) k (pos 0) = same_Some old (get_or words k (pos 0)) (sym at ∙ there) ∙ sym (get_or-take size words k (pos 0) within) in
    ap (λ n. assigned c.args.op None (Int n) (Int (get_or c.args.strip.now.words k (pos 0)))) same ∙ c.combine.ensures.words k below cap
