-- The elements are the old words, where they are found side by side.
-- These are the answers to the goals of `changed`.
use Rattle.std.proofs.Common.{◌≡◌, ◌<◌, pos, None, get_or, length, sym, ap, ◌∙◌, arith, rules}
use Rattle.std.proofs.lemmas.Option.{same_Some, slice_get-get_or}
use Rattle.dpl_language.specs.Values.{Int}
use Rattle.dpl_language.specs.Arithmetic.{assigned}
use Rattle.dpl_elements.proofs.row.changed.Goals as goal

pub returns-then-replaces-clause-words : goal.returns-then-replaces-clause-words
returns-then-replaces-clause-words g c k old below cap at = c.replaces.ensures.value (search rules) (Int old) (Int (get_or c.args.strip.now.words k (pos 0)))

pub returns-then-replaces-clause-divides : goal.returns-then-replaces-clause-divides
returns-then-replaces-clause-divides g c some = c.replaces.ensures.divides (search rules)

pub returns-else-not-is_empty-clause-words : goal.returns-else-not-is_empty-clause-words
returns-else-not-is_empty-clause-words g c k old below cap at =
    let run = c.run-old.result.now in
    let within : k < length run = omega (arith, below, c.combine.ensures.old) in
    let there = c.run-old.ensures k (get_or run k (pos 0)) (slice_get-get_or run k (pos 0) within) in
    let same : old ≡ get_or run k (pos 0) = same_Some old (get_or run k (pos 0)) (sym at ∙ there) in
    ap (λ n. assigned c.args.op None (Int n) (Int (get_or c.args.strip.now.words k (pos 0)))) same ∙ c.combine.ensures.words k below cap
