-- The least member is the lesser of the two ends.
use Rattle.std.proofs.Common.{ap, sym, ◌∙◌, rules, Ok, w64, FitsSigned}
use Rattle.std.proofs.lemmas.Int.{to_z-of_z}
use Rattle.dpl_range.specs.Invariant.{IsRange}
use Rattle.dpl_language.specs.Values.{Int}
use Rattle.dpl_values.proofs.Ranges.{end_of-least, told_end}
use Rattle.dpl_values.proofs.range.low.Goals as goal

pub returns-in-Some : goal.returns-in-Some
returns-in-Some c =
    let fits : FitsSigned w64 c.in-Some.end = search rules in
    let limits : IsRange c.args.range.range = search rules in
    sym (ap (λ n. Ok (Int n)) (to_z-of_z w64 c.in-Some.end fits)
    ∙ ap (told_end c.args.at) (sym c.in-Some.is)
    ∙ sym (end_of-least c.args.at c.args.range.range c.low.result limits (c.low.ensures.empty, c.low.ensures.member, c.low.ensures.least)))
