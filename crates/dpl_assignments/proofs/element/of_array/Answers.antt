-- Parts that pass the rule of an index are one.
use Rattle.std.proofs.Common.{rules, ◌≡◌, true, map, sym, ◌∙◌}
use Rattle.dpl_rules.specs.Operators.{index_breaches}
use Rattle.dpl_rules.specs.Verdicts.{all_known}
use Rattle.dpl_types.specs.Owes.{are_none}
use Rattle.dpl_typed.specs.Typed.{part_view}
use Rattle.dpl_brackets.proofs.Rules.{index-met}
use Rattle.dpl_types.proofs.Unbroken.{both-hold}
use Rattle.dpl_assignments.proofs.element.of_array.Goals as goal

pub at_index-requires : goal.at_index-requires
at_index-requires c =
    let parts = map part_view c.args.parts.now in
    let holds : c.is_index.result ≡ true = search rules in
    let met = both-hold (all_known parts) (are_none (index_breaches c.args.last c.args.rank parts)) (sym c.is_index.ensures.0 ∙ holds) in
    index-met c.args.last c.args.rank parts met.0 met.1
