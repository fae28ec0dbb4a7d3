-- A part that is no int is told.
use Rattle.std.proofs.Common.{true, [], ◌∷◌}
use Rattle.dpl_rules.specs.Types.{Range, is_int}
use Rattle.dpl_rules.specs.Verdicts.{all_known, each_wanted}
use Rattle.dpl_typed.specs.Typed.{part_view}
use Rattle.dpl_brackets.proofs.Rules.{unmet}
use Rattle.dpl_brackets.proofs.ranges.strided_range.Goals as goal

pub returns-then-not-are_ints-clause-told : goal.returns-then-not-are_ints-clause-told
returns-then-not-are_ints-clause-told c =
    let ps = part_view c.args.bounds.low ∷ part_view c.args.bounds.high ∷ part_view c.args.by ∷ [] in
    unmet (all_known ps) (each_wanted is_int ps) (Range true) c.args.first.now c.are_ints.new.first c.if-not-are_ints.ensures.0 c.if-not-are_ints.ensures.1
