use Rattle.std.proofs.Common.{◌≡◌, ◌&&◌, map, drop}
use Rattle.dpl_rules.specs.Verdicts.{each_wanted as each_wanted_of}
use Rattle.dpl_rules.specs.Breaches.{least_from}
use Rattle.dpl_typed.specs.Typed.{part_view}
use Rattle.dpl_types.specs.Wants.{takes}
use Rattle.dpl_types.specs.Owes.{are_none}
use Rattle.dpl_typed.proofs.part.each_wanted.Given as goal

-- what is left to tell from here is what was to tell at first
abbrev pub invariant-loop-part : goal.invariant-loop-part
invariant-loop-part l =
    let left = each_wanted_of (takes l.of) (map part_view (drop l.part-index l.parts)) in
    let all = each_wanted_of (takes l.of) (map part_view l.parts) in
    ((l.holds && are_none left) ≡ are_none all) × (least_from l.first left ≡ least_from l.initial.first all)
