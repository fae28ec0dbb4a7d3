use Rattle.std.proofs.Common.{◌≡◌, map, drop}
use Rattle.dpl_rules.specs.Verdicts.{all_known as all_known_of}
use Rattle.dpl_typed.specs.Typed.{part_view}
use Rattle.dpl_typed.proofs.part.all_known.Given as goal

-- those that are left tell as all do
abbrev pub invariant-loop-part : goal.invariant-loop-part
invariant-loop-part l = all_known_of (map part_view (drop l.part-index l.parts)) ≡ all_known_of (map part_view l.parts)
