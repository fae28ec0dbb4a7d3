use Rattle.std.proofs.Common.{◌≡◌, map, drop}
use Rattle.dpl_rules.specs.Operators.{any_strided as any_strided_of}
use Rattle.dpl_typed.specs.Typed.{part_view}
use Rattle.dpl_typed.proofs.part.any_strided.Given as goal

-- those that are left tell as all do
abbrev pub invariant-loop-part : goal.invariant-loop-part
invariant-loop-part l = any_strided_of (map part_view (drop l.part-index l.parts)) ≡ any_strided_of (map part_view l.parts)
