-- A round is no longer than 2^69.
use Rattle.std.proofs.Common.{◌≡◌, ◌*◌, ◌≤◌, ◌^◌, ℤ, pos, to_z, arith, subst, FitsSigned, w64, sym, rules}
use mir.Syntax.{w128}
use Rattle.std.proofs.lemmas.Int.{ints, to_z-of_z}
use Rattle.std.proofs.Math.Nat.{mul-le-mul}
use Rattle.dpl_map.specs.Blocks.{BeginsRound}
use Rattle.dpl_map.proofs.blocks.Deal.new.Goals as goal

pub returns-clause-begins : goal.returns-clause-begins
returns-clause-begins c =
    let start_fits : FitsSigned w64 c.args.start = c.ranges.start in
    let fits : FitsSigned w128 c.round_of.result = search rules in
    let short : c.args.extent * c.args.size ≤ 64 * 2 ^ 63 = mul-le-mul {n₁ = c.args.extent} {m₁ = c.args.size} {n₂ = 64} {m₂ = 2 ^ 63} c.requires.extent (omega (arith, c.requires.machine)) in
    let round : to_z w128 (c.args.extent * c.args.size) ≡ pos (c.args.extent * c.args.size) = omega (arith, ints, short) in
    let begins = simp to_z-of_z at c.round_of.ensures.begins (c.args.extent * c.args.size) round in
    subst (λ (o : ℤ). BeginsRound c.args.start (c.args.extent * c.args.size) o) (sym (to_z-of_z w128 c.round_of.result fits)) begins
