-- The members of a range are within the limits, and so is a box of them.
use Rattle.std.proofs.Common.{arith, Option, Some, None, ℤ, Contains, IsNone, IfSome, unwrap_or, refl}
use Rattle.std.proofs.lemmas.Int.{ints}
use Rattle.dpl_sets.specs.Ranges.{RangeValue, members_of, IsBound}
use Rattle.dpl_range.specs.Invariant.{IsRange}
use Rattle.dpl_range.proofs.Ends.{slice_get-Contains}
use Rattle.dpl_range.proofs.MemberLemmas.{member-within}

pub IsBound-member : (r : RangeValue) (i : ℤ) → IsRange r → Contains (members_of r) i → IsBound i
IsBound-member r i limits member =
    let at = slice_get-Contains (members_of r) i member in
    let within = member-within r.low r.high r.stride at.0 i limits.stride_is_not_zero at.1 in
    (omega (arith, ints, within.0, limits.low_is_bound), omega (arith, ints, within.1, limits.high_is_bound))

-- what holds of a value that is there
pub unwrapped : (P : ℤ → Type 0) (o : Option ℤ) (d : ℤ) → (IsNone o → ⊥) → IfSome o P → P (unwrap_or o d)
unwrapped P None d some holds = absurd (some refl)
unwrapped P (Some i) d some holds = holds
