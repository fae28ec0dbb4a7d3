-- The pieces are those of the array with one value everywhere.
-- These are the answers to the goals of `DArray::new`.
use Rattle.std.proofs.Common.{◌<◌, ℤ, List, ap, sym, ◌∙◌, subst}
use Rattle.dpl_sets.specs.Indices.{indices}
use Rattle.dpl_map.specs.Maps.{owner, locales}
use Rattle.dpl_array.specs.Arrays.{IsWhole, filled_array, union}
use Rattle.dpl_array.proofs.ElementLemmas.{over-filled}
use Rattle.dpl_array.proofs.UnionLemmas.{pieces-whole, union-pieces}
use Rattle.dpl_array.proofs.array.DArray.new.Goals as goal

pub invariant_of-result : goal.invariant_of-result
invariant_of-result g c =
    (subst IsWhole (sym c.in_ok-pieces.ensures.pieces) (pieces-whole (filled_array c.args.domain c.args.map c.args.value)), c.in_ok-pieces.ensures.formed)

pub returns-clause-array : goal.returns-clause-array
returns-clause-array g c =
    let owners : (t : List ℤ) → owner c.args.map t < locales c.args.map =
    subst (λ ps. (t : List ℤ) → owner ps.map t < locales ps.map) c.in_ok-pieces.ensures.pieces c.in_ok-pieces.ensures.formed.owners in
    ap union c.in_ok-pieces.ensures.pieces ∙ union-pieces (filled_array c.args.domain c.args.map c.args.value) (over-filled (indices c.args.domain) c.args.value) owners
