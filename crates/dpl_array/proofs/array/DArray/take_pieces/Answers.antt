-- The pieces are those of their union.
-- These are the answers to the goals of `DArray::take_pieces`.
use Rattle.std.proofs.Common.{ap, ◌∙◌}
use Rattle.dpl_array.specs.Arrays.{pieces_of}
use Rattle.dpl_array.proofs.UnionLemmas.{pieces-union}
use Rattle.dpl_array.proofs.array.DArray.take_pieces.Goals as goal

pub returns-clause-pieces : goal.returns-clause-pieces
returns-clause-pieces g c = pieces-union c.self.inside.pieces c.self.invariant.1 c.self.invariant.0 ∙ ap pieces_of c.self.view_is
