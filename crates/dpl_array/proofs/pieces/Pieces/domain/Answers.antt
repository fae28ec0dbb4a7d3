-- What the pieces hold are the elements of the locales' parts.
-- These are the answers to the goals of `Pieces::domain`.
use Rattle.std.proofs.Common.{subst}
use Rattle.dpl_array.specs.Arrays.{ArePieces}
use Rattle.dpl_array.proofs.HeldLemmas.{held-formed}
use Rattle.dpl_array.proofs.pieces.Pieces.domain.Goals as goal

pub returns-clause-formed : goal.returns-clause-formed
returns-clause-formed g c = subst ArePieces c.self.view_is (held-formed c.self.inside.domain c.self.inside.map c.self.inside.held.items c.self.invariant)
