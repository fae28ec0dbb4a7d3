-- The piece of each locale is the array's restriction.
-- These are the answers to the goals of `DArray::piece`.
use Rattle.std.proofs.lemmas.Option.{IfSome_then}
use Rattle.dpl_array.proofs.UnionLemmas.{piece-lent}
use Rattle.dpl_array.proofs.array.DArray.piece.Goals as goal

pub returns-clause-piece : goal.returns-clause-piece
returns-clause-piece g c =
    IfSome_then c.piece.result c.piece.ensures.piece (λ p there. piece-lent c.self.inside.pieces c.self.invariant.1 c.self.invariant.0 c.args.locale p.now c.args.self.now c.self.view_is there)
