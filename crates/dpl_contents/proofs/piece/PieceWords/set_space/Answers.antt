-- What is put into the finite map is the word there.
use Rattle.std.proofs.Common.{[], ◌∷◌, is_some, ap, ◌∙◌, w64, FitsSigned}
use Rattle.std.proofs.lemmas.Int.{to_z-of_z}
use Rattle.dpl_contents.proofs.PieceWordLemmas.{piece_at-is, piece_with-is, over-piece_with, seen_piece}
use Rattle.dpl_contents.proofs.piece.PieceWords.set_space.Goals as goal

pub invariant_of-self : goal.invariant_of-self
invariant_of-self c =
    let i_fits : FitsSigned w64 c.args.i = c.ranges.i in
    let j_fits : FitsSigned w64 c.args.j = c.ranges.j in
    let k_fits : FitsSigned w64 c.args.k = c.ranges.k in
    let word_fits : FitsSigned w64 c.args.word = c.ranges.word in
    let changes = simp to_z-of_z at c.set_space.ensures.changes in
    over-piece_with c.self.inside.domain c.self.inside.piece c.self.invariant (c.args.i ∷ c.args.j ∷ c.args.k ∷ []) c.args.word c.set_space.new.self changes

pub returns-clause-there : goal.returns-clause-there
returns-clause-there c =
    let i_fits : FitsSigned w64 c.args.i = c.ranges.i in
    let j_fits : FitsSigned w64 c.args.j = c.ranges.j in
    let k_fits : FitsSigned w64 c.args.k = c.ranges.k in
    let there = simp to_z-of_z at c.set_space.ensures.there in
    there ∙ ap is_some (piece_at-is c.self.inside.domain c.self.inside.piece c.self.invariant (c.args.i ∷ c.args.j ∷ c.args.k ∷ []) c.args.self.now c.self.view_is)

pub returns-clause-changes : goal.returns-clause-changes
returns-clause-changes c =
    let i_fits : FitsSigned w64 c.args.i = c.ranges.i in
    let j_fits : FitsSigned w64 c.args.j = c.ranges.j in
    let k_fits : FitsSigned w64 c.args.k = c.ranges.k in
    let word_fits : FitsSigned w64 c.args.word = c.ranges.word in
    let changes = simp to_z-of_z at c.set_space.ensures.changes in
    piece_with-is c.self.inside.domain c.self.inside.piece c.self.invariant (c.args.i ∷ c.args.j ∷ c.args.k ∷ []) c.args.word c.set_space.new.self c.args.self.now changes c.self.view_is

pub returns-clause-unchanged : goal.returns-clause-unchanged
returns-clause-unchanged c = λ no. ap (seen_piece c.self.inside.domain) (c.set_space.ensures.unchanged no) ∙ c.self.view_is
