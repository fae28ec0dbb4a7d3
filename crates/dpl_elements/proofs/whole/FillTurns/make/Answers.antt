-- The change of an element ends the turn.
use Rattle.std.proofs.Common.{FitsSigned, w64, rules}
use Rattle.std.proofs.lemmas.Int.{to_z-of_z}
use Rattle.dpl_elements.proofs.whole.FillTurns.make.Goals as goal

pub returns-clause-ends : goal.returns-clause-ends
returns-clause-ends g c done =
    let fits : FitsSigned w64 c.args.self.now.value = search rules in
    simp to_z-of_z at (c.change.ensures.ends done)
