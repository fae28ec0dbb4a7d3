-- What an operator makes of an element ends the change.
use Rattle.std.proofs.Common.{FitsSigned, w64, rules}
use Rattle.std.proofs.lemmas.Int.{to_z-of_z}
use Rattle.dpl_elements.proofs.element.change.Goals as goal

pub returns-clause-ends : goal.returns-clause-ends
returns-clause-ends g c done =
    let value_fits : FitsSigned w64 c.args.value = search rules in
    simp to_z-of_z at (c.combine.ensures.ends done)
