-- There are no more scopes than marks, and so many fit in memory.
use Rattle.std.proofs.Common.{reverse, arith}
use Rattle.std.proofs.lemmas.List.{length-reverse}
use Rattle.dpl_scopes.proofs.Marks.{length-scopes_by}
use Rattle.dpl_scopes.proofs.scopes.Scopes.enter.Goals as goal

pub overflow_add-self : goal.overflow_add-self
overflow_add-self c =
    let marks = c.self.inside.marks in
    omega (arith, c.self.invariant.deep, length-scopes_by (reverse marks.items), length-reverse marks.items, marks.ok, marks.small)
