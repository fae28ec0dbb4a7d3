-- One piece is written, and so is the union.
-- These are the answers to the goals of `DArray::set_at`.
use Rattle.std.proofs.Common.{is_some, subst, ap, sym, ◌∙◌}
use Rattle.dpl_array.specs.Elements.{value_at}
use Rattle.dpl_array.specs.Arrays.{ArePieces, IsWhole, array_with, union}
use Rattle.dpl_array.proofs.ElementLemmas.{with_value-absent}
use Rattle.dpl_array.proofs.UnionLemmas.{union-at, written-formed, written-whole, written-union, absent}
use Rattle.dpl_array.proofs.array.DArray.set_at.Goals as goal

pub invariant_of-self : goal.invariant_of-self
invariant_of-self g c =
    let ps = c.self.inside.pieces in (
      subst IsWhole (sym c.set.ensures.changes) (written-whole ps c.self.invariant.1 (g.C.Coordinates.tuple c.args.at.now) c.args.value c.self.invariant.0),
      subst ArePieces (sym c.set.ensures.changes) (written-formed ps c.self.invariant.1 (g.C.Coordinates.tuple c.args.at.now) c.args.value),
    )

pub returns-clause-there : goal.returns-clause-there
returns-clause-there g c =
    c.set.ensures.there ∙ ap is_some (sym (union-at c.self.inside.pieces c.self.invariant.1 (g.C.Coordinates.tuple c.args.at.now))) ∙ ap (λ a. is_some (value_at (g.C.Coordinates.tuple c.args.at.now) a.elements)) c.self.view_is

pub returns-clause-changes : goal.returns-clause-changes
returns-clause-changes g c =
    ap union c.set.ensures.changes ∙ written-union c.self.inside.pieces c.self.invariant.1 (g.C.Coordinates.tuple c.args.at.now) c.args.value ∙ ap (array_with (g.C.Coordinates.tuple c.args.at.now) c.args.value) c.self.view_is

pub returns-clause-unchanged : goal.returns-clause-unchanged
returns-clause-unchanged g c = λ no.
    let none = absent (value_at (g.C.Coordinates.tuple c.args.at.now) (union c.self.inside.pieces).elements) (ap is_some (union-at c.self.inside.pieces c.self.invariant.1 (g.C.Coordinates.tuple c.args.at.now)) ∙ sym c.set.ensures.there ∙ no) in
    ap union c.set.ensures.changes ∙ written-union c.self.inside.pieces c.self.invariant.1 (g.C.Coordinates.tuple c.args.at.now) c.args.value
    ∙ ap (λ es. record (union c.self.inside.pieces) { elements = es }) (with_value-absent (g.C.Coordinates.tuple c.args.at.now) c.args.value (union c.self.inside.pieces).elements none) ∙ c.self.view_is
