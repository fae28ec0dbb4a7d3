-- The marks that are left are kept, and the scopes around the innermost are as they were.
use Rattle.std.proofs.Common.{◌≡◌, reverse, drop, vec_len}
use Rattle.dpl_scopes.specs.Marks.{scopes_by, AreKept}
use Rattle.dpl_scopes.specs.Kept.{ArePlaces}
use Rattle.dpl_scopes.proofs.scopes.Scopes.leave.Given as goal

abbrev pub invariant-loop-entry : goal.invariant-loop-entry
invariant-loop-entry l =
    let marks = reverse l.self-inside.marks.items in
    AreKept marks × ArePlaces l.self-inside.places marks × (drop 1 (scopes_by marks) ≡ drop 1 (scopes_by (reverse l.initial.self-inside.marks.items)))
    × (l.self-inside.depth ≡ l.initial.self-inside.depth)

abbrev pub decreases-loop-entry : goal.decreases-loop-entry
decreases-loop-entry l = vec_len l.self-inside.marks
