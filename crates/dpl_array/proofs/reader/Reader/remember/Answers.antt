-- What the piece has, the array has.
-- These are the answers to the goals of `Reader::remember`.
use Rattle.std.proofs.Common.{◌≡◌, ℕ, sym, subst}
use Rattle.dpl_array.specs.Arrays.{restriction}
use Rattle.dpl_array.proofs.ReaderLemmas.{remembered-line, remembered-plane}
use Rattle.dpl_array.proofs.reader.Reader.remember.Goals as goal

pub invariant_of-self : goal.invariant_of-self
invariant_of-self g c =
    let kept : (l : ℕ) × (c.args.piece.now ≡ restriction c.self.inside.array.now l) = subst (λ a. (l : ℕ) × (c.args.piece.now ≡ restriction a l)) (sym c.self.view_is) c.requires in
    let line = c.line-self-inside.result in
    let plane = c.plane-self-inside.result in (
      kept,
      remembered-line c.self.inside.array.now c.args.piece.now line.values.now line.span.low line.span.size kept line.long c.line-self-inside.ensures,
      remembered-plane c.self.inside.array.now c.args.piece.now plane.values.now plane.grid.rows.low plane.grid.rows.size plane.grid.columns.low plane.grid.columns.size kept plane.long c.plane-self-inside.ensures,
    )
