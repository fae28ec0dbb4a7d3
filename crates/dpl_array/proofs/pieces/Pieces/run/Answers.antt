-- A piece that holds indices is that of their owner.
-- These are the answers to the goals of `Pieces::run`.
use Rattle.std.proofs.Common.{◌≡◌, ap, sym, ◌∙◌, None, Some, slice_index_or}
use Rattle.dpl_array.specs.Arrays.{held_at}
use Rattle.dpl_array.specs.Elements.{behind}
use Rattle.dpl_array.proofs.HeldLemmas.{held-guessed}
use Rattle.dpl_array.proofs.pieces.Pieces.run.Goals as goal

pub returns : goal.returns
returns g c k v some =
    let p = c.self.inside in
    ap (λ ps. held_at ps (behind k c.args.row)) (sym c.self.view_is)
    ∙ held-guessed p.domain p.map p.held.items c.self.invariant c.guess.result c.in-Some-Some.piece there (behind k c.args.row) v (c.run.ensures k v some)
  where
    there : slice_index_or c.self.inside.held.items c.guess.result None ≡ Some c.in-Some-Some.piece
    there = ap (λ os. slice_index_or os c.guess.result None) (sym c.deref.ensures.value) ∙ sym (c.in-Some-Some.ensures.lookup.3.1 None) ∙ c.in-Some-Some.field-0-is
