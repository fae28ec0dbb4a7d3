-- A piece that holds an index is that of its owner.
-- These are the answers to the goals of `Pieces::guessed`.
use Rattle.std.proofs.Common.{◌≡◌, ap, sym, ◌∙◌, Option, None, Some, IfSome, slice_index_or}
use Rattle.dpl_array.specs.Arrays.{held_at}
use Rattle.dpl_array.specs.Elements.{value_at}
use Rattle.dpl_array.proofs.HeldLemmas.{held-guessed}
use Rattle.dpl_array.proofs.pieces.Pieces.guessed.Goals as goal

pub returns : goal.returns
returns g c = by c.quick.result c.quick.ensures
  where
    there : slice_index_or c.self.inside.held.items c.seat-seat.result None ≡ Some c.in_ok-as_ref.field-0.now
    there = ap (λ os. slice_index_or os c.seat-seat.result None) (sym c.deref.ensures.value) ∙ sym (c.in_ok-get.ensures.lookup.3.1 None) ∙ sym c.in_ok-as_ref.ensures.value

    by : (o : Option g.row.T.Denot) → IfSome o (λ v. value_at (g.C.Coordinates.tuple c.args.at.now) c.in_ok-as_ref.field-0.now.elements ≡ Some v) → IfSome o (λ v. held_at c.args.self.now (g.C.Coordinates.tuple c.args.at.now) ≡ Some v)
    by None some = tt
    by (Some v) some =
        let p = c.self.inside in
        ap (λ ps. held_at ps (g.C.Coordinates.tuple c.args.at.now)) (sym c.self.view_is)
        ∙ held-guessed p.domain p.map p.held.items c.self.invariant c.seat-seat.result c.in_ok-as_ref.field-0.now there (g.C.Coordinates.tuple c.args.at.now) v some
