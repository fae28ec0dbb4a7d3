-- The pieces are all there, and make an array.
use Rattle.std.proofs.Common.{All, IsSome, refl, subst, sym, ap, ◌∙◌}
use Rattle.dpl_contents.specs.Parted.{Parted, whole_of}
use Rattle.dpl_contents.proofs.PartedLemmas.{all-there, union-held}
use Rattle.dpl_contents.proofs.pieces.PiecesWords.put_back.Goals as goal

pub returns-then-not-is_whole-clause-there : goal.returns-then-not-is_whole-clause-there
returns-then-not-is_whole-clause-there c =
    let inside = c.self.inside in
    let there = all-there inside.domain inside.pieces c.self.invariant in (
      (λ e. absurd cc),
      (λ all. sym c.if-not-is_whole.true ∙ c.is_whole.ensures.1 (there.1 (subst (λ (p : Parted). All IsSome p.pieces) (sym c.self.view_is) all))),
    )

pub returns-clause-there : goal.returns-clause-there
returns-clause-there c =
    let inside = c.self.inside in
    let there = all-there inside.domain inside.pieces c.self.invariant in (
      (λ e. subst (λ (p : Parted). All IsSome p.pieces) c.self.view_is (there.0 (c.is_whole.ensures.0 c.if-not-is_whole.false))),
      (λ all. refl),
    )

pub returns-clause-array : goal.returns-clause-array
returns-clause-array c =
    let inside = c.self.inside in
    union-held inside.domain inside.pieces c.self.invariant (c.is_whole.ensures.0 c.if-not-is_whole.false) c.put_back-array.result c.put_back-array.ensures ∙ ap whole_of c.self.view_is
