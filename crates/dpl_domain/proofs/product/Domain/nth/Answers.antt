-- A place is a place in a line, in a plane and in the whole.
use Rattle.std.proofs.Common.{◌≡◌, sym, ◌∙◌, arith, ap, length, ◌/◌, ◌%◌, ◌⊎◌, inl, inr, slice_get, Some, FitsSigned, w64, rules}
use Rattle.std.proofs.lemmas.Int.{to_z-of_z}
use Rattle.dpl_sets.specs.Ranges.{members_of}
use Rattle.dpl_sets.specs.Indices.{indices}
use Rattle.dpl_domain.specs.Ranks.{last_of}
use Rattle.dpl_domain.proofs.TupleLemmas.{slice_get-indices_at, indices-empty, line_count-places, line_size-places, IsFilled-IsPadded, tuple_at, tuple_at-some, tuple_at-no_outer, tuple_at-no_middle, tuple_at-no_inner, IsPadded-coordinates}
use Rattle.dpl_domain.proofs.product.Domain.nth.Goals as goal
use Rattle.dpl_domain.proofs.product.Domain.nth.Goals.{After-line-line, then-lines-eq0-via-then-lines-eq0, then-lines-eq0-via-else-lines-eq0+then-line-eq0}

lines-are : (c : After-line-line) → c.lines-lines.result ≡ length (members_of c.ranges-outer.result.1)
lines-are c = c.lines-lines.ensures ∙ line_count-places _ _ _ _ _ (IsFilled-IsPadded c.ranges-outer.ensures.unused) c.ranges-outer.ensures.ranges

line-is : (c : After-line-line) → c.line-line.result ≡ length (members_of c.ranges-outer.result.2)
line-is c = c.line-line.ensures ∙ line_size-places _ _ _ _ _ (IsFilled-IsPadded c.ranges-outer.ensures.unused) c.ranges-outer.ensures.ranges

at : (c : After-line-line) → (c.lines-lines.result ≡ 0 → ⊥) → (c.line-line.result ≡ 0 → ⊥) → slice_get (indices c.args.self.now) c.args.k ≡ tuple_at (length c.args.self.now) (slice_get (members_of c.ranges-outer.result.0) (c.args.k / c.line-line.result / c.lines-lines.result)) (slice_get (members_of c.ranges-outer.result.1) (c.args.k / c.line-line.result % c.lines-lines.result)) (slice_get (members_of c.ranges-outer.result.2) (c.args.k % c.line-line.result))
at c lines line =
    rw (line-is c, lines-are c)
    (ap (λ rs. slice_get (indices rs) c.args.k) c.ranges-outer.ensures.ranges
    ∙ slice_get-indices_at (length c.args.self.now) c.ranges-outer.result.0 c.ranges-outer.result.1 c.ranges-outer.result.2 c.args.k c.ranges-outer.ensures.unused (omega (arith, lines, lines-are c)) (omega (arith, line, line-is c)))

pub returns-then-lines-eq0 : goal.returns-then-lines-eq0
returns-then-lines-eq0 c =
    let before = (goal.at.returns-then-lines-eq0 c).After-line-line in
    let empty : (length (members_of c.ranges-outer.result.1) ≡ 0) ⊎ (length (members_of c.ranges-outer.result.2) ≡ 0) =
    elim c.then-lines-eq0.branch [
      | then-lines-eq0-via-then-lines-eq0 w ↦ inl (sym (lines-are before) ∙ w.if-lines-eq0.true)
      | then-lines-eq0-via-else-lines-eq0+then-line-eq0 w ↦ inr (sym (line-is before) ∙ w.if-line-eq0.true)
    ] in
    rw c.ranges-outer.ensures.ranges
    (sym (indices-empty (length c.args.self.now) c.ranges-outer.result.0 c.ranges-outer.result.1 c.ranges-outer.result.2 c.args.k c.ranges-outer.ensures.unused empty))

pub returns-in_err-outer : goal.returns-in_err-outer
returns-in_err-outer c =
    c.from_residual.ensures
    ∙ sym (at (goal.at.returns-in_err-outer c).After-line-line c.if-lines-eq0.false c.if-line-eq0.false
    ∙ tuple_at-no_outer (length c.args.self.now) _ _ _ (sym c.nth.ensures ∙ c.in_err-outer.was))

pub returns-in_err-middle : goal.returns-in_err-middle
returns-in_err-middle c =
    c.from_residual-in_err-middle.ensures
    ∙ sym (at (goal.at.returns-in_err-middle c).After-line-line c.if-lines-eq0.false c.if-line-eq0.false
    ∙ tuple_at-no_middle (length c.args.self.now) _ _ _ (sym c.nth-2.ensures ∙ c.in_err-middle.was))

pub returns-in_err-inner : goal.returns-in_err-inner
returns-in_err-inner c =
    c.from_residual-in_err-inner.ensures
    ∙ sym (at (goal.at.returns-in_err-inner c).After-line-line c.if-lines-eq0.false c.if-line-eq0.false
    ∙ tuple_at-no_inner (length c.args.self.now) _ _ _ (sym c.nth-3.ensures ∙ c.in_err-inner.was))

pub padded-requires : goal.padded-requires
padded-requires c =
    let outer_fits : FitsSigned w64 c.in_ok-outer.outer = search rules in
    let middle_fits : FitsSigned w64 c.in_ok-middle.middle = search rules in
    rw (c.rank.ensures.rank, to_z-of_z w64 c.in_ok-outer.outer outer_fits, to_z-of_z w64 c.in_ok-middle.middle middle_fits)
    (IsPadded-coordinates (length c.args.self.now) c.ranges-outer.result.0 c.ranges-outer.result.1 _ _ c.in_ok-outer.outer c.in_ok-middle.middle c.ranges-outer.ensures.unused
    (sym c.nth.ensures ∙ c.in_ok-outer.was) (sym c.nth-2.ensures ∙ c.in_ok-middle.was))

pub returns : goal.returns
returns c =
    let outer_fits : FitsSigned w64 c.in_ok-outer.outer = search rules in
    let middle_fits : FitsSigned w64 c.in_ok-middle.middle = search rules in
    let inner_fits : FitsSigned w64 c.in_ok-inner.inner = search rules in
    let is = simp to_z-of_z at c.padded.ensures in
    ap Some (is ∙ ap (λ n. last_of n c.in_ok-outer.outer c.in_ok-middle.middle c.in_ok-inner.inner) c.rank.ensures.rank)
    ∙ sym (at (goal.at.returns c).After-line-line c.if-lines-eq0.false c.if-line-eq0.false
    ∙ tuple_at-some (length c.args.self.now) _ _ _ c.in_ok-outer.outer c.in_ok-middle.middle c.in_ok-inner.inner
    (sym c.nth.ensures ∙ c.in_ok-outer.was) (sym c.nth-2.ensures ∙ c.in_ok-middle.was) (sym c.nth-3.ensures ∙ c.in_ok-inner.was))
