-- A walk goes over all tuples of the three ranges, which are the indices.
use Rattle.std.proofs.Common.{◌≡◌, ℕ, ap, sym, ◌∙◌, arith, pos, ◌*◌, length, All, subst, ◌⊎◌, inl, inr, refl}
use Rattle.dpl_sets.specs.Ranges.{members_of}
use Rattle.dpl_domain.specs.Progression.{space_of}
use Rattle.dpl_domain.specs.Cursor.{terms_of}
use Rattle.dpl_domain.proofs.TupleLemmas.{length-indices}
use Rattle.dpl_domain.proofs.ProgressionLemmas.{length-progression}
use Rattle.dpl_domain.proofs.CursorLemmas.{space-indices, zeros-point, length-zero}
use Rattle.dpl_domain.proofs.walk.Cursor.over.Goals as goal
use Rattle.dpl_domain.proofs.walk.Cursor.over.Goals.{then-lines-eq0-via-then-lines-eq0, then-lines-eq0-via-else-lines-eq0+then-line-eq0}

pub invariant_of-result : goal.invariant_of-result
invariant_of-result c =
    record {
      from_one = c.requires.from_one;
      to_three = c.requires.to_three;
      outer_unused = λ below. refl;
      outer_terms = λ below k d within. absurd (omega arith);
      middle_unused = λ below. refl;
      middle_terms = λ below k d within. absurd (omega arith);
      lines_terms = λ below. subst (λ is. All (λ y. y ≡ pos 0) is) (sym c.over-lines.ensures.terms) (zeros-point c.args.middle.now (c.requires.second below));
      lines_come = λ some. absurd (omega arith);
      line_comes = λ some. absurd (omega arith);
      line_of_plane = λ some. absurd (omega arith);
    }

pub returns-then-lines-eq0 : goal.returns-then-lines-eq0
returns-then-lines-eq0 c =
    length-zero _
    (length-indices c.args.rank c.args.outer.now c.args.middle.now c.args.inner.now c.requires
    ∙ elim c.then-lines-eq0.branch [
      | then-lines-eq0-via-then-lines-eq0 w ↦
          no-product (length (members_of c.args.outer.now)) (length (members_of c.args.middle.now)) (length (members_of c.args.inner.now))
          (inl (ap length (sym c.over-lines.ensures.terms) ∙ length-progression c.over-lines.result.next c.over-lines.result.step c.over-lines.result.left ∙ w.if-lines-eq0.true))
      | then-lines-eq0-via-else-lines-eq0+then-line-eq0 w ↦
          no-product (length (members_of c.args.outer.now)) (length (members_of c.args.middle.now)) (length (members_of c.args.inner.now))
          (inr (ap length (sym c.over-line.ensures.terms) ∙ length-progression c.over-line.result.next c.over-line.result.step c.over-line.result.left ∙ w.if-line-eq0.true))
    ])
  where
    no-product : (o m i : ℕ) → (m ≡ 0) ⊎ (i ≡ 0) → o * m * i ≡ 0
    no-product o m i (inl none) = let nothing : o * 0 ≡ 0 = omega arith in ap (λ z. o * z * i) none ∙ ap (λ z. z * i) nothing ∙ omega arith
    no-product o m i (inr none) = ap (λ z. o * m * z) none ∙ omega arith

pub invariant_of-result-2 : goal.invariant_of-result-2
invariant_of-result-2 c =
    record {
      from_one = c.requires.from_one;
      to_three = c.requires.to_three;
      outer_unused = λ below. refl;
      outer_terms = λ below. subst (λ is. All (λ x. x ≡ pos 0) is) (sym c.over-outer.ensures.terms) (zeros-point c.args.outer.now (c.requires.first below));
      middle_unused = λ below. refl;
      middle_terms = λ below k d within. absurd (omega arith);
      lines_terms = λ below. subst (λ is. All (λ y. y ≡ pos 0) is) (sym c.over-lines.ensures.terms) (zeros-point c.args.middle.now (c.requires.second below));
      lines_come = λ some. omega arith;
      line_comes = λ some. omega arith;
      line_of_plane = λ some. omega arith;
    }

pub returns : goal.returns
returns c =
    ap (λ os. space_of c.args.rank os (terms_of c.over-lines.result) (terms_of c.over-line.result)) c.over-outer.ensures.terms
    ∙ ap (λ ms. space_of c.args.rank (members_of c.args.outer.now) ms (terms_of c.over-line.result)) c.over-lines.ensures.terms
    ∙ ap (space_of c.args.rank (members_of c.args.outer.now) (members_of c.args.middle.now)) c.over-line.ensures.terms
    ∙ space-indices c.args.rank c.args.outer.now c.args.middle.now c.args.inner.now c.requires
