-- The domain halfway is asked, by its first index.
use Rattle.std.proofs.Common.{◌≡◌, ◌+◌, ◌-◌, ◌/◌, ◌∙◌, true, ap, sym, arith, length, slice_get, Some, ⊎_elim}
use Rattle.std.proofs.lemmas.Bool.{cases_lt}
use Rattle.std.proofs.lemmas.Option.{slice_get-get_or}
use Rattle.dpl_domain.specs.Ranks.{last_of}
use Rattle.dpl_map.proofs.FindLemmas.{half-before}
use Rattle.dpl_map.proofs.map.Map.number.Goals as goal
use Rattle.dpl_map.proofs.map.Map.number.Goals.{After-is_before}

half-at : (c : After-is_before) → slice_get c.args.domains.now (c.loop-from.from + (c.loop-from.to - c.loop-from.from) / 2) ≡ Some c.index-domains-half.result
half-at c =
    slice_get-get_or c.args.domains.now _ c.index-domains-half.result (omega (arith, c.loop-from-test.true, c.loop-from.invariant.within)) ∙ ap Some (sym c.index-domains-half.is)

pub loop-from-preserved-then-is_before : goal.loop-from-preserved-then-is_before
loop-from-preserved-then-is_before c = record {
  ordered = omega (arith, c.loop-from-test.true);
  within = c.loop-from.invariant.within;
  between = λ rows k j at.
      let before =
      half-before (last_of (length c.args.self.now) c.args.outer c.args.middle c.args.inner) c.args.self.now c.args.domains.now rows k j c.args.index at
      _ c.index-domains-half.result (half-at (goal.at.loop-from-preserved-then-is_before c).After-is_before) in
      let test = c.is_before.ensures before.0 before.1 before.2 in
      let below = before.3.1 (test.0 c.if-is_before.true) in
      (omega (arith, below), (c.loop-from.invariant.between rows k j at).1);
}

pub loop-from-preserved : goal.loop-from-preserved
loop-from-preserved c = record {
  ordered = omega (arith, c.loop-from-test.true);
  within = omega (arith, c.loop-from-test.true, c.loop-from.invariant.within);
  between = λ rows k j at.
      let before =
      half-before (last_of (length c.args.self.now) c.args.outer c.args.middle c.args.inner) c.args.self.now c.args.domains.now rows k j c.args.index at
      _ c.index-domains-half.result (half-at (goal.at.loop-from-preserved c).After-is_before) in
      let test = c.is_before.ensures before.0 before.1 before.2 in (
        (c.loop-from.invariant.between rows k j at).0,
        ⊎_elim
            (λ below. absurd (let yes : c.is_before.result ≡ true = test.1 (before.3.0 below) in cc))
            (λ past. past)
            (cases_lt (c.loop-from.from + (c.loop-from.to - c.loop-from.from) / 2) k),
      );
}

pub returns : goal.returns
returns c = λ rows k j at. let between = c.loop-from.invariant.between rows k j at in omega (arith, between.0, between.1, c.loop-from-test.false)
