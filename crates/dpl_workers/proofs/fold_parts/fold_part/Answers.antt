-- The fold of a part: its gate refuses an entry where the loop's gate may refuse that of the same index.
use Rattle.std.proofs.Common.{inl, inr, ⊎_elim}
use Rattle.dpl_sets.specs.Indices.{indices}
use Rattle.dpl_loop.specs.Folds.{in_turns}
use Rattle.dpl_loop.proofs.Folding.{ends-weaker}
use Rattle.dpl_workers.proofs.PartFolding.{part-refuses}
use Rattle.dpl_workers.proofs.fold_parts.fold_part.Goals.{in-Sole, in-Owned}
use Rattle.dpl_workers.proofs.fold_parts.fold_part.Goals as goal

pub returns : goal.returns
returns g c = λ meaning answers strips.
    let op = g.O.Operator.op c.args.operator.now in
    let dealt = c.args.dealt.now in
    elim c.match-part.branch [
      | in-Sole w ↦
          rw w.turn-is (rw w.item-is (rw w.in-Sole.is
          (ends-weaker _ _ g.O.Operator.value op (in_turns meaning) (indices w.in-Sole.part) w.fold_strips-item.new.turn w.fold_strips-item.result
          (λ refused. ⊎_elim (λ own. inl (part-refuses (g.G.Gate.may_refuse dealt.gate.now) dealt.map.now w.in-Sole.part c.args.whole.now own)) (λ answered. inr answered) refused)
          (w.fold_strips-item.ensures meaning answers strips))))
      | in-Owned w ↦ rw w.turn-is (rw w.item-is (rw w.in-Owned.is (w.fold_owned-item.ensures meaning answers strips)))
    ]
