-- One array more comes back.
use Rattle.std.proofs.Common.{[], ◌∷◌, ◌++◌, refl, ap, ◌∙◌}
use Rattle.dpl_frame.specs.Frames.{Framed}
use Rattle.dpl_workers.proofs.Staying.{all-stay-same, all-stay-then, given-more, pieces-more}
use Rattle.dpl_workers.proofs.given.give_back.Goals as goal

pub loop-one-init : goal.loop-one-init
loop-one-init c = record { memory = refl; pieces = tt; stay = all-stay-same c.args.worked.now; limits = refl }

pub loop-one-preserved : goal.loop-one-preserved
loop-one-preserved c =
    let ts = c.loop-one.yielded in
    let t = c.in-Some.one in
    let ws = c.args.worked.now in
    let vs = c.loop-one.worked in
    let stay = c.loop-one.invariant.stay in
    let are = c.if-not-put_all.ensures.pieces refl in record {
      memory =
          c.keep_array.ensures
          ∙ given-more ts t (ts ++ t ∷ []) refl ws vs stay are c.args.frame.now c.loop-one.frame c.put_all.new.pieces c.in-Ok.array c.loop-one.invariant.memory (c.if-not-put_all.ensures.put refl)
          (c.in-Ok.ensures ∙ c.in-Some-put_back.ensures.array);
      pieces = pieces-more ts t (ts ++ t ∷ []) refl ws vs stay are c.loop-one.invariant.pieces;
      stay = all-stay-then ws vs c.put_all.new.worked stay (c.if-not-put_all.ensures.stay refl);
      limits = ap (λ (f : Framed). f.limits) c.keep_array.ensures ∙ c.loop-one.invariant.limits;
    }
