-- One array's piece more is taken out, and put into its slot.
use Rattle.std.proofs.Common.{◌≡◌, ◌+◌, ◌-◌, ◌≤◌, ℕ, length, Some, None, get_or, [], ◌∷◌, sym, ap, arith}
use Rattle.dpl_contents.specs.Parted.{piece_of, with_piece}
use Rattle.dpl_workers.specs.declared.taken.Taken.{Taken}
use Rattle.dpl_workers.specs.Taken.{lacking}
use Rattle.dpl_workers.proofs.TakenApart.{lacking-from, there-from, share-from}
use Rattle.dpl_workers.proofs.jobs.own_of.Goals as goal

pub loop-k-preserved : goal.loop-k-preserved
loop-k-preserved c =
    let l = c.args.locale in
    let ts = c.args.taken.now in
    let now = c.loop-k.taken in
    let n = c.loop-k.k in
    let k = n - 1 in
    let t : Taken = c.index-taken-k.result in
    let next : n ≡ k + 1 = omega arith in
    let long : n ≤ length ts = omega arith in
    let so_far = c.loop-k.invariant.taken in
    let is : t ≡ get_or now k t = c.index-taken-k.is in
    let own : (get_or now k t).slot ≡ t.slot = ap (λ (x : Taken). x.slot) (sym is) in
    let some : Some c.in-Some.piece ≡ piece_of l t.pieces = cc in
    let left : c.take.new.self ≡ with_piece l None t.pieces = cc in
    let one : Taken = record { slot = (get_or now k t).slot; pieces = c.take.new.self } in
    let made : one ≡ lacking (l ∷ []) t = (λ i. record { slot = own i; pieces = left i }) in record {
      taken = lacking-from l ts now k n next long so_far t is one made;
      there = there-from l ts now k n next long so_far t is c.in-Some.piece some c.loop-k.invariant.there;
      own = share-from l ts now k n next long so_far t is c.in-Some.piece some (get_or now k t).slot own c.loop-k.own.items c.put_share.new.own.items c.in_ok-put_share.ensures c.loop-k.invariant.own;
    }
