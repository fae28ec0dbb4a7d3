-- The word of each index is written, one after another.
use Rattle.std.proofs.Common.{rules, ◌≡◌, ◌<◌, ◌≤◌, FitsSigned, w64, length, drop, slice_get, sym, subst, ap, ◌∙◌, arith}
use Rattle.std.proofs.lemmas.Int.{to_z-of_z}
use Rattle.std.proofs.lemmas.List.{drop_all}
use Rattle.std.proofs.lemmas.Result.{err_from_is_err_and}
use Rattle.dpl_sets.specs.Indices.{indices}
use Rattle.dpl_map.specs.Maps.{owner}
use Rattle.dpl_language.specs.Ranges.{indices_in}
use Rattle.dpl_array.proofs.WalkLemmas.{walk-next}
use Rattle.dpl_loop.proofs.Places.{slice_get-drop_first, drop-drop_one, within-there}
use Rattle.dpl_loop.specs.Entries.{MayRefuse}
use Rattle.dpl_memory.specs.Memory.{held_with}
use Rattle.dpl_simple.proofs.Gathered.{AreGathered, gathered-first, gathered-next, gathered-halts, gathered-last}
use Rattle.dpl_simple.proofs.declare.gathered.Goals as goal

pub loop-place-init : goal.loop-place-init
loop-place-init g c = record {
  gathered = gathered-first (g.E.Elements.element c.args.e.now c.args.frame.now.limits c.args.frame.now.memory) c.args.domain c.cursor-indices.result c.in_ok-array.array c.cursor-indices.ensures c.in_ok-array.ensures;
  left = c.cursor-indices.ensures;
}

pub unreachable-requires : goal.unreachable-requires
unreachable-requires g c =
    let ts = indices_in c.args.domain in
    let none = sym (slice_get-drop_first ts c.loop-place.place) ∙ ap (λ ts. slice_get ts 0) (sym c.loop-place.invariant.left) ∙ sym c.next.ensures.next ∙ c.in_default.is in
    let size : c.size-place-end.result ≡ length ts = c.size-place-end.ensures.size ∙ ap (λ d. length (indices d)) c.domain-all.ensures.domain in
    within-there ts c.loop-place.place (subst (λ n. c.loop-place.place < n) size c.loop-place-test.true) none

pub returns-in_err-word : goal.returns-in_err-word
returns-in_err-word g c =
    let value = g.E.Elements.element c.args.e.now c.args.frame.now.limits c.args.frame.now.memory in
    let rs = c.args.domain in
    let ts = indices_in rs in
    let k = c.loop-place.place in
    let a = c.loop-place.array in
    let t = c.in-Some.index in
    let may = g.G.Gate.may_refuse c.args.gate.now in
    let at = sym (slice_get-drop_first ts k) ∙ ap (λ ts. slice_get ts 0) (sym c.loop-place.invariant.left) ∙ sym c.in-Some.ensures.next in
    let left = walk-next c.loop-place.indices t (sym c.in-Some.ensures.next) in
    let p = err_from_is_err_and c.from_residual-in_err-word.result c.from_residual-in_err-word.ensures.1 in
    rw (p.1, p.2)
    (gathered-halts value rs (may (owner c.args.map.now t) k) (MayRefuse may c.args.map.now rs) t left.0 a c.in_err-word.field-0.0
    (λ refuses. (k, t, at, refuses))
    (subst (λ ts. AreGathered value rs ts a) left.1 c.loop-place.invariant.gathered) c.in_err-word.ensures)

pub loop-place-preserved : goal.loop-place-preserved
loop-place-preserved g c =
    let value = g.E.Elements.element c.args.e.now c.args.frame.now.limits c.args.frame.now.memory in
    let rs = c.args.domain in
    let a = c.loop-place.array in
    let t = c.in-Some.index in
    let w = c.in_ok-word.word in
    let left = walk-next c.loop-place.indices t (sym c.in-Some.ensures.next) in
    let rest : c.next.new.self ≡ left.0 = c.in-Some.ensures.rest ∙ ap (drop 1) left.1 in
    let fits : FitsSigned w64 w = search rules in
    record {
      gathered =
          subst (AreGathered value rs c.next.new.self) (sym (c.set.ensures.changes ∙ ap (λ n. held_with t n a) (to_z-of_z w64 w fits)))
          (subst (λ ts. AreGathered value rs ts (held_with t w a)) (sym rest)
          (gathered-next value rs t left.0 w a c.domain-all.ensures.limits (subst (λ ts. AreGathered value rs ts a) left.1 c.loop-place.invariant.gathered) (g.G.Gate.may_refuse c.args.gate.now (owner c.args.map.now t) c.loop-place.place) c.in_ok-word.ensures));
      left = c.next.ensures.rest ∙ ap (drop 1) c.loop-place.invariant.left ∙ drop-drop_one (indices_in rs) c.loop-place.place;
    }

pub returns : goal.returns
returns g c =
    let value = g.E.Elements.element c.args.e.now c.args.frame.now.limits c.args.frame.now.memory in
    let rs = c.args.domain in
    let ts = indices_in rs in
    let a = c.loop-place.array in
    let past : length ts ≤ c.loop-place.place = let size = c.size-place-end.ensures.size ∙ ap (λ d. length (indices d)) c.domain-all.ensures.domain in let test = c.loop-place-test.false in omega (arith, size, test) in
    gathered-last value rs (MayRefuse (g.G.Gate.may_refuse c.args.gate.now) c.args.map.now rs) a (subst (λ ts. AreGathered value rs ts a) (c.loop-place.invariant.left ∙ drop_all c.loop-place.place ts past) c.loop-place.invariant.gathered)
