-- One turn after another.
-- These are the answers to the goals of `read_each`.
use Rattle.std.proofs.Common.{◌≡◌, ◌∷◌, [], ◌++◌, map, drop, refl, ap, sym, ◌∙◌, append_assoc, append-nil, subst}
use Rattle.dpl_sets.specs.Indices.{indices}
use Rattle.dpl_array.proofs.WalkLemmas.{walk-next, walk-end}
use Rattle.dpl_halo.specs.Gathering.{IsGathered}
use Rattle.dpl_halo.specs.Halos.{is_foreign}
use Rattle.dpl_halo.specs.Shifts.{shifted}
use Rattle.dpl_halo.proofs.GatherLemmas.{gather-mapped, gather-start}
use Rattle.dpl_halo.proofs.halo.read_each.Goals as goal

pub loop-turn-init : goal.loop-turn-init
loop-turn-init g c = (
  refl,
  ([], sym c.cursor-left.ensures, λ seen gathered. gather-start c.args.array.now (is_foreign c.args.array.now.map c.args.locale) c.args.gathered.now seen gathered),
)

pub loop-turn-preserved : goal.loop-turn-preserved
loop-turn-preserved g c =
    let a = c.args.array.now in
    let wants = is_foreign a.map c.args.locale in
    let was = c.loop-turn.invariant.1 in
    let next = walk-next c.loop-turn.left c.in-Some.turn (sym c.in-Some.ensures.next) in
    let rest : c.next.new.self ≡ next.0 = c.in-Some.ensures.rest ∙ ap (drop 1) next.1 in (
      c.in_ok-gather_foreign.ensures.domain ∙ c.loop-turn.invariant.0,
      (
        was.0 ++ c.in-Some.turn ∷ [],
        was.1 ∙ ap (λ ts. was.0 ++ ts) (next.1 ∙ ap (λ ts. c.in-Some.turn ∷ ts) (sym rest)) ∙ sym (append_assoc was.0 (c.in-Some.turn ∷ []) c.next.new.self),
        (λ seen gathered.
            gather-mapped a wants c.gather_foreign.new.gathered seen was.0 (shifted c.args.shift.now) c.in-Some.turn
            (subst (λ t. IsGathered a wants ((seen ++ map (shifted c.args.shift.now) was.0) ++ t ∷ []) c.gather_foreign.new.gathered) c.index.ensures
            (c.in_ok-gather_foreign.ensures.gathered (seen ++ map (shifted c.args.shift.now) was.0) (was.2 seen gathered)))),
      ),
    )

pub returns-clause-gathered : goal.returns-clause-gathered
returns-clause-gathered g c = λ seen gathered.
    let a = c.args.array.now in
    let was = c.loop-turn.invariant.1 in
    let none = walk-end c.loop-turn.left (sym c.in_default.ensures.next) in
    let all : was.0 ≡ indices c.args.turns.now = sym (was.1 ∙ ap (λ ts. was.0 ++ ts) none ∙ append-nil was.0) in
    subst (λ ts. IsGathered a (is_foreign a.map c.args.locale) (seen ++ map (shifted c.args.shift.now) ts) c.loop-turn.gathered) all (was.2 seen gathered)
