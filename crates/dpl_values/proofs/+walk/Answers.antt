-- What stands behind a range or a domain is by its value, and a scalar has at an index the value that it has without one;
-- a reduction is the fold of the items at all indices. All else the prover finds by itself.
use Rattle.std.proofs.Common.{◌≡◌, ◌+◌, ℕ, ⊎_elim, rules, true, false, None, Some, Ok, Err, drop, refl, sym, subst, ap, ◌∙◌, w64, to_z, of_z, FitsSigned}
use Rattle.std.proofs.lemmas.Int.{to_z-of_z}
use Rattle.std.proofs.lemmas.Result.{err_from_is_err_and}
use Rattle.std.specs.Option.{option_map}
use Rattle.dpl_language.specs.Tree.{Plainly, PostTree, Post}
use Rattle.dpl_language.specs.Values.{Index, Int, Domain, number, fault, PastLimit}
use Rattle.dpl_language.specs.Ranges.{expanded}
use Rattle.dpl_language.specs.Outcome.{with_ok}
use Rattle.dpl_language.specs.Expressions.{value_of, item_of, reduction, fold_over}
use Rattle.dpl_lowered.specs.Shapes.{nowhere, kept, grouped, stacked_on}
use Rattle.dpl_lowered.specs.LoweredExpressions.{EachTurn, is_end}
use Rattle.dpl_memory.specs.Memory.{Variable, array_at, in_memory}
use Rattle.dpl_nodes.specs.declared.tree.IntExpr.{IntExpr}
use Rattle.dpl_nodes.specs.declared.tree.IntLink.{IntLink}
use Rattle.dpl_nodes.specs.declared.tree.RangeExpr.{RangeExpr}
use Rattle.dpl_nodes.specs.declared.tree.RangeCut.{RangeCut}
use Rattle.dpl_nodes.specs.declared.tree.DomainExpr.{DomainExpr}
use Rattle.dpl_nodes.specs.declared.tree.PromotedInt.{PromotedInt}
use Rattle.dpl_nodes.specs.declared.tree.PromotedIntLink.{PromotedIntLink}
use Rattle.dpl_nodes.specs.Typed.{range_word as method_word, domain_word, int_view, int_links_of, int_infix, int_place, square_post, items_one, bracketed, range_item, range_view, range_cuts_of, domain_view, domain_post, domain_posts_of, promoted_int, promoted_int_links_of, int_fold_view}
use Rattle.dpl_nodes.proofs.Promotions.{int_view-at}
use Rattle.dpl_frame.specs.Frames.{owned_by}
use Rattle.dpl_frame.specs.Faults.{Tells, as_range}
use Rattle.dpl_contents.specs.Range.{range_word}
use Rattle.dpl_contents.specs.declared.range.RangeWord.{RangeWord}
use Rattle.dpl_map.specs.Maps.{owner}
use Rattle.dpl_loop.specs.Entries.{MayRefuse}
use Rattle.dpl_loop.proofs.Folding.{with_ok-ends, tells-as}
use Rattle.dpl_values.specs.Elements.{within_at}
use Rattle.dpl_values.specs.Meanings.{int_in, cut_in, made_in}
use Rattle.dpl_values.specs.Reducing.{first_of_ints}
use Rattle.dpl_values.specs.Reductions.{MayRefuseReduction, OfSlot, EachInInt, EachInChain, EachInRange, EachInSlices, EachInDomain, EachInPost, EachInPosted, EachInInts, EachInIntsChain}
use Rattle.dpl_nodes.proofs.Chains.{int_view-chain, int_links-from, promoted_int-chain, promoted_int_links-from, range_view-slice, range_cuts-from, domain_view-posts, domain_posts-from, posted-next}
use Rattle.dpl_values.proofs.Chained.{chain-ends, link-ends, posts-end, post-ends, each-at, each-chain, each-slice, each-posted, each-ints_chain}
use Rattle.dpl_values.proofs.First.{ints_whole}
use Rattle.dpl_values.proofs.Folds.{reduction-within}
use Rattle.dpl_values.proofs.Telling.{told, refused-within}
use Rattle.dpl_values.proofs.Views.{range_view_value, method_ends, method_answer, cut-value, made-value, expanded-within, expanded-past, domain_answer}
use Rattle.dpl_values.proofs.+walk.Goals as goal

-- `unit_of` answers for several operators at once, which the search doesn't get past
pub expression::int_value-returns-in-Reduced : goal.expression::int_value-returns-in-Reduced
expression::int_value-returns-in-Reduced g t c =
    let may = λ (each : (ℕ → Type 0) → Type 0). MayRefuseReduction (g.G.Gate.may_refuse c.args.gate.now) c.args.frame.now each in
    subst (λ (e : IntExpr). Tells (may (EachInInt e)) Int c.reduced_int.new.turn c.reduced_int.result (int_in c.args.frame.now e)) (sym c.in-Reduced.is) c.reduced_int.ensures

pub expression::of_range-returns-in_err-range : goal.expression::of_range-returns-in_err-range
expression::of_range-returns-in_err-range g t c =
    let may = MayRefuseReduction (g.G.Gate.may_refuse c.args.gate.now) c.args.frame.now (EachInRange c.args.r.now) in
    let word = method_word c.args.method in
    let p = err_from_is_err_and c.from_residual.result c.from_residual.ensures.1 in
    rw (p.1, p.2)
    (method_ends c.args.frame.now.limits c.args.frame.now.memory may may (λ m. m) Int c.range_value.new.turn c.in_err-range.field-0.0 c.args.r.now (Plainly (kept (is_end word) c.args.at.now) word) c.in_err-range.ensures)

pub expression::of_range-returns : goal.expression::of_range-returns
expression::of_range-returns g t c =
    let word = method_word c.args.method in
    tells-as ⊥ Int c.range_method.new.turn _ c.range_method.result _ _ absurd
    (method_answer c.args.frame.now.limits c.args.frame.now.memory c.args.r.now (Plainly (kept (is_end word) c.args.at.now) word) (range_word c.in_ok-range.range) _ c.in_ok-range.ensures refl)
    c.range_method.ensures

pub expression::of_domain-returns : goal.expression::of_domain-returns
expression::of_domain-returns g t c =
    let n = c.domain_method.result in
    let fits : FitsSigned w64 n = search rules in
    domain_answer c.args.frame.now.limits c.args.frame.now.memory c.args.d.now (Plainly nowhere (domain_word c.args.method)) c.in_ok-domain.domain (Ok (Int n))
    c.in_ok-domain.ensures c.domain_method.ensures
    ∙ ap (λ z. Ok (Int z)) (sym (to_z-of_z w64 n fits))

pub promoted::operand-returns-in-Scalar : goal.promoted::operand-returns-in-Scalar
promoted::operand-returns-in-Scalar g t c =
    let wider = refused-within (g.G.Gate.may_refuse c.args.gate.now) c.args.frame.now in
    let limits = c.args.frame.now.limits in
    let w = c.args.frame.now.memory in
    tells-as _ Int c.operand.new.turn _ c.operand.result _ _
    (wider (EachInInt c.in-Scalar.e.now) (EachInInts c.args.e.now) (λ Holds all. subst (λ e. EachInInts e Holds) c.in-Scalar.is all))
    (ap (λ e. value_of limits in_memory (promoted_int EachTurn e) (Some c.args.index.now) w) c.in-Scalar.is ∙ int_view-at limits w c.in-Scalar.e.now c.args.index.now)
    c.operand.ensures

pub promoted::promoted_int_value-returns-in-Scalar : goal.promoted::promoted_int_value-returns-in-Scalar
promoted::promoted_int_value-returns-in-Scalar g t c =
    let wider = refused-within (g.G.Gate.may_refuse c.args.gate.now) c.args.frame.now in
    let limits = c.args.frame.now.limits in
    let w = c.args.frame.now.memory in
    tells-as _ Int c.operand.new.turn _ c.operand.result _ _
    (wider (EachInInt c.in-Scalar.e.now) (EachInInts c.args.e.now) (λ Holds all. subst (λ e. EachInInts e Holds) c.in-Scalar.is all))
    (ap (λ e. value_of limits in_memory (promoted_int EachTurn e) (Some c.args.index.now) w) c.in-Scalar.is ∙ int_view-at limits w c.in-Scalar.e.now c.args.index.now)
    c.operand.ensures

-- ---- reductions
pub reduction::reduced_int_here-returns-in_default : goal.reduction::reduced_int_here-returns-in_default
reduction::reduced_int_here-returns-in_default g t c =
    let limits = c.args.frame.now.limits in
    let w = c.args.frame.now.memory in
    let op = int_fold_view c.args.fold in
    let value = λ (i : Index). value_of limits in_memory (promoted_int EachTurn c.args.e.now) (Some i) w in
    ap (reduction limits.budget c.args.at.now op value) (ints_whole limits w c.args.e.now ∙ ap (option_map (λ slot. (array_at slot w).ranges)) (sym c.int_array.ensures ∙ c.in_default.is))
    ∙ ap (λ v. Ok v) (sym c.int_over_none.ensures) ∙ search rules

pub reduction::reduced_int_here-returns-in_err-within_turns : goal.reduction::reduced_int_here-returns-in_err-within_turns
reduction::reduced_int_here-returns-in_err-within_turns g t c =
    let limits = c.args.frame.now.limits in
    let w = c.args.frame.now.memory in
    let op = int_fold_view c.args.fold in
    let value = λ (i : Index). value_of limits in_memory (promoted_int EachTurn c.args.e.now) (Some i) w in
    let p = err_from_is_err_and c.from_residual.result c.from_residual.ensures.1 in
    rw (p.1, p.2)
    (with_ok-ends ⊥ _ (λ v. v) c.within_turns.new.turn c.in_err-within_turns.field-0.0 (within_at limits c.args.at.now c.array_domain-domain.result) (λ v. fold_over op value c.array_domain-domain.result) _ Int absurd
    (ap (reduction limits.budget c.args.at.now op value) (ints_whole limits w c.args.e.now ∙ ap (option_map (λ slot. (array_at slot w).ranges)) (sym c.int_array.ensures ∙ c.in-Some.is) ∙ ap (λ rs. Some rs) (sym c.array_domain-domain.ensures))
    ∙ reduction-within limits c.args.at.now op value c.array_domain-domain.result)
    c.in_err-within_turns.ensures)

pub reduction::reduced_int_here-returns : goal.reduction::reduced_int_here-returns
reduction::reduced_int_here-returns g t c =
    let wider = refused-within (g.G.Gate.may_refuse c.args.gate.now) c.args.frame.now in
    let limits = c.args.frame.now.limits in
    let w = c.args.frame.now.memory in
    let op = int_fold_view c.args.fold in
    let value = λ (i : Index). value_of limits in_memory (promoted_int EachTurn c.args.e.now) (Some i) w in
    tells-as _ Int c.folded_ints.new.turn _ c.folded_ints.result _ _
    (⊎_elim
    (λ own. ((owner (owned_by c.args.frame.now c.in-Some.slot) own.1, own.0, own.3), λ all. subst (λ slot. OfSlot slot (λ slot. MayRefuse (g.G.Gate.may_refuse c.args.gate.now) (owned_by c.args.frame.now slot) (array_at slot w).ranges → ⊥)) (sym c.int_array.ensures ∙ c.in-Some.is) all.0 own))
    (λ said. wider (EachInInts c.args.e.now) (λ Holds. OfSlot (first_of_ints c.args.e.now) Holds × EachInInts c.args.e.now Holds) (λ Holds all. all.1) said.3.1))
    (ap (reduction limits.budget c.args.at.now op value) (ints_whole limits w c.args.e.now ∙ ap (option_map (λ slot. (array_at slot w).ranges)) (sym c.int_array.ensures ∙ c.in-Some.is) ∙ ap (λ rs. Some rs) (sym c.array_domain-domain.ensures))
    ∙ reduction-within limits c.args.at.now op value c.array_domain-domain.result
    ∙ ap (λ r. with_ok r (λ v. fold_over op value c.array_domain-domain.result)) c.in_ok-within_turns.ensures
    ∙ ap (fold_over op value) c.array_domain-domain.ensures)
    (c.folded_ints.ensures value (λ i before after r post. tells-as _ Int after.now (Unit {0}) r _ _ (λ m. tt) refl post.1) (λ i strip post. post.1))

-- ---- chains
pub expression::chained-returns-in_err-value : goal.expression::chained-returns-in_err-value
expression::chained-returns-in_err-value g t c =
    let first = c.args.first.now in
    let links = c.args.links.now in
    let wider = refused-within (g.G.Gate.may_refuse c.args.gate.now) c.args.frame.now in
    let p = err_from_is_err_and c.from_residual.result c.from_residual.ensures.1 in
    rw (p.1, p.2)
    (chain-ends c.args.frame.now.limits None c.args.frame.now.memory Int _ _ (wider (EachInInt first) (EachInChain first links) (λ Holds all. all.0)) c.operand.new.turn c.in_err-value.field-0.0
    (int_view first) (int_links_of links) c.in_err-value.ensures)

pub expression::chained-returns-in_err-value-2 : goal.expression::chained-returns-in_err-value-2
expression::chained-returns-in_err-value-2 g t c =
    let first = c.args.first.now in
    let links = c.args.links.now in
    let k = c.loop-link.link-index in
    let l = c.link-item.result in
    let may = λ (each : (ℕ → Type 0) → Type 0). MayRefuseReduction (g.G.Gate.may_refuse c.args.gate.now) c.args.frame.now each in
    let wider = refused-within (g.G.Gate.may_refuse c.args.gate.now) c.args.frame.now in
    let p = err_from_is_err_and c.from_residual-in_err-value-2.result c.from_residual-in_err-value-2.ensures.1 in
    rw (p.1, p.2)
    (link-ends c.args.frame.now.limits None c.args.frame.now.memory Int (may (EachInInt l.right.now)) (may (EachInChain first links))
    (wider (EachInInt l.right.now) (EachInChain first links) (λ Holds all. each-at (λ (l : IntLink). EachInInt l.right.now) links k l c.loop-link-test.true c.link-item.is Holds all.1))
    c.linked.new.turn c.in_err-value-2.field-0.0 (grouped (int_view first) (int_links_of links)) (int_place l.op) (int_infix l.op) (int_view l.right.now)
    (int_links_of (drop k links)) (int_links_of (drop (k + 1) links)) _ (int_links-from links k l c.loop-link-test.true c.link-item.is) c.loop-link.invariant c.in_err-value-2.ensures)

pub expression::int_value-returns-in-Chain : goal.expression::int_value-returns-in-Chain
expression::int_value-returns-in-Chain g t c =
    let first = c.in-Chain.first in
    let links = c.in-Chain.links in
    let limits = c.args.frame.now.limits in
    let w = c.args.frame.now.memory in
    let wider = refused-within (g.G.Gate.may_refuse c.args.gate.now) c.args.frame.now in
    tells-as _ Int c.chained.new.turn _ c.chained.result _ _
    (wider (EachInChain first.now links.now) (EachInInt c.args.e.now)
    (λ Holds all. subst (λ (T : Type 0). T) (each-chain first links Holds) (subst (λ (e : IntExpr). EachInInt e Holds) c.in-Chain.is all)))
    (ap (λ e. value_of limits in_memory (int_view e) None w) c.in-Chain.is ∙ ap (λ v. value_of limits in_memory v None w) (int_view-chain first links))
    c.chained.ensures

pub promoted::chained-returns-in_err-value : goal.promoted::chained-returns-in_err-value
promoted::chained-returns-in_err-value g t c =
    let first = c.args.first.now in
    let links = c.args.links.now in
    let wider = refused-within (g.G.Gate.may_refuse c.args.gate.now) c.args.frame.now in
    let p = err_from_is_err_and c.from_residual.result c.from_residual.ensures.1 in
    rw (p.1, p.2)
    (chain-ends c.args.frame.now.limits (Some c.args.index.now) c.args.frame.now.memory Int _ _ (wider (EachInInts first) (EachInIntsChain first links) (λ Holds all. all.0)) c.operand.new.turn c.in_err-value.field-0.0
    (promoted_int EachTurn first) (promoted_int_links_of EachTurn links) c.in_err-value.ensures)

pub promoted::chained-returns-in_err-value-2 : goal.promoted::chained-returns-in_err-value-2
promoted::chained-returns-in_err-value-2 g t c =
    let first = c.args.first.now in
    let links = c.args.links.now in
    let k = c.loop-link.link-index in
    let l = c.link-item.result in
    let may = λ (each : (ℕ → Type 0) → Type 0). MayRefuseReduction (g.G.Gate.may_refuse c.args.gate.now) c.args.frame.now each in
    let wider = refused-within (g.G.Gate.may_refuse c.args.gate.now) c.args.frame.now in
    let p = err_from_is_err_and c.from_residual-in_err-value-2.result c.from_residual-in_err-value-2.ensures.1 in
    rw (p.1, p.2)
    (link-ends c.args.frame.now.limits (Some c.args.index.now) c.args.frame.now.memory Int (may (EachInInts l.right.now)) (may (EachInIntsChain first links))
    (wider (EachInInts l.right.now) (EachInIntsChain first links) (λ Holds all. each-at (λ (l : PromotedIntLink). EachInInts l.right.now) links k l c.loop-link-test.true c.link-item.is Holds all.1))
    c.linked.new.turn c.in_err-value-2.field-0.0 (grouped (promoted_int EachTurn first) (promoted_int_links_of EachTurn links)) (int_place l.op) (int_infix l.op) (promoted_int EachTurn l.right.now)
    (promoted_int_links_of EachTurn (drop k links)) (promoted_int_links_of EachTurn (drop (k + 1) links)) _ (promoted_int_links-from EachTurn links k l c.loop-link-test.true c.link-item.is) c.loop-link.invariant
    c.in_err-value-2.ensures)

pub promoted::promoted_int_value-returns-in-Chain : goal.promoted::promoted_int_value-returns-in-Chain
promoted::promoted_int_value-returns-in-Chain g t c =
    let first = c.in-Chain.first in
    let links = c.in-Chain.links in
    let limits = c.args.frame.now.limits in
    let w = c.args.frame.now.memory in
    let wider = refused-within (g.G.Gate.may_refuse c.args.gate.now) c.args.frame.now in
    tells-as _ Int c.chained.new.turn _ c.chained.result _ _
    (wider (EachInIntsChain first.now links.now) (EachInInts c.args.e.now)
    (λ Holds all. subst (λ (T : Type 0). T) (each-ints_chain first links Holds) (subst (λ (e : PromotedInt). EachInInts e Holds) c.in-Chain.is all)))
    (ap (λ e. value_of limits in_memory (promoted_int EachTurn e) (Some c.args.index.now) w) c.in-Chain.is
    ∙ ap (λ v. value_of limits in_memory v (Some c.args.index.now) w) (promoted_int-chain EachTurn first links))
    c.chained.ensures

-- ---- slices of a range
pub expression::slices-returns-in_err-range : goal.expression::slices-returns-in_err-range
expression::slices-returns-in_err-range g t c =
    let limits = c.args.frame.now.limits in
    let w = c.args.frame.now.memory in
    let r = c.args.r.now in
    let wider = refused-within (g.G.Gate.may_refuse c.args.gate.now) c.args.frame.now in
    let may = MayRefuseReduction (g.G.Gate.may_refuse c.args.gate.now) c.args.frame.now (EachInRange r) in
    let p = err_from_is_err_and c.from_residual.result c.from_residual.ensures.1 in
    rw (p.1, p.2)
    (posts-end limits w as_range may _ (wider (EachInRange r) (EachInSlices r c.args.cut.now c.args.cuts.now) (λ Holds all. all.0)) c.range_value.new.turn c.in_err-range.field-0.0
    (range_view r) (Post (square_post (items_one (range_item c.args.cut.now))) (range_cuts_of c.args.cuts.now))
    (subst (λ v. Tells {A = RangeWord} may as_range c.range_value.new.turn (Err c.in_err-range.field-0.0) v) (sym (range_view_value limits w r)) c.in_err-range.ensures))

pub expression::slices-returns-in_err-range-2 : goal.expression::slices-returns-in_err-range-2
expression::slices-returns-in_err-range-2 g t c =
    let f = c.args.frame.now in
    let r = c.args.r.now in
    let cut = c.args.cut.now in
    let cuts = c.args.cuts.now in
    let x = c.in_ok-range.range in
    let post : PostTree Variable = square_post (items_one (range_item cut)) in
    let wider = refused-within (g.G.Gate.may_refuse c.args.gate.now) f in
    let p = err_from_is_err_and c.from_residual-in_err-range-2.result c.from_residual-in_err-range-2.ensures.1 in
    rw (p.1, p.2)
    (post-ends f.limits f.memory as_range _ _ (wider (EachInRange cut) (EachInSlices r cut cuts) (λ Holds all. all.1)) c.narrowed.new.turn c.in_err-range-2.field-0.0
    (stacked_on (bracketed (range_view r) (range_item cut)) (range_cuts_of cuts)) post (Post post (range_cuts_of cuts)) (range_cuts_of cuts) x (cut_in f (range_word x) cut) refl
    (λ a h. cut-value f.limits f.memory a cut (range_word x) h)
    (record { tree = range_view r; same = refl; holds = range_view_value f.limits f.memory r ∙ c.in_ok-range.ensures }) c.in_err-range-2.ensures)

pub expression::slices-loop-cut-init : goal.expression::slices-loop-cut-init
expression::slices-loop-cut-init g t c =
    let f = c.args.frame.now in
    let r = c.args.r.now in
    let cut = c.args.cut.now in
    record {
      tree = bracketed (range_view r) (range_item cut);
      same = refl;
      holds =
          cut-value f.limits f.memory (range_view r) cut (range_word c.in_ok-range.range) (range_view_value f.limits f.memory r ∙ c.in_ok-range.ensures)
          ∙ c.in_ok-range-2.ensures;
    }

pub expression::slices-returns-in_err-range-3 : goal.expression::slices-returns-in_err-range-3
expression::slices-returns-in_err-range-3 g t c =
    let f = c.args.frame.now in
    let r = c.args.r.now in
    let cut = c.args.cut.now in
    let cuts = c.args.cuts.now in
    let k = c.loop-cut.cut-index in
    let l = c.cut-item.result in
    let x = c.loop-cut.range in
    let wider = refused-within (g.G.Gate.may_refuse c.args.gate.now) f in
    let p = err_from_is_err_and c.from_residual-in_err-range-3.result c.from_residual-in_err-range-3.ensures.1 in
    rw (p.1, p.2)
    (post-ends f.limits f.memory as_range _ _
    (wider (EachInRange l.by.now) (EachInSlices r cut cuts) (λ Holds all. each-at (λ (l : RangeCut). EachInRange l.by.now) cuts k l c.loop-cut-test.true c.cut-item.is Holds all.2))
    c.narrowed-in-loop-cut.new.turn c.in_err-range-3.field-0.0 (stacked_on (bracketed (range_view r) (range_item cut)) (range_cuts_of cuts)) (square_post (items_one (range_item l.by.now)))
    (range_cuts_of (drop k cuts)) (range_cuts_of (drop (k + 1) cuts)) x (cut_in f (range_word x) l.by.now) (range_cuts-from cuts k l c.loop-cut-test.true c.cut-item.is)
    (λ a h. cut-value f.limits f.memory a l.by.now (range_word x) h) c.loop-cut.invariant c.in_err-range-3.ensures)

pub expression::range_value-returns-in-Slice : goal.expression::range_value-returns-in-Slice
expression::range_value-returns-in-Slice g t c =
    let r = c.in-Slice.r in
    let cut = c.in-Slice.cut in
    let cuts = c.in-Slice.cuts in
    let limits = c.args.frame.now.limits in
    let w = c.args.frame.now.memory in
    let wider = refused-within (g.G.Gate.may_refuse c.args.gate.now) c.args.frame.now in
    tells-as _ as_range c.slices.new.turn _ c.slices.result _ _
    (wider (EachInSlices r.now cut.now cuts.now) (EachInRange c.args.e.now)
    (λ Holds all. subst (λ (T : Type 0). T) (each-slice r cut cuts Holds) (subst (λ (e : RangeExpr). EachInRange e Holds) c.in-Slice.is all)))
    (ap (λ e. item_of limits in_memory (range_item e) None w) c.in-Slice.is ∙ ap (λ v. value_of limits in_memory v None w) (range_view-slice r cut cuts))
    c.slices.ensures

-- ---- posts of a domain
pub expression::made-returns-in-Some : goal.expression::made-returns-in-Some
expression::made-returns-in-Some g t c =
    let at = c.in-Expanded.at.now in
    let d = c.args.domain.now in
    let k = c.in_ok-k-in-Expanded.k in
    let fits : FitsSigned w64 k = search rules in
    let z = to_z w64 (of_z w64 k) in
    let small = c.in-Some.ensures.some.0 refl in
    ap (made_in c.args.frame.now d) c.in-Expanded.is
    ∙ ap (λ r. with_ok r (λ v. expanded at (number v) d)) c.in_ok-k-in-Expanded.ensures ∙ ap (λ n. expanded at n d) (sym (to_z-of_z w64 k fits)) ∙ expanded-within at z d small.0 small.1
    ∙ ap (λ rs. Ok (Domain rs)) (sym c.in-Some.ensures.held)

pub expression::made-returns-in-None : goal.expression::made-returns-in-None
expression::made-returns-in-None g t c =
    let at = c.in-Expanded.at.now in
    let d = c.args.domain.now in
    let k = c.in_ok-k-in-Expanded.k in
    let fits : FitsSigned w64 k = search rules in
    let z = to_z w64 (of_z w64 k) in
    told _ Domain c.new.new.turn c.new.result (fault PastLimit at) _ c.new.ensures.alarm c.new.ensures.no_turn
    (ap (made_in c.args.frame.now d) c.in-Expanded.is
    ∙ ap (λ r. with_ok r (λ v. expanded at (number v) d)) c.in_ok-k-in-Expanded.ensures ∙ ap (λ n. expanded at n d) (sym (to_z-of_z w64 k fits))
    ∙ expanded-past at z d (λ both. (let clash : false ≡ true = c.in-None.ensures.some.1 both in cc)))

pub expression::posted-returns-in_err-domain : goal.expression::posted-returns-in_err-domain
expression::posted-returns-in_err-domain g t c =
    let d = c.args.d.now in
    let posts = c.args.posts.now in
    let wider = refused-within (g.G.Gate.may_refuse c.args.gate.now) c.args.frame.now in
    let p = err_from_is_err_and c.from_residual.result c.from_residual.ensures.1 in
    rw (p.1, p.2)
    (posts-end c.args.frame.now.limits c.args.frame.now.memory Domain _ _ (wider (EachInDomain d) (EachInPosted d posts) (λ Holds all. all.0)) c.domain_value.new.turn c.in_err-domain.field-0.0
    (domain_view d) (domain_posts_of posts) c.in_err-domain.ensures)

pub expression::posted-returns-in_err-domain-2 : goal.expression::posted-returns-in_err-domain-2
expression::posted-returns-in_err-domain-2 g t c =
    let f = c.args.frame.now in
    let d = c.args.d.now in
    let posts = c.args.posts.now in
    let k = c.loop-post.post-index in
    let post = c.post-item.result in
    let rs = c.loop-post.domain in
    let wider = refused-within (g.G.Gate.may_refuse c.args.gate.now) f in
    let p = err_from_is_err_and c.from_residual-in_err-domain-2.result c.from_residual-in_err-domain-2.ensures.1 in
    rw (p.1, p.2)
    (post-ends f.limits f.memory Domain _ _
    (wider (EachInPost post) (EachInPosted d posts) (λ Holds all. each-at EachInPost posts k post c.loop-post-test.true c.post-item.is Holds all.1))
    c.made.new.turn c.in_err-domain-2.field-0.0 (stacked_on (domain_view d) (domain_posts_of posts)) (domain_post post)
    (domain_posts_of (drop k posts)) (domain_posts_of (drop (k + 1) posts)) rs (made_in f rs post) (domain_posts-from posts k post c.loop-post-test.true c.post-item.is)
    (λ a h. made-value f.limits f.memory a post rs h) c.loop-post.invariant c.in_err-domain-2.ensures)

pub expression::posted-loop-post-preserved : goal.expression::posted-loop-post-preserved
expression::posted-loop-post-preserved g t c =
    let f = c.args.frame.now in
    let d = c.args.d.now in
    let posts = c.args.posts.now in
    let k = c.loop-post.post-index in
    let post = c.post-item.result in
    let rs = c.loop-post.domain in
    posted-next (stacked_on (domain_view d) (domain_posts_of posts)) (domain_post post) (domain_posts_of (drop k posts)) (domain_posts_of (drop (k + 1) posts))
    (λ a. value_of f.limits in_memory a None f.memory ≡ Ok (Domain rs)) (λ a. value_of f.limits in_memory a None f.memory ≡ Ok (Domain c.in_ok-domain-2.domain))
    (domain_posts-from posts k post c.loop-post-test.true c.post-item.is) (λ a h. made-value f.limits f.memory a post rs h ∙ c.in_ok-domain-2.ensures) c.loop-post.invariant

pub expression::domain_value-returns-in-Posts : goal.expression::domain_value-returns-in-Posts
expression::domain_value-returns-in-Posts g t c =
    let d = c.in-Posts.d in
    let posts = c.in-Posts.posts in
    let limits = c.args.frame.now.limits in
    let w = c.args.frame.now.memory in
    let wider = refused-within (g.G.Gate.may_refuse c.args.gate.now) c.args.frame.now in
    tells-as _ Domain c.posted.new.turn _ c.posted.result _ _
    (wider (EachInPosted d.now posts.now) (EachInDomain c.args.e.now)
    (λ Holds all. subst (λ (T : Type 0). T) (each-posted d posts Holds) (subst (λ (e : DomainExpr). EachInDomain e Holds) c.in-Posts.is all)))
    (ap (λ e. value_of limits in_memory (domain_view e) None w) c.in-Posts.is ∙ ap (λ v. value_of limits in_memory v None w) (domain_view-posts d posts))
    c.posted.ensures
