-- The last of the posts stands at their end.
use Rattle.std.proofs.Common.{sym, ap, ◌∙◌}
use Rattle.dpl_language.specs.Tree.{Postfixed}
use Rattle.dpl_tree.specs.View.{posts_of}
use Rattle.dpl_rules.specs.Maps.{low_of}
use Rattle.dpl_mapped.specs.Told.{low_view, low_last_view}
use Rattle.dpl_mapped.proofs.Lows.{low_of-push, front-pushed}
use Rattle.dpl_mapped.proofs.low.ends_low.Goals as goal

pub returns-in_err-low-clause-low : goal.returns-in_err-low-clause-low
returns-in_err-low-clause-low c = λ e.
    let behind = c.in_ok-last.behind.now in
    ap (λ ps. low_of (Postfixed e (posts_of ps))) c.in_ok-last.ensures.cases.0
    ∙ low_of-push e behind c.in_ok-last.last.now
    ∙ c.low_end.ensures (Postfixed e (posts_of behind))
    ∙ ap (low_view (Postfixed e (posts_of behind))) c.in_err-low.was
    ∙ ap (low_last_view e) (sym c.from_residual-in_err-low.ensures)

pub returns-clause-low : goal.returns-clause-low
returns-clause-low c = λ e.
    let behind = c.in_ok-last.behind.now in
    ap (λ ps. low_of (Postfixed e (posts_of ps))) c.in_ok-last.ensures.cases.0
    ∙ low_of-push e behind c.in_ok-last.last.now
    ∙ c.low_end.ensures (Postfixed e (posts_of behind))
    ∙ ap (low_view (Postfixed e (posts_of behind))) c.in_ok-low.was

pub returns-clause-front : goal.returns-clause-front
returns-clause-front c = front-pushed c.args.posts.now c.in_ok-last.behind.now c.in_ok-last.last.now c.in_ok-last.ensures.cases.0
