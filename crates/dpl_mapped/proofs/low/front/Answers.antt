-- A base with nothing behind it is the base.
use Rattle.std.proofs.Common.{sym, subst, ◌∙◌}
use Rattle.dpl_tree.specs.View.{expr_view}
use Rattle.dpl_typed.specs.Lowered.{leaves_of}
use Rattle.dpl_typed.specs.Stands.{StandsFor}
use Rattle.dpl_typed.specs.Where.{WhereSimple}
use Rattle.dpl_typed.proofs.Standing.{if_ok}
use Rattle.dpl_mapped.proofs.Lows.{standing-alone, alone-told, front-made}
use Rattle.dpl_mapped.proofs.low.front.Goals as goal

pub returns-then-is_empty-clause-told : goal.returns-then-is_empty-clause-told
returns-then-is_empty-clause-told c =
    alone-told c.args.scopes.now (expr_view c.args.ends.base.now) c.args.ends.behind.now c.in-Ok.t c.args.first.now c.base.new.first (sym c.is_empty.ensures ∙ c.if-is_empty.true) c.in-Ok.ensures.told

pub returns-then-is_empty-clause-node : goal.returns-then-is_empty-clause-node
returns-then-is_empty-clause-node c =
    subst (λ e. WhereSimple c.args.scopes.now e (StandsFor c.in-Ok.t (λ m. leaves_of c.args.scopes.now m e)))
    (standing-alone (expr_view c.args.ends.base.now) c.args.ends.behind.now (sym c.is_empty.ensures ∙ c.if-is_empty.true)) c.in-Ok.ensures.node

pub returns-clause-node : goal.returns-clause-node
returns-clause-node c =
    if_ok c.posts.result
    (λ r h. front-made c.args.scopes.now (expr_view c.args.ends.base.now) c.args.ends.behind.now c.in-Ok.t r (sym c.is_empty.ensures ∙ c.if-is_empty.false) c.in-Ok.ensures.node h)
    c.posts.ensures.node
