-- Typed expressions in turns, where their plain trees have two forms.
use Rattle.std.proofs.Common.{◌≡◌, Option, None, refl}
use Rattle.dpl_language.specs.Tree.{ExprTree, Postfixed, Links, NoLinks, Link, PostTree, Brackets, Rounds, Dotted, Posts, NoPosts, Post, Items}
use Rattle.dpl_language.specs.Values.{Index}
use Rattle.dpl_language.specs.Phrases.{Base, OtherBase, base_of}
use Rattle.dpl_memory.specs.Memory.{Variable}
use Rattle.dpl_lowered.specs.Shapes.{two, grouped, stacked_on}
use Rattle.dpl_agreement.specs.Scopes.{items_in, fits_expr, fits_links, fits_item, fits_items, fits_exprs, fits_element, fits_post, fits_posts}
use Rattle.dpl_nodes.specs.declared.tree.RangeExpr.{RangeExpr, Local as RangeLocal, Slice'}
use Rattle.dpl_nodes.specs.declared.tree.IndexExpr.{IndexExpr, Line'}
use Rattle.dpl_nodes.specs.declared.tree.DomainExpr.{DomainExpr, Local as DomainLocal, Posts'}
use Rattle.dpl_nodes.specs.Typed.{bracketed, range_item, range_view, index_items, index_exprs, domain_view}
use Rattle.dpl_nodes.proofs.Chains.{range_cuts-hold, domain_posts-hold}
use Rattle.dpl_turns.specs.Bodies.{OwnNames, turn_scoping}
use Rattle.dpl_apart.specs.Memories.{Changes}

-- the same index between square brackets and between round ones
pub index-same : (x : IndexExpr) → items_in (index_exprs x) ≡ index_items x
index-same (Line' p a) = refl
index-same _ = refl

module _ (h : Changes) (own : OwnNames) (t : Index) where
  pub index-exprs_fit : (x : IndexExpr) → fits_items (turn_scoping h own t) (index_items x) tt → fits_exprs (turn_scoping h own t) (index_exprs x) tt
  index-exprs_fit (Line' p a) fit = fit
  index-exprs_fit _ fit = fit

  -- a range as an item and as an expression
  pub range-fits : (r : RangeExpr) → fits_item (turn_scoping h own t) None (range_item r) tt → fits_expr (turn_scoping h own t) None (range_view r) tt
  range-fits (RangeLocal slot) fit = fit
  range-fits _ fit = fit

  -- neither a range nor a domain is an array, and so nothing is asked of what it is cut by
  pub range-base_fits : (r : RangeExpr) (items : Items Variable) → fits_element (turn_scoping h own t) (base_of (range_view r)) items tt
  range-base_fits (RangeLocal slot) items = tt
  range-base_fits (Slice' p r q cut w shape row) items =
      range_cuts-hold (λ a. fits_element (turn_scoping h own t) (base_of a) items tt) (λ a c fit. tt) row (bracketed (range_view r) (range_item cut)) tt
  range-base_fits _ items = tt

  pub domain-base_fits : (d : DomainExpr) (items : Items Variable) → fits_element (turn_scoping h own t) (base_of (domain_view d)) items tt
  domain-base_fits (DomainLocal slot) items = tt
  domain-base_fits (Posts' p d q shape row) items =
      domain_posts-hold (λ a. fits_element (turn_scoping h own t) (base_of a) items tt) (λ a post fit. tt) row (domain_view d) (domain-base_fits d items)
  domain-base_fits _ items = tt

  -- a chain by its first operand and the others
  pub grouped-fits : (i : Option Index) (a : ExprTree Variable) (ls : Links Variable)
      → fits_expr (turn_scoping h own t) i a tt → fits_links (turn_scoping h own t) i ls tt → fits_expr (turn_scoping h own t) i (grouped a ls) tt
  grouped-fits i a NoLinks fit rest = fit
  grouped-fits i a (Link at op b ls) fit rest = grouped-fits i (two a at op b) ls (fit, (rest.0, tt)) rest.1

  -- posts behind a base that is no array
  post-fits : (p : PostTree Variable) (b : Base Variable) → ((items : Items Variable) → fits_element (turn_scoping h own t) b items tt)
      → fits_post (turn_scoping h own t) p OtherBase tt → fits_post (turn_scoping h own t) p b tt
  post-fits (Brackets from items upto) b none fit = (fit.0, none items)
  post-fits (Rounds from es upto) b none fit = (fit.0, none (items_in es))
  post-fits (Dotted dot m) b none fit = fit

  pub stacked-fits : (a : ExprTree Variable) (ps : Posts Variable) → fits_expr (turn_scoping h own t) None a tt → ((items : Items Variable) → fits_element (turn_scoping h own t) (base_of a) items tt)
      → fits_posts (turn_scoping h own t) ps OtherBase tt → fits_expr (turn_scoping h own t) None (stacked_on a ps) tt
  stacked-fits a NoPosts fit none rest = fit
  stacked-fits a (Post p ps) fit none rest = stacked-fits (Postfixed a (Post p NoPosts)) ps (fit, (post-fits p (base_of a) none rest.0, tt)) (λ items. tt) rest.1
