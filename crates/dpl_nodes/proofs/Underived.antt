-- A range is derived from no domain: what an array is over where it is over ranges gives it no map. What posts make of a domain is derived from
-- what the domain is derived from.
use Rattle.std.proofs.Common.{◌≡◌, refl, ◌∙◌, Bor, List, Option, None}
use Rattle.dpl_memory.specs.Memory.{Variable}
use Rattle.dpl_nodes.specs.declared.tree.RangeExpr.{RangeExpr, Local as RangeLocal, Between', Slice', Dimension'}
use Rattle.dpl_nodes.specs.declared.tree.DomainPost.{DomainPost, Slice' as SlicePost', Expanded' as ExpandedPost'}
use Rattle.dpl_nodes.specs.declared.tree.DomainExpr.{DomainExpr, Posts as PostsNode}
use Rattle.dpl_nodes.specs.declared.tree.DomainExpr.TheBlock.{hidden-the_row-DomainPost-0}
use Rattle.dpl_nodes.specs.declared.tree.RangesExpr.{RangesExpr, Line', Plane', Space'}
use Rattle.dpl_nodes.specs.Typed.{bracketed, range_view, range_item, ranges_items, domain_view, domain_post}
use Rattle.dpl_language.specs.Roots.{by_post, derived_from, derived_item, derived_over}
use Rattle.dpl_nodes.specs.Roots.{slot_by}
use Rattle.dpl_nodes.proofs.Chains.{range_cuts-hold, domain_posts-hold}

view-underived : (r : RangeExpr) → slot_by (derived_from (range_view r)) ≡ None
view-underived (RangeLocal slot) = refl
view-underived (Between' p low at dots q high stride) = refl
view-underived (Slice' p r q cut w shape row) =
    range_cuts-hold (λ a. slot_by (derived_from a) ≡ None) (λ a c h. h) row (bracketed (range_view r) (range_item cut)) (view-underived r)
view-underived (Dimension' p d n) = refl

pub item-underived : (r : RangeExpr) → slot_by (derived_item (range_item r)) ≡ None
item-underived (RangeLocal slot) = refl
item-underived (Between' p low at dots q high stride) = refl
item-underived (Slice' p r q cut w shape row) = view-underived (Slice' p r q cut w shape row)
item-underived (Dimension' p d n) = refl

pub ranges-underived : (rs : RangesExpr) → slot_by (derived_over (ranges_items rs)) ≡ None
ranges-underived (Line' p a) = item-underived a
ranges-underived (Plane' p a q b) = refl
ranges-underived (Space' p a q b r c) = refl

-- what is made of a domain by posts is derived from what the domain is derived from
by_post-domain : (p : DomainPost) (name : Option Variable) → by_post (domain_post p) name ≡ name
by_post-domain (SlicePost' q rs) name = refl
by_post-domain (ExpandedPost' at q e) name = refl

pub posts-derived : (d : Bor DomainExpr) (posts : Bor (List DomainPost)) → derived_from (domain_view (PostsNode d posts)) ≡ derived_from (domain_view d.now)
posts-derived d posts = domain_posts-hold (λ a. derived_from a ≡ derived_from (domain_view d.now))
    (λ a p h. by_post-domain p (derived_from a) ∙ h) (hidden-the_row-DomainPost-0 posts.now) (domain_view d.now) refl
