-- Typed expressions are no cell reads.
-- Each lemma has what is read of the plain tree on its left side.
use Rattle.std.proofs.Common.{◌≡◌, Option, Some, None, refl}
use Rattle.dpl_language.specs.Tree.{Placed, ExprTree, Postfixed, NoPosts, Post}
use Rattle.dpl_language.specs.Phrases.{bare_name, read_by, cell_read, item_read}
use Rattle.dpl_memory.specs.Memory.{Variable}
use Rattle.dpl_nodes.specs.declared.tree.IntExpr.{IntExpr, Chain', OfRange', OfDomain'}
use Rattle.dpl_nodes.specs.declared.tree.BoolExpr.{BoolExpr, Chain' as TruthChain', Contains, HasIndex}
use Rattle.dpl_nodes.specs.declared.tree.RangeExpr.{RangeExpr, Local as RangeLocal, Between', Slice', Dimension'}
use Rattle.dpl_nodes.specs.declared.tree.DomainPost.{DomainPost, Slice' as SlicePost', Expanded' as ExpandedPost'}
use Rattle.dpl_nodes.specs.declared.tree.DomainExpr.{DomainExpr, Posts'}
use Rattle.dpl_nodes.specs.Typed.{bracketed, int_view, truth_view, range_item, range_view, domain_view, domain_post}
use Rattle.dpl_nodes.proofs.Chains.{int_links-hold, truth_links-hold, range_cuts-hold, domain_posts-hold}

read_by-none : (b : Option (Placed Variable)) → read_by b None ≡ None
read_by-none None = refl
read_by-none (Some x) = refl

pub cell_read-int : (e : IntExpr) → cell_read (int_view e) ≡ None
cell_read-int (OfRange' m p r at) = read_by-none (bare_name (range_view r))
cell_read-int (OfDomain' m p d) = read_by-none (bare_name (domain_view d))
cell_read-int (Chain' p first q shape row) = int_links-hold (λ a. cell_read a ≡ None) (λ a b op. refl) row (int_view first) (cell_read-int first)
cell_read-int _ = refl

pub cell_read-truth : (e : BoolExpr) → cell_read (truth_view e) ≡ None
cell_read-truth (Contains r i) = read_by-none (bare_name (range_view r.now))
cell_read-truth (HasIndex d t) = read_by-none (bare_name (domain_view d.now))
cell_read-truth (TruthChain' p first q shape row) = truth_links-hold (λ a. cell_read a ≡ None) (λ a b op. refl) row (truth_view first) (cell_read-truth first)
cell_read-truth _ = refl

pub item_read-range : (e : RangeExpr) → item_read (range_item e) ≡ None
item_read-range (RangeLocal slot) = refl
item_read-range (Between' p low at dots q high stride) = refl
item_read-range (Slice' p r q cut w shape row) =
    range_cuts-hold (λ a. cell_read a ≡ None) (λ a c h. read_by-none (bare_name a)) row (bracketed (range_view r) (range_item cut)) (read_by-none (bare_name (range_view r)))
item_read-range (Dimension' p d n) = read_by-none (bare_name (domain_view d))

unread : (a : ExprTree Variable) (p : DomainPost) → cell_read a ≡ None → cell_read (Postfixed a (Post (domain_post p) NoPosts)) ≡ None
unread a (SlicePost' q rs) h = read_by-none (bare_name a)
unread a (ExpandedPost' at q e) h = read_by-none (bare_name a)

pub cell_read-domain : (e : DomainExpr) → cell_read (domain_view e) ≡ None
cell_read-domain (Posts' p d q shape row) =
    domain_posts-hold (λ a. cell_read a ≡ None) unread row (domain_view d) (cell_read-domain d)
cell_read-domain _ = refl
