-- Chains: the plain tree of one, by its first operand and the list of the others; and what holds of it, one operand after another.
use Rattle.std.proofs.Common.{◌≡◌, ◌+◌, ◌<◌, ℕ, Bor, List, drop, get_or, length, refl, sym, ap, ◌∙◌}
use Rattle.dpl_syntax.specs.declared.place.Place.{Place}
use Rattle.dpl_syntax.proofs.Walks.{drop-at}
use Rattle.dpl_language.specs.Tree.{Infix, ExprTree, Links, Link, PostTree, Posts, Post, Postfixed, NoPosts}
use Rattle.dpl_memory.specs.Memory.{Variable}
use Rattle.dpl_lowered.specs.Shapes.{nowhere, two, grouped, stacked_on}
use Rattle.dpl_nodes.specs.declared.tree.IntOperator.{IntOperator}
use Rattle.dpl_nodes.specs.declared.tree.IntLink.{IntLink}
use Rattle.dpl_nodes.specs.declared.tree.IntExpr.{IntExpr, Chain as ChainNode, Row_of-IntLink, end_of-IntLink, more_of-IntLink, items-the_row-IntLink, items_hidden-the_row-IntLink-1}
use Rattle.dpl_nodes.specs.declared.tree.Junction.{Junction}
use Rattle.dpl_nodes.specs.declared.tree.TruthLink.{TruthLink}
use Rattle.dpl_nodes.specs.declared.tree.BoolExpr.{BoolExpr, Chain as TruthChain, Row_of-TruthLink, end_of-TruthLink, more_of-TruthLink, items-the_row-TruthLink, items_hidden-the_row-TruthLink-0}
use Rattle.dpl_nodes.specs.declared.tree.RangeCut.{RangeCut}
use Rattle.dpl_nodes.specs.declared.tree.RangeExpr.{RangeExpr, Slice as SliceNode, Row_of-RangeCut, end_of-RangeCut, more_of-RangeCut, items-the_row-RangeCut, items_hidden-the_row-RangeCut-3}
use Rattle.dpl_nodes.specs.declared.tree.DomainPost.{DomainPost}
use Rattle.dpl_nodes.specs.declared.tree.DomainExpr.{DomainExpr, Posts as PostsNode, Row_of-DomainPost, end_of-DomainPost, more_of-DomainPost, items-the_row-DomainPost, items_hidden-the_row-DomainPost-0}
use Rattle.dpl_nodes.specs.declared.tree.PromotedIntLink.{PromotedIntLink}
use Rattle.dpl_nodes.specs.declared.tree.PromotedInt.{PromotedInt, Chain as IntsChain, Row_of-PromotedIntLink, end_of-PromotedIntLink, more_of-PromotedIntLink, items-the_row-PromotedIntLink, items_hidden-the_row-PromotedIntLink-2}
use Rattle.dpl_nodes.specs.declared.tree.PromotedTruthLink.{PromotedTruthLink}
use Rattle.dpl_nodes.specs.declared.tree.PromotedTruth.{PromotedTruth, Chain as TruthsChain, Row_of-PromotedTruthLink, end_of-PromotedTruthLink, more_of-PromotedTruthLink, items-the_row-PromotedTruthLink, items_hidden-the_row-PromotedTruthLink-1}
use Rattle.dpl_nodes.specs.declared.tree.DomainExpr.TheBlock.{hidden-the_row-IntLink-1, hidden-the_row-RangeCut-3, hidden-the_row-DomainPost-0, hidden-the_row-PromotedIntLink-2}
use Rattle.dpl_nodes.specs.declared.tree.BoolExpr.TheBlock.{hidden-the_row-TruthLink-0, hidden-the_row-PromotedTruthLink-1}
use Rattle.dpl_lowered.specs.LoweredExpressions.{Times}
use Rattle.dpl_nodes.specs.Typed.{int_view, int_links, int_links_of, int_infix, int_place, truth_view, truth_links, truth_links_of, junction_view, bracketed, square_post, items_one, range_item, range_view, range_cuts, range_cuts_of, domain_view, domain_post, domain_posts, domain_posts_of, promoted_int, promoted_int_links, promoted_int_links_of, promoted_truth, promoted_truth_links, promoted_truth_links_of}
use Rattle.dpl_nodes.specs.Chains.{IsSoFar, IsPostedSoFar}

-- ---- LISTS AS ROWS, and the plain tree of a node that holds one
int_row : {m : _} (row : Row_of-IntLink m) → int_links row ≡ int_links_of (items-the_row-IntLink m row)
int_row end_of-IntLink = refl
int_row (more_of-IntLink op p e row) = ap (Link (int_place op) (int_infix op) (int_view e)) (int_row row)

pub int_links-row : (xs : List IntLink) → int_links (hidden-the_row-IntLink-1 xs) ≡ int_links_of xs
int_links-row xs = int_row (hidden-the_row-IntLink-1 xs) ∙ ap int_links_of (items_hidden-the_row-IntLink-1 xs)

pub int_view-chain : (first : Bor IntExpr) (links : Bor (List IntLink)) → int_view (ChainNode first links) ≡ grouped (int_view first.now) (int_links_of links.now)
int_view-chain first links = ap (grouped (int_view first.now)) (int_links-row links.now)

truth_row : {m : _} (row : Row_of-TruthLink m) → truth_links row ≡ truth_links_of (items-the_row-TruthLink m row)
truth_row end_of-TruthLink = refl
truth_row (more_of-TruthLink op p e row) = ap (Link nowhere (junction_view op) (truth_view e)) (truth_row row)

pub truth_links-row : (xs : List TruthLink) → truth_links (hidden-the_row-TruthLink-0 xs) ≡ truth_links_of xs
truth_links-row xs = truth_row (hidden-the_row-TruthLink-0 xs) ∙ ap truth_links_of (items_hidden-the_row-TruthLink-0 xs)

pub truth_view-chain : (first : Bor BoolExpr) (links : Bor (List TruthLink)) → truth_view (TruthChain first links) ≡ grouped (truth_view first.now) (truth_links_of links.now)
truth_view-chain first links = ap (grouped (truth_view first.now)) (truth_links-row links.now)

ints_row : {n : _} (m : Times) (row : Row_of-PromotedIntLink n) → promoted_int_links m row ≡ promoted_int_links_of m (items-the_row-PromotedIntLink n row)
ints_row m end_of-PromotedIntLink = refl
ints_row m (more_of-PromotedIntLink op p e row) = ap (Link (int_place op) (int_infix op) (promoted_int m e)) (ints_row m row)

pub promoted_int_links-row : (m : Times) (xs : List PromotedIntLink) → promoted_int_links m (hidden-the_row-PromotedIntLink-2 xs) ≡ promoted_int_links_of m xs
promoted_int_links-row m xs = ints_row m (hidden-the_row-PromotedIntLink-2 xs) ∙ ap (promoted_int_links_of m) (items_hidden-the_row-PromotedIntLink-2 xs)

pub promoted_int-chain : (m : Times) (first : Bor PromotedInt) (links : Bor (List PromotedIntLink))
    → promoted_int m (IntsChain first links) ≡ grouped (promoted_int m first.now) (promoted_int_links_of m links.now)
promoted_int-chain m first links = ap (grouped (promoted_int m first.now)) (promoted_int_links-row m links.now)

truths_row : {n : _} (m : Times) (row : Row_of-PromotedTruthLink n) → promoted_truth_links m row ≡ promoted_truth_links_of m (items-the_row-PromotedTruthLink n row)
truths_row m end_of-PromotedTruthLink = refl
truths_row m (more_of-PromotedTruthLink op p e row) = ap (Link nowhere (junction_view op) (promoted_truth m e)) (truths_row m row)

pub promoted_truth_links-row : (m : Times) (xs : List PromotedTruthLink) → promoted_truth_links m (hidden-the_row-PromotedTruthLink-1 xs) ≡ promoted_truth_links_of m xs
promoted_truth_links-row m xs = truths_row m (hidden-the_row-PromotedTruthLink-1 xs) ∙ ap (promoted_truth_links_of m) (items_hidden-the_row-PromotedTruthLink-1 xs)

pub promoted_truth-chain : (m : Times) (first : Bor PromotedTruth) (links : Bor (List PromotedTruthLink))
    → promoted_truth m (TruthsChain first links) ≡ grouped (promoted_truth m first.now) (promoted_truth_links_of m links.now)
promoted_truth-chain m first links = ap (grouped (promoted_truth m first.now)) (promoted_truth_links-row m links.now)

cuts_row : {m : _} (row : Row_of-RangeCut m) → range_cuts row ≡ range_cuts_of (items-the_row-RangeCut m row)
cuts_row end_of-RangeCut = refl
cuts_row (more_of-RangeCut p cut row) = ap (Post (square_post (items_one (range_item cut)))) (cuts_row row)

pub range_cuts-row : (xs : List RangeCut) → range_cuts (hidden-the_row-RangeCut-3 xs) ≡ range_cuts_of xs
range_cuts-row xs = cuts_row (hidden-the_row-RangeCut-3 xs) ∙ ap range_cuts_of (items_hidden-the_row-RangeCut-3 xs)

pub range_view-slice : (r cut : Bor RangeExpr) (cuts : Bor (List RangeCut))
    → range_view (SliceNode r cut cuts) ≡ stacked_on (bracketed (range_view r.now) (range_item cut.now)) (range_cuts_of cuts.now)
range_view-slice r cut cuts = ap (stacked_on (bracketed (range_view r.now) (range_item cut.now))) (range_cuts-row cuts.now)

posts_row : {m : _} (row : Row_of-DomainPost m) → domain_posts row ≡ domain_posts_of (items-the_row-DomainPost m row)
posts_row end_of-DomainPost = refl
posts_row (more_of-DomainPost post row) = ap (Post (domain_post post)) (posts_row row)

pub domain_posts-row : (xs : List DomainPost) → domain_posts (hidden-the_row-DomainPost-0 xs) ≡ domain_posts_of xs
domain_posts-row xs = posts_row (hidden-the_row-DomainPost-0 xs) ∙ ap domain_posts_of (items_hidden-the_row-DomainPost-0 xs)

pub domain_view-posts : (d : Bor DomainExpr) (posts : Bor (List DomainPost)) → domain_view (PostsNode d posts) ≡ stacked_on (domain_view d.now) (domain_posts_of posts.now)
domain_view-posts d posts = ap (stacked_on (domain_view d.now)) (domain_posts-row posts.now)

-- ---- WHAT IS LEFT of a chain, from one operand or post on
pub int_links-from : (ls : List IntLink) (k : ℕ) (l : IntLink) → k < length ls → l ≡ get_or ls k l
    → int_links_of (drop k ls) ≡ Link (int_place l.op) (int_infix l.op) (int_view l.right.now) (int_links_of (drop (k + 1) ls))
int_links-from ls k l within is = ap int_links_of (drop-at ls k l within is)

pub truth_links-from : (ls : List TruthLink) (k : ℕ) (l : TruthLink) → k < length ls → l ≡ get_or ls k l
    → truth_links_of (drop k ls) ≡ Link nowhere (junction_view l.op) (truth_view l.right.now) (truth_links_of (drop (k + 1) ls))
truth_links-from ls k l within is = ap truth_links_of (drop-at ls k l within is)

pub promoted_int_links-from : (m : Times) (ls : List PromotedIntLink) (k : ℕ) (l : PromotedIntLink) → k < length ls → l ≡ get_or ls k l
    → promoted_int_links_of m (drop k ls) ≡ Link (int_place l.op) (int_infix l.op) (promoted_int m l.right.now) (promoted_int_links_of m (drop (k + 1) ls))
promoted_int_links-from m ls k l within is = ap (promoted_int_links_of m) (drop-at ls k l within is)

pub promoted_truth_links-from : (m : Times) (ls : List PromotedTruthLink) (k : ℕ) (l : PromotedTruthLink) → k < length ls → l ≡ get_or ls k l
    → promoted_truth_links_of m (drop k ls) ≡ Link nowhere (junction_view l.op) (promoted_truth m l.right.now) (promoted_truth_links_of m (drop (k + 1) ls))
promoted_truth_links-from m ls k l within is = ap (promoted_truth_links_of m) (drop-at ls k l within is)

pub range_cuts-from : (cs : List RangeCut) (k : ℕ) (c : RangeCut) → k < length cs → c ≡ get_or cs k c
    → range_cuts_of (drop k cs) ≡ Post (square_post (items_one (range_item c.by.now))) (range_cuts_of (drop (k + 1) cs))
range_cuts-from cs k c within is = ap range_cuts_of (drop-at cs k c within is)

pub domain_posts-from : (ps : List DomainPost) (k : ℕ) (p : DomainPost) → k < length ps → p ≡ get_or ps k p
    → domain_posts_of (drop k ps) ≡ Post (domain_post p) (domain_posts_of (drop (k + 1) ps))
domain_posts-from ps k p within is = ap domain_posts_of (drop-at ps k p within is)

-- ---- WHAT HOLDS OF ALL
-- what holds of the first operand, and of whatever has one more, holds of all
pub int_links-hold : (Holds : ExprTree Variable → Type 0) → ((a b : ExprTree Variable) (op : IntOperator) → Holds (two a (int_place op) (int_infix op) b))
    → {m : _} (row : Row_of-IntLink m) (a : ExprTree Variable) → Holds a → Holds (grouped a (int_links row))
int_links-hold Holds step end_of-IntLink a h = h
int_links-hold Holds step (more_of-IntLink op p e row) a h = int_links-hold Holds step row (two a (int_place op) (int_infix op) (int_view e)) (step a (int_view e) op)

pub truth_links-hold : (Holds : ExprTree Variable → Type 0) → ((a b : ExprTree Variable) (op : Junction) → Holds (two a nowhere (junction_view op) b))
    → {m : _} (row : Row_of-TruthLink m) (a : ExprTree Variable) → Holds a → Holds (grouped a (truth_links row))
truth_links-hold Holds step end_of-TruthLink a h = h
truth_links-hold Holds step (more_of-TruthLink op p e row) a h = truth_links-hold Holds step row (two a nowhere (junction_view op) (truth_view e)) (step a (truth_view e) op)

pub promoted_int_links-hold : (m : Times) (Holds : ExprTree Variable → Type 0) → ((a b : ExprTree Variable) (op : IntOperator) → Holds (two a (int_place op) (int_infix op) b))
    → {n : _} (row : Row_of-PromotedIntLink n) (a : ExprTree Variable) → Holds a → Holds (grouped a (promoted_int_links m row))
promoted_int_links-hold m Holds step end_of-PromotedIntLink a h = h
promoted_int_links-hold m Holds step (more_of-PromotedIntLink op p e row) a h =
    promoted_int_links-hold m Holds step row (two a (int_place op) (int_infix op) (promoted_int m e)) (step a (promoted_int m e) op)

pub promoted_truth_links-hold : (m : Times) (Holds : ExprTree Variable → Type 0) → ((a b : ExprTree Variable) (op : Junction) → Holds (two a nowhere (junction_view op) b))
    → {n : _} (row : Row_of-PromotedTruthLink n) (a : ExprTree Variable) → Holds a → Holds (grouped a (promoted_truth_links m row))
promoted_truth_links-hold m Holds step end_of-PromotedTruthLink a h = h
promoted_truth_links-hold m Holds step (more_of-PromotedTruthLink op p e row) a h =
    promoted_truth_links-hold m Holds step row (two a nowhere (junction_view op) (promoted_truth m e)) (step a (promoted_truth m e) op)

-- what holds of the base, and stays so with a post more, holds of the base with all posts
pub range_cuts-hold : (Holds : ExprTree Variable → Type 0) → ((a : ExprTree Variable) (cut : RangeExpr) → Holds a → Holds (bracketed a (range_item cut)))
    → {m : _} (row : Row_of-RangeCut m) (a : ExprTree Variable) → Holds a → Holds (stacked_on a (range_cuts row))
range_cuts-hold Holds step end_of-RangeCut a h = h
range_cuts-hold Holds step (more_of-RangeCut p cut row) a h = range_cuts-hold Holds step row (bracketed a (range_item cut)) (step a cut h)

pub domain_posts-hold : (Holds : ExprTree Variable → Type 0) → ((a : ExprTree Variable) (p : DomainPost) → Holds a → Holds (Postfixed a (Post (domain_post p) NoPosts)))
    → {m : _} (row : Row_of-DomainPost m) (a : ExprTree Variable) → Holds a → Holds (stacked_on a (domain_posts row))
domain_posts-hold Holds step end_of-DomainPost a h = h
domain_posts-hold Holds step (more_of-DomainPost post row) a h = domain_posts-hold Holds step row (Postfixed a (Post (domain_post post) NoPosts)) (step a post h)

-- ---- ONE MORE
-- one operand more
pub so_far-next : (whole : ExprTree Variable) (at : Place) (op : Infix) (b : ExprTree Variable) (left rest : Links Variable) (Before After : ExprTree Variable → Type 0)
    → left ≡ Link at op b rest → ((a : ExprTree Variable) → Before a → After (two a at op b)) → IsSoFar whole left Before → IsSoFar whole rest After
so_far-next whole at op b left rest Before After is step so = record {
  tree = two so.tree at op b;
  same = ap (grouped so.tree) (sym is) ∙ so.same;
  holds = step so.tree so.holds;
}

-- one post more
pub posted-next : (whole : ExprTree Variable) (p : PostTree Variable) (left rest : Posts Variable) (Before After : ExprTree Variable → Type 0)
    → left ≡ Post p rest → ((a : ExprTree Variable) → Before a → After (Postfixed a (Post p NoPosts))) → IsPostedSoFar whole left Before → IsPostedSoFar whole rest After
posted-next whole p left rest Before After is step so = record {
  tree = Postfixed so.tree (Post p NoPosts);
  same = ap (stacked_on so.tree) (sym is) ∙ so.same;
  holds = step so.tree so.holds;
}
