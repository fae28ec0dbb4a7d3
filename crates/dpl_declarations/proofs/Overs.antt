-- What stands between an array's brackets: a bare name stands alone, and the domain that was made of it has its ranges.
-- What isn't bare in the text is hidden where the lowered tree has a bare name.
use Rattle.std.proofs.Common.{◌≡◌, ◌<◌, ◌≤◌, Bool, true, false, Bor, List, [], ◌∷◌, length, Option, Some, None, is_some, refl, sym, ap, ◌∙◌, arith}
use Rattle.std.specs.Prelude.{option_map}
use Rattle.dpl_syntax.specs.declared.place.Place.{Place}
use Rattle.dpl_syntax.proofs.Walks.{drop-end}
use Rattle.dpl_language.specs.Tree.{ExprTree, DomainLiteral, Postfixed, ItemTree, One, Items, FirstItem, NoItems, NextItem, Posts, NoPosts, Post}
use Rattle.dpl_language.specs.Names.{Text}
use Rattle.dpl_language.specs.Phrases.{bare_name, name_of, item_over, declared_over}
use Rattle.dpl_agreement.specs.Renamed.{renamed_item, renamed_items}
use Rattle.dpl_agreement.proofs.RenamedParts.{declared_over-renamed}
use Rattle.dpl_agreement.proofs.RenamedTwice.{renamed_items-twice}
use Rattle.dpl_rules.specs.Sights.{Scopes}
use Rattle.dpl_lowered.specs.Shapes.{nowhere, item_in_brackets, hidden_item, stacked_on}
use Rattle.dpl_lowered.specs.LoweredExpressions.{Once, lowered_item}
use Rattle.dpl_lowered.specs.LoweredStatements.{lowered_over}
use Rattle.dpl_memory.specs.Memory.{Variable, known_variable}
use Rattle.dpl_memory.specs.Resolved.{variable_of}
use Rattle.dpl_nodes.specs.declared.tree.RangeCut.{RangeCut}
use Rattle.dpl_nodes.specs.declared.tree.RangeExpr.{RangeExpr, Slice}
use Rattle.dpl_nodes.specs.declared.tree.DomainPost.{DomainPost}
use Rattle.dpl_nodes.specs.declared.tree.DomainExpr.{DomainExpr, Posts as PostsNode}
use Rattle.dpl_nodes.specs.declared.tree.DomainExpr.TheBlock.{hidden-the_row-RangeCut-3}
use Rattle.dpl_nodes.specs.Typed.{items_one, square_post, range_view, range_item, range_cuts, domain_view, domain_post, domain_posts_of}
use Rattle.dpl_nodes.proofs.Chains.{domain_view-posts}
use Rattle.dpl_tree.specs.declared.expression.Items.{Items as ItemsNode, out-Items}
use Rattle.dpl_tree.specs.declared.expression.NextItem.{NextItem as NextItemNode}
use Rattle.dpl_tree.specs.declared.expression.Item.{Item as ItemNode}
use Rattle.dpl_tree.specs.View.{item_view, items_view, more_items_of}
use Rattle.dpl_tree.proofs.Fields.{items_view_fields}
use Rattle.dpl_typed.specs.Leaves.{leaf_in}
use Rattle.dpl_typed.specs.Lowered.{items_leaves}
use Rattle.dpl_bound.specs.Sights.{bound_in}
use Rattle.dpl_declarations.specs.Made.{between}

-- ---- bare names
alone : (i : ItemNode) (ns : List NextItemNode) → length ns < 1 → declared_over (FirstItem (item_view i) (more_items_of ns)) ≡ item_over (item_view i)
alone i [] h = refl
alone i (n ∷ ns) h = absurd (omega (arith, h))

among : (i : ItemNode) (ns : List NextItemNode) → 1 ≤ length ns → declared_over (FirstItem (item_view i) (more_items_of ns)) ≡ None
among i [] h = absurd (omega (arith, h))
among i (n ∷ ns) h = refl

pub declared_over_alone : (v : ItemsNode) → length (out-Items v).others.now < 1 → declared_over (items_view v) ≡ item_over (item_view (out-Items v).first)
declared_over_alone v h = ap declared_over (items_view_fields v) ∙ alone (out-Items v).first (out-Items v).others.now h

pub declared_over_among : (v : ItemsNode) → 1 ≤ length (out-Items v).others.now → declared_over (items_view v) ≡ None
declared_over_among v h = ap declared_over (items_view_fields v) ∙ among (out-Items v).first (out-Items v).others.now h

-- ---- what is hidden
pub is_some-mapped : {A B : Type 0} (f : A → B) (o : Option A) → is_some (option_map f o) ≡ is_some o
is_some-mapped f None = refl
is_some-mapped f (Some x) = refl

hidden-between : {A : Type 0} (o : Option A) (i : ItemTree Variable) → FirstItem (hidden_item o (item_over i) i) NoItems ≡ between (is_some o) (FirstItem i NoItems)
hidden-between None i = refl
hidden-between (Some x) i = refl

pub over-leaves : (ss : Scopes) (is : Items Text) → lowered_over known_variable (renamed_items (leaf_in ss) is) ≡ between (is_some (declared_over is)) (items_leaves ss is)
over-leaves ss (FirstItem i NoItems) =
    let leaves = renamed_item (leaf_in ss) i in
    let lowered = lowered_item known_variable Once leaves in
    hidden-between (item_over leaves) lowered
    ∙ ap (λ b. between b (FirstItem lowered NoItems)) (ap is_some (declared_over-renamed (leaf_in ss) (FirstItem i NoItems)) ∙ is_some-mapped (leaf_in ss) (item_over i))
over-leaves ss (FirstItem i (NextItem comma j more)) = refl

-- what stands before posts and the posts themselves are no bare name together, and no literal
posted-unnamed : (a : ExprTree Variable) (qs ps : Posts Variable) → bare_name (stacked_on (Postfixed a qs) ps) ≡ None
posted-unnamed a qs NoPosts = refl
posted-unnamed a qs (Post p rest) = posted-unnamed (Postfixed a qs) (Post p NoPosts) rest

abbrev is_posted : ExprTree Variable → Bool
is_posted (Postfixed e ps) = true
is_posted _ = false

posted-posted : (a : ExprTree Variable) (qs ps : Posts Variable) → is_posted (stacked_on (Postfixed a qs) ps) ≡ true
posted-posted a qs NoPosts = refl
posted-posted a qs (Post p rest) = posted-posted (Postfixed a qs) (Post p NoPosts) rest

unnamed-between : (e : ExprTree Variable) → bare_name e ≡ None → items_one (One e) ≡ between false (items_one (One e))
unnamed-between e none = sym (ap (λ x. FirstItem (item_in_brackets (name_of x) (One e)) NoItems) none)

pub slice-between : (r cut : Bor RangeExpr) (cuts : Bor (List RangeCut)) → items_one (range_item (Slice r cut cuts)) ≡ between false (items_one (range_item (Slice r cut cuts)))
slice-between r cut cuts =
    let e = range_view (Slice r cut cuts) in
    unnamed-between e (posted-unnamed (range_view r.now) (Post (square_post (items_one (range_item cut.now))) NoPosts) (range_cuts (hidden-the_row-RangeCut-3 cuts.now)))

stacked-unnamed : (a : ExprTree Variable) (ps : List DomainPost) → 1 ≤ length ps → bare_name (stacked_on a (domain_posts_of ps)) ≡ None
stacked-unnamed a [] h = absurd (omega (arith, h))
stacked-unnamed a (p ∷ ps) h = posted-unnamed a (Post (domain_post p) NoPosts) (domain_posts_of ps)

stacked-posted : (a : ExprTree Variable) (ps : List DomainPost) → 1 ≤ length ps → is_posted (stacked_on a (domain_posts_of ps)) ≡ true
stacked-posted a [] h = absurd (omega (arith, h))
stacked-posted a (p ∷ ps) h = posted-posted a (Post (domain_post p) NoPosts) (domain_posts_of ps)

pub posts-between : (d : Bor DomainExpr) (ps : Bor (List DomainPost)) → 1 ≤ length ps.now
    → items_one (One (domain_view (PostsNode d ps))) ≡ between false (items_one (One (domain_view (PostsNode d ps))))
posts-between d ps some = unnamed-between (domain_view (PostsNode d ps)) (ap bare_name (domain_view-posts d ps) ∙ stacked-unnamed (domain_view d.now) ps.now some)

pub posts-unliteral : (d : Bor DomainExpr) (ps : Bor (List DomainPost)) (from : Place) (is : Items Variable) → 1 ≤ length ps.now
    → domain_view (PostsNode d ps) ≡ DomainLiteral from is nowhere → ⊥
posts-unliteral d ps from is some h =
    let f : false ≡ true = sym (ap is_posted h) ∙ ap is_posted (domain_view-posts d ps) ∙ stacked-posted (domain_view d.now) ps.now some in cc

-- with no posts there is what they would stand behind
pub posts-none : (d : Bor DomainExpr) (ps : Bor (List DomainPost)) → length ps.now < 1 → domain_view (PostsNode d ps) ≡ domain_view d.now
posts-none d ps none = domain_view-posts d ps ∙ ap (λ xs. stacked_on (domain_view d.now) (domain_posts_of xs)) (drop-end ps.now 0 (omega (arith, none)))

-- names that are resolved, and over slots
pub over-bound : (ss : Scopes) (is : Items Text) → lowered_over known_variable (renamed_items variable_of (renamed_items (bound_in ss) is)) ≡ between (is_some (declared_over is)) (items_leaves ss is)
over-bound ss is = ap (lowered_over known_variable) (renamed_items-twice variable_of (bound_in ss) is) ∙ over-leaves ss is
