-- An expression's names are resolved where all that is in sight have kinds.
-- None of them is read as a cell.
use Rattle.std.proofs.Common.{◌≡◌, Option, Some, None, refl, ap, ◌∙◌}
use Rattle.dpl_language.specs.Tree.{Placed, ExprTree, Named, Grouped, DomainLiteral, Prefixed, Reduced, Chain, Postfixed, ItemTree, One, RangeItem, Stride, NoStride, By, Links, NoLinks, Link, Posts, NoPosts, Post, PostTree, Brackets, Rounds, Dotted, MethodTree, Plainly, Dim, Contains, Expand, CellRead, Items, FirstItem, MoreItems, NoItems, NextItem, Exprs, FirstExpr, MoreExprs, NoExprs, NextExpr}
use Rattle.dpl_language.specs.Names.{Text}
use Rattle.dpl_language.specs.Phrases.{bare_name, method_read, post_read, posts_read, read_by, cell_read, item_read}
use Rattle.dpl_agreement.specs.Renamed.{renamed_expr, renamed_item, renamed_stride, renamed_links, renamed_posts, renamed_post, renamed_method, renamed_items, renamed_more_items, renamed_exprs, renamed_more_exprs}
use Rattle.dpl_rules.specs.Sights.{Scopes}
use Rattle.dpl_memory.specs.Resolved.{Bound, innermost}
use Rattle.dpl_memory.proofs.Fitting.{NamesAre, ItemNamesAre, StrideNamesAre, LinksNamesAre, PostsNamesAre, PostNamesAre, MethodNamesAre, ItemsNamesAre, MoreItemsNamesAre, ExprsNamesAre, MoreExprsNamesAre}
use Rattle.dpl_typed.specs.Leaves.{IsFound}
use Rattle.dpl_typed.specs.Simple.{IsSimple, IsSimpleItem, IsSimpleStride, AreSimpleLinks, AreSimplePosts, IsSimplePost, IsSimpleMethod, AreSimpleItems, AreSimpleMoreItems, AreSimpleExprs, AreSimpleMoreExprs}
use Rattle.dpl_bound.specs.Sights.{bound_in, sight_of, AreKnownScopes}
use Rattle.dpl_runnable.proofs.Sights.{innermost-found}

-- ---- names
module _ (scopes : Scopes) (plain : AreKnownScopes scopes) where
  -- a name has the kind, the slot and the shape of its innermost declaration
  abbrev IsIn : Bound → Type 0
  IsIn b = innermost b.text (sight_of scopes) ≡ Some (b.variable.kind, b.variable.slot, b.shape)

  abbrev Found : Text → Type 0
  Found x = IsFound scopes x

  mutual
    expr_names : (e : ExprTree Text) → IsSimple Found e → NamesAre IsIn (renamed_expr (bound_in scopes) e)
    expr_names (Named x) h = innermost-found x.name scopes plain h
    expr_names (Grouped from item upto) h = item_names item h
    expr_names (DomainLiteral from items upto) h = items_names items h
    expr_names (Prefixed at op e) h = expr_names e h
    expr_names (Reduced at op word e) h = expr_names e h
    expr_names (Chain e rest) h = (expr_names e h.0, links_names rest h.1)
    expr_names (Postfixed e posts) h = (expr_names e h.0, posts_names posts h.1)
    expr_names _ h = tt

    item_names : (i : ItemTree Text) → IsSimpleItem Found i → ItemNamesAre IsIn (renamed_item (bound_in scopes) i)
    item_names (One e) h = expr_names e h
    item_names (RangeItem low at dots high by) h = (expr_names low h.0, expr_names high h.1, stride_names by h.2)

    stride_names : (by : Stride Text) → IsSimpleStride Found by → StrideNamesAre IsIn (renamed_stride (bound_in scopes) by)
    stride_names NoStride h = tt
    stride_names (By at e) h = expr_names e h

    links_names : (ls : Links Text) → AreSimpleLinks Found ls → LinksNamesAre IsIn (renamed_links (bound_in scopes) ls)
    links_names NoLinks h = tt
    links_names (Link at op e rest) h = (expr_names e h.0, links_names rest h.1)

    posts_names : (ps : Posts Text) → AreSimplePosts Found ps → PostsNamesAre IsIn (renamed_posts (bound_in scopes) ps)
    posts_names NoPosts h = tt
    posts_names (Post p rest) h = (post_names p h.0, posts_names rest h.1)

    post_names : (p : PostTree Text) → IsSimplePost Found p → PostNamesAre IsIn (renamed_post (bound_in scopes) p)
    post_names (Brackets from items upto) h = items_names items h
    post_names (Rounds from es upto) h = exprs_names es h
    post_names (Dotted dot m) h = method_names m h

    method_names : (m : MethodTree Text) → IsSimpleMethod Found m → MethodNamesAre IsIn (renamed_method (bound_in scopes) m)
    method_names (Plainly at w) h = tt
    method_names (Dim at from rank_at d upto) h = tt
    method_names (Contains at from es upto) h = exprs_names es h
    method_names (Expand at from e upto) h = expr_names e h
    method_names (CellRead at w from upto) h = tt

    items_names : (is : Items Text) → AreSimpleItems Found is → ItemsNamesAre IsIn (renamed_items (bound_in scopes) is)
    items_names (FirstItem i more) h = (item_names i h.0, more_items_names more h.1)

    more_items_names : (more : MoreItems Text) → AreSimpleMoreItems Found more → MoreItemsNamesAre IsIn (renamed_more_items (bound_in scopes) more)
    more_items_names NoItems h = tt
    more_items_names (NextItem comma i more) h = (item_names i h.0, more_items_names more h.1)

    exprs_names : (es : Exprs Text) → AreSimpleExprs Found es → ExprsNamesAre IsIn (renamed_exprs (bound_in scopes) es)
    exprs_names (FirstExpr e more) h = (expr_names e h.0, more_exprs_names more h.1)

    more_exprs_names : (more : MoreExprs Text) → AreSimpleMoreExprs Found more → MoreExprsNamesAre IsIn (renamed_more_exprs (bound_in scopes) more)
    more_exprs_names NoExprs h = tt
    more_exprs_names (NextExpr comma e more) h = (expr_names e h.0, more_exprs_names more h.1)

pub expr_names-simple : (scopes : Scopes) (e : ExprTree Text) → AreKnownScopes scopes → IsSimple (IsFound scopes) e → NamesAre (λ b. innermost b.text (sight_of scopes) ≡ Some (b.variable.kind, b.variable.slot, b.shape)) (renamed_expr (bound_in scopes) e)
expr_names-simple scopes e plain h = expr_names scopes plain e h

pub names-simple : (scopes : Scopes) (i : ItemTree Text) → AreKnownScopes scopes → IsSimpleItem (IsFound scopes) i → ItemNamesAre (λ b. innermost b.text (sight_of scopes) ≡ Some (b.variable.kind, b.variable.slot, b.shape)) (renamed_item (bound_in scopes) i)
names-simple scopes i plain h = item_names scopes plain i h

-- ---- cell reads
read_by-none : (x : Option (Placed Text)) → read_by x None ≡ None
read_by-none None = refl
read_by-none (Some x) = refl

module _ (P : Text → Type 0) where
  method_read-simple : (m : MethodTree Text) → IsSimpleMethod P m → method_read m ≡ None
  method_read-simple (CellRead at w from upto) h = absurd h
  method_read-simple _ h = refl

  post_read-simple : (p : PostTree Text) → IsSimplePost P p → post_read p ≡ None
  post_read-simple (Brackets from items upto) h = refl
  post_read-simple (Rounds from es upto) h = refl
  post_read-simple (Dotted dot m) h = method_read-simple m h

  posts_read-simple : (ps : Posts Text) → AreSimplePosts P ps → posts_read ps ≡ None
  posts_read-simple NoPosts h = refl
  posts_read-simple (Post p NoPosts) h = post_read-simple p h.0
  posts_read-simple (Post p (Post q rest)) h = refl

  cell_read-simple : (e : ExprTree Text) → IsSimple P e → cell_read e ≡ None
  cell_read-simple (Postfixed e posts) h = ap (read_by (bare_name e)) (posts_read-simple posts h.1) ∙ read_by-none (bare_name e)
  cell_read-simple _ h = refl

pub unread-simple : (P : Text → Type 0) (i : ItemTree Text) → IsSimpleItem P i → item_read i ≡ None
unread-simple P (One e) h = cell_read-simple P e h
unread-simple P (RangeItem low at dots high by) h = refl
