-- The plain expression that one in memory stands for.
-- A name stands for its text; where a node lies is left out.
use Rattle.std.specs.Prelude.{ℕ, List, [], ◌∷◌}
use Rattle.dpl_tree.specs.declared.expression.Name.{Name as NameNode}
use Rattle.dpl_tree.specs.declared.expression.Expr.{Expr as ExprNode, Number as NumberNode, Truth as TruthNode, Named as NamedNode, Locales as LocalesNode, LocaleCount as LocaleCountNode, Here as HereNode, Grouped', Domain', Prefixed', Reduced', Chain', Postfixed', Row_of-Post, end_of-Post, more_of-Post}
use Rattle.dpl_tree.specs.declared.expression.Chain.{Chain as ChainNode, Chain' as chain_node, Row_of-Link, end_of-Link, more_of-Link}
use Rattle.dpl_tree.specs.declared.expression.Link.{Link as LinkNode}
use Rattle.dpl_tree.specs.declared.expression.Post.{Post as PostNode, Brackets', Rounds', Dotted as DottedNode}
use Rattle.dpl_tree.specs.declared.expression.Method.{Method as MethodNode, Plain, Dim as DimNode, Contains', Expand', CellRead as CellReadNode}
use Rattle.dpl_tree.specs.declared.expression.Contains.{Contains' as contains_node}
use Rattle.dpl_tree.specs.declared.expression.Item.{Item as ItemNode, One', Range'}
use Rattle.dpl_tree.specs.declared.expression.Stride.{Stride as StrideNode, Absent, By'}
use Rattle.dpl_tree.specs.declared.expression.Items.{Items as ItemsNode, Items', Row_of-NextItem, end_of-NextItem, more_of-NextItem}
use Rattle.dpl_tree.specs.declared.expression.NextItem.{NextItem as NextItemNode}
use Rattle.dpl_tree.specs.declared.expression.Exprs.{Exprs as ExprsNode, Exprs', Row_of-NextExpr, end_of-NextExpr, more_of-NextExpr}
use Rattle.dpl_tree.specs.declared.expression.NextExpr.{NextExpr as NextExprNode}
use Rattle.dpl_language.specs.Phrases.{natural}
use Rattle.dpl_language.specs.Tree.{Placed, AfterComma, ExprTree, Number, TruthWord, Named, LocalesWord, LocaleCount, HereWord, Grouped, DomainLiteral, Prefixed, Reduced, Chain, Postfixed, ItemTree, One, RangeItem, Stride, NoStride, By, Links, NoLinks, Link, Posts, NoPosts, Post, PostTree, Brackets, Rounds, Dotted, MethodTree, Plainly, Dim, Contains, Expand, CellRead, Items, FirstItem, MoreItems, NoItems, NextItem, Exprs, FirstExpr, MoreExprs, NoExprs, NextExpr}

-- trees as they are spelled: a name is its text
abbrev pub Spelled : (Type 0 → Type 0) → Type 0
Spelled tree = tree (List ℕ)

-- a name in the text is its text there
abbrev pub name_view : NameNode → Placed (List ℕ)
name_view x = record { at = x.at; name = x.text.now }

abbrev mutual
  pub expr_view : ExprNode → Spelled ExprTree
  expr_view (NumberNode at n) = Number at n
  expr_view (TruthNode at b) = TruthWord at b
  expr_view (NamedNode x) = Named (name_view x)
  expr_view (LocalesNode at) = LocalesWord at
  expr_view (LocaleCountNode at) = LocaleCount at
  expr_view (HereNode at) = HereWord at
  expr_view (Grouped' from p item upto) = Grouped from (item_view item) upto
  expr_view (Domain' from p items upto) = DomainLiteral from (items_view items) upto
  expr_view (Prefixed' at op p e) = Prefixed at op (expr_view e)
  expr_view (Reduced' p at op word q e) = Reduced at op word (expr_view e)
  expr_view (Chain' p chain) = chain_view chain
  expr_view (Postfixed' p q base r shape row) = Postfixed (expr_view base) (posts_view row)

  pub chain_view : ChainNode → Spelled ExprTree
  chain_view (chain_node p first q shape row) = Chain (expr_view first) (links_view row)

  pub links_view : {m : _} → Row_of-Link m → Spelled Links
  links_view end_of-Link = NoLinks
  links_view (more_of-Link at op p e row) = Link at op (expr_view e) (links_view row)

  pub posts_view : {m : _} → Row_of-Post m → Spelled Posts
  posts_view end_of-Post = NoPosts
  posts_view (more_of-Post post row) = Post (post_view post) (posts_view row)

  pub post_view : PostNode → Spelled PostTree
  post_view (Brackets' from p items upto) = Brackets from (items_view items) upto
  post_view (Rounds' from p exprs upto) = Rounds from (exprs_view exprs) upto
  post_view (DottedNode dot method) = Dotted dot (method_view method)

  pub method_view : MethodNode → Spelled MethodTree
  method_view (Plain at word) = Plainly at word
  method_view (DimNode d) = Dim d.now.at d.now.from d.now.number_at (natural d.now.number) d.now.upto
  method_view (Contains' p (contains_node at from exprs upto)) = Contains at from (exprs_view exprs) upto
  method_view (Expand' p at from q by upto) = Expand at from (expr_view by) upto
  method_view (CellReadNode at word from upto) = CellRead at word from upto

  pub item_view : ItemNode → Spelled ItemTree
  item_view (One' p e) = One (expr_view e)
  item_view (Range' p q low at dots r high by) = RangeItem (expr_view low) at dots (expr_view high) (stride_view by)

  pub stride_view : StrideNode → Spelled Stride
  stride_view Absent = NoStride
  stride_view (By' at p e) = By at (expr_view e)

  pub items_view : ItemsNode → Spelled Items
  items_view (Items' first p shape row) = FirstItem (item_view first) (more_items_view row)

  pub more_items_view : {m : _} → Row_of-NextItem m → Spelled MoreItems
  more_items_view end_of-NextItem = NoItems
  more_items_view (more_of-NextItem comma item row) = NextItem comma (item_view item) (more_items_view row)

  pub exprs_view : ExprsNode → Spelled Exprs
  exprs_view (Exprs' p first q shape row) = FirstExpr (expr_view first) (more_exprs_view row)

  pub more_exprs_view : {m : _} → Row_of-NextExpr m → Spelled MoreExprs
  more_exprs_view end_of-NextExpr = NoExprs
  more_exprs_view (more_of-NextExpr comma p e row) = NextExpr comma (expr_view e) (more_exprs_view row)

-- the same for lists of what stands behind commas
abbrev pub links_of : List LinkNode → Spelled Links
links_of [] = NoLinks
links_of (l ∷ ls) = Link l.at l.op (expr_view l.right.now) (links_of ls)

abbrev pub posts_of : List PostNode → Spelled Posts
posts_of [] = NoPosts
posts_of (p ∷ ps) = Post (post_view p) (posts_of ps)

abbrev pub more_items_of : List NextItemNode → Spelled MoreItems
more_items_of [] = NoItems
more_items_of (n ∷ ns) = NextItem n.comma (item_view n.item) (more_items_of ns)

abbrev pub more_exprs_of : List NextExprNode → Spelled MoreExprs
more_exprs_of [] = NoExprs
more_exprs_of (n ∷ ns) = NextExpr n.comma (expr_view n.expr.now) (more_exprs_of ns)

abbrev pub next_expr_view : NextExprNode → AfterComma (Spelled ExprTree)
next_expr_view n = record { comma = n.comma; part = expr_view n.expr.now }
