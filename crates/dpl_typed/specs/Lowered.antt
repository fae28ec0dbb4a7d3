-- Trees as they are run: over leaves, and lowered.
-- Each name has become the variable that its declaration is.
use Rattle.dpl_language.specs.Phrases.{Base}
use Rattle.dpl_language.specs.Tree.{ExprTree, ItemTree, Stride, Links, Posts, PostTree, Items, MoreItems, Exprs, MoreExprs}
use Rattle.dpl_language.specs.Names.{Text}
use Rattle.dpl_agreement.specs.Renamed.{renamed_expr, renamed_item, renamed_stride, renamed_links, renamed_posts, renamed_post, renamed_items, renamed_more_items, renamed_exprs, renamed_more_exprs}
use Rattle.dpl_rules.specs.Sights.{Scopes}
use Rattle.dpl_lowered.specs.LoweredExpressions.{Times, lowered_expr, lowered_item, lowered_stride, lowered_links, lowered_posts, lowered_post, lowered_items, lowered_more_items, lowered_exprs, lowered_more_exprs}
use Rattle.dpl_memory.specs.Memory.{Variable, known_variable}
use Rattle.dpl_typed.specs.Leaves.{leaf_in}

abbrev pub leaves_of : Scopes → Times → ExprTree Text → ExprTree Variable
leaves_of scopes m e = lowered_expr known_variable m (renamed_expr (leaf_in scopes) e)

abbrev pub item_leaves : Scopes → Times → ItemTree Text → ItemTree Variable
item_leaves scopes m i = lowered_item known_variable m (renamed_item (leaf_in scopes) i)

abbrev pub stride_leaves : Scopes → Stride Text → Stride Variable
stride_leaves scopes by = lowered_stride known_variable (renamed_stride (leaf_in scopes) by)

abbrev pub links_leaves : Scopes → Times → Links Text → Links Variable
links_leaves scopes m ls = lowered_links known_variable m (renamed_links (leaf_in scopes) ls)

abbrev pub items_leaves : Scopes → Items Text → Items Variable
items_leaves scopes is = lowered_items known_variable (renamed_items (leaf_in scopes) is)

abbrev pub more_items_leaves : Scopes → MoreItems Text → MoreItems Variable
more_items_leaves scopes is = lowered_more_items known_variable (renamed_more_items (leaf_in scopes) is)

abbrev pub exprs_leaves : Scopes → Exprs Text → Exprs Variable
exprs_leaves scopes es = lowered_exprs known_variable (renamed_exprs (leaf_in scopes) es)

abbrev pub more_exprs_leaves : Scopes → MoreExprs Text → MoreExprs Variable
more_exprs_leaves scopes es = lowered_more_exprs known_variable (renamed_more_exprs (leaf_in scopes) es)

-- what stands behind a base
abbrev pub post_leaves : Scopes → Base Variable → PostTree Text → PostTree Variable
post_leaves scopes b p = lowered_post known_variable b (renamed_post (leaf_in scopes) p)

abbrev pub posts_leaves : Scopes → Base Variable → Posts Text → Posts Variable
posts_leaves scopes b ps = lowered_posts known_variable b (renamed_posts (leaf_in scopes) ps)
