-- What holds where a part of a text is simple by its form, its names are found and its places are near.
-- Contracts say so of what a node stands for.
use Rattle.dpl_language.specs.Tree.{ExprTree, ItemTree, Links, Posts, PostTree, MethodTree, Items, MoreItems, Exprs, MoreExprs}
use Rattle.dpl_language.specs.Names.{Text}
use Rattle.dpl_rules.specs.Sights.{Scopes}
use Rattle.dpl_nodes.specs.Spots.{IsNear}
use Rattle.dpl_spelling.specs.Spelt.{ExprSpelt, ItemSpelt, LinksSpelt, PostsSpelt, PostSpelt, MethodSpelt, ItemsSpelt, MoreItemsSpelt, ExprsSpelt, MoreExprsSpelt}
use Rattle.dpl_typed.specs.Leaves.{IsFound}
use Rattle.dpl_typed.specs.Simple.{IsSimple, IsSimpleItem, AreSimpleLinks, AreSimplePosts, IsSimplePost, IsSimpleMethod, AreSimpleItems, AreSimpleMoreItems, AreSimpleExprs, AreSimpleMoreExprs}

abbrev pub WhereSimple : Scopes → ExprTree Text → Type 0 → Type 0
WhereSimple ss e Q = IsSimple (IsFound ss) e → ExprSpelt IsNear ⊥ e → Q

abbrev pub WhereSimpleItem : Scopes → ItemTree Text → Type 0 → Type 0
WhereSimpleItem ss i Q = IsSimpleItem (IsFound ss) i → ItemSpelt IsNear ⊥ i → Q

abbrev pub WhereSimpleLinks : Scopes → Links Text → Type 0 → Type 0
WhereSimpleLinks ss ls Q = AreSimpleLinks (IsFound ss) ls → LinksSpelt IsNear ⊥ ls → Q

abbrev pub WhereSimplePosts : Scopes → Posts Text → Type 0 → Type 0
WhereSimplePosts ss ps Q = AreSimplePosts (IsFound ss) ps → PostsSpelt IsNear ⊥ ps → Q

abbrev pub WhereSimplePost : Scopes → PostTree Text → Type 0 → Type 0
WhereSimplePost ss p Q = IsSimplePost (IsFound ss) p → PostSpelt IsNear ⊥ p → Q

abbrev pub WhereSimpleMethod : Scopes → MethodTree Text → Type 0 → Type 0
WhereSimpleMethod ss m Q = IsSimpleMethod (IsFound ss) m → MethodSpelt IsNear ⊥ m → Q

abbrev pub WhereSimpleItems : Scopes → Items Text → Type 0 → Type 0
WhereSimpleItems ss is Q = AreSimpleItems (IsFound ss) is → ItemsSpelt IsNear ⊥ is → Q

abbrev pub WhereSimpleMoreItems : Scopes → MoreItems Text → Type 0 → Type 0
WhereSimpleMoreItems ss is Q = AreSimpleMoreItems (IsFound ss) is → MoreItemsSpelt IsNear ⊥ is → Q

abbrev pub WhereSimpleExprs : Scopes → Exprs Text → Type 0 → Type 0
WhereSimpleExprs ss es Q = AreSimpleExprs (IsFound ss) es → ExprsSpelt IsNear ⊥ es → Q

abbrev pub WhereSimpleMoreExprs : Scopes → MoreExprs Text → Type 0 → Type 0
WhereSimpleMoreExprs ss es Q = AreSimpleMoreExprs (IsFound ss) es → MoreExprsSpelt IsNear ⊥ es → Q
