-- What is made of a base and what stands behind it: each post behind what is before it, and a base as a fault tells it.
-- A base is told by its name where it is one, and else by nothing.
use Rattle.std.specs.Prelude.{◌≡◌, ◌&&◌, None}
use Rattle.dpl_language.specs.Phrases.{Base, BaseName, BaseLocales, OtherBase, bare_name}
use Rattle.dpl_language.specs.Tree.{ExprTree, Named, Postfixed, Posts, NoPosts, Post, PostTree, MethodTree}
use Rattle.dpl_language.specs.Names.{Text}
use Rattle.dpl_agreement.specs.Renamed.{renamed_posts, renamed_method}
use Rattle.dpl_rules.specs.Sights.{Scopes}
use Rattle.dpl_lowered.specs.Known.{may_be_array}
use Rattle.dpl_lowered.specs.Shapes.{placed, stacked_on}
use Rattle.dpl_lowered.specs.LoweredExpressions.{Times, Once, each_turn, rebased, told_base, lowered_method}
use Rattle.dpl_memory.specs.Memory.{Variable, known_variable}
use Rattle.dpl_typed.specs.Leaves.{leaf_in}
use Rattle.dpl_typed.specs.Lowered.{post_leaves, posts_leaves}

abbrev pub method_leaves : Scopes → MethodTree Text → MethodTree Variable
method_leaves scopes m = lowered_method known_variable (renamed_method (leaf_in scopes) m)

-- what a fault would tell of a base: a name, which the base is in brackets or without; nothing of a base that is no name
abbrev pub StandsAt : (Times → ExprTree Variable) → Base Variable → Type 0
StandsAt f (BaseName x) = (m : Times) → f m ≡ Named (placed (each_turn m && may_be_array (known_variable x.name)) x)
StandsAt f (BaseLocales at) = ⊥
StandsAt f OtherBase = bare_name (f Once) ≡ None

-- a base before posts, as a fault tells it
abbrev pub before : Scopes → Base Variable → Posts Text → ExprTree Variable → ExprTree Variable
before scopes b ps e = rebased (told_base known_variable (renamed_posts (leaf_in scopes) ps) b) e

-- a base with one post behind it, and with all
abbrev pub behind : Scopes → Base Variable → PostTree Text → ExprTree Variable → ExprTree Variable
behind scopes b p e = Postfixed (before scopes b (Post p NoPosts) e) (Post (post_leaves scopes b p) NoPosts)

abbrev pub built : Scopes → Base Variable → Posts Text → ExprTree Variable → ExprTree Variable
built scopes b ps e = stacked_on (before scopes b ps e) (posts_leaves scopes b ps)
