use Rattle.std.proofs.Common.{◌≡◌, drop}
use Rattle.dpl_tree.specs.View.{posts_of}
use Rattle.dpl_rules.specs.Places.{last_of_posts as last_of_posts_tree}
use Rattle.dpl_types.proofs.place.last_of_posts.Given as goal

-- what is left ends where all end
abbrev pub invariant-loop-post : goal.invariant-loop-post
invariant-loop-post l = last_of_posts_tree l.last (posts_of (drop l.post-index l.posts)) ≡ last_of_posts_tree l.initial.last (posts_of l.posts)
