-- What is true of each tree that a text spells, of the parts that the type of trees leaves open.
-- Something stands behind each base, and a declaration has a type, an initial value or both.
use Rattle.std.specs.Prelude.{Option, Some, None}
use Rattle.dpl_language.specs.Tree.{Posts, NoPosts, Post}

abbrev pub HasPosts : {N : Type 0} → Posts N → Type 0
HasPosts NoPosts = ⊥
HasPosts (Post p rest) = Unit {0}

abbrev pub SaysType : {A B : Type 0} → Option A → Option B → Type 0
SaysType None None = ⊥
SaysType None (Some i) = Unit {0}
SaysType (Some t) initial = Unit {0}
