-- What stands behind a base: what a fault tells of the base, each post behind what is before it, and one post more.
-- The lemma on a post is stated of the posts so far, by what is left of them.
use Rattle.std.proofs.Common.{◌≡◌, true, false, Option, None, refl, sym, ap, ◌∙◌}
use Rattle.std.specs.Prelude.{if◌then◌else◌}
use Rattle.dpl_language.specs.Tree.{ExprTree, Named, LocalesWord, LocaleCount, HereWord, Grouped, Chain, Postfixed, ItemTree, One, RangeItem, Links, NoLinks, Link, Posts, NoPosts, Post, PostTree, Brackets, Rounds, Dotted, MethodTree, CellRead}
use Rattle.dpl_language.specs.Names.{Text}
use Rattle.dpl_language.specs.Phrases.{Base, BaseName, BaseLocales, OtherBase, base_of, item_base, bare_name, method_read, post_read, posts_read}
use Rattle.dpl_language.specs.Spelled.{HasPosts}
use Rattle.dpl_agreement.specs.Renamed.{renamed_expr, renamed_item, renamed_posts, renamed_post, renamed_method}
use Rattle.dpl_rules.specs.Sights.{Scopes}
use Rattle.dpl_lowered.specs.Shapes.{as_expr, two, grouped, all_pass_on, nested, stacked, stacked_on}
use Rattle.dpl_lowered.specs.LoweredExpressions.{Times, Once, EachTurn, rebased, read_base, told_base, based}
use Rattle.dpl_lowered.proofs.Formed.{as_expr-as_item, lowered-formed}
use Rattle.dpl_memory.specs.Memory.{Variable, known_variable}
use Rattle.dpl_nodes.specs.Spots.{IsNear}
use Rattle.dpl_spelling.specs.Spelt.{PostSpelt, PostsSpelt}
use Rattle.dpl_typed.specs.declared.typed.Typed.{Typed}
use Rattle.dpl_typed.specs.Leaves.{leaf_in, IsFound}
use Rattle.dpl_typed.specs.Simple.{IsSimple, IsSimpleItem, AreSimplePosts, IsSimplePost, IsSimpleMethod}
use Rattle.dpl_typed.specs.Lowered.{leaves_of, item_leaves, links_leaves, post_leaves, posts_leaves}
use Rattle.dpl_typed.specs.Stands.{StandsFor}
use Rattle.dpl_typed.proofs.Standing.{stands-same}
use Rattle.dpl_elaborator.specs.Built.{StandsAt, behind, built}
use Rattle.dpl_elaborator.specs.SoFar.{IsSteady, ArePostsSoFar}

-- ---- no cell reads
module _ (P : Text → Type 0) (f : Text → Variable) where
  method_read-renamed : (m : MethodTree Text) → IsSimpleMethod P m → method_read (renamed_method f m) ≡ None
  method_read-renamed (CellRead at w from upto) h = absurd h
  method_read-renamed _ h = refl

  post_read-renamed : (p : PostTree Text) → IsSimplePost P p → post_read (renamed_post f p) ≡ None
  post_read-renamed (Brackets from items upto) h = refl
  post_read-renamed (Rounds from es upto) h = refl
  post_read-renamed (Dotted dot m) h = method_read-renamed m h

  posts_read-renamed : (ps : Posts Text) → AreSimplePosts P ps → posts_read (renamed_posts f ps) ≡ None
  posts_read-renamed NoPosts h = refl
  posts_read-renamed (Post p NoPosts) h = post_read-renamed p h.0
  posts_read-renamed (Post p (Post q rest)) h = refl

-- ---- trees that are no names
stacked_on-unnamed : (x : ExprTree Variable) (ps : Posts Variable) → bare_name x ≡ None → bare_name (stacked_on x ps) ≡ None
stacked_on-unnamed x NoPosts h = h
stacked_on-unnamed x (Post p rest) h = stacked_on-unnamed (Postfixed x (Post p NoPosts)) rest refl

stacked-unnamed : (x : ExprTree Variable) (ps : Posts Variable) → bare_name (stacked x ps) ≡ None
stacked-unnamed x NoPosts = refl
stacked-unnamed x (Post p rest) = stacked_on-unnamed (Postfixed x (Post p NoPosts)) rest refl

grouped-unnamed : (x : ExprTree Variable) (ls : Links Variable) → bare_name x ≡ None → bare_name (grouped x ls) ≡ None
grouped-unnamed x NoLinks h = h
grouped-unnamed x (Link at op e rest) h = grouped-unnamed (two x at op e) rest refl

nested-unnamed : (x : ExprTree Variable) (ls : Links Variable) → bare_name (nested x ls) ≡ None
nested-unnamed x NoLinks = refl
nested-unnamed x (Link at op e rest) =
    elim (all_pass_on op rest) as (λ b. bare_name (if b then grouped x (Link at op e rest) else Chain x (Link at op e rest)) ≡ None)
    [ true ↦ grouped-unnamed (two x at op e) rest refl | false ↦ refl ]

-- ---- how a base stands
at-same : (f g : Times → ExprTree Variable) (b : Base Variable) → ((m : Times) → f m ≡ g m) → StandsAt f b → StandsAt g b
at-same f g (BaseName x) e h = λ m. sym (e m) ∙ h m
at-same f g (BaseLocales at) e h = h
at-same f g OtherBase e h = ap bare_name (sym (e Once)) ∙ h

module _ (scopes : Scopes) (P : Text → Type 0) where
  mutual
    pub stands-at : (e : ExprTree Text) → IsSimple P e → StandsAt (λ m. leaves_of scopes m e) (base_of (renamed_expr (leaf_in scopes) e))
    stands-at (Named x) h = λ m. refl
    stands-at (LocalesWord at) h = absurd h
    stands-at (LocaleCount at) h = absurd h
    stands-at (HereWord at) h = absurd h
    stands-at (Grouped from item upto) h = item-stands-at item h
    stands-at (Chain e rest) h = nested-unnamed (leaves_of scopes Once e) (links_leaves scopes Once rest)
    stands-at (Postfixed e posts) h =
        stacked-unnamed (based known_variable (renamed_posts (leaf_in scopes) posts) (renamed_expr (leaf_in scopes) e) (leaves_of scopes Once e))
        (posts_leaves scopes (base_of (renamed_expr (leaf_in scopes) e)) posts)
    stands-at _ h = refl

    item-stands-at : (i : ItemTree Text) → IsSimpleItem P i → StandsAt (λ m. as_expr (item_leaves scopes m i)) (item_base (renamed_item (leaf_in scopes) i))
    item-stands-at (One e) h =
        at-same (λ m. leaves_of scopes m e) (λ m. as_expr (item_leaves scopes m (One e))) (base_of (renamed_expr (leaf_in scopes) e))
        (λ m. sym (as_expr-as_item (leaves_of scopes m e) (lowered-formed known_variable m (renamed_expr (leaf_in scopes) e)))) (stands-at e h)
    item-stands-at (RangeItem low at dots high by) h = refl

-- a base as a fault tells it: before one post as before it and others, and nothing where it is no name
told_base-first : (p : PostTree Variable) (rest : Posts Variable) (b : Base Variable) → told_base known_variable (Post p rest) b ≡ told_base known_variable (Post p NoPosts) b
told_base-first (Brackets from items upto) rest (BaseName x) = refl
told_base-first (Brackets from items upto) rest (BaseLocales at) = refl
told_base-first (Brackets from items upto) rest OtherBase = refl
told_base-first (Rounds from es upto) rest (BaseName x) = refl
told_base-first (Rounds from es upto) rest (BaseLocales at) = refl
told_base-first (Rounds from es upto) rest OtherBase = refl
told_base-first (Dotted dot m) rest b = refl

told_base-other : (ps : Posts Variable) → told_base known_variable ps OtherBase ≡ OtherBase
told_base-other NoPosts = refl
told_base-other (Post (Brackets from items upto) rest) = refl
told_base-other (Post (Rounds from es upto) rest) = refl
told_base-other (Post (Dotted dot m) rest) = refl

-- ---- one post more
module _ (scopes : Scopes) where
  steady-behind : (x : ExprTree Variable) (all left : Posts Text) → IsSteady (λ m. x) all left
  steady-behind x all NoPosts = λ some. refl
  steady-behind x all (Post p rest) = tt

  pub posts-step : (base : Option Typed) (all : Posts Text) (t next : Option Typed) (p : PostTree Text) (rest : Posts Text)
      → ArePostsSoFar scopes base all t (Post p rest)
      → ((f : Times → ExprTree Variable) (b : Base Variable) → StandsFor t f → StandsAt f b → IsSimplePost (IsFound scopes) p → PostSpelt IsNear ⊥ p
      → StandsFor next (λ m. behind scopes b p (f Once)))
      → ArePostsSoFar scopes base all next rest
  posts-step base all t next p rest so_far made = λ f b h told simple near.
      let so = so_far f b h told simple near in
      let x = behind scopes so.at p (so.tree Once) in
      record {
        tree = λ m. x;
        at = OtherBase;
        stands = made so.tree so.at so.stands so.told so.simple.0 so.near.0;
        told = refl;
        same =
            ap (λ c. stacked_on (rebased c x) (posts_leaves scopes OtherBase rest)) (told_base-other (renamed_posts (leaf_in scopes) rest))
            ∙ ap (λ c. stacked_on (Postfixed (rebased c (so.tree Once)) (Post (post_leaves scopes so.at p) NoPosts)) (posts_leaves scopes OtherBase rest))
            (sym (told_base-first (renamed_post (leaf_in scopes) p) (renamed_posts (leaf_in scopes) rest) so.at))
            ∙ so.same;
        steady = steady-behind x all rest;
        simple = so.simple.1;
        near = so.near.1;
      }

  at_times : (f : Times → ExprTree Variable) → f EachTurn ≡ f Once → (m : Times) → f m ≡ f Once
  at_times f e Once = refl
  at_times f e EachTurn = e

  -- all posts
  pub posts-end : (base : Option Typed) (all : Posts Text) (t : Option Typed) → ArePostsSoFar scopes base all t NoPosts
      → (f : Times → ExprTree Variable) (b : Base Variable) → StandsFor base f → StandsAt f b → HasPosts all → AreSimplePosts (IsFound scopes) all
      → PostsSpelt IsNear ⊥ all → StandsFor t (λ m. built scopes b all (f Once))
  posts-end base all t so_far f b h told some simple near =
      let so = so_far f b h told simple near in
      stands-same t so.tree (λ m. built scopes b all (f Once)) (λ m. at_times so.tree (so.steady some) m ∙ so.same) so.stands

  -- a whole base with its posts
  stacked_on-stacked : (x : ExprTree Variable) (b : Base Variable) (ps : Posts Text) → HasPosts ps → stacked_on x (posts_leaves scopes b ps) ≡ stacked x (posts_leaves scopes b ps)
  stacked_on-stacked x b NoPosts h = absurd h
  stacked_on-stacked x b (Post p rest) h = refl

  pub posts-whole : (P : Text → Type 0) (r : Option Typed) (e : ExprTree Text) (ps : Posts Text) → AreSimplePosts P ps → HasPosts ps
      → StandsFor r (λ m. built scopes (base_of (renamed_expr (leaf_in scopes) e)) ps (leaves_of scopes Once e)) → StandsFor r (λ m. leaves_of scopes m (Postfixed e ps))
  posts-whole P r e ps simple some h =
      let b = base_of (renamed_expr (leaf_in scopes) e) in
      let qs = renamed_posts (leaf_in scopes) ps in
      stands-same r (λ m. built scopes b ps (leaves_of scopes Once e)) (λ m. leaves_of scopes m (Postfixed e ps))
      (λ m.
      ap (λ o. stacked_on (read_base o (bare_name (renamed_expr (leaf_in scopes) e)) (rebased (told_base known_variable qs b) (leaves_of scopes Once e))) (posts_leaves scopes b ps))
      (sym (posts_read-renamed P (leaf_in scopes) ps simple))
      ∙ stacked_on-stacked (based known_variable qs (renamed_expr (leaf_in scopes) e) (leaves_of scopes Once e)) b ps some) h
