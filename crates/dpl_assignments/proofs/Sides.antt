-- Right sides that read cells: a cell's read is all that stands behind a name, no simple item is one, and as an item it has no type.
-- Each lemma is stated of a part of an expression.
use Rattle.std.proofs.Common.{◌≡◌, ◌≤◌, Bool, false, List, [], ◌∷◌, length, Option, Some, None, is_some, Result, Ok, Err, refl, sym, ap, ◌∙◌, arith}
use Rattle.std.specs.Prelude.{IfOk}
use Rattle.dpl_language.specs.Tree.{Placed, Kind, ReadWord, ExprTree, Number, TruthWord, Named, LocalesWord, LocaleCount, HereWord, Grouped, DomainLiteral, Prefixed, Reduced, Chain, Postfixed, ItemTree, One, RangeItem, Posts, NoPosts, Post, PostTree, Brackets, Rounds, Dotted, MethodTree, Plainly, Dim, Contains, Expand, CellRead}
use Rattle.dpl_language.specs.Names.{Text}
use Rattle.dpl_language.specs.Phrases.{method_read, post_read, posts_read, bare_name, read_by, cell_read, item_read}
use Rattle.dpl_syntax.specs.declared.place.Place.{Place}
use Rattle.dpl_tree.specs.declared.expression.Post.{Post as PostNode}
use Rattle.dpl_tree.specs.View.{posts_of}
use Rattle.dpl_rules.specs.Types.{ValueType, Scalar, has, is_promoted}
use Rattle.dpl_rules.specs.Verdicts.{type_by, with_type}
use Rattle.dpl_rules.specs.Places.{last_of}
use Rattle.dpl_rules.specs.Sights.{Scopes}
use Rattle.dpl_rules.specs.Expressions.{bare_locales, locales_or, type_of, item_type, posts_type, method_verdict, kind_read, read_or_type, side_part}
use Rattle.dpl_typed.specs.Leaves.{IsFound}
use Rattle.dpl_typed.specs.Where.{WhereSimpleItem}
use Rattle.dpl_typed.specs.Simple.{IsSimple, IsSimpleItem, AreSimplePosts, IsSimplePost, IsSimpleMethod}

pub posts_read_many : (xs : List PostNode) → 2 ≤ length xs → false ≡ is_some (posts_read (posts_of xs))
posts_read_many [] h = absurd (omega (arith, h))
posts_read_many (x ∷ []) h = absurd (omega (arith, h))
posts_read_many (x ∷ y ∷ xs) h = refl

-- ---- simple items are no cell reads
module _ (ss : Scopes) where
  method-unread : (m : MethodTree Text) → IsSimpleMethod (IsFound ss) m → method_read m ≡ None
  method-unread (CellRead at w from upto) h = absurd h
  method-unread _ h = refl

  post-unread : (p : PostTree Text) → IsSimplePost (IsFound ss) p → post_read p ≡ None
  post-unread (Brackets from items upto) h = refl
  post-unread (Rounds from es upto) h = refl
  post-unread (Dotted dot m) h = method-unread m h

  posts-unread : (ps : Posts Text) → AreSimplePosts (IsFound ss) ps → posts_read ps ≡ None
  posts-unread NoPosts h = refl
  posts-unread (Post p NoPosts) h = post-unread p h.0
  posts-unread (Post p (Post q rest)) h = refl

  by-none : (x : Option (Placed Text)) → read_by x None ≡ None
  by-none None = refl
  by-none (Some x) = refl

  expr-unread : (e : ExprTree Text) → IsSimple (IsFound ss) e → cell_read e ≡ None
  expr-unread (Postfixed e posts) h = ap (read_by (bare_name e)) (posts-unread posts h.1) ∙ by-none (bare_name e)
  expr-unread _ h = refl

  pub item-unread : (i : ItemTree Text) → IsSimpleItem (IsFound ss) i → item_read i ≡ None
  item-unread (One e) h = expr-unread e h
  item-unread (RangeItem low at dots high by) h = refl

  pub read_unsimple : (i : ItemTree Text) (k : Kind) → kind_read ss (item_read i) ≡ Some k → IsSimpleItem (IsFound ss) i → ⊥
  read_unsimple i k e h = let none : None ≡ Some k = ap (kind_read ss) (sym (item-unread i h)) ∙ e in cc

-- of a right side that reads a cell nothing is asked
pub read_absent : {A E : Type 0} (ss : Scopes) (i : ItemTree Text) (k : Kind) (Q : A → Type 0) (r : Result A E) → kind_read ss (item_read i) ≡ Some k → IfOk r (λ a. WhereSimpleItem ss i (Q a))
read_absent ss i k Q (Ok a) e = λ simple near. absurd (read_unsimple ss i k e simple)
read_absent ss i k Q (Err f) e = tt

-- ---- a cell's read has no type as an item, and what the cell holds is an int or a truth value
module _ (ss : Scopes) where
  read-untyped : (at : Place) (w : ReadWord) (from upto : Place) (t : Option ValueType) → type_by (with_type t (method_verdict ss (CellRead at w from upto))) ≡ None
  read-untyped at w from upto None = refl
  read-untyped at w from upto (Some t) = refl

  -- a test that no int and no truth value passes
  module _ (test : ValueType → Bool) (scalar : (k : Kind) → test (Scalar k) ≡ false) where
    kind-has : (k : Option Kind) (t : Option ValueType) → t ≡ None → has test (read_or_type k t) ≡ has test t
    kind-has None t none = refl
    kind-has (Some k) t none = scalar k ∙ sym (ap (has test) none)

    read-has : (x : Option (Placed Text)) (last : Place) (t : Option ValueType) (ps : Posts Text)
        → has test (read_or_type (kind_read ss (read_by x (posts_read ps))) (posts_type ss last t ps)) ≡ has test (posts_type ss last t ps)
    read-has None last t ps = refl
    read-has (Some x) last t NoPosts = refl
    read-has (Some x) last t (Post (Brackets from items upto) NoPosts) = refl
    read-has (Some x) last t (Post (Rounds from es upto) NoPosts) = refl
    read-has (Some x) last t (Post (Dotted dot (Plainly at w)) NoPosts) = refl
    read-has (Some x) last t (Post (Dotted dot (Dim at from rank_at d upto)) NoPosts) = refl
    read-has (Some x) last t (Post (Dotted dot (Contains at from es upto)) NoPosts) = refl
    read-has (Some x) last t (Post (Dotted dot (Expand at from e upto)) NoPosts) = refl
    read-has (Some x) last t (Post (Dotted dot (CellRead at w from upto)) NoPosts) =
        kind-has (kind_read ss (read_by (Some x) (posts_read {N = Text} (Post (Dotted dot (CellRead at w from upto)) NoPosts))))
        (type_by (with_type t (method_verdict ss (CellRead at w from upto)))) (read-untyped at w from upto t)
    read-has (Some x) last t (Post p (Post q rest)) = refl

    expr-has : (e : ExprTree Text) → has test (read_or_type (kind_read ss (cell_read e)) (type_of ss e)) ≡ has test (type_of ss e)
    expr-has (Number at n) = refl
    expr-has (TruthWord at b) = refl
    expr-has (Named x) = refl
    expr-has (LocalesWord at) = refl
    expr-has (LocaleCount at) = refl
    expr-has (HereWord at) = refl
    expr-has (Grouped from item upto) = refl
    expr-has (DomainLiteral from items upto) = refl
    expr-has (Prefixed at op e) = refl
    expr-has (Reduced at op word e) = refl
    expr-has (Chain e rest) = refl
    expr-has (Postfixed e posts) = read-has (bare_name e) (last_of e) (locales_or (bare_locales e) (type_of ss e)) posts

    pub side_has : (i : ItemTree Text) → has test (side_part ss i).type ≡ has test (item_type ss i)
    side_has (One e) = expr-has e
    side_has (RangeItem low at dots high by) = refl

-- a right side is promoted where it is as an item
pub side_promoted : (ss : Scopes) (i : ItemTree Text) → has is_promoted (side_part ss i).type ≡ has is_promoted (item_type ss i)
side_promoted ss i = side_has ss is_promoted (λ k. refl) i
