-- What is seen of a tree by itself is seen of the tree with other names, with these names.
-- One lemma for each function that looks at a tree without a state.
use Rattle.std.proofs.Common.{◌≡◌, List, [], ◌∷◌, refl, ap, ◌∙◌, Some, None, Option, map}
use Rattle.std.specs.Prelude.{option_map}
use Rattle.dpl_history.specs.declared.cell.CellOp.{CellOp}
use Rattle.dpl_language.specs.Tree.{DomainOf, Placed, AfterComma, Listed, ExprTree, Number, Grouped, Postfixed, ItemTree, One, RangeItem, Posts, NoPosts, Post, PostTree, Brackets, Rounds, Dotted, MethodTree, Plainly, Items, FirstItem, NoItems, NextItem, TypedTree, ArgumentTree, IntentTree, ReduceIntent, RefIntent, WithTree}
use Rattle.dpl_language.specs.Phrases.{parts, base_of, item_base, bare_name, method_read, post_read, posts_read, read_by, cell_read, item_read, name_of, item_over, declared_over, reduce_intents, intents_of}
use Rattle.dpl_language.specs.Declarations.{type_of}
use Rattle.dpl_language.specs.Roots.{by_post, by_posts, derived_from, derived_item, derived_over}
use Rattle.dpl_language.specs.Writing.{arguments_of}
use Rattle.dpl_agreement.specs.Renamed.{map_comma, map_listed, renamed, renamed_expr, renamed_item, renamed_posts, renamed_post, renamed_method, renamed_items, renamed_type, renamed_typed, renamed_argument, renamed_intent, renamed_with, renamed_base, renamed_read, renamed_intents}

pub parts-mapped : {A B : Type 0} (f : A → B) (xs : Listed A) → parts (map_listed f xs) ≡ map f (parts xs)
parts-mapped f xs = ap (λ ys. f xs.first ∷ ys) (others-mapped xs.others)
  where
    others-mapped : (cs : List (AfterComma _)) → map (λ c. c.part) (map (map_comma f) cs) ≡ map f (map (λ c. c.part) cs)
    others-mapped [] = refl
    others-mapped (c ∷ cs) = ap (λ ys. f c.part ∷ ys) (others-mapped cs)

module _ {M N : Type 0} (f : M → N) where
  mutual
    pub base_of-renamed : (e : ExprTree M) → base_of (renamed_expr f e) ≡ renamed_base f (base_of e)
    base_of-renamed (Grouped from item upto) = item_base-renamed item
    base_of-renamed _ = refl

    item_base-renamed : (i : ItemTree M) → item_base (renamed_item f i) ≡ renamed_base f (item_base i)
    item_base-renamed (One e) = base_of-renamed e
    item_base-renamed (RangeItem low at dots high by) = refl

  pub bare_name-renamed : (e : ExprTree M) → bare_name (renamed_expr f e) ≡ option_map (renamed f) (bare_name e)
  bare_name-renamed (Number at n) = refl
  bare_name-renamed _ = refl

  method_read-renamed : (m : MethodTree M) → method_read (renamed_method f m) ≡ method_read m
  method_read-renamed (Plainly at w) = refl
  method_read-renamed _ = refl

  post_read-renamed : (p : PostTree M) → post_read (renamed_post f p) ≡ post_read p
  post_read-renamed (Brackets from items upto) = refl
  post_read-renamed (Rounds from es upto) = refl
  post_read-renamed (Dotted dot m) = method_read-renamed m

  posts_read-renamed : (ps : Posts M) → posts_read (renamed_posts f ps) ≡ posts_read ps
  posts_read-renamed NoPosts = refl
  posts_read-renamed (Post p NoPosts) = post_read-renamed p
  posts_read-renamed (Post p (Post q rest)) = refl

  read_by-renamed : (x : Option (Placed M)) (op : Option CellOp) → read_by (option_map (renamed f) x) op ≡ option_map (renamed_read f) (read_by x op)
  read_by-renamed None op = refl
  read_by-renamed (Some x) None = refl
  read_by-renamed (Some x) (Some op) = refl

  cell_read-renamed : (e : ExprTree M) → cell_read (renamed_expr f e) ≡ option_map (renamed_read f) (cell_read e)
  cell_read-renamed (Postfixed e posts) =
      ap (λ x. read_by x (posts_read (renamed_posts f posts))) (bare_name-renamed e)
      ∙ ap (read_by (option_map (renamed f) (bare_name e))) (posts_read-renamed posts)
      ∙ read_by-renamed (bare_name e) (posts_read posts)
  cell_read-renamed _ = refl

  pub item_read-renamed : (i : ItemTree M) → item_read (renamed_item f i) ≡ option_map (renamed_read f) (item_read i)
  item_read-renamed (One e) = cell_read-renamed e
  item_read-renamed (RangeItem low at dots high by) = refl

  name_of-renamed : (x : Option (Placed M)) → name_of (option_map (renamed f) x) ≡ option_map f (name_of x)
  name_of-renamed None = refl
  name_of-renamed (Some x) = refl

  item_over-renamed : (i : ItemTree M) → item_over (renamed_item f i) ≡ option_map f (item_over i)
  item_over-renamed (One e) = ap name_of (bare_name-renamed e) ∙ name_of-renamed (bare_name e)
  item_over-renamed (RangeItem low at dots high by) = refl

  pub declared_over-renamed : (items : Items M) → declared_over (renamed_items f items) ≡ option_map f (declared_over items)
  declared_over-renamed (FirstItem i NoItems) = item_over-renamed i
  declared_over-renamed (FirstItem i (NextItem comma j more)) = refl

  reduce_intents-renamed : (is : List (IntentTree M)) → reduce_intents (map (renamed_intent f) is) ≡ renamed_intents f (reduce_intents is)
  reduce_intents-renamed [] = refl
  reduce_intents-renamed (ReduceIntent at op word x ∷ rest) = ap (λ ps. (f x.name, op) ∷ ps) (reduce_intents-renamed rest)
  reduce_intents-renamed (RefIntent at x ∷ rest) = reduce_intents-renamed rest

  pub intents_of-renamed : (w : Option (WithTree M)) → intents_of (option_map (renamed_with f) w) ≡ renamed_intents f (intents_of w)
  intents_of-renamed None = refl
  intents_of-renamed (Some w) = ap reduce_intents (parts-mapped (renamed_intent f) w.intents) ∙ reduce_intents-renamed (parts w.intents)

  pub type_of-renamed : (t : Option (TypedTree M)) → type_of (option_map (renamed_typed f) t) ≡ option_map (renamed_type f) (type_of t)
  type_of-renamed None = refl
  type_of-renamed (Some t) = refl

  pub arguments_of-renamed : (xs : Option (Listed (ArgumentTree M))) → arguments_of (option_map (map_listed (renamed_argument f)) xs) ≡ map (renamed_argument f) (arguments_of xs)
  arguments_of-renamed None = refl
  arguments_of-renamed (Some xs) = parts-mapped (renamed_argument f) xs

-- from which name a value is derived
module _ {M N : Type 0} (f : M → N) where
  by_post-renamed : (p : PostTree M) (o : Option M) → by_post (renamed_post f p) (option_map f o) ≡ option_map f (by_post p o)
  by_post-renamed (Brackets from items upto) o = refl
  by_post-renamed (Rounds from es upto) o = refl
  by_post-renamed (Dotted dot (Plainly at DomainOf)) o = refl
  by_post-renamed (Dotted dot _) o = refl

  by_posts-renamed : (ps : Posts M) (o : Option M) → by_posts (renamed_posts f ps) (option_map f o) ≡ option_map f (by_posts ps o)
  by_posts-renamed NoPosts o = refl
  by_posts-renamed (Post p ps) o = ap (by_posts (renamed_posts f ps)) (by_post-renamed p o) ∙ by_posts-renamed ps (by_post p o)

  mutual
    derived_from-renamed : (e : ExprTree M) → derived_from (renamed_expr f e) ≡ option_map f (derived_from e)
    derived_from-renamed (Grouped from item upto) = derived_item-renamed item
    derived_from-renamed (Postfixed e ps) = ap (by_posts (renamed_posts f ps)) (derived_from-renamed e) ∙ by_posts-renamed ps (derived_from e)
    derived_from-renamed _ = refl

    pub derived_item-renamed : (i : ItemTree M) → derived_item (renamed_item f i) ≡ option_map f (derived_item i)
    derived_item-renamed (One e) = derived_from-renamed e
    derived_item-renamed (RangeItem low at dots high by) = refl

  pub derived_over-renamed : (items : Items M) → derived_over (renamed_items f items) ≡ option_map f (derived_over items)
  derived_over-renamed (FirstItem i NoItems) = derived_item-renamed i
  derived_over-renamed (FirstItem i (NextItem comma j more)) = refl
