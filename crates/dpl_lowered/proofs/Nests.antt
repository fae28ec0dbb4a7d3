-- What a lowered tree is put together of means what its parts mean in the tree itself.
-- One lemma for each way to put trees together and for each way to ask for a meaning.
use Rattle.std.proofs.Common.{◌≡◌, Bool, true, false, List, refl, sym, ap, ◌∙◌, Ok, Err, Some, None, Result, Option}
use Rattle.std.specs.Prelude.{not, ◌&&◌, ◌||◌, if◌then◌else◌}
use Rattle.std.specs.Option.{option_or}
use Rattle.dpl_syntax.specs.declared.place.Place.{Place}
use Rattle.dpl_sets.specs.TextRanges.{TextRange}
use Rattle.dpl_language.specs.Tree.{Infix, Add, ExprTree, Number, Chain, Postfixed, ItemTree, One, RangeItem, Links, NoLinks, Link, Posts, NoPosts, Post, PostTree, Exprs, FirstExpr, MoreExprs, NoExprs, NextExpr}
use Rattle.dpl_language.specs.Values.{Value, Truth, truth, Index, Fault}
use Rattle.dpl_language.specs.Arithmetic.{infix_of, divides, tested_divisor, decides}
use Rattle.dpl_language.specs.Outcome.{with_ok}
use Rattle.dpl_language.specs.Environment.{Environment, Limits}
use Rattle.dpl_language.specs.Phrases.{OtherBase, base_of, item_base}
use Rattle.dpl_language.specs.Expressions.{unless_decided, whole_in, whole_item, whole_links, value_of, chained, item_of, items_of, more_items, values_of, more_values, behind, post_of}
use Rattle.dpl_agreement.proofs.RunsAlike.{with_ok-same}
use Rattle.dpl_lowered.specs.Shapes.{kept, as_expr, as_item, as_items, as_more_items, hidden, hidden_item, two, grouped, passes_on, all_pass_on, nests, nested, stacked_on, stacked}

-- VALUES ONE AFTER ANOTHER
with_ok-ok : {A : Type 0} (r : Result A Fault) → with_ok r (λ v. Ok v) ≡ r
with_ok-ok (Ok v) = refl
with_ok-ok (Err f) = refl

with_ok-made : {A B C : Type 0} (r : Result A Fault) (h : A → B) (go : B → Result C Fault) → with_ok r (λ v. go (h v)) ≡ with_ok (with_ok r (λ v. Ok (h v))) go
with_ok-made (Ok v) h go = refl
with_ok-made (Err f) h go = refl

with_ok-apart : {A B C D : Type 0} (r : Result A Fault) (f : A → Result B Fault) (h : B → C) (go : C → Result D Fault)
    → with_ok r (λ v. with_ok (f v) (λ w. go (h w))) ≡ with_ok (with_ok r (λ v. with_ok (f v) (λ w. Ok (h w)))) go
with_ok-apart (Ok v) f h go = with_ok-made (f v) h go
with_ok-apart (Err x) f h go = refl

-- a place stays where it may be told
pub kept-enough : (b : Bool) (at : Place) (w : Value) → tested_divisor b (kept b at) w ≡ tested_divisor b at w
kept-enough true at w = refl
kept-enough false at w = refl

-- WHAT DECIDES
and-left : (x y : Bool) → x && y ≡ true → x ≡ true
and-left true y e = refl
and-left false y e = e

and-right : (x y : Bool) → x && y ≡ true → y ≡ true
and-right true y e = e
and-right false y e = absurd (let no : false ≡ true = e in cc)

implied : (x y : Bool) → not x || y ≡ true → x ≡ true → y ≡ true
implied true y e h = e
implied false y e h = absurd (let no : false ≡ true = h in cc)

decides-truth : (op : Infix) (v : Value) → decides op v ≡ decides op (Truth (truth v))
decides-truth Add v = refl
decides-truth _ v = refl

passes_on-decided : (op next : Infix) (b : Bool) → passes_on op next ≡ true → decides op (Truth b) ≡ true → decides next (Truth b) ≡ true
passes_on-decided op next true e h = implied (decides op (Truth true)) (decides next (Truth true)) (and-right _ _ e) h
passes_on-decided op next false e h = implied (decides op (Truth false)) (decides next (Truth false)) (and-left _ _ e) h

module _ {N S : Type 0} (limits : Limits) (env : Environment N S) where
  -- BRACKETS AND ITEMS
  pub as_expr-value : (i : ItemTree N) (t : Option Index) (s : S) → value_of limits env (as_expr i) t s ≡ item_of limits env i t s
  as_expr-value (One e) t s = refl
  as_expr-value (RangeItem low at dots high by) t s = refl

  pub as_expr-whole : (i : ItemTree N) (s : S) → whole_in limits env (as_expr i) s ≡ whole_item limits env i s
  as_expr-whole (One e) s = refl
  as_expr-whole (RangeItem low at dots high by) s = refl

  pub as_item-value : (e : ExprTree N) (t : Option Index) (s : S) → item_of limits env (as_item e) t s ≡ value_of limits env e t s
  as_item-value (Number at n) t s = refl
  as_item-value _ t s = refl

  pub as_item-whole : (e : ExprTree N) (s : S) → whole_item limits env (as_item e) s ≡ whole_in limits env e s
  as_item-whole (Number at n) s = refl
  as_item-whole _ s = refl

  as_more_items-values : (es : MoreExprs N) (s : S) → more_items limits env (as_more_items es) s ≡ more_values limits env es s
  as_more_items-values NoExprs s = refl
  as_more_items-values (NextExpr comma e more) s =
      with_ok-same _ _ _ _ (as_item-value e None s) (λ v. with_ok-same _ _ _ _ (as_more_items-values more s) (λ vs. refl))

  pub as_items-values : (es : Exprs N) (s : S) → items_of limits env (as_items es) s ≡ values_of limits env es s
  as_items-values (FirstExpr e more) s =
      with_ok-same _ _ _ _ (as_item-value e None s) (λ v. with_ok-same _ _ _ _ (as_more_items-values more s) (λ vs. refl))

  pub hidden-value : {A B : Type 0} (o : Option A) (p : Option B) (e : ExprTree N) (t : Option Index) (s : S) → value_of limits env (hidden o p e) t s ≡ value_of limits env e t s
  hidden-value None None e t s = refl
  hidden-value None (Some y) e t s = refl
  hidden-value (Some x) p e t s = refl

  pub hidden_item-value : {A B : Type 0} (o : Option A) (p : Option B) (i : ItemTree N) (t : Option Index) (s : S) → item_of limits env (hidden_item o p i) t s ≡ item_of limits env i t s
  hidden_item-value None None i t s = refl
  hidden_item-value None (Some y) i t s = refl
  hidden_item-value (Some x) p i t s = refl

  pub hidden_item-whole : {A B : Type 0} (o : Option A) (p : Option B) (i : ItemTree N) (s : S) → whole_item limits env (hidden_item o p i) s ≡ whole_item limits env i s
  hidden_item-whole None None i s = refl
  hidden_item-whole None (Some y) i s = refl
  hidden_item-whole (Some x) p i s = refl

  -- CHAINS
  -- a value that decides an operator is that of the chain
  decided-stays : (rest : Links N) (op : Infix) (t : Option Index) (s : S) (v : Value) → all_pass_on op rest ≡ true → decides op v ≡ true → chained limits env rest t s v ≡ Ok v
  decided-stays NoLinks op t s v p d = refl
  decided-stays (Link at next e rest) op t s v p d =
      ap (λ b. unless_decided b v (with_ok (value_of limits env e t s) (λ w. with_ok (tested_divisor (divides next) at w) (λ w. chained limits env rest t s (infix_of next v w)))))
      (decides-truth next v ∙ passes_on-decided op next (truth v) (and-left _ _ p) (sym (decides-truth op v) ∙ d))

  -- the first operator of a chain, and then the others
  link-apart : (b : Bool) (at : Place) (op : Infix) (e : ExprTree N) (rest : Links N) (t : Option Index) (s : S) (v : Value) → all_pass_on op rest ≡ true → decides op v ≡ b
      → chained limits env (Link at op e rest) t s v ≡ with_ok (chained limits env (Link at op e NoLinks) t s v) (chained limits env rest t s)
  link-apart b at op e rest t s v p d =
      ap (λ b. unless_decided b v (with_ok (value_of limits env e t s) (λ w. with_ok (tested_divisor (divides op) at w) (λ w. chained limits env rest t s (infix_of op v w))))) d
      ∙ by_test b d
      ∙ sym (ap (λ b. with_ok (unless_decided b v (with_ok (value_of limits env e t s) (λ w. with_ok (tested_divisor (divides op) at w) (λ w. Ok (infix_of op v w))))) (chained limits env rest t s)) d)
    where
      by_test : (b : Bool) → decides op v ≡ b
          → unless_decided b v (with_ok (value_of limits env e t s) (λ w. with_ok (tested_divisor (divides op) at w) (λ w. chained limits env rest t s (infix_of op v w))))
          ≡ with_ok (unless_decided b v (with_ok (value_of limits env e t s) (λ w. with_ok (tested_divisor (divides op) at w) (λ w. Ok (infix_of op v w))))) (chained limits env rest t s)
      by_test true d = sym (decided-stays rest op t s v p d)
      by_test false d = with_ok-apart (value_of limits env e t s) (λ w. tested_divisor (divides op) at w) (λ w. infix_of op v w) (chained limits env rest t s)

  links-apart : (r : Result Value Fault) (at : Place) (op : Infix) (e : ExprTree N) (rest : Links N) (t : Option Index) (s : S) → all_pass_on op rest ≡ true
      → with_ok (with_ok r (chained limits env (Link at op e NoLinks) t s)) (chained limits env rest t s) ≡ with_ok r (chained limits env (Link at op e rest) t s)
  links-apart (Ok v) at op e rest t s p = sym (link-apart (decides op v) at op e rest t s v p refl)
  links-apart (Err f) at op e rest t s p = refl

  grouped-value : (rest : Links N) (op : Infix) (a : ExprTree N) (t : Option Index) (s : S) → all_pass_on op rest ≡ true → value_of limits env (grouped a rest) t s ≡ value_of limits env (Chain a rest) t s
  grouped-value NoLinks op a t s p = sym (with_ok-ok (value_of limits env a t s))
  grouped-value (Link at next e rest) op a t s p =
      grouped-value rest next (two a at next e) t s (and-right (passes_on op next) (all_pass_on next rest) p)
      ∙ links-apart (value_of limits env a t s) at next e rest t s (and-right (passes_on op next) (all_pass_on next rest) p)

  pub nested-value : (a : ExprTree N) (rest : Links N) (t : Option Index) (s : S) → value_of limits env (nested a rest) t s ≡ value_of limits env (Chain a rest) t s
  nested-value a NoLinks t s = refl
  nested-value a (Link at op e rest) t s = by_test (all_pass_on op rest) refl
    where
      by_test : (b : Bool) → all_pass_on op rest ≡ b → value_of limits env (if b then grouped a (Link at op e rest) else Chain a (Link at op e rest)) t s ≡ value_of limits env (Chain a (Link at op e rest)) t s
      by_test true p = grouped-value rest op (two a at op e) t s p ∙ links-apart (value_of limits env a t s) at op e rest t s p
      by_test false p = refl

  option_or-none : (o : Option (List TextRange)) → o ≡ option_or o None
  option_or-none None = refl
  option_or-none (Some rs) = refl

  option_or-option_or : (a b c : Option (List TextRange)) → option_or (option_or a (option_or b None)) c ≡ option_or a (option_or b c)
  option_or-option_or None None c = refl
  option_or-option_or None (Some rs) c = refl
  option_or-option_or (Some rs) b c = refl

  grouped-whole : (rest : Links N) (a : ExprTree N) (s : S) → whole_in limits env (grouped a rest) s ≡ whole_in limits env (Chain a rest) s
  grouped-whole NoLinks a s = option_or-none (whole_in limits env a s)
  grouped-whole (Link at op e rest) a s =
      grouped-whole rest (two a at op e) s ∙ option_or-option_or (whole_in limits env a s) (whole_in limits env e s) (whole_links limits env rest s)

  pub nested-whole : (a : ExprTree N) (rest : Links N) (s : S) → whole_in limits env (nested a rest) s ≡ whole_in limits env (Chain a rest) s
  nested-whole a rest s = by_test (nests rest)
    where
      by_test : (b : Bool) → whole_in limits env (if b then grouped a rest else Chain a rest) s ≡ whole_in limits env (Chain a rest) s
      by_test true = grouped-whole rest a s
      by_test false = refl

  -- POSTS
  posts-apart : (r : Result Value Fault) (q : PostTree N) (rest : Posts N) (s : S)
      → with_ok (with_ok r (behind limits env (Post q NoPosts) OtherBase s)) (behind limits env rest OtherBase s) ≡ with_ok r (behind limits env (Post q rest) OtherBase s)
  posts-apart (Ok v) q rest s = ap (λ r. with_ok r (behind limits env rest OtherBase s)) (with_ok-ok (post_of limits env q OtherBase s v))
  posts-apart (Err f) q rest s = refl

  stacked_on-value : (posts : Posts N) (e : ExprTree N) (p : PostTree N) (t : Option Index) (s : S)
      → value_of limits env (stacked_on (Postfixed e (Post p NoPosts)) posts) t s ≡ with_ok (value_of limits env (Postfixed e (Post p NoPosts)) None s) (behind limits env posts OtherBase s)
  stacked_on-value NoPosts e p t s = sym (with_ok-ok (value_of limits env (Postfixed e (Post p NoPosts)) None s))
  stacked_on-value (Post q rest) e p t s =
      stacked_on-value rest (Postfixed e (Post p NoPosts)) q t s ∙ posts-apart (value_of limits env (Postfixed e (Post p NoPosts)) None s) q rest s

  -- the first post stands behind the base
  first-apart : (r : Result Value Fault) (e : ExprTree N) (p : PostTree N) (rest : Posts N) (s : S)
      → with_ok (with_ok r (behind limits env (Post p NoPosts) (base_of e) s)) (behind limits env rest OtherBase s) ≡ with_ok r (behind limits env (Post p rest) (base_of e) s)
  first-apart (Ok v) e p rest s = ap (λ r. with_ok r (behind limits env rest OtherBase s)) (with_ok-ok (post_of limits env p (base_of e) s v))
  first-apart (Err f) e p rest s = refl

  pub stacked-value : (e : ExprTree N) (posts : Posts N) (t : Option Index) (s : S) → value_of limits env (stacked e posts) t s ≡ value_of limits env (Postfixed e posts) t s
  stacked-value e NoPosts t s = refl
  stacked-value e (Post p rest) t s = stacked_on-value rest e p t s ∙ first-apart (value_of limits env e None s) e p rest s

  stacked_on-whole : (posts : Posts N) (e : ExprTree N) (p : PostTree N) (s : S) → whole_in limits env (stacked_on (Postfixed e (Post p NoPosts)) posts) s ≡ None
  stacked_on-whole NoPosts e p s = refl
  stacked_on-whole (Post q rest) e p s = stacked_on-whole rest (Postfixed e (Post p NoPosts)) q s

  pub stacked-whole : (e : ExprTree N) (posts : Posts N) (s : S) → whole_in limits env (stacked e posts) s ≡ None
  stacked-whole e NoPosts s = refl
  stacked-whole e (Post p rest) s = stacked_on-whole rest e p s

-- BASES
module _ {N : Type 0} where
  pub as_expr-base : (i : ItemTree N) → base_of (as_expr i) ≡ item_base i
  as_expr-base (One e) = refl
  as_expr-base (RangeItem low at dots high by) = refl

  pub as_item-base : (e : ExprTree N) → item_base (as_item e) ≡ base_of e
  as_item-base (Number at n) = refl
  as_item-base _ = refl

  grouped-base : (rest : Links N) (a : ExprTree N) (first : Links N) → base_of (grouped (Chain a first) rest) ≡ OtherBase
  grouped-base NoLinks a first = refl
  grouped-base (Link at op e rest) a first = grouped-base rest (Chain a first) (Link at op e NoLinks)

  pub nested-base : (a : ExprTree N) (rest : Links N) → base_of (nested a rest) ≡ OtherBase
  nested-base a NoLinks = refl
  nested-base a (Link at op e rest) = by_test (all_pass_on op rest)
    where
      by_test : (b : Bool) → base_of (if b then grouped a (Link at op e rest) else Chain a (Link at op e rest)) ≡ OtherBase
      by_test true = grouped-base rest a (Link at op e NoLinks)
      by_test false = refl

  stacked_on-base : (posts : Posts N) (e : ExprTree N) (first : Posts N) → base_of (stacked_on (Postfixed e first) posts) ≡ OtherBase
  stacked_on-base NoPosts e first = refl
  stacked_on-base (Post p rest) e first = stacked_on-base rest (Postfixed e first) (Post p NoPosts)

  pub stacked-base : (e : ExprTree N) (posts : Posts N) → base_of (stacked e posts) ≡ OtherBase
  stacked-base e NoPosts = refl
  stacked-base e (Post p rest) = stacked_on-base rest e (Post p NoPosts)
