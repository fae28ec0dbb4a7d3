-- What ends in `low` or `lowBound`, by what stands before that: its type, its breaches, what it does, and its tree as it is run.
-- Each lemma is stated of what stands behind a base.
use Rattle.std.proofs.Common.{◌≡◌, ◌==◌, ℕ, Bool, true, false, List, [], ◌∷◌, ◌++◌, length, map, Option, Some, None, refl, sym, ap, subst, ◌∙◌, append_assoc, arith}
use Rattle.std.proofs.lemmas.List.{append-nil}
use Rattle.std.proofs.lemmas.Option.{none-some}
use Rattle.std.proofs.lemmas.Bool.Decides.{Decides-eqb}
use Rattle.dpl_syntax.specs.declared.place.Place.{Place}
use Rattle.dpl_syntax.specs.declared.refusal.Breach.{Breach}
use Rattle.dpl_language.specs.Names.{Text}
use Rattle.dpl_language.specs.Phrases.{Base, BaseName, BaseLocales, OtherBase, base_of, bare_name, post_read, posts_read}
use Rattle.dpl_language.specs.Tree.{Word, Low, LowBound, ExprTree, Postfixed, Posts, NoPosts, Post, PostTree, Brackets, Rounds, Dotted, MethodTree, Plainly, CellRead, StartExpr}
use Rattle.dpl_language.specs.Spelled.{HasPosts}
use Rattle.dpl_agreement.specs.Renamed.{renamed_expr, renamed_posts, renamed_post}
use Rattle.dpl_tree.specs.declared.expression.Post.{Post as PostNode}
use Rattle.dpl_tree.specs.View.{expr_view, post_view, posts_of}
use Rattle.dpl_rules.specs.Types.{ValueType, has, is_int}
use Rattle.dpl_rules.specs.Verdicts.{type_by, broken_by, with_type}
use Rattle.dpl_rules.specs.Breaches.{least_from}
use Rattle.dpl_rules.specs.Places.{first_of, last_of, last_of_post}
use Rattle.dpl_rules.specs.Sights.{Scopes}
use Rattle.dpl_rules.specs.Deeds.{base_deeds, expr_deeds, posts_deeds, post_deeds}
use Rattle.dpl_rules.specs.Operators.{word_verdict}
use Rattle.dpl_rules.specs.Declarations.{domain_in}
use Rattle.dpl_rules.specs.Expressions.{bare_locales, locales_or, none_where, type_of, expr_breaches, posts_type, posts_breaches, post_verdict, post_breaches}
use Rattle.dpl_rules.specs.Maps.{LowTree, post_low, posts_low, front_of, low_of, low_start, domain_start, int_start}
use Rattle.dpl_sound.proofs.Given.{some-same}
use Rattle.dpl_sound.proofs.Known.{IsTyped, IsTold, AreKnown, told-typed, post-told}
use Rattle.dpl_lowered.specs.Shapes.{kept, stacked_on}
use Rattle.dpl_lowered.specs.LoweredExpressions.{Times, Once, is_end, rebased, read_base, told_base, based, lowered_expr}
use Rattle.dpl_memory.specs.Memory.{Variable, known_variable}
use Rattle.dpl_nodes.specs.declared.placing.StartExpr.{StartExpr as StartNode}
use Rattle.dpl_nodes.specs.Spots.{IsNear}
use Rattle.dpl_nodes.specs.Steps.{low_word}
use Rattle.dpl_nodes.specs.Typed.{dotted}
use Rattle.dpl_spelling.specs.Spelt.{ExprSpelt, PostsSpelt, PostSpelt}
use Rattle.dpl_deeds.specs.declared.deed.Deed.{Deed as DeedNode}
use Rattle.dpl_deeds.specs.View.{deed_view, Adds}
use Rattle.dpl_typed.specs.declared.typed.Typed.{Typed}
use Rattle.dpl_typed.specs.Leaves.{leaf_in, IsFound}
use Rattle.dpl_typed.specs.Lowered.{leaves_of, post_leaves, posts_leaves}
use Rattle.dpl_typed.specs.Simple.{IsSimple, AreSimplePosts, IsSimplePost}
use Rattle.dpl_typed.specs.Stands.{StandsFor, IsArgument}
use Rattle.dpl_typed.specs.Told.{Tells}
use Rattle.dpl_typed.specs.Typed.{types_of}
use Rattle.dpl_elaborator.specs.Built.{StandsAt, built}
use Rattle.dpl_elaborator.proofs.Bases.{stands-at, posts-whole}
use Rattle.dpl_types.proofs.Breaches.{least_from_append}
use Rattle.dpl_mapped.specs.declared.low.Low.{Low as LowNode}
use Rattle.dpl_mapped.specs.declared.low.LowLast.{LowLast}
use Rattle.dpl_mapped.specs.declared.low.FoundDomain.{FoundDomain}
use Rattle.dpl_mapped.specs.Told.{standing, bound_word, low_at, low_last_view, dimensions_in, low_told as low_owed, low_verdict, ended_by, front_tree, front_standing, front_deeds, ended_told}
use Rattle.dpl_mapped.specs.Made.{IsIntStart, IsEnded, IsStartAs}
use Rattle.dpl_mapped.proofs.Typed.{postfixed-typed}
use Rattle.dpl_types.proofs.Unbroken.{unbroken}
use Rattle.dpl_mapped.proofs.Unbroken.{unfailed, int-met}

-- ---- the word
pub least_word : (b : Bool) → low_word (bound_word b) ≡ bound_word b
least_word true = refl
least_word false = refl

kept-low : (b : Bool) (at : Place) → kept (is_end (bound_word b)) at ≡ at
kept-low true at = refl
kept-low false at = refl

-- ---- the last of several
posts_low-push : (xs : List PostNode) (x : PostNode) (e : ExprTree Text) → posts_low (posts_of (xs ++ x ∷ [])) e ≡ post_low (post_view x) e
posts_low-push [] x e = refl
posts_low-push (y ∷ []) x e = refl
posts_low-push (y ∷ z ∷ xs) x e = posts_low-push (z ∷ xs) x e

front_of-push : (xs : List PostNode) (x : PostNode) → front_of (posts_of (xs ++ x ∷ [])) ≡ posts_of xs
front_of-push [] x = refl
front_of-push (y ∷ []) x = refl
front_of-push (y ∷ z ∷ xs) x = ap (Post (post_view y)) (front_of-push (z ∷ xs) x)

pub low_of-push : (e : ExprTree Text) (xs : List PostNode) (x : PostNode) → low_of (Postfixed e (posts_of (xs ++ x ∷ []))) ≡ post_low (post_view x) (Postfixed e (posts_of xs))
low_of-push e xs x = posts_low-push xs x (Postfixed e (front_of (posts_of (xs ++ x ∷ [])))) ∙ ap (λ ps. post_low (post_view x) (Postfixed e ps)) (front_of-push xs x)

pub front-pushed : (ps xs : List PostNode) (x : PostNode) → ps ≡ xs ++ x ∷ [] → posts_of xs ≡ front_of (posts_of ps)
front-pushed ps xs x is = sym (ap (λ ps. front_of (posts_of ps)) is ∙ front_of-push xs x)

-- what has `low` last is such a post
low-post : (p : PostTree Text) (x : ExprTree Text) (k : LowTree) → post_low p x ≡ Some k → (dot : Place) × (p ≡ Dotted dot (Plainly k.at (bound_word k.bound)))
low-post (Brackets from items upto) x k e = absurd (none-some k e)
low-post (Rounds from es upto) x k e = absurd (none-some k e)
low-post (Dotted dot m) x k e = by m e
  where
    by : (m : MethodTree Text) → post_low (Dotted dot m) x ≡ Some k → (there : Place) × (Dotted dot m ≡ Dotted there (Plainly k.at (bound_word k.bound)))
    by (Plainly at Low) e = (dot, ap (λ (k : LowTree). Dotted dot (Plainly k.at (bound_word k.bound))) (some-same (record { of = x; at = at; bound = false }) k e))
    by (Plainly at LowBound) e = (dot, ap (λ (k : LowTree). Dotted dot (Plainly k.at (bound_word k.bound))) (some-same (record { of = x; at = at; bound = true }) k e))
    by _ e = absurd (none-some k e)

-- its place is near where those of the posts are
low-near : (ps : Posts Text) (x : ExprTree Text) (k : LowTree) → posts_low ps x ≡ Some k → PostsSpelt IsNear ⊥ ps → IsNear k.at
low-near NoPosts x k e near = absurd (none-some k e)
low-near (Post p NoPosts) x k e near =
    let is = low-post p x k e in
    let last : PostSpelt IsNear ⊥ (Dotted is.0 (Plainly k.at (bound_word k.bound))) = subst (PostSpelt IsNear ⊥) is.1 near.0 in
    last.1
low-near (Post p (Post q rest)) x k e near = low-near (Post q rest) x k e near.1

-- what stands before the last is simple, and spelled, where all is
front-simple : (Holds : Text → Type 0) (ps : Posts Text) → AreSimplePosts Holds ps → AreSimplePosts Holds (front_of ps)
front-simple Holds NoPosts h = tt
front-simple Holds (Post p NoPosts) h = tt
front-simple Holds (Post p (Post q rest)) h = (h.0, front-simple Holds (Post q rest) h.1)

front-spelt : (ps : Posts Text) → PostsSpelt IsNear ⊥ ps → PostsSpelt IsNear ⊥ (front_of ps)
front-spelt NoPosts h = tt
front-spelt (Post p NoPosts) h = tt
front-spelt (Post p (Post q rest)) h = (h.0, front-spelt (Post q rest) h.1)

standing-simple : (Holds : Text → Type 0) (e : ExprTree Text) (ps : Posts Text) → IsSimple Holds e → AreSimplePosts Holds ps → IsSimple Holds (standing e ps)
standing-simple Holds e NoPosts h g = h
standing-simple Holds e (Post p rest) h g = (h, g, tt)

standing-spelt : (e : ExprTree Text) (ps : Posts Text) → ExprSpelt IsNear ⊥ e → PostsSpelt IsNear ⊥ ps → ExprSpelt IsNear ⊥ (standing e ps)
standing-spelt e NoPosts h g = h
standing-spelt e (Post p rest) h g = (tt, h, g)

simple-standing : (Holds : Text → Type 0) (e : ExprTree Text) (ps : Posts Text) → IsSimple Holds (standing e ps) → IsSimple Holds e × AreSimplePosts Holds ps
simple-standing Holds e NoPosts h = (h, tt)
simple-standing Holds e (Post p rest) h = (h.0, h.1)

-- ---- a base with nothing behind it, and with something
none-behind : {A : Type 0} (x : A) (xs : List A) → (length (x ∷ xs) == 0) ≡ true → ⊥
none-behind x xs h =
    let none : length (x ∷ xs) ≡ 0 = (Decides-eqb (length (x ∷ xs)) 0).0 h in
    omega (arith, none)

pub standing-alone : (e : ExprTree Text) (ps : List PostNode) → (length ps == 0) ≡ true → e ≡ standing e (posts_of ps)
standing-alone e [] h = refl
standing-alone e (p ∷ ps) h = absurd (none-behind p ps h)

standing-several : (e : ExprTree Text) (ps : List PostNode) → (length ps == 0) ≡ false → Postfixed e (posts_of ps) ≡ standing e (posts_of ps)
standing-several e [] h = absurd (let f : true ≡ false = h in cc)
standing-several e (p ∷ ps) h = refl

some-behind : (ps : List PostNode) → (length ps == 0) ≡ false → HasPosts (posts_of ps)
some-behind [] h = absurd (let f : true ≡ false = h in cc)
some-behind (p ∷ ps) h = tt

spelt-standing : (e : ExprTree Text) (ps : Posts Text) → ExprSpelt IsNear ⊥ (standing e ps) → ExprSpelt IsNear ⊥ e × PostsSpelt IsNear ⊥ ps
spelt-standing e NoPosts h = (h, tt)
spelt-standing e (Post p rest) h = (h.1, h.2)

-- what is made of a base, and of what stands behind it
pub front-made : (ss : Scopes) (e : ExprTree Text) (ps : List PostNode) (t r : Option Typed) → (length ps == 0) ≡ false
    → (IsSimple (IsFound ss) e → ExprSpelt IsNear ⊥ e → StandsFor t (λ m. leaves_of ss m e))
    → ((f : Times → ExprTree Variable) (b : Base Variable) → StandsFor t f → StandsAt f b → HasPosts (posts_of ps) → AreSimplePosts (IsFound ss) (posts_of ps) → PostsSpelt IsNear ⊥ (posts_of ps)
    → StandsFor r (λ m. built ss b (posts_of ps) (f Once)))
    → IsSimple (IsFound ss) (standing e (posts_of ps)) → ExprSpelt IsNear ⊥ (standing e (posts_of ps)) → StandsFor r (λ m. leaves_of ss m (standing e (posts_of ps)))
front-made ss e ps t r several base made simple near =
    let some = some-behind ps several in
    let h = simple-standing (IsFound ss) e (posts_of ps) simple in
    let n = spelt-standing e (posts_of ps) near in
    let stands = made (λ m. leaves_of ss m e) (base_of (renamed_expr (leaf_in ss) e)) (base h.0 n.0) (stands-at ss (IsFound ss) e h.0) some h.1 n.1 in
    subst (λ x. StandsFor r (λ m. leaves_of ss m x)) (standing-several e ps several) (posts-whole ss (IsFound ss) r e (posts_of ps) h.1 some stands)

pub alone-told : (ss : Scopes) (e : ExprTree Text) (ps : List PostNode) (r : Option Typed) (o p : Option Breach) → (length ps == 0) ≡ true
    → Tells (locales_or (bare_locales e) (type_of ss e)) (none_where (bare_locales e) (expr_breaches ss e)) r o p
    → Tells (type_of ss (Postfixed e (posts_of ps))) (expr_breaches ss (Postfixed e (posts_of ps))) r o p
alone-told ss e [] r o p h told = (told.0, told.1 ∙ ap (least_from o) (sym (append-nil (none_where (bare_locales e) (expr_breaches ss e)))))
alone-told ss e (x ∷ xs) r o p h told = absurd (none-behind x xs h)

-- ---- types and breaches
module _ (ss : Scopes) where
  low-type : (ps : Posts Text) (x : ExprTree Text) (k : LowTree) → posts_low ps x ≡ Some k → (last : Place) (t : Option ValueType)
      → posts_type ss last t ps ≡ type_by (with_type (posts_type ss last t (front_of ps)) (word_verdict k.at (bound_word k.bound)))
  low-type NoPosts x k e last t = absurd (none-some k e)
  low-type (Post p NoPosts) x k e last t = ap (λ p. type_by (post_verdict ss last p t)) (low-post p x k e).1
  low-type (Post p (Post q rest)) x k e last t = low-type (Post q rest) x k e (last_of_post p) (type_by (post_verdict ss last p t))

  low-breaches : (ps : Posts Text) (x : ExprTree Text) (k : LowTree) → posts_low ps x ≡ Some k → (last : Place) (t : Option ValueType)
      → posts_breaches ss last t ps ≡ posts_breaches ss last t (front_of ps) ++ broken_by (with_type (posts_type ss last t (front_of ps)) (word_verdict k.at (bound_word k.bound)))
  low-breaches NoPosts x k e last t = absurd (none-some k e)
  low-breaches (Post p NoPosts) x k e last t =
      append-nil (post_breaches ss p ++ broken_by (post_verdict ss last p t))
      ∙ ap (λ p. post_breaches ss p ++ broken_by (post_verdict ss last p t)) (low-post p x k e).1
  low-breaches (Post p (Post q rest)) x k e last t =
      let own = post_breaches ss p ++ broken_by (post_verdict ss last p t) in
      let u = type_by (post_verdict ss last p t) in
      ap (λ bs. own ++ bs) (low-breaches (Post q rest) x k e (last_of_post p) u)
      ∙ sym (append_assoc own (posts_breaches ss (last_of_post p) u (front_of (Post q rest))) _)

  -- where a map starts: behind a domain, and behind anything else
  ended-start : (rank : Option ℕ) (word : Place) (e x : ExprTree Text) (ps : Posts Text) (l : LowNode) → posts_low ps (Postfixed e (front_of ps)) ≡ Some (low_at x l) → x ≡ Postfixed e (front_of ps)
      → (o : Option (ℕ × Bool)) → expr_breaches ss x ++ ended_by rank word (first_of e) l (type_of ss x) o ≡ domain_start ss rank word (Postfixed e ps) (low_at x l) o
  ended-start rank word e x ps l is same (Some d) = refl
  ended-start rank word e x ps l is same None =
      let of = Postfixed e (front_of ps) in
      let t = locales_or (bare_locales e) (type_of ss e) in
      let own = none_where (bare_locales e) (expr_breaches ss e) in
      let v = low_verdict l (type_of ss of) in
      let whole = ap (λ bs. own ++ bs) (low-breaches ps of (low_at x l) is (last_of e) t) ∙ sym (append_assoc own (posts_breaches ss (last_of e) t (front_of ps)) (broken_by v)) in
      ap (λ x. expr_breaches ss x ++ ended_by rank word (first_of e) l (type_of ss x) None) same
      ∙ sym (append_assoc (expr_breaches ss of) (broken_by v) (int_start rank word (first_of e) (type_by v)))
      ∙ ap (λ bs. bs ++ int_start rank word (first_of e) (type_by v)) (sym whole)
      ∙ ap (λ t. expr_breaches ss (Postfixed e ps) ++ int_start rank word (first_of e) t) (sym (low-type ps of (low_at x l) is (last_of e) t))

  pub low-told : (rank : Option ℕ) (word : Place) (s e : ExprTree Text) (ps : Posts Text) (l : LowLast) (o p : Option Breach) → s ≡ Postfixed e ps → expr_view l.base.now ≡ e
      → low_of (Postfixed (expr_view l.base.now) ps) ≡ low_last_view (expr_view l.base.now) (Some l) → posts_of l.behind.now ≡ front_of ps
      → p ≡ least_from o (ended_told ss rank word l) → p ≡ least_from o (low_start ss rank word s (low_of s))
  low-told rank word s e ps l o p whole is low front told =
      let base = expr_view l.base.now in
      let of = front_tree l in
      told ∙ ap (least_from o) (ended-start rank word base of ps l.low low (ap (Postfixed base) front) (domain_in (type_of ss of))
      ∙ ap (low_start ss rank word (Postfixed base ps)) (sym low)
      ∙ ap (λ e. low_start ss rank word (Postfixed e ps) (low_of (Postfixed e ps))) is
      ∙ ap (λ s. low_start ss rank word s (low_of s)) (sym whole))

  -- ---- deeds: `low` itself does nothing
  low-idle : (ps : Posts Text) (x : ExprTree Text) (k : LowTree) → posts_low ps x ≡ Some k → posts_deeds ss ps ≡ posts_deeds ss (front_of ps)
  low-idle NoPosts x k e = absurd (none-some k e)
  low-idle (Post p NoPosts) x k e = append-nil (post_deeds ss p) ∙ ap (post_deeds ss) (low-post p x k e).1
  low-idle (Post p (Post q rest)) x k e = ap (λ ds. post_deeds ss p ++ ds) (low-idle (Post q rest) x k e)

  pub low-done : (s e : ExprTree Text) (ps : Posts Text) (l : LowLast) (old new : List DeedNode) → s ≡ Postfixed e ps → expr_view l.base.now ≡ e → posts_of l.posts.now ≡ ps
      → low_of (Postfixed (expr_view l.base.now) ps) ≡ low_last_view (expr_view l.base.now) (Some l) → posts_of l.behind.now ≡ front_of ps
      → Adds (front_deeds ss l) old new → Adds (expr_deeds ss s) old new
  low-done s e ps l old new whole is all low front added =
      let base = expr_view l.base.now in
      let own = λ (qs : Posts Text). base_deeds ss (base_of base) qs (expr_deeds ss base) in
      added ∙ ap (λ ds. map deed_view old ++ ds) (ap (λ qs. own qs ++ posts_deeds ss (posts_of l.behind.now)) all
      ∙ ap (λ qs. own ps ++ posts_deeds ss qs) front
      ∙ ap (λ ds. own ps ++ ds) (sym (low-idle ps (Postfixed base (front_of ps)) (low_at (front_tree l) l.low) low))
      ∙ ap (λ e. expr_deeds ss (Postfixed e ps)) is
      ∙ ap (expr_deeds ss) (sym whole))

-- ---- what is found behind anything but a domain is an int, where nothing was told
none-known : AreKnown []
none-known x d e = absurd (none-some d e)

word-typed : (at : Place) (w : Word) (o : Option ValueType) → IsTyped o → broken_by (with_type o (word_verdict at w)) ≡ [] → IsTyped (type_by (with_type o (word_verdict at w)))
word-typed at w o typed none =
    let told : IsTold (with_type o (word_verdict at w)) = post-told [] none-known (Dotted at (Plainly at w)) at o typed refl in
    told-typed (with_type o (word_verdict at w)) told none

pub low-int : (ss : Scopes) (e : ExprTree Text) (ps : Posts Text) (of found : Option Typed) (rank : Option ℕ) (word from at : Place) (w : Word) (o p q r : Option Breach)
    → Tells (type_of ss (Postfixed e ps)) (expr_breaches ss (Postfixed e ps)) of o p → Tells (type_by (with_type (types_of of) (word_verdict at w))) (broken_by (with_type (types_of of) (word_verdict at w))) found p q
    → r ≡ least_from q (int_start rank word from (types_of found)) → r ≡ None → IsSimple (IsFound ss) (standing e ps) → has is_int (types_of found) ≡ true
low-int ss e ps of found rank word from at w o p q r front last starts none simple =
    let start = unbroken q (int_start rank word from (types_of found)) (sym starts ∙ none) in
    let here = unbroken p (broken_by (with_type (types_of of) (word_verdict at w))) (sym last.1 ∙ start.0) in
    let own = unbroken o (expr_breaches ss (Postfixed e ps)) (sym front.1 ∙ here.0) in
    let parts = simple-standing (IsFound ss) e ps simple in
    let before = subst IsTyped (sym front.0) (postfixed-typed ss e ps parts.0 parts.1 own.1) in
    let type = subst IsTyped (sym last.0) (word-typed at w (types_of of) before here.1) in
    int-met rank word from (types_of found) type start.1

-- ---- what is told, behind a domain and behind anything else
pub domain-told : (ss : Scopes) (rank : Option ℕ) (word : Place) (l : LowLast) (d : FoundDomain) (of : Option Typed) (o p q : Option Breach)
    → Tells (type_of ss (front_tree l)) (expr_breaches ss (front_tree l)) of o p → dimensions_in (Some d) ≡ domain_in (types_of of)
    → q ≡ least_from p (low_owed rank word d.rank d.strided l.low) → q ≡ least_from o (ended_told ss rank word l)
domain-told ss rank word l d of o p q front is told =
    let x = front_tree l in
    let own = low_owed rank word d.rank d.strided l.low in
    told ∙ ap (λ p. least_from p own) front.1 ∙ sym (least_from_append o (expr_breaches ss x) own)
    ∙ ap (λ d. least_from o (expr_breaches ss x ++ ended_by rank word (first_of (expr_view l.base.now)) l.low (type_of ss x) d)) (is ∙ ap domain_in front.0)

pub int-told : (ss : Scopes) (rank : Option ℕ) (word from : Place) (l : LowLast) (w : Word) (of found : Option Typed) (o p q r : Option Breach)
    → Tells (type_of ss (front_tree l)) (expr_breaches ss (front_tree l)) of o p → dimensions_in None ≡ domain_in (types_of of) → w ≡ bound_word l.low.bound
    → Tells (type_by (with_type (types_of of) (word_verdict l.low.at w))) (broken_by (with_type (types_of of) (word_verdict l.low.at w))) found p q → from ≡ first_of (expr_view l.base.now)
    → r ≡ least_from q (int_start rank word from (types_of found)) → r ≡ least_from o (ended_told ss rank word l)
int-told ss rank word from l w of found o p q r front is called last at told =
    let x = front_tree l in
    let begun = first_of (expr_view l.base.now) in
    let v = low_verdict l.low (type_of ss x) in
    let verdict = ap (λ w. with_type (types_of of) (word_verdict l.low.at w)) called ∙ ap (low_verdict l.low) front.0 in
    let int = int_start rank word begun (type_by v) in
    told
    ∙ ap (λ at. least_from q (int_start rank word at (types_of found))) at
    ∙ ap (λ t. least_from q (int_start rank word begun t)) (last.0 ∙ ap type_by verdict)
    ∙ ap (λ q. least_from q int) (last.1 ∙ ap (λ v. least_from p (broken_by v)) verdict ∙ ap (λ p. least_from p (broken_by v)) front.1)
    ∙ sym (least_from_append (least_from o (expr_breaches ss x)) (broken_by v) int)
    ∙ sym (least_from_append o (expr_breaches ss x) (broken_by v ++ int))
    ∙ ap (λ d. least_from o (expr_breaches ss x ++ ended_by rank word begun l.low (type_of ss x) d)) (is ∙ ap domain_in front.0)

-- ---- what is made
pub ended-int : (ss : Scopes) (e : ExprTree Text) (l : LowNode) (w : Word) (found : Option Typed) (r : Option StartNode) → w ≡ bound_word l.bound → has is_int (types_of found) ≡ true
    → IsArgument found (dotted (leaves_of ss Once e) (Plainly (kept (is_end w) l.at) w)) → IsIntStart found r → IsEnded ss e l r
ended-int ss e l w found None word is node made = unfailed (has is_int (types_of found)) is made
ended-int ss e l w found (Some s) word is node made =
    made (dotted (leaves_of ss Once e) (Plainly (kept (is_end w) l.at) w)) node
    ∙ ap (λ w. StartExpr (dotted (leaves_of ss Once e) (Plainly (kept (is_end w) l.at) w))) word
    ∙ ap (λ at. StartExpr (dotted (leaves_of ss Once e) (Plainly at (bound_word l.bound)))) (kept-low l.bound l.at)

-- ---- AS IT IS RUN: what a fault tells of a base is told by the first that stands behind it
told-first : (p : PostTree Variable) (r s : Posts Variable) (b : Base Variable) → told_base known_variable (Post p r) b ≡ told_base known_variable (Post p s) b
told-first (Brackets from items upto) r s (BaseName x) = refl
told-first (Brackets from items upto) r s (BaseLocales at) = refl
told-first (Brackets from items upto) r s OtherBase = refl
told-first (Rounds from es upto) r s (BaseName x) = refl
told-first (Rounds from es upto) r s (BaseLocales at) = refl
told-first (Rounds from es upto) r s OtherBase = refl
told-first (Dotted dot m) r s b = refl

module _ (ss : Scopes) (Holds : Text → Type 0) where
  -- nothing simple reads a cell
  post-unread : (p : PostTree Text) → IsSimplePost Holds p → post_read (renamed_post (leaf_in ss) p) ≡ None
  post-unread (Dotted dot (CellRead at w from upto)) h = absurd h
  post-unread _ h = refl

  front-unread : (p q : PostTree Text) (rest : Posts Text) → IsSimplePost Holds p → posts_read (Post (renamed_post (leaf_in ss) p) (renamed_posts (leaf_in ss) (front_of (Post q rest)))) ≡ None
  front-unread p q NoPosts h = post-unread p h
  front-unread p q (Post r rest) h = refl

  -- so the base before a front is the base before all
  front-based : (p q : PostTree Text) (rest : Posts Text) (e lowered : ExprTree Variable) → IsSimplePost Holds p
      → based known_variable (renamed_posts (leaf_in ss) (Post p (Post q rest))) e lowered ≡ based known_variable (renamed_posts (leaf_in ss) (Post p (front_of (Post q rest)))) e lowered
  front-based p q rest e lowered h =
      let first = renamed_post (leaf_in ss) p in
      let front = renamed_posts (leaf_in ss) (front_of (Post q rest)) in
      ap (λ b. rebased b lowered) (told-first first (renamed_posts (leaf_in ss) (Post q rest)) front (base_of e))
      ∙ ap (λ o. read_base o (bare_name e) (rebased (told_base known_variable (Post first front) (base_of e)) lowered)) (sym (front-unread p q rest h))

  -- `low` alone, and as the last of several
  low-alone : (e : ExprTree Text) (dot at : Place) (b : Bool) → leaves_of ss Once (Postfixed e (Post (Dotted dot (Plainly at (bound_word b))) NoPosts)) ≡ dotted (leaves_of ss Once e) (Plainly at (bound_word b))
  low-alone e dot at true = refl
  low-alone e dot at false = refl

  low-last : (x : ExprTree Variable) (dot at : Place) (b : Bool) → Postfixed x (Post (post_leaves ss OtherBase (Dotted dot (Plainly at (bound_word b)))) NoPosts) ≡ dotted x (Plainly at (bound_word b))
  low-last x dot at true = refl
  low-last x dot at false = refl

  low-stacked : (x : ExprTree Variable) (ps : Posts Text) (e : ExprTree Text) (k : LowTree) → posts_low ps e ≡ Some k
      → stacked_on x (posts_leaves ss OtherBase ps) ≡ dotted (stacked_on x (posts_leaves ss OtherBase (front_of ps))) (Plainly k.at (bound_word k.bound))
  low-stacked x NoPosts e k is = absurd (none-some k is)
  low-stacked x (Post p NoPosts) e k is =
      let last = low-post p e k is in
      ap (λ p. Postfixed x (Post (post_leaves ss OtherBase p) NoPosts)) last.1 ∙ low-last x last.0 k.at k.bound
  low-stacked x (Post p (Post q rest)) e k is = low-stacked (Postfixed x (Post (post_leaves ss OtherBase p) NoPosts)) (Post q rest) e k is

  low-leaves : (e : ExprTree Text) (ps : Posts Text) (x : ExprTree Text) (k : LowTree) → posts_low ps x ≡ Some k → AreSimplePosts Holds ps
      → leaves_of ss Once (Postfixed e ps) ≡ dotted (leaves_of ss Once (standing e (front_of ps))) (Plainly k.at (bound_word k.bound))
  low-leaves e NoPosts x k is simple = absurd (none-some k is)
  low-leaves e (Post p NoPosts) x k is simple =
      let last = low-post p x k is in
      ap (λ p. leaves_of ss Once (Postfixed e (Post p NoPosts))) last.1 ∙ low-alone e last.0 k.at k.bound
  low-leaves e (Post p (Post q rest)) x k is simple =
      let leaf = renamed_expr (leaf_in ss) e in
      let lowered = lowered_expr known_variable Once leaf in
      let first : Posts Variable = Post (post_leaves ss (base_of leaf) p) NoPosts in
      low-stacked (Postfixed (based known_variable (renamed_posts (leaf_in ss) (Post p (Post q rest))) leaf lowered) first) (Post q rest) x k is
      ∙ ap (λ b. dotted (stacked_on (Postfixed b first) (posts_leaves ss OtherBase (front_of (Post q rest)))) (Plainly k.at (bound_word k.bound))) (front-based p q rest leaf lowered simple.0)

-- ---- a start that ends so stands for the whole expression
started : (ss : Scopes) (e x : ExprTree Text) (ps : Posts Text) (k : LowTree) (l : LowNode) (r : Option StartNode) → posts_low ps x ≡ Some k → k.at ≡ l.at → k.bound ≡ l.bound → AreSimplePosts (IsFound ss) ps
    → IsEnded ss (standing e (front_of ps)) l r → IsStartAs ss (StartExpr (Postfixed e ps)) r
started ss e x ps k l None low at bound simple h = h
started ss e x ps k l (Some s) low at bound simple h =
    let of = leaves_of ss Once (standing e (front_of ps)) in
    h ∙ ap (λ at. StartExpr (dotted of (Plainly at (bound_word l.bound)))) (sym at) ∙ ap (λ b. StartExpr (dotted of (Plainly k.at (bound_word b)))) (sym bound)
    ∙ ap StartExpr (sym (low-leaves ss (IsFound ss) e ps x k low simple))

pub low-started : (ss : Scopes) (e : ExprTree Text) (ps : Posts Text) (l : LowLast) (r : Option StartNode) → expr_view l.base.now ≡ e
    → low_of (Postfixed (expr_view l.base.now) ps) ≡ low_last_view (expr_view l.base.now) (Some l) → posts_of l.behind.now ≡ front_of ps
    → (IsNear l.low.at → IsSimple (IsFound ss) (front_standing l) → ExprSpelt IsNear ⊥ (front_standing l) → IsEnded ss (front_standing l) l.low r)
    → IsSimple (IsFound ss) (Postfixed e ps) → ExprSpelt IsNear ⊥ (Postfixed e ps) → IsStartAs ss (StartExpr (Postfixed e ps)) r
low-started ss e ps l r is low front made =
    let base = expr_view l.base.now in
    let k = low_at (front_tree l) l.low in
    let of = Postfixed base (front_of ps) in
    subst (λ e. IsSimple (IsFound ss) (Postfixed e ps) → ExprSpelt IsNear ⊥ (Postfixed e ps) → IsStartAs ss (StartExpr (Postfixed e ps)) r) is
    (λ simple near.
    let before = subst (λ qs. IsSimple (IsFound ss) (standing base qs)) (sym front) (standing-simple (IsFound ss) base (front_of ps) simple.0 (front-simple (IsFound ss) ps simple.1)) in
    let spelt = subst (λ qs. ExprSpelt IsNear ⊥ (standing base qs)) (sym front) (standing-spelt base (front_of ps) near.1 (front-spelt ps near.2)) in
    started ss base of ps k l.low r low refl refl simple.1 (subst (λ qs. IsEnded ss (standing base qs) l.low r) front (made (low-near ps of k low near.2) before spelt)))
