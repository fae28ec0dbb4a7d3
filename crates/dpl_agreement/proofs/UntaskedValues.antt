-- Expressions without the words of tasks have the same values whatever the number of locales, and none is `Locales`.
-- So it is by any way to keep variables that holds no `Locales`. Free says here: is not `Locales`, or holds laws.
use Rattle.std.proofs.Common.{◌≡◌, ℕ, List, [], ◌∷◌, refl, ap, ◌∙◌, Ok, Err, Some, None, Result, Option, Bool, true, false}
use Rattle.std.specs.Prelude.{All, if◌then◌else◌, nat_lt, IfOk, IfSome, ◌||◌}
use Rattle.dpl_syntax.specs.declared.place.Place.{Place}
use Rattle.dpl_history.specs.declared.cell.CellOp.{CellOp}
use Rattle.dpl_sets.specs.TextRanges.{TextRange}
use Rattle.dpl_sets.specs.TextDomains.{text_expanded}
use Rattle.dpl_language.specs.Tree.{Placed, Op, Sum, Assign, Prefix, Minus, Not, Infix, Add, Word, First, Last, Low, High, LowBound}
use Rattle.dpl_language.specs.Tree.{ExprTree, Number, TruthWord, Named, LocalesWord, LocaleCount, HereWord, Grouped, DomainLiteral, Prefixed, Reduced, Chain, Postfixed, ItemTree, One, RangeItem, Stride, NoStride, By, Links, NoLinks, Link, Posts, NoPosts, Post, PostTree, Brackets, Rounds, Dotted, MethodTree, Plainly, Dim, Contains, Expand, CellRead, Items, FirstItem, MoreItems, NoItems, NextItem, Exprs, FirstExpr, MoreExprs, NoExprs, NextExpr}
use Rattle.dpl_language.specs.Values.{Value, Range, Domain, Array, AllLocales, Index, number, ranges_in, all_ranges, index_of, array_domain, Fault, fault, Budget, PastLimit}
use Rattle.dpl_language.specs.Arithmetic.{prefix_of, infix_of, divides, tested_divisor, decides, combined, unit_of}
use Rattle.dpl_language.specs.Ranges.{indices_in, size_in, too_many, bounded, strided_by, sized, bounds_past_limit, members_of_first, first_of, last_of, least_of, greatest_of, end_of, least_in, tuple_or_end, low_of, method_of}
use Rattle.dpl_language.specs.Distributions.{Root}
use Rattle.dpl_language.specs.Outcome.{with_ok, naming_value}
use Rattle.dpl_language.specs.Environment.{Content, Plain, ArrayOf, CellOf, Answer, Replied, Unanswered, Environment, Limits}
use Rattle.dpl_language.specs.Phrases.{Base, BaseName, BaseLocales, OtherBase, base_of}
use Rattle.dpl_language.specs.Expressions.{found, folded, fold_over, reduction, unless_decided, whole_in, element_of, named, bracketed, value_of, chained, item_of, stridden, items_of, more_items, values_of, more_values, behind, post_of, answer_of, domain_of}
use Rattle.dpl_agreement.specs.Untasked.{UntaskedExpr, UntaskedItem, UntaskedStride, UntaskedLinks, UntaskedPosts, UntaskedPost, UntaskedMethod, UntaskedItems, UntaskedMoreItems, UntaskedExprs, UntaskedMoreExprs}
use Rattle.dpl_agreement.proofs.RunsAlike.{with_ok-same}

-- a value other than `Locales`; and what a declaration makes that holds no `Locales`
abbrev pub NotLocales : Value → Type 0
NotLocales AllLocales = ⊥
NotLocales _ = Unit {0}

abbrev pub NoLocalesIn : {N : Type 0} → Content N → Type 0
NoLocalesIn (Plain v) = NotLocales v
NoLocalesIn (ArrayOf over k rs vs) = All NotLocales vs
NoLocalesIn (CellOf k c) = Unit {0}

-- P holds of the state behind an operation
abbrev pub HoldsBehind : {S : Type 0} → (S → Type 0) → Answer S → Type 0
HoldsBehind P (Replied c r s) = P s
HoldsBehind P (Unanswered c) = Unit {0}

-- A way to keep variables holds no `Locales` where P says so: what is asked of such a state is no `Locales`, and each step
-- that a program without tasks takes leads to such a state.
pub record HoldsNoLocales {N S : Type 0} (env : Environment N S) (P : S → Type 0) : Type 0 where
  pub gets : (x : N) (s : S) → P s → NotLocales (env.get x s)
  pub elements : (x : N) (t : Index) (s : S) → P s → IfSome (env.element x t s) NotLocales
  pub gives : (x : N) (s : S) → P s → IfSome (env.given x s) NotLocales
  pub updates : (x : N) (op : Assign) (v : Value) (s : S) → P s → NotLocales v → P (env.update x op v s)
  pub puts : (x : N) (t : Index) (v : Value) (s : S) → P s → NotLocales v → P (env.put_element x t v s)
  pub declares : (x : N) (c : Content N) (s : S) → P s → NoLocalesIn c → P (env.declare x c s)
  pub deals : (x : N) (root : Root) (s : S) → P s → P (env.deal x root s)
  pub redomains : (x : N) (rs : List TextRange) (s : S) → P s → P (env.redomain x rs s)
  pub enters : (s : S) → P s → P (env.enter s)
  pub leaves : (s : S) → P s → P (env.leave s)
  pub intends : (is : List (N × Op)) (s : S) → P s → P (env.intend is s)
  pub calls : (x : N) (op : CellOp) (s : S) → P s → HoldsBehind P (env.call x op s)

-- WHAT OPERATORS AND METHODS MAKE
infix_of-free : (op : Infix) (v w : Value) → NotLocales (infix_of op v w)
infix_of-free Add v w = tt
infix_of-free _ v w = tt

prefix_of-free : (op : Prefix) (v : Value) → NotLocales (prefix_of op v)
prefix_of-free Minus v = tt
prefix_of-free Not v = tt

pub combined-free : (op : Op) (v w : Value) → NotLocales (combined op v w)
combined-free Sum v w = tt
combined-free _ v w = tt

unit_of-free : (op : Op) → NotLocales (unit_of op)
unit_of-free Sum = tt
unit_of-free _ = tt

-- a fault in the place of a value, where a test says so
pub tested-free : (b : Bool) (f : Fault) (v : Value) → NotLocales v → IfOk {E = Fault} (if b then Err f else Ok v) NotLocales
tested-free true f v h = tt
tested-free false f v h = h

end_of-free : (at : Place) (pick : _) (is : _) → IfOk (end_of at pick is) NotLocales
end_of-free at pick [] = tt
end_of-free at pick (i ∷ is) = tt

tuple_or_end-free : (at : Place) (o : Option Index) → IfOk (tuple_or_end at o) NotLocales
tuple_or_end-free at None = tt
tuple_or_end-free at (Some t) = tt

low_of-free : (at : Place) (v : Value) → IfOk (low_of at v) NotLocales
low_of-free at (Range r) = end_of-free at least_of (members_of_first (r ∷ []))
low_of-free at (Domain rs) = tuple_or_end-free at (least_in rs)
low_of-free at (Array k rs) = end_of-free at least_of (members_of_first rs)
low_of-free at _ = tt

method_of-free : (w : Word) (at : Place) (v : Value) → IfOk (method_of w at v) NotLocales
method_of-free First at v = end_of-free at first_of (members_of_first (ranges_in v))
method_of-free Last at v = end_of-free at last_of (members_of_first (ranges_in v))
method_of-free Low at v = low_of-free at v
method_of-free High at v = end_of-free at greatest_of (members_of_first (ranges_in v))
method_of-free LowBound at v = low_of-free at v
method_of-free _ at v = tt

pub found-free : (at : Place) (o : Option Value) → IfSome o NotLocales → IfOk (found at o) NotLocales
found-free at None h = tt
found-free at (Some v) h = h

-- the same value or fault, and Q of the value
abbrev pub SameOk : {A : Type 0} → (A → Type 0) → Result A Fault → Result A Fault → Type 0
SameOk Q a b = (a ≡ b) × IfOk a Q

abbrev pub SameFree : Result Value Fault → Result Value Fault → Type 0
SameFree = SameOk NotLocales

pub with_ok-of : {A B : Type 0} (P : A → Type 0) (Q : B → Type 0) (a b : Result A Fault) (f h : A → Result B Fault) → SameOk P a b → ((v : A) → P v → SameOk Q (f v) (h v)) → SameOk Q (with_ok a f) (with_ok b h)
with_ok-of P Q (Ok v) b f h e p = ((p v e.1).0 ∙ ap (λ b. with_ok b h) e.0, (p v e.1).1)
with_ok-of P Q (Err x) b f h e p = (ap (λ b. with_ok b h) e.0, tt)

-- the same, where nothing is asked of the first value
with_ok-any : {A B : Type 0} (Q : B → Type 0) (a b : Result A Fault) (f h : A → Result B Fault) → a ≡ b → ((v : A) → SameOk Q (f v) (h v)) → SameOk Q (with_ok a f) (with_ok b h)
with_ok-any Q (Ok v) b f h e p = ((p v).0 ∙ ap (λ b. with_ok b h) e, (p v).1)
with_ok-any Q (Err x) b f h e p = (ap (λ b. with_ok b h) e, tt)

unless_decided-free : (b : Bool) (v : Value) (r q : Result Value Fault) → NotLocales v → SameFree r q → SameFree (unless_decided b v r) (unless_decided b v q)
unless_decided-free true v r q h e = (refl, h)
unless_decided-free false v r q h e = e

-- a domain of the same items
domain-free : (at : Place) (a b : Result (List Value) Fault) → a ≡ b → SameFree (with_ok a (λ vs. sized at (all_ranges vs))) (with_ok b (λ vs. sized at (all_ranges vs)))
domain-free at a b e = with_ok-any NotLocales a b _ _ e (λ vs. (refl, tested-free (too_many (all_ranges vs)) (fault PastLimit at) (Domain (all_ranges vs)) tt))

-- REDUCTIONS
folded-free : (op : Op) (a b : Index → Result Value Fault) (ts : List Index) (so_far : Value) → ((t : Index) → a t ≡ b t) → NotLocales so_far → SameFree (folded op a ts so_far) (folded op b ts so_far)
folded-free op a b [] so_far p h = (refl, h)
folded-free op a b (t ∷ ts) so_far p h =
    with_ok-any NotLocales (a t) (b t) _ _ (p t) (λ v. folded-free op a b ts (combined op so_far v) p (combined-free op so_far v))

reduction-free : (budget : ℕ) (at : Place) (op : Op) (a b : Index → Result Value Fault) (o : Option (List TextRange)) → ((t : Index) → a t ≡ b t) → SameFree (reduction budget at op a o) (reduction budget at op b o)
reduction-free budget at op a b None p = (refl, unit_of-free op)
reduction-free budget at op a b (Some rs) p = by (nat_lt budget (size_in rs))
  where
    by : (c : Bool) → SameFree (if c then Err (fault Budget at) else fold_over op a rs) (if c then Err (fault Budget at) else fold_over op b rs)
    by true = (refl, tt)
    by false = folded-free op (λ t. naming_value t (a t)) (λ t. naming_value t (b t)) (indices_in rs) (unit_of op) (λ t. ap (naming_value t) (p t)) (unit_of-free op)

module _ {N S : Type 0} (budget l m : ℕ) (env : Environment N S) (P : S → Type 0) (laws : HoldsNoLocales env P) where
  -- two numbers of locales
  abbrev one : Limits
  one = record { budget = budget; locales = l }

  abbrev other : Limits
  other = record { budget = budget; locales = m }

  element_of-free : (b : Base N) (t : Index) (s : S) → P s → SameFree (element_of one env b t s) (element_of other env b t s)
  element_of-free (BaseName x) t s k = (refl, found-free x.at (env.element x.name t s) (laws.elements x.name t s k))
  element_of-free (BaseLocales at) t s k = (refl, tt)
  element_of-free OtherBase t s k = (refl, tt)

  named-free : (t : Option Index) (x : Placed N) (o : Option (List TextRange)) (v : Value) (s : S) → P s → NotLocales v → SameFree (named one env t x o v s) (named other env t x o v s)
  named-free None x o v s k h = (refl, h)
  named-free (Some t) x None v s k h = (refl, h)
  named-free (Some t) x (Some rs) v s k h = (refl, found-free x.at (env.element x.name t s) (laws.elements x.name t s k))

  -- only of `Locales` itself brackets give a locale, by how many there are
  bracketed-free : (b : Base N) (vs : List Value) (v : Value) (s : S) → P s → NotLocales v → SameFree (bracketed one env b vs v s) (bracketed other env b vs v s)
  bracketed-free b vs (Array kind rs) s k h = element_of-free b (index_of vs) s k
  bracketed-free b vs AllLocales s k h = absurd h
  bracketed-free b vs _ s k h = (refl, tt)

  mutual
    pub value_of-free : (e : ExprTree N) (t : Option Index) (s : S) → UntaskedExpr e → P s → SameFree (value_of one env e t s) (value_of other env e t s)
    value_of-free (Number at n) t s u k = (refl, tt)
    value_of-free (TruthWord at b) t s u k = (refl, tt)
    value_of-free (Named x) t s u k = named-free t x (array_domain (env.get x.name s)) (env.get x.name s) s k (laws.gets x.name s k)
    value_of-free (LocalesWord at) t s u k = absurd u
    value_of-free (LocaleCount at) t s u k = absurd u
    value_of-free (HereWord at) t s u k = absurd u
    value_of-free (Grouped from item upto) t s u k = item_of-free item t s u k
    value_of-free (DomainLiteral from items upto) t s u k = domain-free from _ _ (items_of-same items s u k)
    value_of-free (Prefixed at op e) t s u k = with_ok-any NotLocales _ _ _ _ (value_of-free e t s u k).0 (λ v. (refl, prefix_of-free op v))
    value_of-free (Reduced at op word e) t s u k =
        reduction-free budget word op _ _ (whole_in one env e s) (λ i. (value_of-free e (Some i) s u k).0)
    value_of-free (Chain e rest) t s u k = with_ok-of NotLocales NotLocales _ _ _ _ (value_of-free e t s u.0 k) (λ v h. chained-free rest t s v u.1 k h)
    value_of-free (Postfixed e posts) t s u k =
        with_ok-of NotLocales NotLocales _ _ _ _ (value_of-free e None s u.0 k) (λ v h. behind-free posts (base_of e) s v u.1 k h)

    chained-free : (ls : Links N) (t : Option Index) (s : S) (v : Value) → UntaskedLinks ls → P s → NotLocales v → SameFree (chained one env ls t s v) (chained other env ls t s v)
    chained-free NoLinks t s v u k h = (refl, h)
    chained-free (Link at op e rest) t s v u k h =
        unless_decided-free (decides op v) v _ _ h
        (with_ok-any NotLocales _ _ _ _ (value_of-free e t s u.0 k).0
        (λ w. with_ok-any NotLocales (tested_divisor (divides op) at w) _ _ _ refl (λ w. chained-free rest t s (infix_of op v w) u.1 k (infix_of-free op v w))))

    pub item_of-free : (i : ItemTree N) (t : Option Index) (s : S) → UntaskedItem i → P s → SameFree (item_of one env i t s) (item_of other env i t s)
    item_of-free (One e) t s u k = value_of-free e t s u k
    item_of-free (RangeItem low at dots high by) t s u k =
        with_ok-any NotLocales _ _ _ _ (value_of-free low None s u.0 k).0
        (λ v. with_ok-any NotLocales _ _ _ _ (value_of-free high None s u.1 k).0
        (λ w. stridden-free by (bounded at dots (number v) (number w)) s u.2 k))

    stridden-free : (by : Stride N) (range : Result TextRange Fault) (s : S) → UntaskedStride by → P s → SameFree (stridden one env by range s) (stridden other env by range s)
    stridden-free NoStride range s u k = with_ok-any NotLocales range range _ _ refl (λ r. (refl, tt))
    stridden-free (By at e) range s u k =
        with_ok-any NotLocales _ _ _ _ (value_of-free e None s u k).0
        (λ v. with_ok-any NotLocales range range _ _ refl (λ r. with_ok-any NotLocales (strided_by at (number v) r) _ _ _ refl (λ q. (refl, tt))))

    items_of-same : (is : Items N) (s : S) → UntaskedItems is → P s → items_of one env is s ≡ items_of other env is s
    items_of-same (FirstItem i more) s u k =
        with_ok-same _ _ _ _ (item_of-free i None s u.0 k).0 (λ v. with_ok-same _ _ _ _ (more_items-same more s u.1 k) (λ vs. refl))

    more_items-same : (is : MoreItems N) (s : S) → UntaskedMoreItems is → P s → more_items one env is s ≡ more_items other env is s
    more_items-same NoItems s u k = refl
    more_items-same (NextItem comma i more) s u k =
        with_ok-same _ _ _ _ (item_of-free i None s u.0 k).0 (λ v. with_ok-same _ _ _ _ (more_items-same more s u.1 k) (λ vs. refl))

    pub values_of-same : (es : Exprs N) (s : S) → UntaskedExprs es → P s → values_of one env es s ≡ values_of other env es s
    values_of-same (FirstExpr e more) s u k =
        with_ok-same _ _ _ _ (value_of-free e None s u.0 k).0 (λ v. with_ok-same _ _ _ _ (more_values-same more s u.1 k) (λ vs. refl))

    more_values-same : (es : MoreExprs N) (s : S) → UntaskedMoreExprs es → P s → more_values one env es s ≡ more_values other env es s
    more_values-same NoExprs s u k = refl
    more_values-same (NextExpr comma e more) s u k =
        with_ok-same _ _ _ _ (value_of-free e None s u.0 k).0 (λ v. with_ok-same _ _ _ _ (more_values-same more s u.1 k) (λ vs. refl))

    behind-free : (ps : Posts N) (b : Base N) (s : S) (v : Value) → UntaskedPosts ps → P s → NotLocales v → SameFree (behind one env ps b s v) (behind other env ps b s v)
    behind-free NoPosts b s v u k h = (refl, h)
    behind-free (Post p rest) b s v u k h =
        with_ok-of NotLocales NotLocales _ _ _ _ (post_of-free p b s v u.0 k h) (λ w h. behind-free rest OtherBase s w u.1 k h)

    post_of-free : (p : PostTree N) (b : Base N) (s : S) (v : Value) → UntaskedPost p → P s → NotLocales v → SameFree (post_of one env p b s v) (post_of other env p b s v)
    post_of-free (Brackets from items upto) b s v u k h = with_ok-any NotLocales _ _ _ _ (items_of-same items s u k) (λ vs. bracketed-free b vs v s k h)
    post_of-free (Rounds from es upto) b s v u k h = with_ok-any NotLocales _ _ _ _ (values_of-same es s u k) (λ vs. element_of-free b (index_of vs) s k)
    post_of-free (Dotted dot w) b s v u k h = answer_of-free w s v u k h

    answer_of-free : (w : MethodTree N) (s : S) (v : Value) → UntaskedMethod w → P s → NotLocales v → SameFree (answer_of one env w s v) (answer_of other env w s v)
    answer_of-free (Plainly at w) s v u k h = (refl, method_of-free w at v)
    answer_of-free (Dim at from rank_at d upto) s v u k h = (refl, tt)
    answer_of-free (Contains at from es upto) s v u k h = with_ok-any NotLocales _ _ _ _ (values_of-same es s u k) (λ vs. (refl, tt))
    answer_of-free (Expand at from e upto) s v u k h =
        with_ok-any NotLocales _ _ _ _ (value_of-free e None s u k).0
        (λ w. let rs = text_expanded (number w) (ranges_in v) in
        (refl, tested-free (bounds_past_limit rs || too_many rs) (fault PastLimit at) (Domain rs) tt))
    answer_of-free (CellRead at w from upto) s v u k h = (refl, h)

  pub domain_of-free : (from : Place) (is : Items N) (s : S) → UntaskedItems is → P s → SameFree (domain_of one env from is s) (domain_of other env from is s)
  domain_of-free from is s u k = domain-free from _ _ (items_of-same is s u k)
