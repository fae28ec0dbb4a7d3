-- Where each name in sight has a type of some kind, an expression that a text spells, that needs nothing which doesn't run and
-- that breaks no rule is simple, its names are in sight, and its type has a kind too.
use Rattle.std.proofs.Common.{◌≡◌, ℕ, suc, arith, ne_eqb, Bool, true, false, List, [], ◌∷◌, ◌++◌, length, is_some, Option, Some, None, refl, sym, ap, ◌∙◌, subst}
use Rattle.std.specs.Prelude.{nat_lt, ◌&&◌, ◌==◌}
use Rattle.std.proofs.lemmas.Option.{none-some}
use Rattle.std.proofs.lemmas.Bool.Decides.{nat_tests}
use Rattle.dpl_syntax.specs.declared.place.Place.{Place}
use Rattle.dpl_language.specs.Tree.{Placed, Kind, ReadWord, Infix, And, Or}
use Rattle.dpl_language.specs.Tree.{ExprTree, Number, TruthWord, Named, LocalesWord, LocaleCount, HereWord, Grouped, DomainLiteral, Prefixed, Reduced, Chain, Postfixed}
use Rattle.dpl_language.specs.Tree.{ItemTree, One, RangeItem, Stride, NoStride, By, Links, NoLinks, Link, Posts, NoPosts, Post, PostTree, Brackets, Rounds, Dotted}
use Rattle.dpl_language.specs.Tree.{MethodTree, Plainly, Dim, Contains, Expand, CellRead, Items, FirstItem, MoreItems, NoItems, NextItem, Exprs, FirstExpr, MoreExprs, NoExprs, NextExpr}
use Rattle.dpl_language.specs.Names.{Text}
use Rattle.dpl_spelling.specs.Spelt.{Level, Conjunctions, Disjunctions, level_of, AreOfLevel, IsOneLevel, ExprSpelt, ItemSpelt, StrideSpelt, LinksSpelt, PostsSpelt, PostSpelt, MethodSpelt, ItemsSpelt, MoreItemsSpelt, ExprsSpelt, MoreExprsSpelt}
use Rattle.dpl_agreement.specs.Untasked.{UntaskedExpr, UntaskedItem, UntaskedStride, UntaskedLinks, UntaskedPosts, UntaskedPost, UntaskedMethod, UntaskedItems, UntaskedMoreItems, UntaskedExprs, UntaskedMoreExprs}
use Rattle.dpl_rules.specs.Types.{ValueType, Scalar, Range as RangeType, Domain, Array, Promoted, Tuple, Locale, AllLocales, Cell, an_int, a_bool, is_range}
use Rattle.dpl_syntax.specs.declared.refusal.Code.TheVariants.{WrongRank}
use Rattle.dpl_rules.specs.Verdicts.{Part, part, type_by, broken_by, owed, with_type, all_known, each_wanted}
use Rattle.dpl_rules.specs.Places.{first_of, last_of, last_of_post}
use Rattle.dpl_rules.specs.Sights.{Declared, Scopes, lookup, type_declared}
use Rattle.dpl_rules.specs.Operators.{prefix_verdict, reduction_verdict, infix_verdict, any_strided, ranges_breaches, ranges_verdict}
use Rattle.dpl_rules.specs.Deeds.{inner_reductions}
use Rattle.dpl_rules.specs.Expressions.{plain_name, name_verdict, bare_locales, locales_or, none_where, type_of, item_type, range_item_verdict, chain_type, posts_type, post_verdict, method_verdict, item_parts, more_item_parts, expr_parts}
use Rattle.dpl_rules.specs.Expressions.{inner_chain, expr_breaches, item_breaches, stride_breaches, chain_breaches, posts_breaches, post_breaches, method_breaches, items_breaches, more_items_breaches, exprs_breaches, more_exprs_breaches}
use Rattle.dpl_rules.proofs.Admission.{first_empty, second_empty}
use Rattle.dpl_sound.proofs.Given.{some-same, judged-gives}
use Rattle.dpl_sound.proofs.Known.{IsTyped, told-typed, AreKnown, infix-by, post-told, type_of-known, item_type-known}
use Rattle.dpl_scopes.specs.Slots.{slot_in}
use Rattle.dpl_scopes.proofs.Slots.{slot_in-lookup}
use Rattle.dpl_lowered.specs.Shapes.{passes_on, all_pass_on, nests}
use Rattle.dpl_words.specs.Words.{IntLeaf, TruthLeaf}
use Rattle.dpl_memory.specs.Memory.{VariableKind, PlainKind, DomainKind, TupleKind, ArrayKind}
use Rattle.dpl_runnable.specs.Kinds.{is_promoted, IsVariable, IsNamed, AreVariables, HasKind}
use Rattle.dpl_typed.specs.Typed.{is_rank, is_tuple_rank}
use Rattle.dpl_typed.specs.Leaves.{value_kind, kind_by, IsFound}
use Rattle.dpl_typed.specs.Simple.{IsSimple, IsSimpleItem, IsSimpleStride, AreSimpleLinks, AreSimplePosts, IsSimplePost, AreSimpleItems, AreSimpleMoreItems, AreSimpleExprs, AreSimpleMoreExprs}
use Rattle.dpl_runnable.proofs.Kept.{kind_if-some, kind-cases, domain-kind, judged-kind, prefix-kind, reduction-kind, infix-kind, range-kind, square-kind, round-kind, word-kind, dim-kind, contains-kind, expand-kind}
use Rattle.dpl_runnable.proofs.Owed.{owed-holds}

-- ---- types that have kinds
pub has-kind : (o : Option ValueType) → IsVariable o → HasKind o
has-kind o p t e = (p.kind, ap value_kind (sym (some-same p.type t (sym p.is ∙ e))) ∙ p.of_kind)

variable : (o : Option ValueType) → HasKind o → IsTyped o → IsVariable o
variable o h typed = let k = h typed.0 typed.1 in record { kind = k.0; type = typed.0; is = typed.1; of_kind = k.1 }

-- What holds of all but arrays and promoted values holds of each type that has a kind which is no array's.
pub variable-cases : (Q : ValueType → Type 0) → ((l : Kind) → Q (Scalar l)) → ((s : Bool) → Q (RangeType s)) → ((rank : ℕ) (s : Bool) → is_rank rank ≡ true → Q (Domain rank s))
    → ((rank : ℕ) → is_tuple_rank rank ≡ true → Q (Tuple rank)) → (t : ValueType) (k : VariableKind) → is_promoted k ≡ false → value_kind t ≡ Some k → Q t
variable-cases Q q r d u (Scalar l) k p e = q l
variable-cases Q q r d u (RangeType s) k p e = r s
variable-cases Q q r d u (Domain rank s) k p e = d rank s (kind_if-some (is_rank rank) DomainKind k e).0
variable-cases Q q r d u (Array l over) k p e =
    let promoted = ap is_promoted (kind_if-some (is_rank over.rank) (ArrayKind l) k e).1 in
    let no : true ≡ false = promoted ∙ p in
    absurd cc
variable-cases Q q r d u (Promoted l over) k p e =
    let promoted = ap is_promoted (kind_if-some (is_rank over.rank) (ArrayKind l) k e).1 in
    let no : true ≡ false = promoted ∙ p in
    absurd cc
variable-cases Q q r d u (Tuple rank) k p e = u rank (kind_if-some (is_tuple_rank rank) TupleKind k e).0
variable-cases Q q r d u Locale k p e = absurd (none-some k e)
variable-cases Q q r d u AllLocales k p e = absurd (none-some k e)
variable-cases Q q r d u (Cell l) k p e = absurd (none-some k e)

pub two_or_more : (n : ℕ) → (suc (suc n) == 1) ≡ false
two_or_more n = ne_eqb (suc (suc n)) 1 (λ e. omega (arith, e))

-- ---- what doesn't run
pub not_bare : (e : ExprTree Text) → UntaskedExpr e → bare_locales e ≡ None
not_bare (LocalesWord at) h = absurd h
not_bare _ h = refl

-- ---- operators of one level nest
and-passes : (next : Infix) → level_of next ≡ Conjunctions → passes_on And next ≡ true
and-passes And h = refl
and-passes _ h = absurd cc

or-passes : (next : Infix) → level_of next ≡ Disjunctions → passes_on Or next ≡ true
or-passes Or h = refl
or-passes _ h = absurd cc

level-passes : (op next : Infix) → level_of next ≡ level_of op → passes_on op next ≡ true
level-passes And next h = and-passes next h
level-passes Or next h = or-passes next h
level-passes _ next h = refl

both : (a b : Bool) → a ≡ true → b ≡ true → (a && b) ≡ true
both true b p q = q
both false b p q = absurd cc

level-passes_all : (op : Infix) (l : Level) (rest : Links Text) → level_of op ≡ l → AreOfLevel l rest → all_pass_on op rest ≡ true
level-passes_all op l NoLinks e h = refl
level-passes_all op l (Link at next x rest) e h =
    both (passes_on op next) (all_pass_on next rest) (level-passes op next (h.0 ∙ sym e)) (level-passes_all next l rest h.0 h.1)

pub one_level-nests : (rest : Links Text) → IsOneLevel rest → nests rest ≡ true
one_level-nests NoLinks h = elim h [ ]
one_level-nests (Link at op e rest) h = level-passes_all op (level_of op) rest refl h

-- ---- domain literals: there is a range in one, and more than three break a rule
pub few : (from : Place) (ps : List Part) → IsTyped (type_by (ranges_verdict from ps)) → nat_lt (length ps) 4 ≡ true
few from ps typed =
    owed-holds (nat_lt (length ps) 4) from WrongRank
    (second_empty (each_wanted is_range ps) (owed (nat_lt (length ps) 4) from WrongRank)
    (judged-gives (all_known ps) (ranges_breaches from ps) (Domain (length ps) (any_strided ps)) typed.0 typed.1).1)

pub some-rank : (n : ℕ) → nat_lt (suc n) 4 ≡ true → is_rank (suc n) ≡ true
some-rank n e = both (nat_lt 0 (suc n)) (nat_lt (suc n) 4) (grind (arith, nat_tests)) e

literal-rank : (scopes : Scopes) (items : Items Text) → nat_lt (length (item_parts scopes items)) 4 ≡ true → is_rank (length (item_parts scopes items)) ≡ true
literal-rank scopes (FirstItem i more) e = some-rank (length (more_item_parts scopes more)) e

-- ---- names
-- an expression that is a name has the type of its declaration
pub name_verdict-type : (at : Place) (d : Declared) (p : IsNamed d.type) → type_by (name_verdict at (Some d)) ≡ Some p.type
name_verdict-type at d p =
    ap (λ o. type_by (with_type o (plain_name at))) p.is
    ∙ kind-cases (λ t. type_by (plain_name at t) ≡ Some t) (λ l. refl) (λ s. refl) (λ rank s r. refl) (λ l over r. refl) (λ l over r. refl) (λ rank r. refl) p.type p.kind p.of_kind

-- ---- expressions
module _ (scopes : Scopes) (P : Place → Type 0) (names : AreVariables scopes) where
  pub known : AreKnown scopes
  known x d h = let p = names x d h in (p.type, p.is)

  pub record RunnableExpr (e : ExprTree Text) : Type 0 where
    pub found : IsSimple (IsFound scopes) e
    pub variable : IsVariable (type_of scopes e)

  pub record RunnableItem (i : ItemTree Text) : Type 0 where
    pub found : IsSimpleItem (IsFound scopes) i
    pub variable : IsVariable (item_type scopes i)

  record RunnableLinks (o : Option ValueType) (rest : Links Text) : Type 0 where
    found : AreSimpleLinks (IsFound scopes) rest
    variable : IsVariable (chain_type scopes o rest)

  record RunnablePosts (last : Place) (o : Option ValueType) (rest : Posts Text) : Type 0 where
    found : AreSimplePosts (IsFound scopes) rest
    variable : IsVariable (posts_type scopes last o rest)

  record RunnablePost (last : Place) (o : Option ValueType) (p : PostTree Text) : Type 0 where
    found : IsSimplePost (IsFound scopes) p
    variable : IsVariable (type_by (post_verdict scopes last p o))

  -- ---- names
  some-found : (o : Option ℕ) → is_some o ≡ true → (slot : ℕ) × (o ≡ Some slot)
  some-found None e = absurd cc
  some-found (Some slot) e = (slot, refl)

  -- one that has a type is in sight
  name-found : (x : Placed Text) (o : Option Declared) → lookup scopes x.name ≡ o → IsTyped (type_by (name_verdict x.at o)) → IsFound scopes x.name
  name-found x None e p = absurd (none-some p.0 p.1)
  name-found x (Some d) e p =
      let named = names x.name d e in
      let slot = some-found (slot_in scopes x.name) (slot_in-lookup scopes x.name ∙ ap is_some e) in
      (named.kind, slot.0, ap (λ o. kind_by (type_declared o)) e ∙ ap kind_by named.is ∙ named.of_kind, slot.1)

  name-variable : (at : Place) (o : Option Declared) → ((d : Declared) → o ≡ Some d → IsNamed d.type) → IsTyped (type_by (name_verdict at o)) → IsVariable (type_by (name_verdict at o))
  name-variable at None h p = absurd (none-some p.0 p.1)
  name-variable at (Some d) h p = let q = h d refl in record { kind = q.kind; type = q.type; is = name_verdict-type at d q; of_kind = q.of_kind }

  -- a range, by its ends and perhaps by a stride
  range_item-kind : (low high : Part) (by : Stride Text) → HasKind (type_by (range_item_verdict scopes low high by))
  range_item-kind low high NoStride = range-kind (low ∷ high ∷ []) false
  range_item-kind low high (By at e) = range-kind (low ∷ high ∷ part (first_of e) (type_of scopes e) ∷ []) true

  -- a cell read is no method of a value
  read-untyped : (at : Place) (w : ReadWord) (from upto : Place) (o : Option ValueType) → type_by (with_type o (method_verdict scopes (CellRead at w from upto))) ≡ None
  read-untyped at w from upto None = refl
  read-untyped at w from upto (Some t) = refl

  mutual
    pub runnable : (e : ExprTree Text) → ExprSpelt P ⊥ e → UntaskedExpr e → expr_breaches scopes e ≡ [] → RunnableExpr e
    runnable (Number at n) s c h = record { found = tt; variable = record { kind = PlainKind IntLeaf; type = an_int; is = refl; of_kind = refl } }
    runnable (TruthWord at b) s c h = record { found = tt; variable = record { kind = PlainKind TruthLeaf; type = a_bool; is = refl; of_kind = refl } }
    runnable (Named x) s c h = record {
      found = name-found x (lookup scopes x.name) refl (type_of-known scopes known (Named x) h);
      variable = name-variable x.at (lookup scopes x.name) (names x.name) (type_of-known scopes known (Named x) h);
    }
    runnable (LocalesWord at) s c h = absurd c
    runnable (LocaleCount at) s c h = absurd c
    runnable (HereWord at) s c h = absurd c
    runnable (Grouped from item upto) s c h = let i = runnable_item item s.1 c h in record { found = i.found; variable = i.variable }
    runnable (DomainLiteral from items upto) s c h =
        let ps = item_parts scopes items in
        let verdict = ranges_verdict from ps in
        let typed = type_of-known scopes known (DomainLiteral from items upto) h in
        record {
          found = runnable_items items s.1 c (first_empty (items_breaches scopes items) (broken_by verdict) h);
          variable = variable (type_by verdict)
              (judged-kind (all_known ps) (ranges_breaches from ps) (Domain (length ps) (any_strided ps))
              (DomainKind, domain-kind (length ps) (any_strided ps) (literal-rank scopes items (few from ps typed)))) typed;
        }
    runnable (Prefixed at op e) s c h =
        let verdict = prefix_verdict at op (type_of scopes e) in
        let operand = runnable e s.1 c (first_empty (expr_breaches scopes e) (broken_by verdict) h) in
        record {
          found = operand.found;
          variable = variable (type_by verdict) (prefix-kind at op (type_of scopes e) (has-kind (type_of scopes e) operand.variable)) (type_of-known scopes known (Prefixed at op e) h);
        }
    runnable (Reduced at op word e) s c h =
        let verdict = reduction_verdict at op (type_of scopes e) in
        let operand = runnable e s.2 c (first_empty (expr_breaches scopes e) (broken_by verdict) h) in
        record {
          found = operand.found;
          variable = variable (type_by verdict) (reduction-kind at op (type_of scopes e) (has-kind (type_of scopes e) operand.variable)) (type_of-known scopes known (Reduced at op word e) h);
        }
    runnable (Chain e rest) s c h =
        let told = chain_breaches scopes (type_of scopes e) rest in
        let parts = first_empty (expr_breaches scopes e ++ told) (inner_reductions (inner_chain scopes e rest)) h in
        let first = runnable e s.1 c.0 (first_empty (expr_breaches scopes e) told parts) in
        let others = runnable_links rest (type_of scopes e) first.variable s.2 c.1 (second_empty (expr_breaches scopes e) told parts) in
        record { found = (first.found, others.found, one_level-nests rest s.0); variable = others.variable }
    runnable (Postfixed e posts) s c h =
        let own = none_where (bare_locales e) (expr_breaches scopes e) in
        let told = posts_breaches scopes (last_of e) (locales_or (bare_locales e) (type_of scopes e)) posts in
        let none = not_bare e c.0 in
        let base = runnable e s.1 c.0 (subst (λ o. none_where o (expr_breaches scopes e) ≡ []) none (first_empty own told h)) in
        let all = runnable_posts posts (last_of e) (type_of scopes e) base.variable s.2 c.1
        (subst (λ o. posts_breaches scopes (last_of e) (locales_or o (type_of scopes e)) posts ≡ []) none (second_empty own told h)) in
        record {
          found = (base.found, all.found, s.0);
          variable = subst (λ o. IsVariable (posts_type scopes (last_of e) (locales_or o (type_of scopes e)) posts)) (sym none) all.variable;
        }

    pub runnable_item : (i : ItemTree Text) → ItemSpelt P ⊥ i → UntaskedItem i → item_breaches scopes i ≡ [] → RunnableItem i
    runnable_item (One e) s c h = let x = runnable e s c h in record { found = x.found; variable = x.variable }
    runnable_item (RangeItem low at dots high by) s c h =
        let verdict = range_item_verdict scopes (part (first_of low) (type_of scopes low)) (part (first_of high) (type_of scopes high)) by in
        let ends = expr_breaches scopes low ++ expr_breaches scopes high in
        let parts = first_empty (ends ++ stride_breaches scopes by) (broken_by verdict) h in
        let both_ends = first_empty ends (stride_breaches scopes by) parts in
        let x = runnable low s.0 c.0 (first_empty (expr_breaches scopes low) (expr_breaches scopes high) both_ends) in
        let y = runnable high s.3 c.1 (second_empty (expr_breaches scopes low) (expr_breaches scopes high) both_ends) in
        let z = runnable_stride by s.4 c.2 (second_empty ends (stride_breaches scopes by) parts) in
        record {
          found = (x.found, y.found, z);
          variable = variable (type_by verdict) (range_item-kind (part (first_of low) (type_of scopes low)) (part (first_of high) (type_of scopes high)) by)
              (item_type-known scopes known (RangeItem low at dots high by) h);
        }

    runnable_stride : (by : Stride Text) → StrideSpelt P ⊥ by → UntaskedStride by → stride_breaches scopes by ≡ [] → IsSimpleStride (IsFound scopes) by
    runnable_stride NoStride s c h = tt
    runnable_stride (By at e) s c h = (runnable e s.1 c h).found

    runnable_links : (rest : Links Text) (o : Option ValueType) → IsVariable o → LinksSpelt P ⊥ rest → UntaskedLinks rest → chain_breaches scopes o rest ≡ [] → RunnableLinks o rest
    runnable_links NoLinks o p s c h = record { found = tt; variable = p }
    runnable_links (Link at op e rest) o p s c h =
        let verdict = infix_verdict at op o (type_of scopes e) in
        let others = chain_breaches scopes (type_by verdict) rest in
        let front = first_empty (expr_breaches scopes e ++ broken_by verdict) others h in
        let right = runnable e s.1 c.0 (first_empty (expr_breaches scopes e) (broken_by verdict) front) in
        let q = right.variable in
        let typed = told-typed verdict (infix-by scopes known at op o (type_of scopes e) (p.type, p.is) (q.type, q.is)) (second_empty (expr_breaches scopes e) (broken_by verdict) front) in
        let next = variable (type_by verdict) (infix-kind at op o (type_of scopes e) (has-kind o p) (has-kind (type_of scopes e) q)) typed in
        let more = runnable_links rest (type_by verdict) next s.2 c.1 (second_empty (expr_breaches scopes e ++ broken_by verdict) others h) in
        record { found = (right.found, more.found); variable = more.variable }

    runnable_posts : (rest : Posts Text) (last : Place) (o : Option ValueType) → IsVariable o → PostsSpelt P ⊥ rest → UntaskedPosts rest → posts_breaches scopes last o rest ≡ [] → RunnablePosts last o rest
    runnable_posts NoPosts last o p s c h = record { found = tt; variable = p }
    runnable_posts (Post q rest) last o p s c h =
        let verdict = post_verdict scopes last q o in
        let others = posts_breaches scopes (last_of_post q) (type_by verdict) rest in
        let front = first_empty (post_breaches scopes q ++ broken_by verdict) others h in
        let parts = first_empty (post_breaches scopes q) (broken_by verdict) front in
        let typed = told-typed verdict (post-told scopes known q last o (p.type, p.is) parts) (second_empty (post_breaches scopes q) (broken_by verdict) front) in
        let one = runnable_post q last o p s.0 c.0 parts typed in
        let more = runnable_posts rest (last_of_post q) (type_by verdict) one.variable s.1 c.1
        (second_empty (post_breaches scopes q ++ broken_by verdict) others h) in
        record { found = (one.found, more.found); variable = more.variable }

    runnable_post : (q : PostTree Text) (last : Place) (o : Option ValueType) → IsVariable o → PostSpelt P ⊥ q → UntaskedPost q → post_breaches scopes q ≡ [] → IsTyped (type_by (post_verdict scopes last q o))
        → RunnablePost last o q
    runnable_post (Brackets from items upto) last o p s c h typed = record {
      found = runnable_items items s.1 c h;
      variable = variable _ (square-kind last from (item_parts scopes items) o (has-kind o p)) typed;
    }
    runnable_post (Rounds from es upto) last o p s c h typed = record {
      found = runnable_exprs es s.1 c h;
      variable = variable _ (round-kind last from (expr_parts scopes es) o (has-kind o p)) typed;
    }
    runnable_post (Dotted dot m) last o p s c h typed = runnable_method dot m last o p s.1 c h typed

    runnable_method : (dot : Place) (m : MethodTree Text) (last : Place) (o : Option ValueType) → IsVariable o → MethodSpelt P ⊥ m → UntaskedMethod m → method_breaches scopes m ≡ []
        → IsTyped (type_by (post_verdict scopes last (Dotted dot m) o)) → RunnablePost last o (Dotted dot m)
    runnable_method dot (Plainly at w) last o p s c h typed = record { found = tt; variable = variable _ (word-kind at w o (has-kind o p)) typed }
    runnable_method dot (Dim at from rank_at d upto) last o p s c h typed = record { found = tt; variable = variable _ (dim-kind at rank_at d o (has-kind o p)) typed }
    runnable_method dot (Contains at from es upto) last o p s c h typed = record {
      found = runnable_exprs es s.2 c h;
      variable = variable _ (contains-kind at (expr_parts scopes es) o (has-kind o p)) typed;
    }
    runnable_method dot (Expand at from e upto) last o p s c h typed = record {
      found = (runnable e s.2 c h).found;
      variable = variable _ (expand-kind at (part (first_of e) (type_of scopes e)) o (has-kind o p)) typed;
    }
    runnable_method dot (CellRead at w from upto) last o p s c h typed = absurd (none-some typed.0 (sym (read-untyped at w from upto o) ∙ typed.1))

    -- ---- between brackets
    pub runnable_items : (items : Items Text) → ItemsSpelt P ⊥ items → UntaskedItems items → items_breaches scopes items ≡ [] → AreSimpleItems (IsFound scopes) items
    runnable_items (FirstItem i more) s c h = (
      (runnable_item i s.0 c.0 (first_empty (item_breaches scopes i) (more_items_breaches scopes more) h)).found,
      runnable_more_items more s.1 c.1 (second_empty (item_breaches scopes i) (more_items_breaches scopes more) h),
    )

    runnable_more_items : (more : MoreItems Text) → MoreItemsSpelt P ⊥ more → UntaskedMoreItems more → more_items_breaches scopes more ≡ [] → AreSimpleMoreItems (IsFound scopes) more
    runnable_more_items NoItems s c h = tt
    runnable_more_items (NextItem comma i more) s c h = (
      (runnable_item i s.1 c.0 (first_empty (item_breaches scopes i) (more_items_breaches scopes more) h)).found,
      runnable_more_items more s.2 c.1 (second_empty (item_breaches scopes i) (more_items_breaches scopes more) h),
    )

    pub runnable_exprs : (es : Exprs Text) → ExprsSpelt P ⊥ es → UntaskedExprs es → exprs_breaches scopes es ≡ [] → AreSimpleExprs (IsFound scopes) es
    runnable_exprs (FirstExpr e more) s c h = (
      (runnable e s.0 c.0 (first_empty (expr_breaches scopes e) (more_exprs_breaches scopes more) h)).found,
      runnable_more_exprs more s.1 c.1 (second_empty (expr_breaches scopes e) (more_exprs_breaches scopes more) h),
    )

    runnable_more_exprs : (more : MoreExprs Text) → MoreExprsSpelt P ⊥ more → UntaskedMoreExprs more → more_exprs_breaches scopes more ≡ [] → AreSimpleMoreExprs (IsFound scopes) more
    runnable_more_exprs NoExprs s c h = tt
    runnable_more_exprs (NextExpr comma e more) s c h = (
      (runnable e s.1 c.0 (first_empty (expr_breaches scopes e) (more_exprs_breaches scopes more) h)).found,
      runnable_more_exprs more s.2 c.1 (second_empty (expr_breaches scopes e) (more_exprs_breaches scopes more) h),
    )
