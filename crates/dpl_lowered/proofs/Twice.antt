-- A lowered expression is lowered to itself: nothing is left in it that its meaning doesn't need.
-- One lemma for each way in which a lowered tree is put together, and then one for each kind of tree.
use Rattle.std.proofs.Common.{◌≡◌, Bool, true, false, refl, sym, ap, ◌∙◌, subst, Some, None, Option}
use Rattle.std.specs.Prelude.{◌&&◌, if◌then◌else◌}
use Rattle.dpl_syntax.specs.declared.place.Place.{Place}
use Rattle.dpl_history.specs.declared.cell.CellOp.{CellOp}
use Rattle.dpl_language.specs.Tree.{Placed, Dots, Closed, HalfOpen, Counted, Infix, ExprTree, Number, Named, Grouped, DomainLiteral, Prefixed, Reduced, Chain, Postfixed, ItemTree, One, RangeItem, Stride, NoStride, By, Links, NoLinks, Link, Posts, NoPosts, Post, PostTree, Brackets, Rounds, Dotted, MethodTree, Plainly, Dim, Contains, Expand, CellRead, Items, FirstItem, MoreItems, NoItems, NextItem, Exprs, FirstExpr, MoreExprs, NoExprs, NextExpr}
use Rattle.dpl_language.specs.Arithmetic.{divides}
use Rattle.dpl_language.specs.Phrases.{Base, BaseName, BaseLocales, OtherBase, base_of, bare_name, read_op}
use Rattle.dpl_lowered.specs.Known.{Known, Unknown, WholeArray, NoArray, PlainValue, may_be_array}
use Rattle.dpl_lowered.specs.Shapes.{nowhere, kept, unplaced, as_expr, as_item, as_items, as_more_items, in_brackets, two, grouped, passes_on, all_pass_on, nests, nested, stacked_on}
use Rattle.dpl_lowered.specs.LoweredExpressions.{Times, Once, EachTurn, each_turn, unplaced_dots, is_end, rebased, name_base, read_base, rounds_by, rounds_of, told_base, based, lowered_expr, lowered_item, lowered_stride, lowered_links, lowered_posts, lowered_post, lowered_method, lowered_items, lowered_more_items, lowered_exprs, lowered_more_exprs}
use Rattle.dpl_lowered.proofs.Seen.{placeless, brackets-read, rounds-read, base_of-lowered}
use Rattle.dpl_lowered.proofs.Formed.{as_expr-as_item, as_item-as_expr, lowered-formed, item-formed}

-- PLACES
pub kept-kept : (b : Bool) (at : Place) → kept b (kept b at) ≡ kept b at
kept-kept true at = refl
kept-kept false at = refl

dots-twice : (dots : Dots) → unplaced_dots (unplaced_dots dots) ≡ unplaced_dots dots
dots-twice Closed = refl
dots-twice HalfOpen = refl
dots-twice (Counted at) = refl

-- a base that is told as far as a post in round brackets tells it
abbrev told_name : {N : Type 0} → Base N → Base N
told_name (BaseName x) = BaseName x
told_name (BaseLocales at) = BaseLocales nowhere
told_name OtherBase = OtherBase

abbrev Follows : {N : Type 0} → PostTree N → Base N → Base N → Type 0
Follows (Brackets from items upto) b c = Unit {0}
Follows (Rounds from es upto) b c = c ≡ told_name b
Follows (Dotted dot m) b c = Unit {0}

module _ {N : Type 0} where
  -- a tree that looks like a base of a cell read is one
  read_base-again : (op : CellOp) (l : ExprTree N) → read_base (Some op) (bare_name l) l ≡ l
  read_base-again op (Number at n) = refl
  read_base-again op _ = refl

module _ {N : Type 0} (known : N → Known) where
  -- ITEMS
  as_item-lowered : (m : Times) (l : ExprTree N) → lowered_item known m (as_item l) ≡ as_item (lowered_expr known m l)
  as_item-lowered m (Grouped from item upto) = sym (as_item-as_expr (lowered_item known m item) (item-formed known m item))
  as_item-lowered m _ = refl

  as_expr-lowered : (m : Times) (i : ItemTree N) → lowered_expr known m (as_expr i) ≡ as_expr (lowered_item known m i)
  as_expr-lowered m (One e) = sym (as_expr-as_item (lowered_expr known m e) (lowered-formed known m e))
  as_expr-lowered m (RangeItem low at dots high by) = refl

  -- CHAINS
  all_pass_on-lowered : (m : Times) (op : Infix) (rest : Links N) → all_pass_on op (lowered_links known m rest) ≡ all_pass_on op rest
  all_pass_on-lowered m op NoLinks = refl
  all_pass_on-lowered m op (Link at next e rest) = ap (λ b. passes_on op next && b) (all_pass_on-lowered m next rest)

  nests-lowered : (m : Times) (rest : Links N) → nests (lowered_links known m rest) ≡ nests rest
  nests-lowered m NoLinks = refl
  nests-lowered m (Link at op e rest) = all_pass_on-lowered m op rest

  grouped-lowered : (m : Times) (a : ExprTree N) (rest : Links N) → lowered_expr known m (grouped a rest) ≡ grouped (lowered_expr known m a) (lowered_links known m rest)
  grouped-lowered m a NoLinks = refl
  grouped-lowered m a (Link at op e rest) = grouped-lowered m (two a at op e) rest

  nested-lowered : (m : Times) (a : ExprTree N) (rest : Links N) → lowered_expr known m (nested a rest) ≡ nested (lowered_expr known m a) (lowered_links known m rest)
  nested-lowered m a rest = by_test (nests rest) refl
    where
      by_test : (b : Bool) → nests rest ≡ b → lowered_expr known m (if b then grouped a rest else Chain a rest) ≡ nested (lowered_expr known m a) (lowered_links known m rest)
      by_test true p =
          grouped-lowered m a rest
          ∙ sym (ap (λ b. if b then grouped (lowered_expr known m a) (lowered_links known m rest) else Chain (lowered_expr known m a) (lowered_links known m rest)) (nests-lowered m rest ∙ p))
      by_test false p = refl

  -- POSTS
  -- what stands behind another post tells nothing of its base
  based-behind : (m : Times) (q : PostTree N) (e : ExprTree N) (p : PostTree N)
      → based known (Post q NoPosts) (Postfixed e (Post p NoPosts)) (lowered_expr known Once (Postfixed e (Post p NoPosts))) ≡ lowered_expr known m (Postfixed e (Post p NoPosts))
  based-behind m (Brackets from items upto) e p = refl
  based-behind m (Rounds from es upto) e p = refl
  based-behind m (Dotted dot (Plainly at w)) e p = refl
  based-behind m (Dotted dot (Dim at from rank_at d upto)) e p = refl
  based-behind m (Dotted dot (Contains at from es upto)) e p = refl
  based-behind m (Dotted dot (Expand at from k upto)) e p = refl
  based-behind m (Dotted dot (CellRead at w from upto)) e p = refl

  stacked_on-lowered : (m : Times) (rest : Posts N) (e : ExprTree N) (p : PostTree N)
      → lowered_expr known m (stacked_on (Postfixed e (Post p NoPosts)) rest) ≡ stacked_on (lowered_expr known m (Postfixed e (Post p NoPosts))) (lowered_posts known OtherBase rest)
  stacked_on-lowered m NoPosts e p = refl
  stacked_on-lowered m (Post q rest) e p =
      stacked_on-lowered m rest (Postfixed e (Post p NoPosts)) q
      ∙ ap (λ l. stacked_on (Postfixed l (Post (lowered_post known OtherBase q) NoPosts)) (lowered_posts known OtherBase rest)) (based-behind m q e p)

  -- BASES, of an expression whose lowered form is lowered to itself
  abbrev again : PostTree N → ExprTree N → ExprTree N
  again p b = based known (Post p NoPosts) b (lowered_expr known Once b)

  based-brackets : (from : Place) (items : Items N) (upto : Place) (is : Items N) (rest : Posts N) (b : Base N) (l : ExprTree N) → lowered_expr known Once l ≡ l → base_of l ≡ placeless b
      → again (Brackets nowhere is nowhere) (rebased (told_base known (Post (Brackets from items upto) rest) b) l) ≡ rebased (told_base known (Post (Brackets from items upto) rest) b) l
  based-brackets from items upto is rest (BaseName x) l h p = by_test (may_be_array (known x.name)) refl
    where
      by_test : (c : Bool) → may_be_array (known x.name) ≡ c → again (Brackets nowhere is nowhere) (rebased (name_base c x) l) ≡ rebased (name_base c x) l
      by_test true q = ap (λ c. rebased (name_base c x) (lowered_expr known Once (Named x))) q
      by_test false q =
          ap (λ b. rebased (told_base known (Post (Brackets nowhere is nowhere) NoPosts) b) (lowered_expr known Once l)) p
          ∙ ap (λ c. rebased (name_base c (unplaced x)) (lowered_expr known Once l)) q ∙ h
  based-brackets from items upto is rest (BaseLocales at) l h p = refl
  based-brackets from items upto is rest OtherBase l h p =
      ap (λ b. rebased (told_base known (Post (Brackets nowhere is nowhere) NoPosts) b) (lowered_expr known Once l)) p ∙ h

  based-rounds : (from : Place) (es : Exprs N) (upto : Place) (is : Exprs N) (rest : Posts N) (b : Base N) (l : ExprTree N) → lowered_expr known Once l ≡ l → base_of l ≡ placeless b
      → again (rounds_of known b is) (rebased (told_base known (Post (Rounds from es upto) rest) b) l) ≡ rebased (told_base known (Post (Rounds from es upto) rest) b) l
  based-rounds from es upto is rest (BaseName x) l h p = by_known (known x.name) refl
    where
      by_known : (k : Known) → known x.name ≡ k → again (rounds_by k is) (Named x) ≡ Named x
      by_known Unknown q = refl
      by_known WholeArray q = ap (λ k. rebased (name_base (may_be_array k) x) (lowered_expr known Once (Named x))) q
      by_known NoArray q = refl
      by_known PlainValue q = refl
  based-rounds from es upto is rest (BaseLocales at) l h p =
      ap (λ b. rebased (told_base known (Post (Rounds nowhere is nowhere) NoPosts) b) (lowered_expr known Once l)) p ∙ h
  based-rounds from es upto is rest OtherBase l h p =
      ap (λ b. rebased (told_base known (Post (Rounds nowhere is nowhere) NoPosts) b) (lowered_expr known Once l)) p ∙ h

  -- the base of a cell read; brackets that hide a name stay
  in_brackets-read : (op : CellOp) (l : ExprTree N) → lowered_expr known Once l ≡ l
      → read_base (Some op) (bare_name (in_brackets (bare_name l) l)) (lowered_expr known Once (in_brackets (bare_name l) l)) ≡ in_brackets (bare_name l) l
  in_brackets-read op (Number at n) h = ap (read_base (Some op) None) h
  in_brackets-read op _ h = ap (read_base (Some op) None) h

  read_base-twice : (op : CellOp) (x : Option (Placed N)) (l : ExprTree N) → lowered_expr known Once l ≡ l
      → read_base (Some op) (bare_name (read_base (Some op) x l)) (lowered_expr known Once (read_base (Some op) x l)) ≡ read_base (Some op) x l
  read_base-twice op None l h = in_brackets-read op l h
  read_base-twice op (Some x) l h = refl

  -- a base by what stands behind it
  based-twice : (p : PostTree N) (rest : Posts N) (e l : ExprTree N) → lowered_expr known Once l ≡ l → base_of l ≡ placeless (base_of e)
      → again (lowered_post known (base_of e) p) (based known (Post p rest) e l) ≡ based known (Post p rest) e l
  based-twice (Brackets from items upto) rest e l h p =
      subst (λ op. again (Brackets nowhere (lowered_items known items) nowhere) (read_base op (bare_name e) (rebased (told_base known (Post (Brackets from items upto) rest) (base_of e)) l))
      ≡ read_base op (bare_name e) (rebased (told_base known (Post (Brackets from items upto) rest) (base_of e)) l))
      (brackets-read from items upto rest) (based-brackets from items upto (lowered_items known items) rest (base_of e) l h p)
  based-twice (Rounds from es upto) rest e l h p =
      subst (λ op. again (rounds_of known (base_of e) (lowered_exprs known es)) (read_base op (bare_name e) (rebased (told_base known (Post (Rounds from es upto) rest) (base_of e)) l))
      ≡ read_base op (bare_name e) (rebased (told_base known (Post (Rounds from es upto) rest) (base_of e)) l))
      (rounds-read from es upto rest) (based-rounds from es upto (lowered_exprs known es) rest (base_of e) l h p)
  based-twice (Dotted dot (Plainly at w)) (Post q rest) e l h p = h
  based-twice (Dotted dot (Dim at from rank_at d upto)) (Post q rest) e l h p = h
  based-twice (Dotted dot (Contains at from es upto)) (Post q rest) e l h p = h
  based-twice (Dotted dot (Expand at from k upto)) (Post q rest) e l h p = h
  based-twice (Dotted dot (CellRead at w from upto)) NoPosts e l h p = read_base-twice (read_op w) (bare_name e) l h
  based-twice (Dotted dot (CellRead at w from upto)) (Post q rest) e l h p = ap (read_base (Some (read_op w)) (bare_name l)) h ∙ read_base-again (read_op w) l
  based-twice (Dotted dot _) NoPosts e l h p = h

  -- what a post in round brackets sees of its base stays
  based-told : (p : PostTree N) (rest : Posts N) (e l : ExprTree N) → base_of l ≡ placeless (base_of e) → Follows p (base_of e) (base_of (based known (Post p rest) e l))
  based-told (Brackets from items upto) rest e l p = tt
  based-told (Rounds from es upto) rest e l p =
      subst (λ op. base_of (read_base op (bare_name e) (rebased (told_base known (Post (Rounds from es upto) rest) (base_of e)) l)) ≡ told_name (base_of e)) (rounds-read from es upto rest)
      (by_base (base_of e) p)
    where
      by_base : (b : Base N) → base_of l ≡ placeless b → base_of (rebased (told_base known (Post (Rounds from es upto) rest) b) l) ≡ told_name b
      by_base (BaseName x) p = refl
      by_base (BaseLocales at) p = p
      by_base OtherBase p = p
  based-told (Dotted dot m) rest e l p = tt

  rounds-again : (b : Base N) (es : Exprs N) → lowered_exprs known es ≡ es → lowered_items known (as_items es) ≡ as_items es → lowered_post known (told_name b) (rounds_of known b es) ≡ rounds_of known b es
  rounds-again (BaseName x) es h i = by_known (known x.name) refl
    where
      by_known : (k : Known) → known x.name ≡ k → lowered_post known (BaseName x) (rounds_by k es) ≡ rounds_by k es
      by_known Unknown q = ap (λ k. rounds_by k (lowered_exprs known es)) q ∙ ap (λ es. Rounds nowhere es nowhere) h
      by_known WholeArray q = ap (λ is. Brackets nowhere is nowhere) i
      by_known NoArray q = ap (λ k. rounds_by k (lowered_exprs known es)) q ∙ ap (λ es. Rounds nowhere es nowhere) h
      by_known PlainValue q = ap (λ k. rounds_by k (lowered_exprs known es)) q ∙ ap (λ es. Rounds nowhere es nowhere) h
  rounds-again (BaseLocales at) es h i = ap (λ es. Rounds nowhere es nowhere) h
  rounds-again OtherBase es h i = ap (λ es. Rounds nowhere es nowhere) h

  other-follows : (p : PostTree N) → Follows p OtherBase OtherBase
  other-follows (Brackets from items upto) = tt
  other-follows (Rounds from es upto) = refl
  other-follows (Dotted dot m) = tt

  -- TREES
  -- the base of the first post
  abbrev base_before : PostTree N → Posts N → ExprTree N → ExprTree N
  base_before p rest e = based known (Post p rest) e (lowered_expr known Once e)

  mutual
    pub expr-twice : (m : Times) (e : ExprTree N) → lowered_expr known m (lowered_expr known m e) ≡ lowered_expr known m e
    expr-twice m (Named x) = ap (λ at. Named (record { at = at; name = x.name })) (kept-kept (each_turn m && may_be_array (known x.name)) x.at)
    expr-twice m (Grouped from item upto) = as_expr-lowered m (lowered_item known m item) ∙ ap as_expr (item-twice m item)
    expr-twice m (DomainLiteral from items upto) = ap (λ is. DomainLiteral from is nowhere) (items-twice items)
    expr-twice m (Prefixed at op e) = ap (Prefixed nowhere op) (expr-twice m e)
    expr-twice m (Reduced at op word e) = ap (Reduced nowhere op word) (expr-twice EachTurn e)
    expr-twice m (Chain e rest) =
        nested-lowered m (lowered_expr known m e) (lowered_links known m rest)
        ∙ ap (λ a. nested a (lowered_links known m (lowered_links known m rest))) (expr-twice m e)
        ∙ ap (nested (lowered_expr known m e)) (links-twice m rest)
    expr-twice m (Postfixed e NoPosts) = ap (λ l. Postfixed l NoPosts) (expr-twice Once e)
    expr-twice m (Postfixed e (Post p rest)) =
        stacked_on-lowered m (lowered_posts known OtherBase rest) (base_before p rest e) (lowered_post known (base_of e) p)
        ∙ ap (λ l. stacked_on (Postfixed l (Post (lowered_post known (base_of (base_before p rest e)) (lowered_post known (base_of e) p)) NoPosts)) (lowered_posts known OtherBase (lowered_posts known OtherBase rest)))
        (based-twice p rest e (lowered_expr known Once e) (expr-twice Once e) (base_of-lowered known e))
        ∙ ap (λ q. stacked_on (Postfixed (base_before p rest e) (Post q NoPosts)) (lowered_posts known OtherBase (lowered_posts known OtherBase rest)))
        (post-twice p (base_of e) (base_of (base_before p rest e)) (based-told p rest e (lowered_expr known Once e) (base_of-lowered known e)))
        ∙ ap (stacked_on (Postfixed (base_before p rest e) (Post (lowered_post known (base_of e) p) NoPosts))) (posts-twice rest)
    expr-twice m _ = refl

    pub item-twice : (m : Times) (i : ItemTree N) → lowered_item known m (lowered_item known m i) ≡ lowered_item known m i
    item-twice m (One e) = as_item-lowered m (lowered_expr known m e) ∙ ap as_item (expr-twice m e)
    item-twice m (RangeItem low at dots high by) =
        ap (λ l. RangeItem l at (unplaced_dots (unplaced_dots dots)) (lowered_expr known Once (lowered_expr known Once high)) (lowered_stride known (lowered_stride known by))) (expr-twice Once low)
        ∙ ap (λ d. RangeItem (lowered_expr known Once low) at d (lowered_expr known Once (lowered_expr known Once high)) (lowered_stride known (lowered_stride known by))) (dots-twice dots)
        ∙ ap (λ h. RangeItem (lowered_expr known Once low) at (unplaced_dots dots) h (lowered_stride known (lowered_stride known by))) (expr-twice Once high)
        ∙ ap (RangeItem (lowered_expr known Once low) at (unplaced_dots dots) (lowered_expr known Once high)) (stride-twice by)

    stride-twice : (by : Stride N) → lowered_stride known (lowered_stride known by) ≡ lowered_stride known by
    stride-twice NoStride = refl
    stride-twice (By at e) = ap (By at) (expr-twice Once e)

    links-twice : (m : Times) (l : Links N) → lowered_links known m (lowered_links known m l) ≡ lowered_links known m l
    links-twice m NoLinks = refl
    links-twice m (Link at op e rest) =
        ap (λ at. Link at op (lowered_expr known m (lowered_expr known m e)) (lowered_links known m (lowered_links known m rest))) (kept-kept (divides op) at)
        ∙ ap (λ e. Link (kept (divides op) at) op e (lowered_links known m (lowered_links known m rest))) (expr-twice m e)
        ∙ ap (Link (kept (divides op) at) op (lowered_expr known m e)) (links-twice m rest)

    posts-twice : (ps : Posts N) → lowered_posts known OtherBase (lowered_posts known OtherBase ps) ≡ lowered_posts known OtherBase ps
    posts-twice NoPosts = refl
    posts-twice (Post p rest) =
        ap (λ p. Post p (lowered_posts known OtherBase (lowered_posts known OtherBase rest))) (post-twice p OtherBase OtherBase (other-follows p))
        ∙ ap (Post (lowered_post known OtherBase p)) (posts-twice rest)

    post-twice : (p : PostTree N) (b c : Base N) → Follows p b c → lowered_post known c (lowered_post known b p) ≡ lowered_post known b p
    post-twice (Brackets from items upto) b c f = ap (λ is. Brackets nowhere is nowhere) (items-twice items)
    post-twice (Rounds from es upto) b c f =
        ap (λ c. lowered_post known c (rounds_of known b (lowered_exprs known es))) f ∙ rounds-again b (lowered_exprs known es) (exprs-twice es) (round_items-twice es)
    post-twice (Dotted dot m) b c f = ap (Dotted nowhere) (method-twice m)

    method-twice : (m : MethodTree N) → lowered_method known (lowered_method known m) ≡ lowered_method known m
    method-twice (Plainly at w) = ap (λ at. Plainly at w) (kept-kept (is_end w) at)
    method-twice (Dim at from rank_at d upto) = refl
    method-twice (Contains at from es upto) = ap (λ es. Contains nowhere nowhere es nowhere) (exprs-twice es)
    method-twice (Expand at from e upto) = ap (λ e. Expand at nowhere e nowhere) (expr-twice Once e)
    method-twice (CellRead at w from upto) = refl

    pub items-twice : (is : Items N) → lowered_items known (lowered_items known is) ≡ lowered_items known is
    items-twice (FirstItem i more) =
        ap (λ i. FirstItem i (lowered_more_items known (lowered_more_items known more))) (item-twice Once i) ∙ ap (FirstItem (lowered_item known Once i)) (more_items-twice more)

    more_items-twice : (is : MoreItems N) → lowered_more_items known (lowered_more_items known is) ≡ lowered_more_items known is
    more_items-twice NoItems = refl
    more_items-twice (NextItem comma i more) =
        ap (λ i. NextItem nowhere i (lowered_more_items known (lowered_more_items known more))) (item-twice Once i) ∙ ap (NextItem nowhere (lowered_item known Once i)) (more_items-twice more)

    pub exprs-twice : (es : Exprs N) → lowered_exprs known (lowered_exprs known es) ≡ lowered_exprs known es
    exprs-twice (FirstExpr e more) =
        ap (λ e. FirstExpr e (lowered_more_exprs known (lowered_more_exprs known more))) (expr-twice Once e) ∙ ap (FirstExpr (lowered_expr known Once e)) (more_exprs-twice more)

    more_exprs-twice : (es : MoreExprs N) → lowered_more_exprs known (lowered_more_exprs known es) ≡ lowered_more_exprs known es
    more_exprs-twice NoExprs = refl
    more_exprs-twice (NextExpr comma e more) =
        ap (λ e. NextExpr nowhere e (lowered_more_exprs known (lowered_more_exprs known more))) (expr-twice Once e) ∙ ap (NextExpr nowhere (lowered_expr known Once e)) (more_exprs-twice more)

    -- the indices of an array's element in round brackets
    round_items-twice : (es : Exprs N) → lowered_items known (as_items (lowered_exprs known es)) ≡ as_items (lowered_exprs known es)
    round_items-twice (FirstExpr e more) =
        ap (λ i. FirstItem i (lowered_more_items known (as_more_items (lowered_more_exprs known more)))) (as_item-lowered Once (lowered_expr known Once e) ∙ ap as_item (expr-twice Once e))
        ∙ ap (FirstItem (as_item (lowered_expr known Once e))) (more_round_items-twice more)

    more_round_items-twice : (es : MoreExprs N) → lowered_more_items known (as_more_items (lowered_more_exprs known es)) ≡ as_more_items (lowered_more_exprs known es)
    more_round_items-twice NoExprs = refl
    more_round_items-twice (NextExpr comma e more) =
        ap (λ i. NextItem nowhere i (lowered_more_items known (as_more_items (lowered_more_exprs known more)))) (as_item-lowered Once (lowered_expr known Once e) ∙ ap as_item (expr-twice Once e))
        ∙ ap (NextItem nowhere (as_item (lowered_expr known Once e))) (more_round_items-twice more)
