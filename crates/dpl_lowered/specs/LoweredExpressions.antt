-- Expressions without what their values don't need: brackets, places that no fault tells, chains of several operators.
-- Names stay: what stands for a name in its place is another matter (see `Renamed`).
use Rattle.std.specs.Prelude.{Bool, true, false, ◌&&◌, Option, Some, None}
use Rattle.dpl_history.specs.declared.cell.CellOp.{CellOp}
use Rattle.dpl_language.specs.Tree.{Placed, Dots, Closed, HalfOpen, Counted, Word, First, Last, Low, High, LowBound, ExprTree, Number, TruthWord, Named, LocalesWord, LocaleCount, HereWord, Grouped, DomainLiteral, Prefixed, Reduced, Chain, Postfixed, ItemTree, One, RangeItem, Stride, NoStride, By, Links, NoLinks, Link, Posts, NoPosts, Post, PostTree, Brackets, Rounds, Dotted, MethodTree, Plainly, Dim, Contains, Expand, CellRead, Items, FirstItem, MoreItems, NoItems, NextItem, Exprs, FirstExpr, MoreExprs, NoExprs, NextExpr}
use Rattle.dpl_language.specs.Arithmetic.{divides}
use Rattle.dpl_language.specs.Phrases.{Base, BaseName, BaseLocales, OtherBase, base_of, bare_name, posts_read}
use Rattle.dpl_lowered.specs.Known.{Known, Unknown, WholeArray, NoArray, PlainValue, may_be_array}
use Rattle.dpl_lowered.specs.Shapes.{nowhere, kept, placed, as_expr, as_item, as_items, in_brackets, nested, stacked}

-- how often an expression is evaluated: once, or at each index of the arrays in it
pub data Times : Type 0 where
  Once : Times
  EachTurn : Times

-- a whole array's name is told at an index alone, where its element is read
abbrev pub each_turn : Times → Bool
each_turn Once = false
each_turn EachTurn = true

-- a bad count and a bound past its limit are told at the dots, and so the place of `#` goes
abbrev pub unplaced_dots : Dots → Dots
unplaced_dots Closed = Closed
unplaced_dots HalfOpen = HalfOpen
unplaced_dots (Counted at) = Counted nowhere

-- an empty range has no ends, which is told at the method's name; the other methods always have a value
abbrev pub is_end : Word → Bool
is_end First = true
is_end Last = true
is_end Low = true
is_end High = true
is_end LowBound = true
is_end _ = false

-- what a fault tells of a base
abbrev pub rebased : {N : Type 0} → Base N → ExprTree N → ExprTree N
rebased (BaseName x) e = Named x
rebased (BaseLocales at) e = LocalesWord at
rebased OtherBase e = e

abbrev pub name_base : {N : Type 0} → Bool → Placed N → Base N
name_base true x = BaseName x
name_base false x = OtherBase

-- the base of a cell read is a bare name, at whose place the read may wait; `(c).readFE()` is no read of c, and stays none
abbrev pub read_base : {N : Type 0} → Option CellOp → Option (Placed N) → ExprTree N → ExprTree N
read_base None x e = e
read_base (Some op) (Some x) e = Named x
read_base (Some op) None e = in_brackets (bare_name e) e

-- the indices of an array's element stand in square brackets; of anything else `A(i)` means something else than `A[i]`
abbrev pub rounds_by : {N : Type 0} → Known → Exprs N → PostTree N
rounds_by Unknown es = Rounds nowhere es nowhere
rounds_by WholeArray es = Brackets nowhere (as_items es) nowhere
rounds_by NoArray es = Rounds nowhere es nowhere
rounds_by PlainValue es = Rounds nowhere es nowhere

module _ {N : Type 0} (known : N → Known) where
  -- what a fault may tell of a base, by what stands behind it: an array's name before indices, and `Locales` before `[`
  abbrev pub told_base : Posts N → Base N → Base N
  told_base NoPosts b = OtherBase
  told_base (Post (Brackets from items upto) rest) (BaseName x) = name_base (may_be_array (known x.name)) x
  told_base (Post (Brackets from items upto) rest) (BaseLocales at) = BaseLocales at
  told_base (Post (Brackets from items upto) rest) OtherBase = OtherBase
  told_base (Post (Rounds from es upto) rest) (BaseName x) = BaseName x
  told_base (Post (Rounds from es upto) rest) (BaseLocales at) = OtherBase
  told_base (Post (Rounds from es upto) rest) OtherBase = OtherBase
  told_base (Post (Dotted dot m) rest) b = OtherBase

  -- the base that an expression is before posts, from its lowered form
  abbrev pub based : Posts N → ExprTree N → ExprTree N → ExprTree N
  based posts e lowered = read_base (posts_read posts) (bare_name e) (rebased (told_base posts (base_of e)) lowered)

  abbrev pub rounds_of : Base N → Exprs N → PostTree N
  rounds_of (BaseName x) es = rounds_by (known x.name) es
  rounds_of (BaseLocales at) es = Rounds nowhere es nowhere
  rounds_of OtherBase es = Rounds nowhere es nowhere

  abbrev mutual
    pub lowered_expr : Times → ExprTree N → ExprTree N
    lowered_expr m (Number at n) = Number nowhere n
    lowered_expr m (TruthWord at b) = TruthWord nowhere b
    lowered_expr m (Named x) = Named (placed (each_turn m && may_be_array (known x.name)) x)
    lowered_expr m (LocalesWord at) = LocalesWord nowhere
    lowered_expr m (LocaleCount at) = LocaleCount nowhere
    lowered_expr m (HereWord at) = HereWord nowhere
    lowered_expr m (Grouped from item upto) = as_expr (lowered_item m item)
    -- a domain that is too large is told at its opening bracket
    lowered_expr m (DomainLiteral from items upto) = DomainLiteral from (lowered_items items) nowhere
    lowered_expr m (Prefixed at op e) = Prefixed nowhere op (lowered_expr m e)
    -- a budget that is used up is told at `reduce`
    lowered_expr m (Reduced at op word e) = Reduced nowhere op word (lowered_expr EachTurn e)
    lowered_expr m (Chain e rest) = nested (lowered_expr m e) (lowered_links m rest)
    lowered_expr m (Postfixed e posts) =
        stacked (based posts e (lowered_expr Once e)) (lowered_posts (base_of e) posts)

    pub lowered_item : Times → ItemTree N → ItemTree N
    lowered_item m (One e) = as_item (lowered_expr m e)
    lowered_item m (RangeItem low at dots high by) =
        RangeItem (lowered_expr Once low) at (unplaced_dots dots) (lowered_expr Once high) (lowered_stride by)

    -- a stride that is left out stays so: a range with `by 1` is a strided one, which a slice looks at
    pub lowered_stride : Stride N → Stride N
    lowered_stride NoStride = NoStride
    lowered_stride (By at e) = By at (lowered_expr Once e)

    -- a division by zero is told at its operator
    pub lowered_links : Times → Links N → Links N
    lowered_links m NoLinks = NoLinks
    lowered_links m (Link at op e rest) = Link (kept (divides op) at) op (lowered_expr m e) (lowered_links m rest)

    -- posts, of which the first stands behind a base
    pub lowered_posts : Base N → Posts N → Posts N
    lowered_posts b NoPosts = NoPosts
    lowered_posts b (Post p rest) = Post (lowered_post b p) (lowered_posts OtherBase rest)

    pub lowered_post : Base N → PostTree N → PostTree N
    lowered_post b (Brackets from items upto) = Brackets nowhere (lowered_items items) nowhere
    lowered_post b (Rounds from es upto) = rounds_of b (lowered_exprs es)
    lowered_post b (Dotted dot m) = Dotted nowhere (lowered_method m)

    -- an expanded domain past the limits is told at `expand`; an operation that waits, at the cell's name
    pub lowered_method : MethodTree N → MethodTree N
    lowered_method (Plainly at w) = Plainly (kept (is_end w) at) w
    lowered_method (Dim at from rank_at d upto) = Dim nowhere nowhere nowhere d nowhere
    lowered_method (Contains at from es upto) = Contains nowhere nowhere (lowered_exprs es) nowhere
    lowered_method (Expand at from e upto) = Expand at nowhere (lowered_expr Once e) nowhere
    lowered_method (CellRead at w from upto) = CellRead nowhere w nowhere nowhere

    pub lowered_items : Items N → Items N
    lowered_items (FirstItem i more) = FirstItem (lowered_item Once i) (lowered_more_items more)

    pub lowered_more_items : MoreItems N → MoreItems N
    lowered_more_items NoItems = NoItems
    lowered_more_items (NextItem comma i more) = NextItem nowhere (lowered_item Once i) (lowered_more_items more)

    pub lowered_exprs : Exprs N → Exprs N
    lowered_exprs (FirstExpr e more) = FirstExpr (lowered_expr Once e) (lowered_more_exprs more)

    pub lowered_more_exprs : MoreExprs N → MoreExprs N
    lowered_more_exprs NoExprs = NoExprs
    lowered_more_exprs (NextExpr comma e more) = NextExpr nowhere (lowered_expr Once e) (lowered_more_exprs more)
