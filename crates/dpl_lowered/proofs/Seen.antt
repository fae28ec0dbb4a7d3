-- What is seen of a lowered tree without a state is what is seen of the tree: bases, cell reads, bare names.
-- A lowered tree may look like a phrase that the tree isn't; then it stands in brackets where phrases are looked for.
use Rattle.std.proofs.Common.{◌≡◌, Bool, true, false, if◌then◌else◌, refl, sym, ap, ◌∙◌, subst, Some, None, Option}
use Rattle.dpl_syntax.specs.declared.place.Place.{Place}
use Rattle.dpl_language.specs.Tree.{Placed, ExprTree, Number, TruthWord, Named, LocalesWord, LocaleCount, HereWord, Grouped, DomainLiteral, Prefixed, Reduced, Chain, Postfixed, ItemTree, One, RangeItem, Posts, NoPosts, Post, Brackets, Rounds, Dotted, Plainly, Dim, Contains, Expand, CellRead, Items, FirstItem, NoItems, NextItem, Exprs}
use Rattle.dpl_language.specs.Phrases.{Base, BaseName, BaseLocales, OtherBase, base_of, item_base, bare_name, posts_read, ReadTree, read_by, cell_read, item_read, name_of, item_over, declared_over}
use Rattle.dpl_lowered.specs.Known.{Known, may_be_array}
use Rattle.dpl_lowered.specs.Shapes.{nowhere, unplaced, as_item, hidden, hidden_item}
use Rattle.dpl_lowered.specs.LoweredExpressions.{Times, Once, lowered_expr, lowered_item, lowered_links, lowered_posts, based}
use Rattle.dpl_lowered.specs.LoweredStatements.{lowered_side, lowered_over, array_name, lowered_shown}
use Rattle.dpl_lowered.proofs.Nests.{as_expr-base, as_item-base, nested-base, stacked-base}

-- what is seen in the tree is seen in the lowered tree
abbrev pub AsSeen : {A : Type 0} → Option A → Option A → Type 0
AsSeen None p = Unit {0}
AsSeen (Some x) p = p ≡ Some x

none-seen : {A : Type 0} (o : Option A) → AsSeen o None → None ≡ o
none-seen None a = refl
none-seen (Some x) a = a

-- the base, without its place
abbrev pub placeless : {N : Type 0} → Base N → Base N
placeless (BaseName x) = BaseName (unplaced x)
placeless (BaseLocales at) = BaseLocales nowhere
placeless OtherBase = OtherBase

module _ {N : Type 0} where
  -- AN EXPRESSION AS AN ITEM
  as_item-read : (l : ExprTree N) (o : Option (ReadTree N)) → AsSeen o (cell_read l) → AsSeen o (item_read (as_item l))
  as_item-read l None a = tt
  as_item-read (Grouped from item upto) (Some r) a = absurd (let no : None ≡ Some r = a in cc)
  as_item-read _ (Some r) a = a

  as_item-over : (l : ExprTree N) (o : Option N) → AsSeen o (name_of (bare_name l)) → AsSeen o (item_over (as_item l))
  as_item-over l None a = tt
  as_item-over (Grouped from item upto) (Some x) a = absurd (let no : None ≡ Some x = a in cc)
  as_item-over _ (Some x) a = a

  -- IN BRACKETS
  hidden_item-read : (o p : Option (ReadTree N)) (i : ItemTree N) → item_read i ≡ p → AsSeen o p → item_read (hidden_item o p i) ≡ o
  hidden_item-read None None i e a = e
  hidden_item-read None (Some y) i e a = refl
  hidden_item-read (Some r) p i e a = e ∙ a

  hidden_item-over : (o p : Option N) (i : ItemTree N) → item_over i ≡ p → AsSeen o p → item_over (hidden_item o p i) ≡ o
  hidden_item-over None None i e a = e
  hidden_item-over None (Some y) i e a = refl
  hidden_item-over (Some x) p i e a = e ∙ a

  -- a bare name is no cell read
  pub data Either (l : ExprTree N) : Type 0 where
    NoRead : cell_read l ≡ None → Either l
    NoName : bare_name l ≡ None → Either l

  pub either : (l : ExprTree N) → Either l
  either (Postfixed e posts) = NoName refl
  either _ = NoRead refl

  hidden-read : (o p : Option (ReadTree N)) (l : ExprTree N) → cell_read l ≡ p → AsSeen o p → cell_read (hidden o p l) ≡ o
  hidden-read None None l e a = e
  hidden-read None (Some y) l e a = refl
  hidden-read (Some r) p l e a = e ∙ a

  -- What is handed to `write` is the read that the tree is: a bare name, which may stand in brackets, is no cell read.
  shown-read_by : (b c : Option (Placed N)) (o p : Option (ReadTree N)) (l : ExprTree N) → cell_read l ≡ p → (bare_name l ≡ None → c ≡ None) → Either l → AsSeen o p
      → cell_read (hidden b c (hidden o p l)) ≡ o
  shown-read_by (Some x) c o p l e n w a = hidden-read o p l e a
  shown-read_by None None o p l e n w a = hidden-read o p l e a
  shown-read_by None (Some y) o p l e n (NoRead d) a = none-seen o (let same : p ≡ None = sym e ∙ d in subst (AsSeen o) same a)
  shown-read_by None (Some y) o p l e n (NoName d) a = absurd (let no : Some y ≡ None = n d in cc)

  -- and a bare name where the tree is one
  inner-named : (o p : Option (ReadTree N)) (x : Placed N) (l : ExprTree N) → cell_read l ≡ p → Either l → bare_name l ≡ Some x → bare_name (hidden o p l) ≡ Some x
  inner-named None None x l e w n = n
  inner-named None (Some y) x l e (NoRead d) n = absurd (let no : None ≡ Some y = sym d ∙ e in cc)
  inner-named None (Some y) x l e (NoName d) n = absurd (let no : None ≡ Some x = sym d ∙ n in cc)
  inner-named (Some r) p x l e w n = n

  -- what is no bare name is none in brackets either
  inner-name : (o p : Option (ReadTree N)) (l : ExprTree N) → bare_name l ≡ None → bare_name (hidden o p l) ≡ None
  inner-name None None l n = n
  inner-name None (Some y) l n = refl
  inner-name (Some r) p l n = n

  -- an expression that is a bare name
  pub bare_name-is : (l : ExprTree N) (x : Placed N) → bare_name l ≡ Some x → l ≡ Named x
  bare_name-is (Named y) x e = let same : Some y ≡ Some x = e in let name : y ≡ x = cc in ap Named name
  bare_name-is _ x e = absurd (let no : None ≡ Some x = e in cc)

  -- indices behind a base make no cell read
  pub brackets-read : (from : Place) (items : Items N) (upto : Place) (rest : Posts N) → None ≡ posts_read (Post (Brackets from items upto) rest)
  brackets-read from items upto NoPosts = refl
  brackets-read from items upto (Post q rest) = refl

  pub rounds-read : (from : Place) (es : Exprs N) (upto : Place) (rest : Posts N) → None ≡ posts_read (Post (Rounds from es upto) rest)
  rounds-read from es upto NoPosts = refl
  rounds-read from es upto (Post q rest) = refl

module _ {N : Type 0} (known : N → Known) where
  -- BASES
  mutual
    pub base_of-lowered : (e : ExprTree N) → base_of (lowered_expr known Once e) ≡ placeless (base_of e)
    base_of-lowered (Grouped from item upto) = as_expr-base (lowered_item known Once item) ∙ item_base-lowered item
    base_of-lowered (Chain e rest) = nested-base (lowered_expr known Once e) (lowered_links known Once rest)
    base_of-lowered (Postfixed e posts) =
        stacked-base (based known posts e (lowered_expr known Once e)) (lowered_posts known (base_of e) posts)
    base_of-lowered _ = refl

    item_base-lowered : (i : ItemTree N) → item_base (lowered_item known Once i) ≡ placeless (item_base i)
    item_base-lowered (One e) = as_item-base (lowered_expr known Once e) ∙ base_of-lowered e
    item_base-lowered (RangeItem low at dots high by) = refl

  -- CELL READS
  reads-named : (m : Times) (x : Placed N) (posts : Posts N) → AsSeen (read_by (Some x) (posts_read posts)) (cell_read (lowered_expr known m (Postfixed (Named x) posts)))
  reads-named m x NoPosts = tt
  reads-named m x (Post (Brackets from items upto) NoPosts) = tt
  reads-named m x (Post (Rounds from es upto) NoPosts) = tt
  reads-named m x (Post (Dotted dot (Plainly at w)) NoPosts) = tt
  reads-named m x (Post (Dotted dot (Dim at from rank_at d upto)) NoPosts) = tt
  reads-named m x (Post (Dotted dot (Contains at from es upto)) NoPosts) = tt
  reads-named m x (Post (Dotted dot (Expand at from e upto)) NoPosts) = tt
  reads-named m x (Post (Dotted dot (CellRead at w from upto)) NoPosts) = refl
  reads-named m x (Post p (Post q rest)) = tt

  cell_read-lowered : (m : Times) (e : ExprTree N) → AsSeen (cell_read e) (cell_read (lowered_expr known m e))
  cell_read-lowered m (Number at n) = tt
  cell_read-lowered m (TruthWord at b) = tt
  cell_read-lowered m (Named x) = tt
  cell_read-lowered m (LocalesWord at) = tt
  cell_read-lowered m (LocaleCount at) = tt
  cell_read-lowered m (HereWord at) = tt
  cell_read-lowered m (Grouped from item upto) = tt
  cell_read-lowered m (DomainLiteral from items upto) = tt
  cell_read-lowered m (Prefixed at op e) = tt
  cell_read-lowered m (Reduced at op word e) = tt
  cell_read-lowered m (Chain e rest) = tt
  cell_read-lowered m (Postfixed (Number at n) posts) = tt
  cell_read-lowered m (Postfixed (TruthWord at b) posts) = tt
  cell_read-lowered m (Postfixed (Named x) posts) = reads-named m x posts
  cell_read-lowered m (Postfixed (LocalesWord at) posts) = tt
  cell_read-lowered m (Postfixed (LocaleCount at) posts) = tt
  cell_read-lowered m (Postfixed (HereWord at) posts) = tt
  cell_read-lowered m (Postfixed (Grouped from item upto) posts) = tt
  cell_read-lowered m (Postfixed (DomainLiteral from items upto) posts) = tt
  cell_read-lowered m (Postfixed (Prefixed at op e) posts) = tt
  cell_read-lowered m (Postfixed (Reduced at op word e) posts) = tt
  cell_read-lowered m (Postfixed (Chain e rest) posts) = tt
  cell_read-lowered m (Postfixed (Postfixed e first) posts) = tt

  item_read-lowered : (m : Times) (i : ItemTree N) → AsSeen (item_read i) (item_read (lowered_item known m i))
  item_read-lowered m (One e) = as_item-read (lowered_expr known m e) (cell_read e) (cell_read-lowered m e)
  item_read-lowered m (RangeItem low at dots high by) = tt

  -- BARE NAMES
  bare_name-lowered : (m : Times) (e : ExprTree N) → AsSeen (name_of (bare_name e)) (name_of (bare_name (lowered_expr known m e)))
  bare_name-lowered m (Named x) = refl
  bare_name-lowered m _ = tt

  item_over-lowered : (m : Times) (i : ItemTree N) → AsSeen (item_over i) (item_over (lowered_item known m i))
  item_over-lowered m (One e) = as_item-over (lowered_expr known m e) (name_of (bare_name e)) (bare_name-lowered m e)
  item_over-lowered m (RangeItem low at dots high by) = tt

  -- WHERE PHRASES ARE LOOKED FOR
  pub side-read : (m : Times) (i : ItemTree N) → item_read (lowered_side known m i) ≡ item_read i
  side-read m i = hidden_item-read (item_read i) (item_read (lowered_item known m i)) (lowered_item known m i) refl (item_read-lowered m i)

  pub over-declared : (is : Items N) → declared_over (lowered_over known is) ≡ declared_over is
  over-declared (FirstItem i NoItems) =
      hidden_item-over (item_over i) (item_over (lowered_item known Once i)) (lowered_item known Once i) refl (item_over-lowered Once i)
  over-declared (FirstItem i (NextItem comma j more)) = refl

  pub array_name-none : (b : Option (Placed N)) → b ≡ None → array_name known b ≡ None
  array_name-none None n = refl
  array_name-none (Some x) n = absurd (let no : Some x ≡ None = n in cc)

  pub shown-read : (e : ExprTree N) → cell_read (lowered_shown known e (lowered_expr known Once e)) ≡ cell_read e
  shown-read e =
      shown-read_by (bare_name e) _ (cell_read e) _ (lowered_expr known Once e) refl (array_name-none (bare_name (lowered_expr known Once e))) (either (lowered_expr known Once e)) (cell_read-lowered Once e)

  -- What is handed to `write` is the bare name that the tree is; or it is the bare name of what is known to be no array,
  -- in the place of the same name in brackets, which is no cell read.
  pub data Shows (e l : ExprTree N) : Type 0 where
    SameName : name_of (bare_name l) ≡ name_of (bare_name e) → Shows e l
    NoArrayName : (x : Placed N) → bare_name l ≡ Some x → may_be_array (known x.name) ≡ false → bare_name e ≡ None → Shows e l

  bare_name-shows : (e l : ExprTree N) (x : Placed N) (may : Bool) (o p : Option (ReadTree N)) → may_be_array (known x.name) ≡ may → bare_name e ≡ None → bare_name l ≡ Some x → cell_read l ≡ p → Either l
      → Shows e (hidden {A = Placed N} None (if may then Some x else None) (hidden o p l))
  bare_name-shows e l x true o p k be bl rl w = SameName (sym (ap name_of be))
  bare_name-shows e l x false o p k be bl rl w = NoArrayName x (inner-named o p x l rl w bl) k be

  hidden-shows : (e l : ExprTree N) (b c : Option (Placed N)) (o p : Option (ReadTree N)) → bare_name e ≡ b → bare_name l ≡ c → cell_read l ≡ p → Either l → AsSeen (name_of b) (name_of c)
      → Shows e (hidden b (array_name known c) (hidden o p l))
  hidden-shows e l None None o p be bl rl w a = SameName (ap name_of (inner-name o p l bl) ∙ sym (ap name_of be))
  hidden-shows e l None (Some x) o p be bl rl w a = bare_name-shows e l x (may_be_array (known x.name)) o p refl be bl rl w
  hidden-shows e l (Some x) None o p be bl rl w a = absurd (let no : None ≡ Some x.name = a in cc)
  hidden-shows e l (Some x) (Some y) o p be bl rl w a = SameName (ap name_of (inner-named o p y l rl w bl) ∙ a ∙ sym (ap name_of be))

  pub shown-shows : (e : ExprTree N) → Shows e (lowered_shown known e (lowered_expr known Once e))
  shown-shows e = hidden-shows e (lowered_expr known Once e) (bare_name e) _ (cell_read e) _ refl refl refl (either (lowered_expr known Once e)) (bare_name-lowered Once e)
