-- What is seen of a part of a tree by itself, without a state: bare names, cell reads, reduce intents.
-- A bare name stands by itself; a name in round brackets is none, but `(A)[1]` is an element of A like `A[1]`.
use Rattle.std.specs.Prelude.{ℕ, ℤ, pos, negsuc, Option, Some, None, option_map, List, [], ◌∷◌, map}
use Rattle.dpl_syntax.specs.declared.place.Place.{Place}
use Rattle.dpl_history.specs.declared.cell.CellOp.{CellOp}
use Rattle.dpl_history.specs.declared.cell.CellOp.TheVariants.{ReadFE, ReadFF, WriteEF, WriteFF, WriteXF}
use Rattle.dpl_language.specs.Tree.{Placed, AfterComma, Listed, Op, ReadWord, ReadFEWord, ReadFFWord, WriteWord, WriteEFWord, WriteFFWord, WriteXFWord, ExprTree, Named, LocalesWord, Grouped, Postfixed, ItemTree, One, RangeItem, Posts, NoPosts, Post, PostTree, Dotted, MethodTree, CellRead, Items, FirstItem, NoItems, IntentTree, ReduceIntent, RefIntent, WithTree, VariablesTree, OneVariable, ManyVariables}

-- a number that counts, as a token has it; no token has one below 0
abbrev pub natural : ℤ → ℕ
natural (pos n) = n
natural (negsuc n) = 0

-- the parts of a list with commas
abbrev pub parts : {A : Type 0} → Listed A → List A
parts {A} xs = xs.first ∷ map {A = AfterComma A} {B = A} (λ x. x.part) xs.others

-- What stands before brackets, as a fault tells it: a name, the word `Locales`, or something else.
pub data Base (N : Type 0) : Type 0 where
  BaseName : Placed N → Base N
  BaseLocales : Place → Base N
  OtherBase : Base N

abbrev mutual
  pub base_of : {N : Type 0} → ExprTree N → Base N
  base_of (Named x) = BaseName x
  base_of (LocalesWord at) = BaseLocales at
  base_of (Grouped from item upto) = item_base item
  base_of _ = OtherBase

  pub item_base : {N : Type 0} → ItemTree N → Base N
  item_base (One e) = base_of e
  item_base _ = OtherBase

-- the bare name that an expression is
abbrev pub bare_name : {N : Type 0} → ExprTree N → Option (Placed N)
bare_name (Named x) = Some x
bare_name _ = None

-- the operation on a cell that a method's word stands for
abbrev pub read_op : ReadWord → CellOp
read_op ReadFEWord = ReadFE
read_op ReadFFWord = ReadFF

abbrev pub write_op : WriteWord → ℤ → CellOp
write_op WriteEFWord z = WriteEF z
write_op WriteFFWord z = WriteFF z
write_op WriteXFWord z = WriteXF z

abbrev pub method_read : {N : Type 0} → MethodTree N → Option CellOp
method_read (CellRead at w from upto) = Some (read_op w)
method_read _ = None

abbrev pub post_read : {N : Type 0} → PostTree N → Option CellOp
post_read (Dotted dot m) = method_read m
post_read _ = None

-- a cell read stands behind a bare name alone
abbrev pub posts_read : {N : Type 0} → Posts N → Option CellOp
posts_read (Post p NoPosts) = post_read p
posts_read _ = None

-- a read of a cell: `c.readFE()` or `c.readFF()`
pub record ReadTree (N : Type 0) : Type 0 where
  pub name : Placed N
  pub op : CellOp

abbrev pub read_by : {N : Type 0} → Option (Placed N) → Option CellOp → Option (ReadTree N)
read_by (Some x) (Some op) = Some (record { name = x; op = op })
read_by _ _ = None

-- the cell read that an expression is as a whole
abbrev pub cell_read : {N : Type 0} → ExprTree N → Option (ReadTree N)
cell_read (Postfixed e posts) = read_by (bare_name e) (posts_read posts)
cell_read _ = None

abbrev pub item_read : {N : Type 0} → ItemTree N → Option (ReadTree N)
item_read (One e) = cell_read e
item_read (RangeItem low at dots high by) = None

-- the name, without its place
abbrev pub name_of : {N : Type 0} → Option (Placed N) → Option N
name_of {N} x = option_map {T = Placed N} {U = N} (λ x. x.name) x

abbrev pub item_over : {N : Type 0} → ItemTree N → Option N
item_over (One e) = name_of (bare_name e)
item_over (RangeItem low at dots high by) = None

-- the bare domain name over which an array is declared: it stands alone between the brackets
abbrev pub declared_over : {N : Type 0} → Items N → Option N
declared_over (FirstItem i NoItems) = item_over i
declared_over _ = None

-- the reduce variables of a loop and their operators; `ref` changes nothing
abbrev pub reduce_intents : {N : Type 0} → List (IntentTree N) → List (N × Op)
reduce_intents [] = []
reduce_intents (ReduceIntent at op word x ∷ rest) = (x.name, op) ∷ reduce_intents rest
reduce_intents (RefIntent at x ∷ rest) = reduce_intents rest

abbrev pub intents_of : {N : Type 0} → Option (WithTree N) → List (N × Op)
intents_of None = []
intents_of (Some w) = reduce_intents (parts w.intents)

-- the first of a loop's variables
abbrev pub first_name : {N : Type 0} → VariablesTree N → N
first_name (OneVariable x) = x.name
first_name (ManyVariables from xs upto) = xs.first.name
