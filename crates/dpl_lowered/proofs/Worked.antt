-- Small trees and what they are lowered to, one row for each decision that changes no meaning or that keeps one.
-- Names are numbers here, and each token stands in line 1, at the column that its row gives.
use Rattle.std.proofs.Common.{◌≡◌, ℕ, pos, true, false, [], ◌∷◌, refl, Some, None, Option, List}
use Rattle.std.specs.Prelude.{codes}
use Rattle.dpl_syntax.specs.declared.place.Place.{Place}
use Rattle.dpl_language.specs.Tree.{Placed, AfterComma, Minus, Subtract, Divide, Remainder, And, Sum, AssignTree, Assign, Set, SetDivide, IntKind, BoolKind, Closed, Counted, Size, First, DomainOf, Word, ReadFEWord, WriteEFWord, ExprTree, Number, TruthWord, Named, LocalesWord, HereWord, Grouped, DomainLiteral, Prefixed, Reduced, Chain, Postfixed, ItemTree, One, RangeItem, NoStride, By, NoLinks, Link, NoPosts, Post, PostTree, Brackets, Rounds, Dotted, Plainly, Dim, Contains, Expand, CellRead, Items, FirstItem, NoItems, NextItem, Exprs, FirstExpr, NoExprs}
use Rattle.dpl_language.specs.Tree.{BlockMap, MappedTree, TypeTree, ScalarType, SyncType, DomainType, ArrayType, InitTree, ItemInit, CreateBlock, CreateInit, InitialTree, DeclareTree, TextArgument, ExprArgument, IntentTree, ReduceIntent, RefIntent, WithTree, WhileWord, OnWord, ForWord, ForallWord, CoforallWord, StmtTree, OneVariable, ManyVariables, Whole, Element, Square, Round, WriteCall, Nothing, Assigned, Call, Write, If, Headed, Loop, Body, WordBody, BlockBody, NoStmts, Then, ElseDo, BlockModule}
use Rattle.dpl_lowered.specs.Known.{Known, WholeArray, PlainValue, nothing_known}
use Rattle.dpl_lowered.specs.Shapes.{nowhere, two}
use Rattle.dpl_lowered.specs.LoweredExpressions.{Once, EachTurn, lowered_expr, lowered_item}
use Rattle.dpl_lowered.specs.LoweredStatements.{block_map, mapped_by, lowered_side, lowered_over, lowered_declare, lowered_stmt, lowered_body, lowered_program}

-- HOW ROWS ARE WRITTEN
-- a place that stays, and those of tokens of which no place is left
abbrev at : ℕ → Place
at column = record { line = 1; column = column }

-- the place of each token that goes
abbrev gone : Place
gone = at 99

-- a number and a name in a tree, and in a lowered one
abbrev number : ℕ → ExprTree ℕ
number n = Number gone (pos n)

abbrev placeless : ℕ → ExprTree ℕ
placeless n = Number nowhere (pos n)

abbrev name : ℕ → ℕ → Placed ℕ
name column x = record { at = at column; name = x }

abbrev bare : ℕ → Placed ℕ
bare x = record { at = nowhere; name = x }

-- round brackets
abbrev bracketed : ItemTree ℕ → ExprTree ℕ
bracketed item = Grouped gone item gone

abbrev kept_brackets : ItemTree ℕ → ExprTree ℕ
kept_brackets item = Grouped nowhere item nowhere

-- a list of one item or expression
abbrev only : ItemTree ℕ → Items ℕ
only item = FirstItem item NoItems

abbrev alone : ExprTree ℕ → Exprs ℕ
alone e = FirstExpr e NoExprs

-- what stands behind a base
abbrev behind : ExprTree ℕ → PostTree ℕ → ExprTree ℕ
behind e p = Postfixed e (Post p NoPosts)

abbrev indexed : ItemTree ℕ → PostTree ℕ
indexed item = Brackets nowhere (only item) nowhere

abbrev method : Place → Word → PostTree ℕ
method at w = Dotted nowhere (Plainly at w)

-- all names are those of arrays, or of plain variables
abbrev arrays : ℕ → Known
arrays x = WholeArray

abbrev plain : ℕ → Known
plain x = PlainValue

-- NUMBERS, BRACKETS AND CHAINS
-- ((7))
brackets_go : lowered_expr nothing_known Once (bracketed (One (bracketed (One (number 7))))) ≡ placeless 7
brackets_go = refl

-- 8 - 4 - 2 is (8 - 4) - 2, and neither operator is told
two_by_two : lowered_expr nothing_known Once (Chain (number 8) (Link gone Subtract (number 4) (Link gone Subtract (number 2) NoLinks))) ≡ two (two (placeless 8) nowhere Subtract (placeless 4)) nowhere Subtract (placeless 2)
two_by_two = refl

-- 8 / 4 % (2): both operators are told
divisions_are_told : lowered_expr nothing_known Once (Chain (number 8) (Link (at 3) Divide (number 4) (Link (at 7) Remainder (bracketed (One (number 2))) NoLinks)))
    ≡ two (two (placeless 8) (at 3) Divide (placeless 4)) (at 7) Remainder (placeless 2)
divisions_are_told = refl

-- 8 - (4 - 2) stays grouped to the right
grouping_stays : lowered_expr nothing_known Once (Chain (number 8) (Link gone Subtract (bracketed (One (Chain (number 4) (Link gone Subtract (number 2) NoLinks)))) NoLinks))
    ≡ two (placeless 8) nowhere Subtract (two (placeless 4) nowhere Subtract (placeless 2))
grouping_stays = refl

-- a && b && c
ands_nest : lowered_expr nothing_known Once (Chain (Named (name 1 0)) (Link gone And (Named (name 6 1)) (Link gone And (Named (name 11 2)) NoLinks))) ≡ two (two (Named (bare 0)) nowhere And (Named (bare 1))) nowhere And (Named (bare 2))
ands_nest = refl

-- a && b / c in one chain, which no text spells, isn't (a && b) / c
mixed_chains_stay : lowered_expr nothing_known Once (Chain (Named (name 1 0)) (Link gone And (Named (name 6 1)) (Link (at 8) Divide (Named (name 10 2)) NoLinks)))
    ≡ Chain (Named (bare 0)) (Link nowhere And (Named (bare 1)) (Link (at 8) Divide (Named (bare 2)) NoLinks))
mixed_chains_stay = refl

-- RANGES
-- ((1..#3 by 2)): the dots and `by` are told, and brackets stay round a range
range_in_brackets : lowered_expr nothing_known Once (bracketed (One (bracketed (RangeItem (number 1) (at 4) (Counted gone) (number 3) (By (at 9) (number 2))))))
    ≡ kept_brackets (RangeItem (placeless 1) (at 4) (Counted nowhere) (placeless 3) (By (at 9) (placeless 2)))
range_in_brackets = refl

-- as an item it needs none; and a stride that is left out is not `by 1`
range_as_an_item : lowered_item nothing_known Once (One (bracketed (RangeItem (number 1) (at 3) Closed (number 8) NoStride))) ≡ RangeItem (placeless 1) (at 3) Closed (placeless 8) NoStride
range_as_an_item = refl

-- { 1..8, D }: the opening bracket is told
domain_literal : lowered_expr nothing_known Once (DomainLiteral (at 1) (FirstItem (RangeItem (number 1) (at 4) Closed (number 8) NoStride) (NextItem gone (One (Named (name 9 0))) NoItems)) gone)
    ≡ DomainLiteral (at 1) (FirstItem (RangeItem (placeless 1) (at 4) Closed (placeless 8) NoStride) (NextItem nowhere (One (Named (bare 0))) NoItems)) nowhere
domain_literal = refl

-- NAMES
-- a name is told at an index, where it may be an array's
name_once : lowered_expr nothing_known Once (Named (name 1 0)) ≡ Named (bare 0)
name_once = refl

name_in_turns : lowered_expr nothing_known EachTurn (Named (name 1 0)) ≡ Named (name 1 0)
name_in_turns = refl

array_in_turns : lowered_expr arrays EachTurn (Named (name 1 0)) ≡ Named (name 1 0)
array_in_turns = refl

plain_in_turns : lowered_expr plain EachTurn (Named (name 1 0)) ≡ Named (bare 0)
plain_in_turns = refl

-- + reduce -A: `reduce` is told, and A at each index
reduction : lowered_expr nothing_known Once (Reduced gone Sum (at 3) (Prefixed gone Minus (Named (name 11 0)))) ≡ Reduced nowhere Sum (at 3) (Prefixed nowhere Minus (Named (name 11 0)))
reduction = refl

-- ACCESSES AND METHODS
-- (A)[1] is A[1], and A is told
element : lowered_expr nothing_known Once (behind (bracketed (One (Named (name 2 0)))) (Brackets gone (only (One (number 1))) gone)) ≡ behind (Named (name 2 0)) (indexed (One (placeless 1)))
element = refl

-- D[2..3], where D is known to be no array's name: it is not told
slice : lowered_expr plain Once (behind (Named (name 1 0)) (Brackets gone (only (RangeItem (number 2) (at 4) Closed (number 3) NoStride)) gone))
    ≡ behind (Named (bare 0)) (indexed (RangeItem (placeless 2) (at 4) Closed (placeless 3) NoStride))
slice = refl

-- A(1) is A[1] where A is known to be an array's name
round_element : lowered_expr arrays Once (behind (Named (name 1 0)) (Rounds gone (alone (number 1)) gone)) ≡ behind (Named (name 1 0)) (indexed (One (placeless 1)))
round_element = refl

-- else it stays as it is
round_brackets : lowered_expr nothing_known Once (behind (Named (name 1 0)) (Rounds gone (alone (number 1)) gone)) ≡ behind (Named (name 1 0)) (Rounds nowhere (alone (placeless 1)) nowhere)
round_brackets = refl

-- A.domain.dim(0).first: one post behind another; the end is told, and A is not
posts_one_by_one : lowered_expr nothing_known Once (Postfixed (Named (name 1 0)) (Post (Dotted gone (Plainly gone DomainOf)) (Post (Dotted gone (Dim gone gone gone 0 gone)) (Post (Dotted gone (Plainly (at 17) First)) NoPosts))))
    ≡ behind (behind (behind (Named (bare 0)) (method nowhere DomainOf)) (Dotted nowhere (Dim nowhere nowhere nowhere 0 nowhere))) (method (at 17) First)
posts_one_by_one = refl

-- D.expand(1).contains(2): `expand` is told
expansion : lowered_expr nothing_known Once (Postfixed (Named (name 1 0)) (Post (Dotted gone (Expand (at 3) gone (number 1) gone)) (Post (Dotted gone (Contains gone gone (alone (number 2)) gone)) NoPosts)))
    ≡ behind (behind (Named (bare 0)) (Dotted nowhere (Expand (at 3) nowhere (placeless 1) nowhere))) (Dotted nowhere (Contains nowhere nowhere (alone (placeless 2)) nowhere))
expansion = refl

-- Locales[0] is told at `Locales`; by itself, and before a dot, it isn't
one_locale : lowered_expr {N = ℕ} nothing_known Once (behind (LocalesWord (at 1)) (Brackets gone (only (One (number 0))) gone)) ≡ behind (LocalesWord (at 1)) (indexed (One (placeless 0)))
one_locale = refl

all_locales : lowered_expr {N = ℕ} nothing_known Once (behind (bracketed (One (LocalesWord (at 2)))) (Dotted gone (Plainly gone Size))) ≡ behind (LocalesWord nowhere) (method nowhere Size)
all_locales = refl

-- PHRASES
-- c.readFE(): c is told
abbrev read_method : PostTree ℕ
read_method = Dotted gone (CellRead gone ReadFEWord gone gone)

abbrev lowered_method : PostTree ℕ
lowered_method = Dotted nowhere (CellRead nowhere ReadFEWord nowhere nowhere)

abbrev read : ExprTree ℕ
read = behind (Named (name 5 0)) read_method

abbrev lowered_read : ExprTree ℕ
lowered_read = behind (Named (name 5 0)) lowered_method

cell_read : lowered_side nothing_known Once (One read) ≡ One lowered_read
cell_read = refl

-- x = ((c.readFE())); reads no cell, and one pair of brackets stays
no_cell_read : lowered_side nothing_known Once (One (bracketed (One (bracketed (One read))))) ≡ One (kept_brackets (One lowered_read))
no_cell_read = refl

-- but in x = -(c.readFE()) they hide nothing
operand_in_brackets : lowered_side nothing_known Once (One (Prefixed gone Minus (bracketed (One read)))) ≡ One (Prefixed nowhere Minus lowered_read)
operand_in_brackets = refl

-- (c).readFE() reads no cell, and c is not told
read_of_no_name : lowered_expr nothing_known Once (behind (bracketed (One (Named (name 2 0)))) read_method) ≡ behind (kept_brackets (One (Named (bare 0)))) lowered_method
read_of_no_name = refl

-- [D] and [(D)]: the second array is over no name
over_a_name : lowered_over nothing_known (only (One (Named (name 2 0)))) ≡ only (One (Named (bare 0)))
over_a_name = refl

over_no_name : lowered_over nothing_known (only (One (bracketed (One (Named (name 3 0)))))) ≡ only (One (kept_brackets (One (Named (bare 0)))))
over_no_name = refl

-- [(D), (1..8)]: behind a comma brackets hide nothing
over_two : lowered_over nothing_known (FirstItem (One (bracketed (One (Named (name 3 0))))) (NextItem gone (One (bracketed (RangeItem (number 1) (at 9) Closed (number 8) NoStride))) NoItems))
    ≡ FirstItem (One (Named (bare 0))) (NextItem nowhere (RangeItem (placeless 1) (at 9) Closed (placeless 8) NoStride) NoItems)
over_two = refl

-- write("s", A, (A)); shows the array once; no comma is left
write_names : lowered_stmt nothing_known (Write (record {
  at = gone;
  ends_line = false;
  from = gone;
  arguments = Some (record {
    first = TextArgument gone (codes "s");
    others = record { comma = gone; part = ExprArgument (Named (name 9 0)) } ∷ record { comma = gone; part = ExprArgument (bracketed (One (Named (name 13 0)))) } ∷ [];
  });
  upto = gone;
  semicolon = gone;
}))
    ≡ Write (record {
      at = nowhere;
      ends_line = false;
      from = nowhere;
      arguments = Some (record {
        first = TextArgument nowhere (codes "s");
        others = record { comma = nowhere; part = ExprArgument (Named (bare 0)) } ∷ record { comma = nowhere; part = ExprArgument (kept_brackets (One (Named (bare 0)))) } ∷ [];
      });
      upto = nowhere;
      semicolon = nowhere;
    })
write_names = refl

-- writeln((x)); of a name that is known to be no array's needs no brackets
abbrev writing : Place → ExprTree ℕ → StmtTree ℕ
writing at e = Write (record { at = at; ends_line = true; from = at; arguments = Some (record { first = ExprArgument e; others = [] }); upto = at; semicolon = at })

write_plain_name : lowered_stmt plain (writing gone (bracketed (One (Named (name 9 0))))) ≡ writing nowhere (Named (bare 0))
write_plain_name = refl

-- but of a cell it reads none
write_no_read : lowered_stmt plain (writing gone (bracketed (One read))) ≡ writing nowhere (kept_brackets (One lowered_read))
write_no_read = refl

-- DECLARATIONS
-- a declaration of name 0 in column 7, and a lowered one, whose name is told or not
abbrev declaring : Option Place → Option (TypeTree ℕ) → Option (InitialTree ℕ) → DeclareTree ℕ
declaring config None initial = record { config = config; at = gone; constant = true; name = name 7 0; typed = None; initial = initial; semicolon = gone }
declaring config (Some type) initial = record { config = config; at = gone; constant = true; name = name 7 0; typed = Some (record { colon = gone; type = type }); initial = initial; semicolon = gone }

abbrev declared : Placed ℕ → Option (TypeTree ℕ) → Option (InitialTree ℕ) → DeclareTree ℕ
declared x None initial = record { config = None; at = nowhere; constant = false; name = x; typed = None; initial = initial; semicolon = nowhere }
declared x (Some type) initial = record { config = None; at = nowhere; constant = false; name = x; typed = Some (record { colon = nowhere; type = type }); initial = initial; semicolon = nowhere }

abbrev initially : Place → ItemTree ℕ → Option (InitialTree ℕ)
initially equals item = Some (record { equals = equals; init = ItemInit item None })

-- var x: int; and var x: bool;
int_variable : lowered_declare nothing_known (declaring None (Some (ScalarType gone IntKind)) None) ≡ declared (bare 0) None (initially nowhere (One (placeless 0)))
int_variable = refl

bool_variable : lowered_declare nothing_known (declaring None (Some (ScalarType gone BoolKind)) None) ≡ declared (bare 0) None (initially nowhere (One (TruthWord nowhere false)))
bool_variable = refl

-- const x: int = (7); is var x = 7;
constant : lowered_declare nothing_known (declaring None (Some (ScalarType gone IntKind)) (initially gone (One (bracketed (One (number 7)))))) ≡ declared (bare 0) None (initially nowhere (One (placeless 7)))
constant = refl

-- config const x = 7; stays one
config_constant : lowered_declare nothing_known (declaring (Some gone) None (initially gone (One (number 7)))) ≡ record (declared (bare 0) None (initially nowhere (One (placeless 7)))) { config = Some nowhere }
config_constant = refl

-- dmapped new blockDist({1..8})
abbrev mapping : MappedTree ℕ
mapping = record {
  at = gone;
  map = BlockMap (record {
    new = gone;
    word = gone;
    from = gone;
    argument = None;
    box = One (DomainLiteral gone (only (RangeItem (number 1) gone Closed (number 8) NoStride)) gone);
    upto = gone;
  });
}

-- the same, lowered: no place is left but those that a fault of its box tells
abbrev lowered_mapping : MappedTree ℕ
lowered_mapping = mapped_by (block_map (One (DomainLiteral gone (only (RangeItem (placeless 1) gone Closed (placeless 8) NoStride)) nowhere)))

-- domain(rank), whose tokens stand there
abbrev domain_of : Place → ℕ → Option (MappedTree ℕ) → TypeTree ℕ
domain_of at rank mapped = DomainType (record { at = at; from = at; rank_at = at; rank = rank; upto = at; mapped = mapped })

-- an initial value with a map
abbrev initially_mapped : ItemTree ℕ → MappedTree ℕ → Option (InitialTree ℕ)
initially_mapped item m = Some (record { equals = nowhere; init = ItemInit item (Some m) })

-- var D: domain(2) dmapped ..;
domain_variable : lowered_declare nothing_known (declaring None (Some (domain_of gone 2 (Some mapping))) None)
    ≡ declared (bare 0) (Some (domain_of nowhere 2 (Some lowered_mapping))) None
domain_variable = refl

-- var D: domain(1) = E; keeps a type, by which D is a root
domain_root : lowered_declare nothing_known (declaring None (Some (domain_of gone 1 None)) (Some (record { equals = gone; init = ItemInit (One (Named (name 22 1))) None })))
    ≡ declared (bare 0) (Some (domain_of nowhere 0 None)) (initially nowhere (One (Named (bare 1))))
domain_root = refl

-- var D: domain(1) dmapped .. = E; has the map beside the value
domain_typed : lowered_declare nothing_known (declaring None (Some (domain_of gone 1 (Some mapping))) (Some (record { equals = gone; init = ItemInit (One (Named (name 22 1))) None })))
    ≡ declared (bare 0) None (initially_mapped (One (Named (bare 1))) lowered_mapping)
domain_typed = refl

-- var D: domain(1) = E dmapped ..; needs no type
domain_value : lowered_declare nothing_known (declaring None (Some (domain_of gone 1 None)) (Some (record { equals = gone; init = ItemInit (One (Named (name 22 1))) (Some mapping) })))
    ≡ declared (bare 0) None (initially_mapped (One (Named (bare 1))) lowered_mapping)
domain_value = refl

-- blockDist.createDomain(1..8)
abbrev created : InitTree ℕ
created = CreateInit (record {
  at = gone;
  word = CreateBlock;
  dot = gone;
  method = gone;
  from = at 32;
  items = only (RangeItem (number 1) (at 34) Closed (number 8) NoStride);
  upto = gone;
})

abbrev created_literal : ExprTree ℕ
created_literal = DomainLiteral (at 32) (only (RangeItem (placeless 1) (at 34) Closed (placeless 8) NoStride)) nowhere

-- var D = blockDist.createDomain(1..8); is var D = {1..8} dmapped new blockDist({1..8});
created_domain : lowered_declare nothing_known (declaring None None (Some (record { equals = gone; init = created })))
    ≡ declared (bare 0) None (initially_mapped (One created_literal) (mapped_by (block_map (One created_literal))))
created_domain = refl

-- var c: sync int; is empty, and stays so
cell : lowered_declare nothing_known (declaring None (Some (SyncType gone gone IntKind)) None) ≡ declared (bare 0) (Some (SyncType nowhere nowhere IntKind)) None
cell = refl

-- [D] int
abbrev array_over : Place → Placed ℕ → TypeTree ℕ
array_over upto x = ArrayType (record { from = at 10; over = only (One (Named x)); upto = upto; kind_at = upto; kind = IntKind })

-- var A: [D] int = B; the name, the opening bracket, `=` and B are told
array : lowered_declare nothing_known (declaring None (Some (array_over gone (name 11 1))) (initially (at 18) (One (Named (name 20 2)))))
    ≡ declared (name 7 0) (Some (array_over nowhere (bare 1))) (initially (at 18) (One (Named (name 20 2))))
array = refl

-- ASSIGNMENTS AND CALLS
abbrev sign : ℕ → Assign → AssignTree
sign column op = record { at = at column; op = op; last = gone }

abbrev lowered_sign : Place → Assign → AssignTree
lowered_sign at op = record { at = at; op = op; last = nowhere }

-- x = y; where nothing is known, and where both are plain
assignment : lowered_stmt nothing_known (Assigned (Whole (name 1 0)) (sign 3 Set) (One (Named (name 5 1))) gone) ≡ Assigned (Whole (name 1 0)) (lowered_sign (at 3) Set) (One (Named (name 5 1))) nowhere
assignment = refl

plain_assignment : lowered_stmt plain (Assigned (Whole (name 1 0)) (sign 3 Set) (One (Named (name 5 1))) gone) ≡ Assigned (Whole (bare 0)) (lowered_sign nowhere Set) (One (Named (bare 1))) nowhere
plain_assignment = refl

-- x /= y; divides
plain_division : lowered_stmt plain (Assigned (Whole (name 1 0)) (sign 3 SetDivide) (One (Named (name 6 1))) gone) ≡ Assigned (Whole (bare 0)) (lowered_sign (at 3) SetDivide) (One (Named (bare 1))) nowhere
plain_division = refl

-- A(1) = y; is A[1] = y;
element_assignment : lowered_stmt nothing_known (Assigned (Element (name 1 0) Round gone (alone (number 1)) gone) (sign 6 Set) (One (Named (name 8 1))) gone)
    ≡ Assigned (Element (name 1 0) Square nowhere (alone (placeless 1)) nowhere) (lowered_sign nowhere Set) (One (Named (bare 1))) nowhere
element_assignment = refl

-- c.writeEF((7)); is told at c
cell_write : lowered_stmt nothing_known (Call (name 1 0) gone (WriteCall gone WriteEFWord gone (bracketed (One (number 7))) gone) gone) ≡ Call (name 1 0) nowhere (WriteCall nowhere WriteEFWord nowhere (placeless 7) nowhere) nowhere
cell_write = refl

-- BODIES, LOOPS AND PROGRAMS
-- { }, and a list of one statement
abbrev empty_block : Body ℕ
empty_block = BlockBody gone NoStmts gone

abbrev no_statements : Body ℕ
no_statements = BlockBody nowhere NoStmts nowhere

abbrev one_nothing : Body ℕ
one_nothing = BlockBody nowhere (Then (Nothing nowhere) NoStmts) nowhere

-- do ; and { ; } are one list
one_statement : lowered_body nothing_known (WordBody gone (Nothing gone)) ≡ one_nothing
one_statement = refl

block_body : lowered_body nothing_known (BlockBody gone (Then (Nothing gone) NoStmts) gone) ≡ one_nothing
block_body = refl

-- if x then ; else ;
branches : lowered_stmt nothing_known (If gone (Named (name 4 0)) (WordBody gone (Nothing gone)) (ElseDo gone (Nothing gone))) ≡ If nowhere (Named (bare 0)) one_nothing (ElseDo nowhere (Nothing nowhere))
branches = refl

-- while x { }: its word is told
while_loop : lowered_stmt nothing_known (Headed WhileWord (at 1) (Named (name 7 0)) empty_block) ≡ Headed WhileWord (at 1) (Named (bare 0)) no_statements
while_loop = refl

-- for (i, j) in D { }: so is its
for_loop : lowered_stmt nothing_known (Loop ForWord (at 1) (ManyVariables gone (record { first = name 6 0; others = record { comma = gone; part = name 9 1 } ∷ [] }) gone) gone (One (Named (name 15 2))) None empty_block)
    ≡ Loop ForWord (at 1) (ManyVariables nowhere (record { first = bare 0; others = record { comma = nowhere; part = bare 1 } ∷ [] }) nowhere) nowhere (One (Named (bare 2))) None no_statements
for_loop = refl

-- with ( .. )
abbrev intents : Place → IntentTree ℕ → List (AfterComma (IntentTree ℕ)) → Option (WithTree ℕ)
intents at first others = Some (record { at = at; from = at; intents = record { first = first; others = others }; upto = at })

abbrev referring : IntentTree ℕ
referring = RefIntent gone (name 20 5)

-- forall i in D with ( .. ) { }
abbrev loop : Option (WithTree ℕ) → StmtTree ℕ
loop with = Loop ForallWord (at 1) (OneVariable (name 8 0)) gone (One (Named (name 13 2))) with empty_block

abbrev lowered_loop : Option (WithTree ℕ) → StmtTree ℕ
lowered_loop with = Loop ForallWord (at 1) (OneVariable (bare 0)) nowhere (One (Named (bare 2))) with no_statements

-- with (ref A, + reduce s): the reduce intent alone
reduce_intent : lowered_stmt nothing_known (loop (intents gone referring (record { comma = gone; part = ReduceIntent gone Sum gone (name 36 3) } ∷ []))) ≡ lowered_loop (intents nowhere (ReduceIntent nowhere Sum nowhere (bare 3)) [])
reduce_intent = refl

-- with (ref A) is nothing
no_intent : lowered_stmt nothing_known (loop (intents gone referring [])) ≡ lowered_loop None
no_intent = refl

-- and a coforall has none
coforall : lowered_stmt nothing_known (Loop CoforallWord (at 1) (OneVariable (name 10 0)) gone (One (Named (name 15 2))) (intents gone referring []) empty_block)
    ≡ Loop CoforallWord (at 1) (OneVariable (bare 0)) nowhere (One (Named (bare 2))) None no_statements
coforall = refl

-- on here { }: nothing is told
on_a_locale : lowered_stmt nothing_known (Headed OnWord gone (HereWord gone) empty_block) ≡ Headed OnWord nowhere (HereWord nowhere) no_statements
on_a_locale = refl

-- use BlockDist; ;
program : lowered_program {N = ℕ} nothing_known (record {
  uses = record { at = gone; modules = record { first = record { at = gone; word = BlockModule }; others = [] }; semicolon = gone } ∷ [];
  stmts = Then (Nothing gone) NoStmts;
  end = gone;
})
    ≡ record { uses = []; stmts = Then (Nothing nowhere) NoStmts; end = nowhere }
program = refl
