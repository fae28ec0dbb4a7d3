-- Rows of tokens, worked out against the definitions. Each token stands where it would in the text above it.
-- The reader computes on each, and what it reads is so by the laws.
use Rattle.std.specs.Prelude.{pos}
use Rattle.std.proofs.Common.{◌≡◌, ℕ, zero, suc, ◌+◌, ◌-◌, ◌*◌, true, false, List, [], ◌∷◌, ◌++◌, codes, drop, Some, None, Ok, Err, refl}
use Rattle.dpl_syntax.specs.declared.place.Place.{Place}
use Rattle.dpl_syntax.specs.declared.refusal.Code.TheVariants.{Unexpected as UnexpectedCode, TooDeep}
use Rattle.dpl_syntax.specs.declared.token.Keyword.{Keyword as KeywordOf}
use Rattle.dpl_syntax.specs.declared.token.Keyword.TheVariants as word_of
use Rattle.dpl_syntax.specs.declared.token.Contextual.{Contextual as ContextualOf}
use Rattle.dpl_syntax.specs.declared.token.Contextual.TheVariants as contextual_of
use Rattle.dpl_syntax.specs.declared.token.Sign.{Sign as SignOf}
use Rattle.dpl_syntax.specs.declared.token.Sign.TheVariants as sign_of
use Rattle.dpl_syntax.specs.declared.token.Kind.TheVariants.{Name, Contextual, Number as NumberKind, Keyword, Sign, End}
use Rattle.dpl_syntax.specs.declared.token.Token.{Token}
use Rattle.dpl_language.specs.Tree.{Placed, Add, Multiply, Minus, Number, Named, Grouped, DomainLiteral, Prefixed, Chain, Postfixed, One, RangeItem, Closed, NoStride, Link, NoLinks, Post, NoPosts, Dotted, Plainly, Word, Size, DomainOf, FirstItem, NoItems, StartTree, StartExpr, StartTuple}
use Rattle.dpl_language.specs.Tree.{MapTree, BlockMap, CyclicMap, ItemInit, Set, SetReduce, ExprArgument, Whole, Nothing, Declare, Assigned, Write, If, Headed, WordBody, Then, NoStmts, NoElse, ElseDo, Block, WhileWord}
use Rattle.dpl_grammar.specs.Reader.{Unexpected, NoRoom}
use Rattle.dpl_spelling.specs.Nested.{Expression, Statement}
use Rattle.dpl_spelling.specs.Grammar.{Program}
use Rattle.dpl_spelling.specs.Theorem.{Spells, Refuses}
use Rattle.dpl_spelling.proofs.OnRows.{parser_on_rows}
use Rattle.dpl_spelling.proofs.Programs.{read, read_spelled, stopped_refused}

-- Tokens, each with its column in the line.

abbrev at : ℕ → Place
at n = record { line = 1; column = n }

abbrev word : ℕ → KeywordOf → Token
word n w = record { kind = Keyword w; at = at n }

abbrev contextual : ℕ → ContextualOf → Token
contextual n w = record { kind = Contextual w; at = at n }

abbrev sign : ℕ → SignOf → Token
sign n s = record { kind = Sign s; at = at n }

abbrev name : ℕ → List ℕ → Token
name n text = record { kind = Name text; at = at n }

abbrev number : ℕ → ℕ → Token
number n value = record { kind = NumberKind (pos value); at = at n }

abbrev end : ℕ → Token
end n = record { kind = End; at = at n }

abbrev named : ℕ → List ℕ → Placed (List ℕ)
named n text = record { at = at n; name = text }

-- for i in 1..3 writeln(i);
-- A body that is no block has its `do`.
abbrev no_do : List Token
no_do = word 1 word_of.For ∷ name 5 (codes "i") ∷ word 7 word_of.In ∷ number 10 1 ∷ sign 11 sign_of.DotDot ∷ number 13 3
    ∷ word 15 word_of.Writeln ∷ sign 22 sign_of.OpenRound ∷ name 23 (codes "i") ∷ sign 24 sign_of.CloseRound ∷ sign 25 sign_of.Semicolon ∷ end 26 ∷ []

no_do_read : read 64 no_do ≡ Err (Unexpected, drop 6 no_do)
unfolding parser_on_rows
no_do_read = refl

no_do_refused : Refuses no_do (record { code = UnexpectedCode; place = Some (at 15) })
no_do_refused = stopped_refused no_do (drop 6 no_do) Unexpected no_do_read

-- writeln(1
abbrev cut_short : List Token
cut_short = word 1 word_of.Writeln ∷ sign 8 sign_of.OpenRound ∷ number 9 1 ∷ end 10 ∷ []

cut_short_read : read 64 cut_short ≡ Err (Unexpected, drop 3 cut_short)
unfolding parser_on_rows
cut_short_read = refl

cut_short_refused : Refuses cut_short (record { code = UnexpectedCode; place = Some (at 10) })
cut_short_refused = stopped_refused cut_short (drop 3 cut_short) Unexpected cut_short_read

-- x = 1..3 == 2;
-- A range is no operand.
abbrev compared_range : List Token
compared_range = name 1 (codes "x") ∷ sign 3 sign_of.Assign ∷ number 5 1 ∷ sign 6 sign_of.DotDot ∷ number 8 3
    ∷ sign 10 sign_of.Equal ∷ number 13 2 ∷ sign 14 sign_of.Semicolon ∷ end 15 ∷ []

compared_range_read : read 64 compared_range ≡ Err (Unexpected, drop 5 compared_range)
unfolding parser_on_rows
compared_range_read = refl

compared_range_refused : Refuses compared_range (record { code = UnexpectedCode; place = Some (at 10) })
compared_range_refused = stopped_refused compared_range (drop 5 compared_range) Unexpected compared_range_read

-- Programs of one statement.

abbrev one : Statement → ℕ → Program
one s n = record { uses = []; stmts = Then s NoStmts; end = at n }

-- writeln(e); whose closing bracket stands at this column
abbrev printed : Expression → ℕ → Program
printed e upto = one (Write (record { at = at 1; ends_line = true; from = at 8; arguments = Some (record { first = ExprArgument e; others = [] }); upto = at upto; semicolon = at (upto + 1) })) (upto + 2)

-- writeln(a * -b * c);
-- A `-` behind `*` takes the product behind it, as in writeln(a * (-(b * c)));
abbrev negated : List Token
negated = word 1 word_of.Writeln ∷ sign 8 sign_of.OpenRound ∷ name 9 (codes "a") ∷ sign 11 sign_of.Star ∷ sign 13 sign_of.Minus ∷ name 14 (codes "b") ∷ sign 16 sign_of.Star ∷ name 18 (codes "c")
    ∷ sign 19 sign_of.CloseRound ∷ sign 20 sign_of.Semicolon ∷ end 21 ∷ []

abbrev negated_in_brackets : List Token
negated_in_brackets = word 1 word_of.Writeln ∷ sign 8 sign_of.OpenRound ∷ name 9 (codes "a") ∷ sign 11 sign_of.Star
    ∷ sign 13 sign_of.OpenRound ∷ sign 14 sign_of.Minus ∷ sign 15 sign_of.OpenRound ∷ name 16 (codes "b") ∷ sign 18 sign_of.Star ∷ name 20 (codes "c") ∷ sign 21 sign_of.CloseRound ∷ sign 22 sign_of.CloseRound
    ∷ sign 23 sign_of.CloseRound ∷ sign 24 sign_of.Semicolon ∷ end 25 ∷ []

-- a * (-(b * c)), whose tokens from `-` on stand at these columns; `outer` and `inner` put brackets round, or none
abbrev product_of : (minus b star c : ℕ) (outer inner : Expression → Expression) → Expression
product_of minus b star c outer inner = Chain (Named (named 9 (codes "a")))
    (Link (at 11) Multiply (outer (Prefixed (at minus) Minus (inner (Chain (Named (named b (codes "b"))) (Link (at star) Multiply (Named (named c (codes "c"))) NoLinks))))) NoLinks)

abbrev in_round : ℕ → ℕ → Expression → Expression
in_round from upto e = Grouped (at from) (One e) (at upto)

negated_read : read 64 negated ≡ Ok (printed (product_of 13 14 16 18 (λ e. e) (λ e. e)) 19, [])
unfolding parser_on_rows
negated_read = refl

negated_in_brackets_read : read 64 negated_in_brackets ≡ Ok (printed (product_of 14 16 18 20 (in_round 13 22) (in_round 15 21)) 23, [])
unfolding parser_on_rows
negated_in_brackets_read = refl

negated_spelled : Spells 64 negated (printed (product_of 13 14 16 18 (λ e. e) (λ e. e)) 19)
negated_spelled = read_spelled 64 negated (printed (product_of 13 14 16 18 (λ e. e) (λ e. e)) 19) negated_read

negated_in_brackets_spelled : Spells 64 negated_in_brackets (printed (product_of 14 16 18 20 (in_round 13 22) (in_round 15 21)) 23)
negated_in_brackets_spelled = read_spelled 64 negated_in_brackets (printed (product_of 14 16 18 20 (in_round 13 22) (in_round 15 21)) 23) negated_in_brackets_read

-- if a then if b then x = 1; else x = 2;
-- An `else` belongs to the nearest `if`.
abbrev two_ifs : List Token
two_ifs = word 1 word_of.If ∷ name 4 (codes "a") ∷ word 6 word_of.Then
    ∷ word 11 word_of.If ∷ name 14 (codes "b") ∷ word 16 word_of.Then ∷ name 21 (codes "x") ∷ sign 23 sign_of.Assign ∷ number 25 1 ∷ sign 26 sign_of.Semicolon
    ∷ word 28 word_of.Else ∷ name 33 (codes "x") ∷ sign 35 sign_of.Assign ∷ number 37 2 ∷ sign 38 sign_of.Semicolon ∷ end 39 ∷ []

-- x = value; from this column on
abbrev set_x : ℕ → ℕ → Statement
set_x n value = Assigned (Whole (named n (codes "x"))) (record { at = at (n + 2); op = Set; last = at (n + 2) }) (One (Number (at (n + 4)) (pos value))) (at (n + 5))

abbrev two_ifs_tree : Program
two_ifs_tree = one (If (at 1) (Named (named 4 (codes "a"))) (WordBody (at 6) (If (at 11) (Named (named 14 (codes "b"))) (WordBody (at 16) (set_x 21 1)) (ElseDo (at 28) (set_x 33 2)))) NoElse) 39

two_ifs_read : read 64 two_ifs ≡ Ok (two_ifs_tree, [])
unfolding parser_on_rows
two_ifs_read = refl

two_ifs_spelled : Spells 64 two_ifs two_ifs_tree
two_ifs_spelled = read_spelled 64 two_ifs two_ifs_tree two_ifs_read

-- Maps: var D = A dmapped new ..;

abbrev mapped_a : List Token → List Token
mapped_a rest = word 1 word_of.Var ∷ name 5 (codes "D") ∷ sign 7 sign_of.Assign ∷ name 9 (codes "A") ∷ word 11 word_of.Dmapped ∷ word 19 word_of.New ∷ rest

-- with its `;` at this column
abbrev mapped_by : MapTree (List ℕ) → ℕ → Program
mapped_by m semicolon = one (Declare (record {
  config = None;
  at = at 1;
  constant = false;
  name = named 5 (codes "D");
  typed = None;
  initial = Some (record { equals = at 7; init = ItemInit (One (Named (named 9 (codes "A")))) (Some (record { at = at 11; map = m })) });
  semicolon = at semicolon;
})) (semicolon + 1)

-- .. blockDist(boundingBox={1..8});
abbrev box_named : List Token
box_named = mapped_a (word 23 word_of.BlockDist ∷ sign 32 sign_of.OpenRound ∷ contextual 33 contextual_of.BoundingBox ∷ sign 44 sign_of.Assign
    ∷ sign 45 sign_of.OpenCurly ∷ number 46 1 ∷ sign 47 sign_of.DotDot ∷ number 49 8 ∷ sign 50 sign_of.CloseCurly ∷ sign 51 sign_of.CloseRound ∷ sign 52 sign_of.Semicolon ∷ end 53 ∷ [])

abbrev box_named_tree : Program
box_named_tree = mapped_by (BlockMap (record {
  new = at 19;
  word = at 23;
  from = at 32;
  argument = Some (record { at = at 33; equals = at 44 });
  box = One (DomainLiteral (at 45) (FirstItem (RangeItem (Number (at 46) (pos 1)) (at 47) Closed (Number (at 49) (pos 8)) NoStride) NoItems) (at 50));
  upto = at 51;
})) 52

box_named_read : read 64 box_named ≡ Ok (box_named_tree, [])
unfolding parser_on_rows
box_named_read = refl

box_named_spelled : Spells 64 box_named box_named_tree
box_named_spelled = read_spelled 64 box_named box_named_tree box_named_read

-- .. blockDist(boundingBox);
-- Without `=` behind it, it is a variable of that name.
abbrev box_variable : List Token
box_variable = mapped_a (word 23 word_of.BlockDist ∷ sign 32 sign_of.OpenRound ∷ contextual 33 contextual_of.BoundingBox ∷ sign 44 sign_of.CloseRound ∷ sign 45 sign_of.Semicolon ∷ end 46 ∷ [])

abbrev box_variable_tree : Program
box_variable_tree = mapped_by (BlockMap (record { new = at 19; word = at 23; from = at 32; argument = None; box = One (Named (named 33 (codes "boundingBox"))); upto = at 44 })) 45

box_variable_read : read 64 box_variable ≡ Ok (box_variable_tree, [])
unfolding parser_on_rows
box_variable_read = refl

box_variable_spelled : Spells 64 box_variable box_variable_tree
box_variable_spelled = read_spelled 64 box_variable box_variable_tree box_variable_read

-- .. cyclicDist(startIdx= .. from this column on

abbrev start_tokens : List Token → List Token
start_tokens rest = mapped_a (word 23 word_of.CyclicDist ∷ sign 33 sign_of.OpenRound ∷ contextual 34 contextual_of.StartIdx ∷ sign 42 sign_of.Assign ∷ rest)

abbrev start_tree : StartTree (List ℕ) → Program
start_tree s = mapped_by (CyclicMap (record { new = at 19; word = at 23; from = at 33; argument = Some (record { at = at 34; equals = at 42 }); start = s; upto = at 48 })) 49

-- .. (1,2));
abbrev start_pair : List Token
start_pair = start_tokens (sign 43 sign_of.OpenRound ∷ number 44 1 ∷ sign 45 sign_of.Comma ∷ number 46 2 ∷ sign 47 sign_of.CloseRound ∷ sign 48 sign_of.CloseRound ∷ sign 49 sign_of.Semicolon ∷ end 50 ∷ [])

abbrev start_pair_tree : Program
start_pair_tree = start_tree (StartTuple (at 43) (record { first = Number (at 44) (pos 1); others = record { comma = at 45; part = Number (at 46) (pos 2) } ∷ [] }) (at 47))

start_pair_read : read 64 start_pair ≡ Ok (start_pair_tree, [])
unfolding parser_on_rows
start_pair_read = refl

start_pair_spelled : Spells 64 start_pair start_pair_tree
start_pair_spelled = read_spelled 64 start_pair start_pair_tree start_pair_read

-- .. (1)+1);
-- A bracket round one expression begins a sum.
abbrev start_sum : List Token
start_sum = start_tokens (sign 43 sign_of.OpenRound ∷ number 44 1 ∷ sign 45 sign_of.CloseRound ∷ sign 46 sign_of.Plus ∷ number 47 1 ∷ sign 48 sign_of.CloseRound ∷ sign 49 sign_of.Semicolon ∷ end 50 ∷ [])

abbrev start_sum_tree : Program
start_sum_tree = start_tree (StartExpr (Chain (in_round 43 45 (Number (at 44) (pos 1))) (Link (at 46) Add (Number (at 47) (pos 1)) NoLinks)))

start_sum_read : read 64 start_sum ≡ Ok (start_sum_tree, [])
unfolding parser_on_rows
start_sum_read = refl

start_sum_spelled : Spells 64 start_sum start_sum_tree
start_sum_spelled = read_spelled 64 start_sum start_sum_tree start_sum_read

-- Methods: writeln(A.size); and writeln(A.domain);

-- A.method, the method's word at this column
abbrev method_of_a : Word → Expression
method_of_a w = Postfixed (Named (named 9 (codes "A"))) (Post (Dotted (at 10) (Plainly (at 11) w)) NoPosts)

abbrev size_of_a : List Token
size_of_a = word 1 word_of.Writeln ∷ sign 8 sign_of.OpenRound ∷ name 9 (codes "A") ∷ sign 10 sign_of.Dot ∷ contextual 11 contextual_of.Size ∷ sign 15 sign_of.CloseRound ∷ sign 16 sign_of.Semicolon ∷ end 17 ∷ []

abbrev domain_of_a : List Token
domain_of_a = word 1 word_of.Writeln ∷ sign 8 sign_of.OpenRound ∷ name 9 (codes "A") ∷ sign 10 sign_of.Dot ∷ word 11 word_of.Domain ∷ sign 17 sign_of.CloseRound ∷ sign 18 sign_of.Semicolon ∷ end 19 ∷ []

size_of_a_read : read 64 size_of_a ≡ Ok (printed (method_of_a Size) 15, [])
unfolding parser_on_rows
size_of_a_read = refl

domain_of_a_read : read 64 domain_of_a ≡ Ok (printed (method_of_a DomainOf) 17, [])
unfolding parser_on_rows
domain_of_a_read = refl

size_of_a_spelled : Spells 64 size_of_a (printed (method_of_a Size) 15)
size_of_a_spelled = read_spelled 64 size_of_a (printed (method_of_a Size) 15) size_of_a_read

domain_of_a_spelled : Spells 64 domain_of_a (printed (method_of_a DomainOf) 17)
domain_of_a_spelled = read_spelled 64 domain_of_a (printed (method_of_a DomainOf) 17) domain_of_a_read

-- x reduce= 1;
abbrev reduced : List Token
reduced = name 1 (codes "x") ∷ word 3 word_of.Reduce ∷ sign 9 sign_of.Assign ∷ number 11 1 ∷ sign 12 sign_of.Semicolon ∷ end 13 ∷ []

abbrev reduced_tree : Program
reduced_tree = one (Assigned (Whole (named 1 (codes "x"))) (record { at = at 3; op = SetReduce; last = at 9 }) (One (Number (at 11) (pos 1))) (at 12)) 13

reduced_read : read 64 reduced ≡ Ok (reduced_tree, [])
unfolding parser_on_rows
reduced_read = refl

reduced_spelled : Spells 64 reduced reduced_tree
reduced_spelled = read_spelled 64 reduced reduced_tree reduced_read

-- while a do { ; }
-- The block is one level, with `do` before it as without.
abbrev do_block : List Token
do_block = word 1 word_of.While ∷ name 7 (codes "a") ∷ word 9 word_of.Do ∷ sign 12 sign_of.OpenCurly ∷ sign 14 sign_of.Semicolon ∷ sign 16 sign_of.CloseCurly ∷ end 17 ∷ []

abbrev do_block_tree : Program
do_block_tree = one (Headed WhileWord (at 1) (Named (named 7 (codes "a"))) (WordBody (at 9) (Block (at 12) (Then (Nothing (at 14)) NoStmts) (at 16)))) 17

do_block_read : read 1 do_block ≡ Ok (do_block_tree, [])
unfolding parser_on_rows
do_block_read = refl

do_block_spelled : Spells 1 do_block do_block_tree
do_block_spelled = read_spelled 1 do_block do_block_tree do_block_read

-- writeln((..(1)..)); with n brackets in those of `writeln`

abbrev signs : SignOf → ℕ → ℕ → List Token
signs s zero from = []
signs s (suc n) from = sign from s ∷ signs s n (from + 1)

abbrev brackets_of : ℕ → List Token
brackets_of n = word 1 word_of.Writeln ∷ sign 8 sign_of.OpenRound ∷ (signs sign_of.OpenRound n 9 ++ number (9 + n) 1 ∷ (signs sign_of.CloseRound n (10 + n)
    ++ sign (10 + 2 * n) sign_of.CloseRound ∷ sign (11 + 2 * n) sign_of.Semicolon ∷ end (12 + 2 * n) ∷ []))

-- 1 in n brackets, of which the first two stand at these columns
abbrev in_brackets : ℕ → ℕ → ℕ → Expression
in_brackets zero from upto = Number (at from) (pos 1)
in_brackets (suc n) from upto = in_round from upto (in_brackets n (from + 1) (upto - 1))

brackets_read : read 64 (brackets_of 63) ≡ Ok (printed (in_brackets 63 9 135) 136, [])
unfolding parser_on_rows
brackets_read = refl

too_deep_read : read 64 (brackets_of 64) ≡ Err (NoRoom, drop 65 (brackets_of 64))
unfolding parser_on_rows
too_deep_read = refl

brackets_spelled : Spells 64 (brackets_of 63) (printed (in_brackets 63 9 135) 136)
brackets_spelled = read_spelled 64 (brackets_of 63) (printed (in_brackets 63 9 135) 136) brackets_read

too_deep_refused : Refuses (brackets_of 64) (record { code = TooDeep; place = Some (at 72) })
too_deep_refused = stopped_refused (brackets_of 64) (drop 65 (brackets_of 64)) NoRoom too_deep_read
