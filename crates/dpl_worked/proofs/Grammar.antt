-- How the grammar reads expressions, items, statements and words, seen in what texts write: each row fails for a tree of another form.
-- Each row is computed from the text's bytes on.
use Rattle.std.proofs.Common.{◌≡◌, ◌∷◌, ◌++◌, Some, refl}
use Rattle.std.specs.Prelude.{codes}
use Rattle.std.specs.Int.{int_wrap}
use Rattle.std.specs.Fmt.{digits}
use Rattle.dpl_sets.specs.Members.{members}
use Rattle.dpl_sets.specs.Indices.{indices}
use Rattle.dpl_syntax.specs.declared.refusal.Code.TheVariants.{Unexpected, UnknownName}
use Rattle.dpl_worked.proofs.Runs.{writes}
use Rattle.dpl_worked.proofs.Texts.{said, told, sound, by_text}

-- ---- how tightly operators bind
and_before_or : writes (codes "writeln(true || true && false, \" \", false && true || true);") ≡ Some (codes "true true\n")
unfolding by_text int_wrap digits members indices
and_before_or = refl

relation_before_equality : writes (codes "writeln(1 < 2 == true, \" \", false != 2 >= 3);") ≡ Some (codes "true false\n")
unfolding by_text int_wrap digits members indices
relation_before_equality = refl

not_before_and : writes (codes "writeln(!false && false, \" \", !true || true);") ≡ Some (codes "false true\n")
unfolding by_text int_wrap digits members indices
not_before_and = refl

reduction_before_a_sum : writes (codes "var A: [1..2] int = 1; writeln(+ reduce A + 1);") ≡ Some (codes "3\n")
unfolding by_text int_wrap digits members indices
reduction_before_a_sum = refl

minus_before_a_product : writes (codes "writeln(7 * -3 / 2, \" \", 7 - -3 / 2);") ≡ Some (codes "-7 8\n")
unfolding by_text int_wrap digits members indices
minus_before_a_product = refl

-- ---- chains group to the left
to_the_left : writes (codes "writeln(10 - 3 - 2, \" \", 100 / 10 / 5, \" \", 7 % 4 * 2);") ≡ Some (codes "5 2 6\n")
unfolding by_text int_wrap digits members indices
to_the_left = refl

-- ---- the ends and the stride of a range are sums
sums_in_a_range :
    writes (codes "for i in 1..2 + 3 by 1 + 1 do write(i, \" \"); for i in 4 - 3..<2 * 2 do write(i); for i in -1 + 3..#2 do write(i); writeln();")
    ≡ Some (codes "1 3 5 12323\n")
unfolding by_text int_wrap digits members indices
sums_in_a_range = refl

relation_as_an_end : said (codes "b = 1 < 2..3;") ≡ told 1 10 Unexpected
unfolding by_text
relation_as_an_end = refl

two_strides : said (codes "const x = 1..2 by 3 by 4;") ≡ told 1 21 Unexpected
unfolding by_text
two_strides = refl

-- ---- which sign or word stands for which operator
arithmetic : writes (codes "writeln(7 + 2, \" \", 7 - 2, \" \", 7 * 2, \" \", 7 / 2, \" \", 7 % 2);") ≡ Some (codes "9 5 14 3 1\n")
unfolding by_text int_wrap digits members indices
arithmetic = refl

relations :
    writes (codes "for i in 1..3 do writeln(i < 2, \" \", i <= 2, \" \", i > 2, \" \", i >= 2, \" \", i == 2, \" \", i != 2);")
    ≡ Some (codes "true true false false false true\nfalse true false true true false\nfalse false true true false true\n")
unfolding by_text int_wrap digits members indices
relations = refl

assignments :
    writes (codes "var i = 17; i += 3; write(i, \" \"); i -= 6; write(i, \" \"); i *= 3; write(i, \" \"); i /= 4; write(i, \" \"); i %= 4; writeln(i);")
    ≡ Some (codes "20 14 42 10 2\n")
unfolding by_text int_wrap digits members indices
assignments = refl

reductions :
    writes (codes "var A: [1..2] int = 10; A[2] = 12; "
    ++ codes "writeln(+ reduce A, \" \", * reduce A, \" \", & reduce A, \" \", | reduce A, \" \", ^ reduce A, \" \", min reduce A, \" \", max reduce A);")
    ≡ Some (codes "22 120 8 14 6 10 12\n")
unfolding by_text int_wrap digits members indices
reductions = refl

reductions_of_truths : writes (codes "var F: [1..2] bool; F[1] = true; writeln(&& reduce F, \" \", || reduce F);") ≡ Some (codes "false true\n")
unfolding by_text int_wrap digits members indices
reductions_of_truths = refl

intents :
    writes (codes "var a = 1; var b = 1; var c = -1; var d = 0; var e = 0; var f = 100; var g = 0; "
    ++ codes "forall i in 10..12 by 2 with (+ reduce a, * reduce b, & reduce c, | reduce d, ^ reduce e, min reduce f, max reduce g) { a reduce= i; "
    ++ codes "b reduce= i; c reduce= i; d reduce= i; e reduce= i; f reduce= i; g reduce= i; "
    ++ codes "} writeln(a, \" \", b, \" \", c, \" \", d, \" \", e, \" \", f, \" \", g);")
    ≡ Some (codes "23 120 8 14 6 10 12\n")
unfolding by_text int_wrap digits members indices
intents = refl

intents_of_truths :
    writes (codes "var a = true; var o = false; forall i in 1..2 with (&& reduce a, || reduce o) { a reduce= i < 2; o reduce= i < 2; "
    ++ codes "} writeln(a, \" \", o);")
    ≡ Some (codes "false true\n")
unfolding by_text int_wrap digits members indices
intents_of_truths = refl

-- the least member is 3, and not the bound 1
methods_of_a_range :
    writes (codes "const r = 1..9 by -3; "
    ++ codes "writeln(r.size, \" \", r.first, \" \", r.last, \" \", r.low, \" \", r.high, \" \", r.contains(6), \" \", r.contains(1));")
    ≡ Some (codes "3 9 3 3 9 true false\n")
unfolding by_text int_wrap digits members indices
methods_of_a_range = refl

methods_of_a_domain :
    writes (codes "const D = {1..2, 5..9}; const E = D.expand(1); var A: [E] int; "
    ++ codes "writeln(D.size, \" \", E.dim(1).low, \" \", A.domain.dim(0).high, \" \", D.contains(2, 5));")
    ≡ Some (codes "10 4 3 true\n")
unfolding by_text int_wrap digits members indices
methods_of_a_domain = refl

calls_of_a_cell :
    writes (codes "var c: sync int; c.writeEF(1); c.writeFF(2); write(c.readFF()); c.writeXF(3); write(c.readFE()); c.writeXF(4); c.reset(); "
    ++ codes "c.writeEF(5); c.readFF(); writeln(c.readFE());")
    ≡ Some (codes "235\n")
unfolding by_text int_wrap digits members indices
calls_of_a_cell = refl

emptied_by_a_read : writes (codes "var c: sync int = 1; c.readFE(); c.readFF();") ≡ Some (codes "! F7 at 1:34\n")
unfolding by_text int_wrap digits members indices
emptied_by_a_read = refl

written_while_empty : writes (codes "var c: sync int; c.writeFF(1);") ≡ Some (codes "! F7 at 1:18\n")
unfolding by_text int_wrap digits members indices
written_while_empty = refl

written_while_full : writes (codes "var c: sync bool = false; c.writeXF(true); write(c.readFF()); c.writeEF(true);") ≡ Some (codes "true\n! F7 at 1:63\n")
unfolding by_text int_wrap digits members indices
written_while_full = refl

-- ---- brackets, variables and bodies
round_and_square : writes (codes "var A: [1..2, 1..3] int; A(2, 1) = 4; A[1, 3] = 5; writeln(A(1, 3), A[2, 1]);") ≡ Some (codes "54\n")
unfolding by_text int_wrap digits members indices
round_and_square = refl

three_variables :
    writes (codes "var A: [1..2, 1..2, 1..2] int; forall (i, j, k) in A.domain do A[i, j, k] = 100 * i + 10 * j + k; writeln(A);")
    ≡ Some (codes "111 112\n121 122\n\n211 212\n221 222\n")
unfolding by_text int_wrap digits members indices
three_variables = refl

one_variable_in_brackets : said (codes "forall (i) in 1..2 do ;") ≡ told 1 10 Unexpected
unfolding by_text
one_variable_in_brackets = refl

parts_of_ifs : writes (codes "if true then if false then write(1); else write(2); if false { write(3); } else if true { write(4); } else write(5);") ≡ Some (codes "24")
unfolding by_text int_wrap digits members indices
parts_of_ifs = refl

-- ---- programs and declarations
uses : writes (codes "use BlockDist; use CyclicDist, BlockCycDist; writeln(1);") ≡ Some (codes "1\n")
unfolding by_text int_wrap digits members indices
uses = refl

use_behind_a_statement : said (codes "writeln(1); use BlockDist;") ≡ told 1 13 Unexpected
unfolding by_text
use_behind_a_statement = refl

config_in_a_block : said (codes "{ config const x = 1; }") ≡ told 1 3 Unexpected
unfolding by_text
config_in_a_block = refl

-- the end of the text stands behind its last byte
no_semicolon : said (codes "var x: int") ≡ told 1 11 Unexpected
unfolding by_text
no_semicolon = refl

maps :
    writes (codes "const D = {1..4} dmapped new blockDist({1..4}); const E: domain(1) dmapped new cyclicDist(startIdx=D.low) = D; "
    ++ codes "const F: domain(2) dmapped new blockCycDist(startIdx=(1, 1), blocksize=(2, 2)) = {1..4, 1..4}; "
    ++ codes "const G = D dmapped new cyclicDist(D.lowBound); const H = cyclicDist.createDomain(F); "
    ++ codes "writeln(D.size, \" \", E.size, \" \", F.size, \" \", G.size, \" \", H.size);")
    ≡ Some (codes "4 4 16 4 16\n")
unfolding by_text int_wrap digits members indices
maps = refl

pair_in_a_sum : said (codes "const D = E dmapped new cyclicDist((1, 2) + 1);") ≡ told 1 43 Unexpected
unfolding by_text
pair_in_a_sum = refl

-- ---- words, names and texts

-- only reserved words are no names
words_that_are_names :
    said (codes "var BlockDist: int; var CyclicDist: int; var BlockCycDist: int; var createDomain: int; var boundingBox: int; var startIdx: int; "
    ++ codes "var blocksize: int; var writeEF: int; var writeFF: int; var writeXF: int; var reset: int; var readFE: int; var readFF: int; "
    ++ codes "var size: int; var first: int; var last: int; var low: int; var high: int; var lowBound: int; var id: int; var dim: int; "
    ++ codes "var contains: int; var expand: int; size = expand + id;")
    ≡ sound
unfolding by_text
words_that_are_names = refl

-- a tab and a carriage return are one column each, and begin no line
white_space : said (9 ∷ 13 ∷ codes " x = 1;") ≡ told 1 4 UnknownName
unfolding by_text
white_space = refl

letters_of_names : writes (codes "var a$1 = 1; var _b = 2; var Z9_ = 3; writeln(a$1 + _b + Z9_);") ≡ Some (codes "6\n")
unfolding by_text int_wrap digits members indices
letters_of_names = refl

escapes : writes (codes "write('\"', \"'\\t\\\\\\n\");") ≡ Some (codes "\"'\t\\\n")
unfolding by_text int_wrap digits members indices
escapes = refl
