-- Names that aren't known, names declared twice and constants that are written, C1, C2 and C4; and which breach of several is told.
-- Each row is computed from the text's bytes on; those behind the house's line are on line 2.
use Rattle.std.proofs.Common.{◌≡◌, refl}
use Rattle.std.specs.Prelude.{codes}
use Rattle.dpl_syntax.specs.declared.refusal.Code.TheVariants.{ConstantWritten, NameTwice, NotInForall, UnknownName, WrongType}
use Rattle.dpl_worked.proofs.Texts.{in_house, told, by_text}

-- ---- C1, a name that isn't known there
unknown_read : in_house (codes "n = x;") ≡ told 2 5 UnknownName
unfolding by_text
unknown_read = refl

unknown_behind_its_block : in_house (codes "{ var x = 1; } n = x;") ≡ told 2 20 UnknownName
unfolding by_text
unknown_behind_its_block = refl

-- ---- an operator is looked at only where both operands have types
unknown_operand : in_house (codes "n = true + x;") ≡ told 2 12 UnknownName
unfolding by_text
unknown_operand = refl

-- ---- a name stands for its innermost declaration, and a block, a loop and a body open a scope
hidden_by_a_loop : in_house (codes "var i = true; for i in 1..2 do b = i;") ≡ told 2 36 WrongType
unfolding by_text
hidden_by_a_loop = refl

-- ---- C2, a name twice in one scope or in one list of intents
declared_twice : in_house (codes "var x = 1; var x = 2;") ≡ told 2 16 NameTwice
unfolding by_text
declared_twice = refl

variables_twice : in_house (codes "for (i, i) in E do ;") ≡ told 2 9 NameTwice
unfolding by_text
variables_twice = refl

reduced_twice : in_house (codes "forall i in D with (+ reduce n, * reduce n) do ;") ≡ told 2 42 NameTwice
unfolding by_text
reduced_twice = refl

-- ---- C4, a constant that is written
constant_set : in_house (codes "k = 1;") ≡ told 2 1 ConstantWritten
unfolding by_text
constant_set = refl

loop_variable_set : in_house (codes "for i in D do i = 1;") ≡ told 2 15 ConstantWritten
unfolding by_text
loop_variable_set = refl

constant_reduced : in_house (codes "forall i in D with (+ reduce k) do ;") ≡ told 2 30 ConstantWritten
unfolding by_text
constant_reduced = refl

-- ---- the least place is told, and at one place the lowest code
earlier_line : in_house (codes "x = 1; n = true;") ≡ told 2 1 UnknownName
unfolding by_text
earlier_line = refl

declaration_before_its_name : in_house (codes "forall i in D { var y = 1; var y: [D] int; }") ≡ told 2 28 NotInForall
unfolding by_text
declaration_before_its_name = refl

lower_code : in_house (codes "for i in D do forall j in D do i = 1;") ≡ told 2 32 ConstantWritten
unfolding by_text
lower_code = refl
