-- Which declaration a name stands for, and what stands outside the scope of a loop.
-- Each row is computed from the text's bytes on; those behind the house's line are on line 2.
use Rattle.std.proofs.Common.{◌≡◌, refl}
use Rattle.std.specs.Prelude.{codes}
use Rattle.dpl_syntax.specs.declared.refusal.Code.TheVariants.{CellMisused, ConstantWritten, NameTwice, NotInForall, OuterChanged, UnknownName, WrongRank, WrongType}
use Rattle.dpl_worked.proofs.Texts.{in_house, told, sound, by_text}

-- ---- a part of an `if`, a `while` and an `on` open a scope
parts_of_an_if : in_house (codes "if b then var n = 1; else var n = 2;") ≡ sound
unfolding by_text
parts_of_an_if = refl

body_of_a_while : in_house (codes "while b do var n = 1;") ≡ sound
unfolding by_text
body_of_a_while = refl

body_of_an_on : in_house (codes "on h do var n = 1;") ≡ sound
unfolding by_text
body_of_an_on = refl

-- ---- a name is known from the end of its declaration on
unknown_in_its_own_value : in_house (codes "var x = x;") ≡ told 2 9 UnknownName
unfolding by_text
unknown_in_its_own_value = refl

-- ---- what a loop runs over and its intents stand outside its scope
outer_bool_as_a_bound : in_house (codes "for b in b..2 do ;") ≡ told 2 10 WrongType
unfolding by_text
outer_bool_as_a_bound = refl

outer_variable_reduced : in_house (codes "forall n in D with (+ reduce n) do A[n] = n;") ≡ sound
unfolding by_text
outer_variable_reduced = refl

reduce_variable_as_a_bound : in_house (codes "forall i in 1..n with (+ reduce n) do n += i;") ≡ sound
unfolding by_text
reduce_variable_as_a_bound = refl

-- ---- a name of the body that hides a reduce variable is none
hidden_variable_free : in_house (codes "forall i in D with (+ reduce n) { var n: int; n = 2; const x = n; }") ≡ sound
unfolding by_text
hidden_variable_free = refl

hidden_variable_reduced : in_house (codes "forall i in D with (+ reduce n) { var n: int; n reduce= 1; }") ≡ told 2 49 WrongType
unfolding by_text
hidden_variable_reduced = refl

-- ---- intents: a name once, and no constant; `ref` changes nothing
borrowed_and_reduced : in_house (codes "forall i in D with (ref n, + reduce n) do ;") ≡ told 2 37 NameTwice
unfolding by_text
borrowed_and_reduced = refl

constant_borrowed : in_house (codes "forall i in D with (ref k) do ;") ≡ told 2 25 ConstantWritten
unfolding by_text
constant_borrowed = refl

borrowed_and_set : in_house (codes "forall i in D with (ref n) do n = 1;") ≡ told 2 31 OuterChanged
unfolding by_text
borrowed_and_set = refl

array_reduced : in_house (codes "forall i in D with (+ reduce A) do ;") ≡ told 2 30 WrongType
unfolding by_text
array_reduced = refl

cell_reduced : in_house (codes "forall i in D with (+ reduce c) do ;") ≡ told 2 30 CellMisused
unfolding by_text
cell_reduced = refl

-- ---- two of one name need not stand side by side
variables_twice_of_three : in_house (codes "for (i, j, i) in T do ;") ≡ told 2 12 NameTwice
unfolding by_text
variables_twice_of_three = refl

intents_twice_of_three : in_house (codes "forall i in D with (+ reduce n, ref b, ref n) do ;") ≡ told 2 44 NameTwice
unfolding by_text
intents_twice_of_three = refl

-- ---- a `config const` is a constant, an int or a bool
configured_set : in_house (codes "m = 5;") ≡ told 2 1 ConstantWritten
unfolding by_text
configured_set = refl

configured_range : in_house (codes "config const x = 1..2;") ≡ told 2 18 WrongType
unfolding by_text
configured_range = refl

configured_array_type : in_house (codes "config const x: [D] int;") ≡ told 2 17 WrongType
unfolding by_text
configured_array_type = refl

-- ---- of several codes at one place the lowest is told
twice_before_its_type : in_house (codes "forall i in D with (ref b, + reduce b) do ;") ≡ told 2 37 NameTwice
unfolding by_text
twice_before_its_type = refl

type_before_constant : in_house (codes "{ const p = true; forall i in D with (+ reduce p) do ; }") ≡ told 2 48 WrongType
unfolding by_text
type_before_constant = refl

type_before_forall : in_house (codes "forall i in D { const x = + reduce n; }") ≡ told 2 27 WrongType
unfolding by_text
type_before_forall = refl

constant_before_change : in_house (codes "forall i in D do k = 1;") ≡ told 2 18 ConstantWritten
unfolding by_text
constant_before_change = refl

rank_before_write : in_house (codes "forall i in D do A[i, i] = 1;") ≡ told 2 18 WrongRank
unfolding by_text
rank_before_write = refl

forall_before_cell : in_house (codes "forall i in D { const x = c.readFE() + 1; }") ≡ told 2 27 NotInForall
unfolding by_text
forall_before_cell = refl

-- ---- a line goes before a column
later_column_of_an_earlier_line : in_house (codes "    n = true;\nx = 1;") ≡ told 2 9 WrongType
unfolding by_text
later_column_of_an_earlier_line = refl
