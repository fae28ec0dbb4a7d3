-- Levels of nesting, of which a text has at most 64: brackets, prefixes, and bodies and parts behind `else` that are no blocks.
-- Each row is computed from the text's bytes on.
use Rattle.std.proofs.Common.{◌≡◌, ℕ, zero, suc, List, [], ◌++◌, refl}
use Rattle.std.specs.Prelude.{codes}
use Rattle.dpl_syntax.specs.declared.refusal.Code.TheVariants.{Unexpected, TooDeep}
use Rattle.dpl_worked.proofs.Texts.{said, told, sound, by_text}

-- a text n times
abbrev times : ℕ → List ℕ → List ℕ
times zero text = []
times (suc n) text = text ++ times n text

-- ---- prefixes: the bracket is one level, and each `-`, `!` or `reduce` with its operator one more
as_many_minuses_as_may_be : said (codes "writeln(" ++ times 63 (codes "-") ++ codes "1);") ≡ sound
unfolding by_text
as_many_minuses_as_may_be = refl

one_minus_too_many : said (codes "writeln(" ++ times 64 (codes "-") ++ codes "1);") ≡ told 1 72 TooDeep
unfolding by_text
one_minus_too_many = refl

as_many_nots_as_may_be : said (codes "writeln(" ++ times 63 (codes "!") ++ codes "true);") ≡ sound
unfolding by_text
as_many_nots_as_may_be = refl

one_not_too_many : said (codes "writeln(" ++ times 64 (codes "!") ++ codes "true);") ≡ told 1 72 TooDeep
unfolding by_text
one_not_too_many = refl

-- the operator goes deeper, and not its `reduce`
one_reduction_too_many : said (codes "writeln(" ++ times 64 (codes "+ reduce ") ++ codes "n);") ≡ told 1 576 TooDeep
unfolding by_text
one_reduction_too_many = refl

-- ---- a body that is no block, told at its first token
as_many_bodies_as_may_be : said (times 64 (codes "while true do ") ++ codes ";") ≡ sound
unfolding by_text
as_many_bodies_as_may_be = refl

one_body_too_many : said (times 65 (codes "while true do ") ++ codes ";") ≡ told 1 911 TooDeep
unfolding by_text
one_body_too_many = refl

-- ---- so is what stands behind `else`, and of the last `if` the part behind `then`
as_many_elses_as_may_be : said (times 64 (codes "if true then ; else ") ++ codes ";") ≡ sound
unfolding by_text
as_many_elses_as_may_be = refl

one_if_too_many : said (times 64 (codes "if true then ; else ") ++ codes "if true then ;") ≡ told 1 1294 TooDeep
unfolding by_text
one_if_too_many = refl

-- ---- each round bracket is a level, also where no expression stands in it
bracket_of_a_dimension : said (codes "const x = " ++ times 64 (codes "(") ++ codes "D.dim(0)") ≡ told 1 80 TooDeep
unfolding by_text
bracket_of_a_dimension = refl

bracket_of_a_cell_read : said (codes "x = " ++ times 64 (codes "(") ++ codes "c.readFE()") ≡ told 1 77 TooDeep
unfolding by_text
bracket_of_a_cell_read = refl

bracket_of_a_cell_call : said (times 64 (codes "{") ++ codes "c.reset();") ≡ told 1 72 TooDeep
unfolding by_text
bracket_of_a_cell_call = refl

bracket_of_a_read_as_a_statement : said (times 64 (codes "{") ++ codes "c.readFF();") ≡ told 1 73 TooDeep
unfolding by_text
bracket_of_a_read_as_a_statement = refl

bracket_of_a_rank : said (times 64 (codes "{") ++ codes "var x: domain(1);") ≡ told 1 78 TooDeep
unfolding by_text
bracket_of_a_rank = refl

bracket_of_intents : said (times 64 (codes "{") ++ codes "forall i in r with (ref x) do ;") ≡ told 1 84 TooDeep
unfolding by_text
bracket_of_intents = refl

bracket_of_variables : said (times 64 (codes "{") ++ codes "for (i, j) in D do ;") ≡ told 1 69 TooDeep
unfolding by_text
bracket_of_variables = refl

as_many_blocks_as_may_be : said (times 64 (codes "{") ++ times 64 (codes "}")) ≡ sound
unfolding by_text
as_many_blocks_as_may_be = refl

-- ---- a token that may not stand there at all is told before its level
wrong_at_the_last_level : said (codes "writeln(" ++ times 63 (codes "(") ++ codes "[") ≡ told 1 72 Unexpected
unfolding by_text
wrong_at_the_last_level = refl
