-- Rows of sample programs, each on one line: at which columns their statements stand, and in which order.
-- The text of each stands above its tree in dpl_language.
use Rattle.std.proofs.Common.{◌≡◌, ℕ, List, [], ◌∷◌, map, refl}
use Rattle.dpl_language.specs.Names.{Text}
use Rattle.dpl_language.specs.Tree.{ProgramTree}
use Rattle.dpl_language.proofs.ScalarsSamples.{whiles}
use Rattle.dpl_language.proofs.TasksSamples.{three_values_sent}
use Rattle.dpl_places.specs.Statements.{stmts_places}

abbrev columns : ProgramTree Text → List ℕ
columns t = map (λ p. p.column) (stmts_places t.stmts)

-- the statement of an `if` before that of its `else`
in_a_while : columns whiles ≡ 1 ∷ 13 ∷ 27 ∷ 35 ∷ 50 ∷ 65 ∷ 77 ∷ []
in_a_while = refl

-- a block stands too, and a body that is one doesn't
in_tasks : columns three_values_sent ≡ 1 ∷ 18 ∷ 35 ∷ 56 ∷ 68 ∷ 85 ∷ 106 ∷ 108 ∷ 120 ∷ 137 ∷ 154 ∷ 172 ∷ []
in_tasks = refl
