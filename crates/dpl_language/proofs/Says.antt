-- What the rows say of a sample: what it writes, with given sets, limits and histories, or with none of them.
use Rattle.std.specs.Prelude.{ℕ, pos, List, [], ◌∷◌}
use Rattle.dpl_history.specs.declared.cell.CellOp.TheVariants.{ReadFE, WriteEF}
use Rattle.dpl_history.specs.declared.cell.Reply.TheVariants.{Value as Given, Done as NoValue}
use Rattle.dpl_history.specs.declared.history.Event.{Event}
use Rattle.dpl_history.specs.Histories.{event}
use Rattle.dpl_language.specs.Tree.{ProgramTree}
use Rattle.dpl_language.specs.Values.{Value}
use Rattle.dpl_language.specs.Environment.{Limits}
use Rattle.dpl_language.specs.Program.{meaning, written}

abbrev pub limits : ℕ → ℕ → Limits
limits budget locales = record { budget = budget; locales = locales }

abbrev pub says : ProgramTree (List ℕ) → List (List ℕ × Value) → Limits → List (List Event) → List ℕ
says t sets limits histories = written (meaning t sets limits histories)

-- with the budget that a run has by default, on one locale
abbrev pub writes : ProgramTree (List ℕ) → List ℕ
writes t = says t [] (limits 16777216 1) []

-- task 0 puts 1, 2 and 3 into cell 0, from which task 1 takes them in turn; then it puts their sum into cell 1
abbrev pub one_history : List Event
one_history =
    event 0 0 (WriteEF (pos 1)) NoValue ∷ event 1 0 ReadFE (Given (pos 1))
    ∷ event 0 0 (WriteEF (pos 2)) NoValue ∷ event 1 0 ReadFE (Given (pos 2))
    ∷ event 0 0 (WriteEF (pos 3)) NoValue ∷ event 1 0 ReadFE (Given (pos 3))
    ∷ event 1 1 (WriteEF (pos 6)) NoValue ∷ []
