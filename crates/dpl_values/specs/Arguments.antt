-- The reductions in what is printed.
use Rattle.std.specs.Prelude.{ℕ, List, [], ◌∷◌}
use Rattle.dpl_nodes.specs.declared.step.Argument.{Argument}
use Rattle.dpl_nodes.specs.declared.step.Argument.TheVariants.{Text, Int, Truth, Array}
use Rattle.dpl_values.specs.Reductions.{EachInInt, EachInTruth}

-- what is said of slots holds of the array of each reduction in arguments
abbrev pub EachInArgument : Argument → (ℕ → Type 0) → Type 0
EachInArgument (Text bytes) Holds = Unit {0}
EachInArgument (Int e) Holds = EachInInt e.now Holds
EachInArgument (Truth e) Holds = EachInTruth e.now Holds
EachInArgument (Array k slot) Holds = Unit {0}

abbrev pub EachInArguments : List Argument → (ℕ → Type 0) → Type 0
EachInArguments [] Holds = Unit {0}
EachInArguments (a ∷ rest) Holds = EachInArgument a Holds × EachInArguments rest Holds
