-- Parts of declarations as the parser's functions hand them on, and what they stand for.
-- Nothing of the grammar is defined here.
use Rattle.std.specs.Prelude.{Option}
use Rattle.dpl_tree.specs.declared.declaration.ArgumentName.{ArgumentName as ArgumentNode}
use Rattle.dpl_tree.specs.declared.declaration.Typed.{Typed}
use Rattle.dpl_tree.specs.declared.declaration.Initial.{Initial}
use Rattle.dpl_tree.specs.Declarations.{optional, argument_name_view, typed_view, initial_view}
use Rattle.dpl_spelling.specs.Declarations.{Argument, Declared}

-- an argument's name, if it is there, and its value
abbrev pub argument_part : {A : Type 0} → Option ArgumentNode → A → Argument A
argument_part name x = record { name = optional argument_name_view name; value = x }

-- a type and an initial value, as far as they are there
abbrev pub declared_part : Option Typed → Option Initial → Declared
declared_part t i = record { typed = optional typed_view t; initial = optional initial_view i }
