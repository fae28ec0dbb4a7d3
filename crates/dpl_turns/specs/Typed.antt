-- Turns of typed statements: the variables of a loop.
use Rattle.dpl_nodes.specs.declared.step.Names.{Names}
use Rattle.dpl_nodes.specs.declared.step.Names.TheVariants.{Int as IntName, Tuple as TupleName, Each}
use Rattle.dpl_turns.specs.Bodies.{OwnNames, OneInt, Ints, OneTuple}

-- what a typed loop names
abbrev pub own_of : Names → OwnNames
own_of (IntName slot) = OneInt slot
own_of (TupleName slot) = OneTuple slot
own_of (Each first others) = Ints first others.now
