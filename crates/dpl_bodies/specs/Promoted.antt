-- The rule of promoted assignments to a name, by its declaration, on what the right side does.
-- It is looked at where the right side is promoted.
use Rattle.std.specs.Prelude.{Bool, if◌then◌else◌, List, [], Option}
use Rattle.dpl_syntax.specs.declared.refusal.Breach.{Breach}
use Rattle.dpl_rules.specs.Sights.{Declared}
use Rattle.dpl_rules.specs.Deeds.{Deed}
use Rattle.dpl_rules.specs.Bodies.{whole_target}

abbrev pub promoted_by : Option Declared → Bool → List Deed → List Breach
promoted_by target promoted ds = if promoted then whole_target target ds else []
