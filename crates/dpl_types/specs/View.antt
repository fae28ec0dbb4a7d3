-- The part of an expression that one in memory stands for.
use Rattle.dpl_types.specs.declared.part.Part.{Part as PartNode}
use Rattle.dpl_rules.specs.Verdicts.{Part}
use Rattle.dpl_scopes.specs.Types.{of_type}

abbrev pub part_view : PartNode → Part
part_view p = record { at = p.at; type = of_type p.found }
