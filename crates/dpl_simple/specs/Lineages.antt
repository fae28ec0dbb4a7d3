-- The root that a declaration gives, by what tells it and the domain that the declared slot then holds.
use Rattle.std.specs.Prelude.{ℕ, Option, Some, None, List, true, get_or}
use Rattle.dpl_sets.specs.TextRanges.{TextRange}
use Rattle.dpl_language.specs.Tree.{One, InitialTree}
use Rattle.dpl_language.specs.Distributions.{NoMap, Root, no_root}
use Rattle.dpl_language.specs.Outcome.{Run}
use Rattle.dpl_language.specs.Environment.{Limits}
use Rattle.dpl_language.specs.Declarations.{array_of}
use Rattle.dpl_language.specs.Roots.{type_map, is_typed_domain, root_by, domain_root}
use Rattle.dpl_lowered.specs.Shapes.{nowhere}
use Rattle.dpl_lowered.specs.LoweredStatements.{mapped_initial}
use Rattle.dpl_memory.specs.Memory.{Variable, Memory, in_memory}
use Rattle.dpl_nodes.specs.declared.tree.DomainExpr.{DomainExpr}
use Rattle.dpl_nodes.specs.declared.placing.Placing.{Placing}
use Rattle.dpl_nodes.specs.declared.step.ArrayDeclaration.{ArrayDeclaration}
use Rattle.dpl_nodes.specs.Typed.{domain_view}
use Rattle.dpl_nodes.specs.Steps.{initial_kind, initial_view, placed_map, placed_type, typed_map}
use Rattle.dpl_frame.specs.Roots.{distribution_view, root_view}
use Rattle.dpl_elements.specs.Arrays.{shell_over, array_declared_as}
use Rattle.dpl_simple.specs.declared.lineage.Lineage.{Lineage}
use Rattle.dpl_simple.specs.declared.lineage.Lineage.TheVariants.{Of, Named}

abbrev pub rooted : Lineage → List TextRange → Root
rooted (Of root) rs = root_view root
rooted (Named named) rs = root_by (distribution_view named) rs

-- of what is derived from the domain or array in a slot, or from none
abbrev pub slot_root : Option ℕ → List TextRange → Memory → Root
slot_root (Some slot) rs s = get_or s.roots slot no_root
slot_root None rs s = root_by NoMap rs

-- the initial value of a domain, with what is said of its map
abbrev pub valued_initial : DomainExpr → Placing → Option (InitialTree Variable)
valued_initial e placing = Some (mapped_initial nowhere (One (domain_view e)) (placed_map placing (domain_view e)))

module _ (limits : Limits) where
  -- of a domain that is declared with an initial value, and without one
  abbrev pub valued_root : DomainExpr → Placing → List TextRange → Memory → Root
  valued_root e placing rs s =
      domain_root limits in_memory (type_map (placed_type placing)) (is_typed_domain (placed_type placing)) (valued_initial e placing) rs s

  abbrev pub empty_root : Placing → List TextRange → Memory → Root
  empty_root placing rs s = domain_root limits in_memory (typed_map placing) true None rs s

  -- an array's declaration over a domain that it may have, but for its root
  abbrev pub declared_over : ArrayDeclaration → List TextRange → Run Memory
  declared_over d rs =
      array_of limits in_memory (array_declared_as (initial_kind d.initial) d) (shell_over d.over (initial_kind d.initial) rs) (initial_view d.initial)
