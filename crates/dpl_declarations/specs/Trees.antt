-- Declarations as they are run, with their names resolved: as ones of a type, or of none.
-- And what is found of one that breaks no rule: the type of its name, and the step that it is.
use Rattle.std.specs.Prelude.{◌≡◌, false, Option, Some, option_map}
use Rattle.dpl_language.specs.Tree.{MappedTree, TypeTree, InitTree, InitialTree, DeclareTree, StmtTree, Declare}
use Rattle.dpl_language.specs.Names.{Text}
use Rattle.dpl_agreement.specs.Renamed.{renamed_mapped, renamed_type, renamed_init, renamed_initial}
use Rattle.dpl_rules.specs.Types.{ValueType}
use Rattle.dpl_rules.specs.Sights.{Scopes}
use Rattle.dpl_scopes.specs.Slots.{next_slot_in}
use Rattle.dpl_scopes.specs.Types.{of_type}
use Rattle.dpl_lowered.specs.Shapes.{nowhere, placed}
use Rattle.dpl_lowered.specs.LoweredStatements.{written_type, tells_name, unplaced_word, declared_type, declared_initial}
use Rattle.dpl_memory.specs.Memory.{VariableKind, Variable, known_variable}
use Rattle.dpl_memory.specs.Resolved.{variable_of}
use Rattle.dpl_nodes.specs.Steps.{step_view}
use Rattle.dpl_typed.specs.Leaves.{kind_by, leaf_by}
use Rattle.dpl_bound.specs.Sights.{bound_in, is_promoted_by}
use Rattle.dpl_declarations.specs.declared.found.Found.{Found}

module _ (ss : Scopes) where
  -- the parts, over slots
  abbrev pub mapped_leaves : Option (MappedTree Text) → Option (MappedTree Variable)
  mapped_leaves m = option_map (renamed_mapped variable_of) (option_map (renamed_mapped (bound_in ss)) m)

  abbrev pub type_leaves : Option (TypeTree Text) → Option (TypeTree Variable)
  type_leaves y = option_map (renamed_type variable_of) (option_map (renamed_type (bound_in ss)) y)

  abbrev pub init_leaves : InitTree Text → InitTree Variable
  init_leaves i = renamed_init variable_of (renamed_init (bound_in ss) i)

  abbrev pub initial_leaves : Option (InitialTree Text) → Option (InitialTree Variable)
  initial_leaves i = option_map (renamed_initial variable_of) (option_map (renamed_initial (bound_in ss)) i)

  -- a declaration whose name is of a type
  abbrev pub lowered_as : DeclareTree Text → Option (TypeTree Text) → Option ValueType → StmtTree Variable
  lowered_as d y t = Declare (record {
    config = unplaced_word d.config;
    at = nowhere;
    constant = false;
    name = placed (tells_name (type_leaves y)) (record { at = d.name.at; name = leaf_by (kind_by t) (Some (next_slot_in ss)) });
    typed = option_map written_type (declared_type known_variable (type_leaves y) (initial_leaves d.initial));
    initial = declared_initial known_variable (type_leaves y) (initial_leaves d.initial);
    semicolon = nowhere;
  })

-- a name's type has a kind, and is none of promoted expressions
abbrev pub IsNameType : Option ValueType → Type 0
IsNameType o = (k : VariableKind) × (kind_by o ≡ Some k) × (is_promoted_by o ≡ false)

pub record IsFoundAs (ss : Scopes) (d : DeclareTree Text) (y : Option (TypeTree Text)) (f : Found) : Type 0 where
  pub named : IsNameType (of_type f.value_type)
  pub node : lowered_as ss d y (of_type f.value_type) ≡ step_view f.step
