-- The declarations that those in memory stand for.
-- A declaration's name is its text.
use Rattle.std.specs.Prelude.{◌≡◌, Option, option_map}
use Rattle.dpl_language.specs.Names.{Text}
use Rattle.dpl_rules.specs.Sights.{Sort, Configured, Constant, Variable, LoopVariable, Declared, Scopes, lookup}
use Rattle.dpl_scopes.specs.Slots.{slot_in}
use Rattle.dpl_scopes.specs.Types.{origin_view, of_type}
use Rattle.dpl_scopes.specs.declared.declared.Sort.{Sort as SortNode}
use Rattle.dpl_scopes.specs.declared.declared.Sort.TheVariants as node
use Rattle.dpl_scopes.specs.declared.declared.Declared.{Declared as DeclaredNode}

abbrev pub sort_view : SortNode → Sort
sort_view node.Configured = Configured
sort_view node.Constant = Constant
sort_view node.Variable = Variable
sort_view node.LoopVariable = LoopVariable

abbrev pub declared_view : DeclaredNode → Declared
declared_view d = record { origin = origin_view d.origin; sort = sort_view d.sort; type = of_type d.value_type }

-- what a look-up of a name answers: the declaration of it that is in sight, with its slot
abbrev pub IsSighted : Scopes → Text → Option DeclaredNode → Type 0
IsSighted scopes x d = (option_map declared_view d ≡ lookup scopes x) × (option_map (λ (d : DeclaredNode). d.slot) d ≡ slot_in scopes x)
