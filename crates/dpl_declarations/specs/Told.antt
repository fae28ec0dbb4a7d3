-- What declarations owe, and which type they give their names: as ones of a type, or of none.
-- Each is a part of a rule of dpl_rules.
use Rattle.std.specs.Prelude.{◌≡◌, List, ◌++◌, Option}
use Rattle.dpl_syntax.specs.declared.place.Place.{Place}
use Rattle.dpl_syntax.specs.declared.refusal.Breach.{Breach}
use Rattle.dpl_language.specs.Tree.{Items, TypeTree, DeclareTree}
use Rattle.dpl_language.specs.Names.{Text}
use Rattle.dpl_rules.specs.Types.{ValueType}
use Rattle.dpl_rules.specs.Breaches.{least_from}
use Rattle.dpl_rules.specs.Verdicts.{broken_by, where_given}
use Rattle.dpl_rules.specs.Sights.{Scopes, origin_in}
use Rattle.dpl_rules.specs.Operators.{over_verdict}
use Rattle.dpl_rules.specs.Expressions.{item_parts, items_breaches}
use Rattle.dpl_rules.specs.Declarations.{config_by, written_breaches, type_given}
use Rattle.dpl_scopes.specs.Types.{of_type}
use Rattle.dpl_declarations.specs.declared.found.Found.{Found}

-- what an array is over, or a domain is created from
abbrev pub over_told : Scopes → Place → Items Text → List Breach
over_told scopes from items = items_breaches scopes items ++ broken_by (over_verdict from (item_parts scopes items))

-- the type that is given, and what is owed but for the name
abbrev pub type_as : Scopes → DeclareTree Text → Option (TypeTree Text) → Option ValueType
type_as ss d y = type_given ss (origin_in ss d.name.name) y d.initial

abbrev pub told_as : Scopes → DeclareTree Text → Option (TypeTree Text) → List Breach
told_as ss d y = written_breaches ss (origin_in ss d.name.name) y d.initial ++ where_given d.config (λ at. config_by ss y d.initial)

-- the type, and the first of a breach that was told before and these
abbrev pub TellsAs : Scopes → DeclareTree Text → Option (TypeTree Text) → Found → Option Breach → Option Breach → Type 0
TellsAs ss d y found old new = (of_type found.value_type ≡ type_as ss d y) × (new ≡ least_from old (told_as ss d y))
