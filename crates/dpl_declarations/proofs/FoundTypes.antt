-- A declaration's type tells whether it is of an array, a domain or a cell, as its initial value does.
-- A cell's read, which has no type as an item, gives an int or a truth value.
use Rattle.std.proofs.Common.{◌≡◌, Option, Some, None, refl}
use Rattle.dpl_language.specs.Tree.{TypeTree, InitTree, ItemInit, CreateInit, InitialTree}
use Rattle.dpl_language.specs.Names.{Text}
use Rattle.dpl_rules.specs.Types.{Origin, is_domain}
use Rattle.dpl_rules.specs.Sights.{Scopes}
use Rattle.dpl_rules.specs.Declarations.{init_part, type_given}
use Rattle.dpl_rules.specs.Doings.{is_apart_init, is_apart}
use Rattle.dpl_assignments.proofs.Sides.{side_has}
use Rattle.dpl_declarations.specs.Apart.{apart_init, apart_as}

init_found : (ss : Scopes) (init : InitTree Text) → apart_init init (init_part ss init).type ≡ is_apart_init ss init
init_found ss (ItemInit item None) = side_has ss is_domain (λ k. refl) item
init_found ss (ItemInit item (Some m)) = refl
init_found ss (CreateInit c) = refl

pub apart_found : (ss : Scopes) (self : Origin) (y : Option (TypeTree Text)) (initial : Option (InitialTree Text))
    → apart_as y initial (type_given ss self y initial) ≡ is_apart ss y initial
apart_found ss self (Some y) initial = refl
apart_found ss self None None = refl
apart_found ss self None (Some i) = init_found ss i.init
