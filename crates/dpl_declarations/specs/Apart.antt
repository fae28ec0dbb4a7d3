-- Whether an array, a domain or a cell is declared, by the type that is found of the declaration.
-- It is the rule of dpl_rules where that is the type of its initial value.
use Rattle.std.specs.Prelude.{Bool, true, Option, Some, None}
use Rattle.dpl_language.specs.Tree.{TypeTree, InitTree, ItemInit, InitialTree}
use Rattle.dpl_language.specs.Names.{Text}
use Rattle.dpl_rules.specs.Types.{ValueType, is_domain, has}
use Rattle.dpl_rules.specs.Doings.{is_apart_type}

abbrev pub apart_init : InitTree Text → Option ValueType → Bool
apart_init (ItemInit item None) t = has is_domain t
apart_init _ t = true

abbrev pub apart_as : Option (TypeTree Text) → Option (InitialTree Text) → Option ValueType → Bool
apart_as (Some y) initial t = is_apart_type y
apart_as None initial t = has {A = InitialTree Text} (λ i. apart_init i.init t) initial
