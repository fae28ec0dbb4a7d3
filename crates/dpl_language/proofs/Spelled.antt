-- What sample trees are spelled with: places, names, and parts behind a comma.
use Rattle.std.specs.Prelude.{ℕ, Bool, Option, List}
use Rattle.dpl_syntax.specs.declared.place.Place.{Place}
use Rattle.dpl_language.specs.Tree.{Placed, AfterComma, Listed, ArgumentName, MapTree, MappedTree, InitTree, InitialTree, TypeTree, TypedTree, Assign, AssignTree, Module, ModuleTree, ItemTree, BlockTree, StartTree, CyclicTree, DomainTypeTree, Items, Kind, ArrayTypeTree, IntentTree, WithTree, DeclareTree, ArgumentTree, WriteTree}

abbrev pub at : ℕ → ℕ → Place
at line column = record { line = line; column = column }

abbrev pub name : List ℕ → Place → Placed (List ℕ)
name text at = record { at = at; name = text }

abbrev pub after : {A : Type 0} → Place → A → AfterComma A
after comma part = record { comma = comma; part = part }

-- the records of the trees, by their fields in order
abbrev pub listed : {A : Type 0} → A → List (AfterComma A) → Listed A
listed first others = record { first = first; others = others }

abbrev pub argument : Place → Place → ArgumentName
argument at equals = record { at = at; equals = equals }

abbrev pub mapped : Place → MapTree (List ℕ) → MappedTree (List ℕ)
mapped at map = record { at = at; map = map }

abbrev pub initial : Place → InitTree (List ℕ) → InitialTree (List ℕ)
initial equals init = record { equals = equals; init = init }

abbrev pub typed : Place → TypeTree (List ℕ) → TypedTree (List ℕ)
typed colon type = record { colon = colon; type = type }

abbrev pub sign : Place → Assign → Place → AssignTree
sign at op last = record { at = at; op = op; last = last }

abbrev pub used_module : Place → Module → ModuleTree
used_module at word = record { at = at; word = word }

abbrev pub block_map : Place → Place → Place → Option ArgumentName → ItemTree (List ℕ) → Place → BlockTree (List ℕ)
block_map new word from argument box upto =
    record { new = new; word = word; from = from; argument = argument; box = box; upto = upto }

abbrev pub cyclic_map : Place → Place → Place → Option ArgumentName → StartTree (List ℕ) → Place → CyclicTree (List ℕ)
cyclic_map new word from argument start upto =
    record { new = new; word = word; from = from; argument = argument; start = start; upto = upto }

abbrev pub domain_type : Place → Place → Place → ℕ → Place → Option (MappedTree (List ℕ)) → DomainTypeTree (List ℕ)
domain_type at from rank_at rank upto mapped =
    record { at = at; from = from; rank_at = rank_at; rank = rank; upto = upto; mapped = mapped }

abbrev pub array_type : Place → Items (List ℕ) → Place → Place → Kind → ArrayTypeTree (List ℕ)
array_type from over upto kind_at kind =
    record { from = from; over = over; upto = upto; kind_at = kind_at; kind = kind }

abbrev pub with_intents : Place → Place → Listed (IntentTree (List ℕ)) → Place → WithTree (List ℕ)
with_intents at from intents upto = record { at = at; from = from; intents = intents; upto = upto }

abbrev pub declared : Option Place → Place → Bool → Placed (List ℕ) → Option (TypedTree (List ℕ)) → Option (InitialTree (List ℕ)) → Place → DeclareTree (List ℕ)
declared config at constant name typed initial semicolon =
    record { config = config; at = at; constant = constant; name = name; typed = typed; initial = initial; semicolon = semicolon }

abbrev pub written_line : Place → Bool → Place → Option (Listed (ArgumentTree (List ℕ))) → Place → Place → WriteTree (List ℕ)
written_line at ends_line from arguments upto semicolon =
    record { at = at; ends_line = ends_line; from = from; arguments = arguments; upto = upto; semicolon = semicolon }
