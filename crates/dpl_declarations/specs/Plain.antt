-- Declarations that run, as far as no rule says so: a scope is open, and what is in sight is known; a type or an initial value is
-- written, and no cell's type; the parts are simple by their form, their names are found, and their places are near.
use Rattle.std.specs.Prelude.{[], ◌∷◌, Option, Some, None}
use Rattle.dpl_syntax.specs.declared.place.Place.{Place}
use Rattle.dpl_language.specs.Tree.{Items, MappedTree, TypeTree, ScalarType, SyncType, DomainType, ArrayType, InitTree, ItemInit, CreateInit, InitialTree, DeclareTree}
use Rattle.dpl_language.specs.Names.{Text}
use Rattle.dpl_language.specs.Declarations.{type_of}
use Rattle.dpl_language.specs.Spelled.{SaysType}
use Rattle.dpl_rules.specs.Sights.{Scopes}
use Rattle.dpl_nodes.specs.Spots.{IsNear}
use Rattle.dpl_spelling.specs.Spelt.{ItemSpelt, ItemsSpelt, MapSpelt}
use Rattle.dpl_typed.specs.Leaves.{IsFound}
use Rattle.dpl_typed.specs.Simple.{IsSimpleItem, AreSimpleItems}
use Rattle.dpl_mapped.specs.Named.{IsSimpleMap}
use Rattle.dpl_bound.specs.Sights.{AreKnownScopes}

module _ (ss : Scopes) where
  -- a map, if one is written
  abbrev pub IsSimpleMapped : Option (MappedTree Text) → Type 0
  IsSimpleMapped None = Unit {0}
  IsSimpleMapped (Some m) = IsSimpleMap (IsFound ss) m.map × MapSpelt IsNear ⊥ m.map

  -- what an array is over, or a domain is created from, behind a bracket
  abbrev pub ArePlainItems : Place → Items Text → Type 0
  ArePlainItems from is = AreSimpleItems (IsFound ss) is × ItemsSpelt IsNear ⊥ is × IsNear from

  -- a type, if one is written
  abbrev pub IsPlainType : Option (TypeTree Text) → Type 0
  IsPlainType None = Unit {0}
  IsPlainType (Some (ScalarType at k)) = Unit {0}
  IsPlainType (Some (SyncType at kind_at k)) = ⊥
  IsPlainType (Some (DomainType d)) = IsSimpleMapped d.mapped
  IsPlainType (Some (ArrayType a)) = ArePlainItems a.from a.over

  -- an initial value
  abbrev pub IsPlainInit : InitTree Text → Type 0
  IsPlainInit (ItemInit item mapped) = IsSimpleItem (IsFound ss) item × ItemSpelt IsNear ⊥ item × IsSimpleMapped mapped
  IsPlainInit (CreateInit c) = ArePlainItems c.from c.items

  abbrev pub IsPlainInitial : Option (InitialTree Text) → Type 0
  IsPlainInitial None = Unit {0}
  IsPlainInitial (Some i) = IsPlainInit i.init × IsNear i.equals

-- a scope is open
abbrev pub IsOpen : Scopes → Type 0
IsOpen [] = ⊥
IsOpen (s ∷ ss) = Unit {0}

-- a declaration as one of a type, or of none
pub record IsPlainAs (ss : Scopes) (d : DeclareTree Text) (y : Option (TypeTree Text)) : Type 0 where
  pub known : AreKnownScopes ss
  pub inside : IsOpen ss
  pub says : SaysType y d.initial
  pub near : IsNear d.name.at
  pub type : IsPlainType ss y
  pub initial : IsPlainInitial ss d.initial

abbrev pub IsPlain : Scopes → DeclareTree Text → Type 0
IsPlain ss d = IsPlainAs ss d (type_of d.typed)
