-- What is known where each name in sight is: each has a type of some kind, and what breaks no rule has a type.
-- What was found is of the type that the rules give.
use Rattle.std.proofs.Common.{◌≡◌, Option, Some, None, refl}
use Rattle.std.proofs.lemmas.Option.{none-some}
use Rattle.dpl_rules.specs.Types.{ValueType}
use Rattle.dpl_rules.specs.Sights.{Scopes}
use Rattle.dpl_sound.proofs.Given.{some-same}
use Rattle.dpl_sound.proofs.Known.{AreKnown}
use Rattle.dpl_memory.specs.Memory.{VariableKind}
use Rattle.dpl_typed.specs.declared.typed.Typed.{Typed}
use Rattle.dpl_typed.specs.Leaves.{value_kind, kind_by}
use Rattle.dpl_typed.specs.Typed.{type_of_typed, types_of}
use Rattle.dpl_bound.specs.Sights.{AreKnownScopes}
use Rattle.dpl_bound.proofs.Sights.{lookup-known}

pub kind-typed : (o : Option ValueType) (k : VariableKind) → kind_by o ≡ Some k → (t : ValueType) × (o ≡ Some t) × (value_kind t ≡ Some k)
kind-typed None k e = absurd (none-some k e)
kind-typed (Some t) k e = (t, refl, e)

pub known-types : (ss : Scopes) → AreKnownScopes ss → AreKnown ss
known-types ss h x d e =
    let name = lookup-known ss x h d e in
    let typed = kind-typed d.type name.kind name.of_kind in
    (typed.0, typed.1)

pub some-found : (found : Option Typed) (u : ValueType) → types_of found ≡ Some u → (v : Typed) × (found ≡ Some v) × (type_of_typed v ≡ u)
some-found None u e = absurd (none-some u e)
some-found (Some v) u e = (v, refl, some-same (type_of_typed v) u e)
