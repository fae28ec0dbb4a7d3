-- A fault, or a value of which something holds: how this goes through what results are put together from.
use Rattle.std.proofs.Common.{◌≡◌, Bool, true, false, Option, Some, None, Result, Ok, Err, refl}
use Rattle.std.specs.Prelude.{if◌then◌else◌}
use Rattle.std.specs.Result.{IfOk}
use Rattle.dpl_syntax.specs.declared.place.Place.{Place}
use Rattle.dpl_language.specs.Values.{Value, Fault}
use Rattle.dpl_language.specs.Outcome.{with_ok, naming_value}
use Rattle.dpl_language.specs.Values.{Index}
use Rattle.dpl_language.specs.Expressions.{found}

pub with_ok-if : {A B : Type 0} (P : B → Type 0) (r : Result A Fault) (go : A → Result B Fault) → ((v : A) → IfOk (go v) P) → IfOk (with_ok r go) P
with_ok-if P (Ok v) go p = p v
with_ok-if P (Err f) go p = tt

-- the same, where what is done with the value needs to know something of it
pub with_ok-if_by : {A B : Type 0} (Q : A → Type 0) (P : B → Type 0) (r : Result A Fault) (go : A → Result B Fault) → IfOk r Q → ((v : A) → Q v → IfOk (go v) P)
    → IfOk (with_ok r go) P
with_ok-if_by Q P (Ok v) go q p = p v q
with_ok-if_by Q P (Err f) go q p = tt

-- whichever of two results a test picks
pub test-if : {A : Type 0} (P : A → Type 0) (b : Bool) (r q : Result A Fault) → IfOk r P → IfOk q P → IfOk (if b then r else q) P
test-if P true r q h k = h
test-if P false r q h k = k

pub found-if : (P : Value → Type 0) (at : Place) (o : Option Value) → ((v : Value) → o ≡ Some v → P v) → IfOk (found at o) P
found-if P at None p = tt
found-if P at (Some v) p = p v refl

pub naming_value-if : (P : Value → Type 0) (t : Index) (r : Result Value Fault) → IfOk r P → IfOk (naming_value t r) P
naming_value-if P t (Ok v) p = p
naming_value-if P t (Err f) p = tt
