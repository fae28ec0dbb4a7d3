-- What is in sight behind one more name; and what is known of each name in sight.
-- The latest declaration stands last in its frame.
use Rattle.std.proofs.Common.{◌≡◌, ℕ, Bool, true, false, [], ◌∷◌, Option, Some, None, refl, ap, subst, arith}
use Rattle.std.specs.Prelude.{bytes_eq, if◌then◌else◌}
use Rattle.std.specs.Option.{option_or}
use Rattle.dpl_language.specs.Names.{Text}
use Rattle.dpl_agreement.specs.Scopes.{PlainForm}
use Rattle.dpl_rules.specs.Types.{Origin, ValueType}
use Rattle.dpl_rules.specs.Sights.{Declared, Scope, Scopes, find, lookup, add}
use Rattle.dpl_scopes.specs.Slots.{count_in, next_slot_in}
use Rattle.dpl_memory.specs.Memory.{VariableKind}
use Rattle.dpl_memory.specs.Resolved.{sighted, bind}
use Rattle.dpl_typed.specs.Leaves.{kind_by}
use Rattle.dpl_bound.specs.Sights.{bound_at, over_by, sighted_at, sight_of, is_promoted_by, IsKnownScope, AreKnownScopes}

-- ---- one more name
next_open : (s : Scope) (ss : Scopes) → count_in (s ∷ ss) ≡ next_slot_in (s ∷ ss)
next_open s ss = omega arith

-- an empty scope has no domain in sight
over_by-empty : (self : Origin) (t : Option ValueType) → over_by ([] ∷ []) self t ≡ over_by [] self t
over_by-empty self None = refl
over_by-empty self _ = refl

pub sight_of-next : (d : Declared) (ss : Scopes) → sight_of (add d ss) ≡ bind (sighted_at ss d (next_slot_in ss)) (sight_of ss)
sight_of-next d [] = ap (λ o. (record (sighted (bound_at d 1) PlainForm) { over = o } ∷ []) ∷ []) (over_by-empty d.origin d.type)
sight_of-next d (s ∷ ss) = ap (λ n. bind (sighted_at (s ∷ ss) d n) (sight_of (s ∷ ss))) (next_open s ss)

-- ---- names in known scopes: each has a type that has a kind, and that is none of promoted expressions
pub record IsKnownName (d : Declared) : Type 0 where
  pub kind : VariableKind
  pub of_kind : kind_by d.type ≡ Some kind
  pub single : is_promoted_by d.type ≡ false

found-if : (b : Bool) (depth : ℕ) (d e : Declared) (ds : Scope) (x : Text) → IsKnownName d → ((e : Declared) → find ds x ≡ Some e → IsKnownName e) → (if b then Some d else find ds x) ≡ Some e → IsKnownName e
found-if true depth d e ds x here there is = let same : d ≡ e = cc in subst IsKnownName same here
found-if false depth d e ds x here there is = there e is

found-known : (depth : ℕ) (s : Scope) (x : Text) → IsKnownScope depth s → (e : Declared) → find s x ≡ Some e → IsKnownName e
found-known depth [] x h e is = absurd cc
found-known depth (d ∷ ds) x h e is =
    found-if (bytes_eq x d.origin.name) depth d e ds x (record { kind = h.0.0; of_kind = h.0.1; single = h.0.3 }) (found-known depth ds x h.2) is

found-or : (o p : Option Declared) (e : Declared) → ((e : Declared) → o ≡ Some e → IsKnownName e) → ((e : Declared) → p ≡ Some e → IsKnownName e) → option_or o p ≡ Some e → IsKnownName e
found-or None p e here there is = there e is
found-or (Some d) p e here there is = here e is

pub lookup-known : (ss : Scopes) (x : Text) → AreKnownScopes ss → (e : Declared) → lookup ss x ≡ Some e → IsKnownName e
lookup-known [] x h e is = absurd cc
lookup-known (s ∷ ss) x h e is = found-or (find s x) (lookup ss x) e (found-known _ s x h.0) (lookup-known ss x h.1) is
