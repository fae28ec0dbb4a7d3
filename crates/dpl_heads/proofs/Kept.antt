-- Reduce variables: what is kept of intents that break no rule, where what is in sight is known, is each with its declaration's slot.
-- The rule says that each is of its operator's kind.
use Rattle.std.proofs.Common.{◌≡◌, ◌<◌, ℕ, ◌+◌, true, false, not, is_some, List, [], ◌∷◌, ◌++◌, length, drop, get_or, map, Option, Some, None, refl, sym, ap, ◌∙◌, subst, append_assoc}
use Rattle.std.specs.Prelude.{if◌then◌else◌}
use Rattle.std.proofs.lemmas.List.{drop_more}
use Rattle.std.proofs.lemmas.Option.{none-some}
use Rattle.dpl_syntax.specs.declared.place.Place.{Place}
use Rattle.dpl_syntax.specs.declared.refusal.Breach.{Breach}
use Rattle.dpl_syntax.specs.declared.refusal.Code.TheVariants.{NameTwice, WrongType, ConstantWritten, CellMisused}
use Rattle.dpl_language.specs.Tree.{Kind, IntKind, BoolKind, Op, Placed, IntentTree, ReduceIntent, RefIntent}
use Rattle.dpl_language.specs.Names.{Text}
use Rattle.dpl_language.specs.Phrases.{parts, reduce_intents, intents_of}
use Rattle.dpl_tree.specs.declared.statement.NextIntent.{NextIntent}
use Rattle.dpl_tree.specs.declared.statement.With.{With}
use Rattle.dpl_tree.specs.Declarations.{optional}
use Rattle.dpl_tree.specs.Statements.{intent_view, with_view}
use Rattle.dpl_rules.specs.Types.{ValueType, Scalar, has, is_cell, is_scalar, op_kind}
use Rattle.dpl_rules.specs.Verdicts.{owed, owed_type, breach}
use Rattle.dpl_rules.specs.Breaches.{least_from}
use Rattle.dpl_rules.specs.Sights.{Declared, Scopes, lookup, type_declared, is_constant}
use Rattle.dpl_rules.specs.Loops.{is_among, reduce_intent, ref_intent, intent_breaches, with_breaches}
use Rattle.dpl_rules.proofs.Admission.{first_empty, second_empty}
use Rattle.dpl_scopes.specs.Slots.{slot_in}
use Rattle.dpl_scopes.proofs.Slots.{slot_in-lookup}
use Rattle.dpl_memory.specs.Memory.{Variable}
use Rattle.dpl_nodes.specs.declared.step.Intent.{Intent as Reduced}
use Rattle.dpl_nodes.specs.Steps.{scalar_leaf, intent_view as step_intent}
use Rattle.dpl_typed.specs.Leaves.{kind_by, leaf_by, leaf_in}
use Rattle.dpl_bound.specs.Sights.{AreKnownScopes}
use Rattle.dpl_bound.proofs.Sights.{IsKnownName, lookup-known}
use Rattle.dpl_heads.specs.Listed.{intents_in}
use Rattle.dpl_heads.specs.Made.{reduced_leaves, kept_at, kept_of, kept_all}
use Rattle.dpl_types.proofs.Unbroken.{unbroken}
use Rattle.dpl_heads.proofs.Known.{kind-typed}

-- ---- one of the intents behind commas
pub kept_step : (ss : Scopes) (xs : List NextIntent) (k : ℕ) (d : NextIntent) → k < length xs → (ns ms : List (Variable × Op)) → ms ≡ ns ++ kept_of ss (intent_view (get_or xs k d).intent)
    → ms ++ kept_all ss (intents_in (drop (k + 1) xs)) ≡ ns ++ kept_all ss (intents_in (drop k xs))
kept_step ss xs k d within ns ms kept =
    let here = kept_of ss (intent_view (get_or xs k d).intent) in
    let left = kept_all ss (intents_in (drop (k + 1) xs)) in
    rw (drop_more xs k d within) (ap (λ ls. ls ++ left) kept ∙ append_assoc ns here left)

-- ---- the type of a reduce variable
scalar-same : (k : Kind) (at : Place) (t : ValueType) → (if is_cell t then breach at CellMisused else owed (is_scalar k t) at WrongType) ≡ [] → t ≡ Scalar k
scalar-same IntKind at (Scalar IntKind) h = refl
scalar-same IntKind at (Scalar BoolKind) h = absurd cc
scalar-same BoolKind at (Scalar IntKind) h = absurd cc
scalar-same BoolKind at (Scalar BoolKind) h = refl
scalar-same k at _ h = absurd cc

-- what the rule asks of the type of what is declared
abbrev kind_told : Op → Place → Option ValueType → List Breach
kind_told op at t = if has is_cell t then breach at CellMisused else owed_type (is_scalar (op_kind op)) at t

reduced-type : (op : Op) (at : Place) (o : Option Declared) → ((d : Declared) → o ≡ Some d → IsKnownName d) → reduce_intent op at o ≡ [] → type_declared o ≡ Some (Scalar (op_kind op))
reduced-type op at None known h = absurd cc
reduced-type op at (Some d) known h =
    let name = known d refl in
    let typed = kind-typed d.type name.kind name.of_kind in
    let told = second_empty (owed (not (is_constant d.sort)) at ConstantWritten) (kind_told op at d.type) h in
    typed.1 ∙ ap Some (scalar-same (op_kind op) at typed.0 (subst (λ (t : Option ValueType). kind_told op at t ≡ []) typed.1 told))

-- ---- its slot
slot-found : (o : Option Declared) (slot : Option ℕ) (t : ValueType) → is_some slot ≡ is_some o → type_declared o ≡ Some t → (n : ℕ) × (slot ≡ Some n)
slot-found None slot t both e = absurd (none-some t e)
slot-found (Some d) None t both e = absurd (let f : false ≡ true = both in cc)
slot-found (Some d) (Some n) t both e = (n, refl)

scalar-leaf : (k : Kind) (slot : ℕ) → scalar_leaf k slot ≡ leaf_by (kind_by (Some (Scalar k))) (Some slot)
scalar-leaf IntKind slot = refl
scalar-leaf BoolKind slot = refl

module _ (ss : Scopes) (known : AreKnownScopes ss) where
  reduced-kept : (op : Op) (x : Placed Text) → reduce_intent op x.at (lookup ss x.name) ≡ [] → kept_at op (slot_in ss x.name) ≡ (leaf_in ss x.name, op) ∷ []
  reduced-kept op x h =
      let type = reduced-type op x.at (lookup ss x.name) (lookup-known ss x.name known) h in
      let slot = slot-found (lookup ss x.name) (slot_in ss x.name) (Scalar (op_kind op)) (slot_in-lookup ss x.name) type in
      let leaf : leaf_in ss x.name ≡ scalar_leaf (op_kind op) slot.0 =
      ap (λ (t : Option ValueType). leaf_by (kind_by t) (slot_in ss x.name)) type ∙ ap (leaf_by (kind_by (Some (Scalar (op_kind op))))) slot.1 ∙ sym (scalar-leaf (op_kind op) slot.0) in
      ap (kept_at op) slot.1 ∙ ap (λ (v : Variable). (v, op) ∷ []) (sym leaf)

  -- what is kept of those that break no rule is each reduce variable, resolved
  kept-leaves : (before : List Text) (is : List (IntentTree Text)) → intent_breaches ss before is ≡ [] → kept_all ss is ≡ reduced_leaves ss (reduce_intents is)
  kept-leaves before [] h = refl
  kept-leaves before (ReduceIntent at op word x ∷ rest) h =
      let once = owed (not (is_among x.name before)) x.at NameTwice in
      let own = reduce_intent op x.at (lookup ss x.name) in
      let others = intent_breaches ss (x.name ∷ before) rest in
      let told = second_empty once own (first_empty (once ++ own) others h) in
      ap (λ ls. ls ++ kept_all ss rest) (reduced-kept op x told) ∙ ap (λ ls. (leaf_in ss x.name, op) ∷ ls) (kept-leaves (x.name ∷ before) rest (second_empty (once ++ own) others h))
  kept-leaves before (RefIntent at x ∷ rest) h =
      let own = owed (not (is_among x.name before)) x.at NameTwice ++ ref_intent x.at (lookup ss x.name) in
      kept-leaves (x.name ∷ before) rest (second_empty own (intent_breaches ss (x.name ∷ before) rest) h)

-- ---- the intents of a loop, where there are some
pub with-kept : (ss : Scopes) (w : Option With) (v : With) (none some all : List Reduced) (o p : Option Breach) → w ≡ Some v → none ≡ []
    → map step_intent some ≡ map step_intent none ++ kept_of ss (intent_view v.first) → map step_intent all ≡ map step_intent some ++ kept_all ss (intents_in v.others.now)
    → p ≡ least_from o (with_breaches ss (optional with_view w)) → p ≡ None → AreKnownScopes ss → map step_intent all ≡ reduced_leaves ss (intents_of (optional with_view w))
with-kept ss w v none some all o p is empty first others told silent known =
    let whole = unbroken o (with_breaches ss (optional with_view w)) (sym told ∙ silent) in
    let broken = subst (λ (x : Option With). with_breaches ss (optional with_view x) ≡ []) is whole.1 in
    others ∙ ap (λ ls. ls ++ kept_all ss (intents_in v.others.now)) (first ∙ ap (λ (ls : List Reduced). map step_intent ls ++ kept_of ss (intent_view v.first)) empty)
    ∙ kept-leaves ss known [] (parts (with_view v).intents) broken
    ∙ ap (λ (x : Option With). reduced_leaves ss (intents_of (optional with_view x))) (sym is)
