-- The reduce variables of a forall that breaks no rule: each is an int or a truth value as its operator takes, and in the body
-- `reduce=` to one of them is to the variable outside, whatever the body declares.
use Rattle.std.proofs.Common.{◌≡◌, ℕ, ◌<◌, ◌≤◌, max, Bool, true, false, List, [], ◌∷◌, ◌++◌, length, is_some, Option, Some, None, refl, sym, ap, ◌∙◌, subst, arith, leb-true}
use Rattle.std.specs.Prelude.{bytes_eq, not, if◌then◌else◌}
use Rattle.std.specs.Option.{option_or}
use Rattle.std.proofs.lemmas.Option.{none-some}
use Rattle.std.proofs.lemmas.Slice.Eq.{bytes_eq-Decides}
use Rattle.dpl_syntax.specs.declared.place.Place.{Place}
use Rattle.dpl_syntax.specs.declared.refusal.Code.TheVariants.{NameTwice, ConstantWritten, CellMisused}
use Rattle.dpl_language.specs.Tree.{Placed, Kind, IntKind, BoolKind, Op, Sum, Product, AllOf, AnyOf, BitAnd, BitOr, BitXor, Least, Greatest, ItemTree, IntentTree, ReduceIntent, RefIntent, WithTree, VariablesTree, LoopWord}
use Rattle.dpl_language.specs.Names.{Text, paired}
use Rattle.dpl_language.specs.Phrases.{parts, reduce_intents, intents_of}
use Rattle.dpl_agreement.specs.Renamed.{renamed_intents}
use Rattle.dpl_rules.specs.Types.{ValueType, Scalar, is_cell, has, is_scalar, op_kind}
use Rattle.dpl_rules.specs.Verdicts.{breach, owed, owed_type}
use Rattle.dpl_rules.specs.Sights.{LoopVariable, Declared, Scope, Scopes, lookup, type_declared, origin_in, is_constant, is_outside, reduces, enter, find, add}
use Rattle.dpl_rules.specs.Loops.{is_among, reduce_intent, ref_intent, intent_breaches, with_breaches, add_variables, variables_of, reducing_in, typed_variable, over_type, in_loop}
use Rattle.dpl_rules.specs.Assignments.{may_reduce_in}
use Rattle.dpl_rules.proofs.Admission.{first_empty, second_empty}
use Rattle.dpl_sound.proofs.Given.{some-same, both_so}
use Rattle.dpl_scopes.specs.Slots.{next_slot_in, slot_in}
use Rattle.dpl_scopes.proofs.Slots.{slot_in-add, slot_in-lookup}
use Rattle.dpl_given.proofs.Slots.{slot_in-one}
use Rattle.dpl_words.specs.Words.{IntLeaf, TruthLeaf}
use Rattle.dpl_memory.specs.Memory.{VariableKind, PlainKind}
use Rattle.dpl_memory.specs.Resolved.{text_of, KindCombines}
use Rattle.dpl_typed.specs.Leaves.{value_kind, kind_by, kind_in, leaf_by, leaf_in}
use Rattle.dpl_bound.specs.Sights.{bound_in}
use Rattle.dpl_runnable.proofs.Kept.{kind-same}
use Rattle.dpl_runnable.specs.Kinds.{IsNamed, AreVariables, IsScalarKind}
use Rattle.dpl_runnable.specs.Runnable.{AreToldAlike, IsReduced, AreRunnableIntents, HasRunnableIntents}
use Rattle.dpl_runnable.proofs.Kept.{kind-cases}
use Rattle.dpl_runnable.proofs.Owed.{is_scalar-is, owed_type-holds, scalar-by}

-- ---- intents
-- an operator's variable has the type of its values
reduce_intent-type : (op : Op) (at : Place) (o : Option Declared) → ((d : Declared) → o ≡ Some d → IsNamed d.type) → reduce_intent op at o ≡ [] → type_declared o ≡ Some (Scalar (op_kind op))
reduce_intent-type op at None names h = absurd cc
reduce_intent-type op at (Some d) names h =
    let p = names d refl in
    let typed = λ (o : Option ValueType). if has is_cell o then breach at CellMisused else owed_type (is_scalar (op_kind op)) at o in
    let told = second_empty (owed (not (is_constant d.sort)) at ConstantWritten) (typed d.type) h in
    p.is ∙ ap Some
    (kind-cases (λ t. typed (Some t) ≡ [] → t ≡ Scalar (op_kind op)) (λ l h. is_scalar-is (op_kind op) (Scalar l) (owed_type-holds (is_scalar (op_kind op)) at (Some (Scalar l)) (Scalar l) refl h)) (λ s h. absurd cc)
    (λ rank s r h. absurd cc) (λ l over r h. absurd cc) (λ l over r h. absurd cc) (λ rank r h. absurd cc) p.type p.kind p.of_kind (subst (λ o. typed o ≡ []) p.is told))

scalar-kind : (l : Kind) → (k : VariableKind) × (value_kind (Scalar l) ≡ Some k) × IsScalarKind k
scalar-kind IntKind = (PlainKind IntLeaf, refl, tt)
scalar-kind BoolKind = (PlainKind TruthLeaf, refl, tt)

by_kind : (op : Op) (j k : VariableKind) → KindCombines j (Some op) → Some j ≡ Some k → KindCombines k (Some op)
by_kind op j k h e = subst (λ k. KindCombines k (Some op)) (kind-same j k e) h

op_kind-combines : (op : Op) (k : VariableKind) → value_kind (Scalar (op_kind op)) ≡ Some k → KindCombines k (Some op)
op_kind-combines Sum k e = by_kind Sum (PlainKind IntLeaf) k refl e
op_kind-combines Product k e = by_kind Product (PlainKind IntLeaf) k refl e
op_kind-combines AllOf k e = by_kind AllOf (PlainKind TruthLeaf) k refl e
op_kind-combines AnyOf k e = by_kind AnyOf (PlainKind TruthLeaf) k refl e
op_kind-combines BitAnd k e = by_kind BitAnd (PlainKind IntLeaf) k refl e
op_kind-combines BitOr k e = by_kind BitOr (PlainKind IntLeaf) k refl e
op_kind-combines BitXor k e = by_kind BitXor (PlainKind IntLeaf) k refl e
op_kind-combines Least k e = by_kind Least (PlainKind IntLeaf) k refl e
op_kind-combines Greatest k e = by_kind Greatest (PlainKind IntLeaf) k refl e

kind-uncombined : (k : VariableKind) → KindCombines k None
kind-uncombined (PlainKind l) = tt
kind-uncombined _ = tt

-- a name that is known has a slot
pub slot-found : (o : Option Declared) (slot : Option ℕ) (k : VariableKind) → is_some slot ≡ is_some o → kind_by (type_declared o) ≡ Some k → (n : ℕ) × (slot ≡ Some n)
slot-found None slot k both e = absurd (none-some k e)
slot-found (Some d) None k both e = absurd cc
slot-found (Some d) (Some n) k both e = (n, refl)

leaf_by-slot : (o : Option VariableKind) (p : Option ℕ) (k : VariableKind) (n : ℕ) → o ≡ Some k → p ≡ Some n → (leaf_by o p).slot ≡ n
leaf_by-slot o p k n e f = ap (λ o. (leaf_by o p).slot) e ∙ ap (λ p. (leaf_by (Some k) p).slot) f

module _ (outer : Scopes) (names : AreVariables outer) where
  reduce-kind : (op : Op) (y : Placed Text) → reduce_intent op y.at (lookup outer y.name) ≡ [] → kind_in outer y.name ≡ value_kind (Scalar (op_kind op))
  reduce-kind op y h = ap kind_by (reduce_intent-type op y.at (lookup outer y.name) (names y.name) h)

  -- what an intent's breaches say, and what those of the others say
  reduce-own : (before : List Text) (at word : Place) (op : Op) (y : Placed Text) (rest : List (IntentTree Text)) → intent_breaches outer before (ReduceIntent at op word y ∷ rest) ≡ []
      → reduce_intent op y.at (lookup outer y.name) ≡ []
  reduce-own before at word op y rest h =
      let once = owed (not (is_among y.name before)) y.at NameTwice in
      let own = reduce_intent op y.at (lookup outer y.name) in
      second_empty once own (first_empty (once ++ own) (intent_breaches outer (y.name ∷ before) rest) h)

  reduce-rest : (before : List Text) (at word : Place) (op : Op) (y : Placed Text) (rest : List (IntentTree Text)) → intent_breaches outer before (ReduceIntent at op word y ∷ rest) ≡ []
      → intent_breaches outer (y.name ∷ before) rest ≡ []
  reduce-rest before at word op y rest h =
      second_empty (owed (not (is_among y.name before)) y.at NameTwice ++ reduce_intent op y.at (lookup outer y.name)) (intent_breaches outer (y.name ∷ before) rest) h

  ref-rest : (before : List Text) (at : Place) (y : Placed Text) (rest : List (IntentTree Text)) → intent_breaches outer before (RefIntent at y ∷ rest) ≡ []
      → intent_breaches outer (y.name ∷ before) rest ≡ []
  ref-rest before at y rest h =
      second_empty (owed (not (is_among y.name before)) y.at NameTwice ++ ref_intent y.at (lookup outer y.name)) (intent_breaches outer (y.name ∷ before) rest) h

  -- ---- reduce variables are ints and truth values
  intents-runnable : (is : List (IntentTree Text)) (before : List Text) → intent_breaches outer before is ≡ [] → AreRunnableIntents outer is
  intents-runnable [] before h = tt
  intents-runnable (ReduceIntent at op word y ∷ rest) before h =
      let k = scalar-kind (op_kind op) in (
        (k.0, reduce-kind op y (reduce-own before at word op y rest h) ∙ k.1, k.2),
        intents-runnable rest (y.name ∷ before) (reduce-rest before at word op y rest h),
      )
  intents-runnable (RefIntent at y ∷ rest) before h = (tt, intents-runnable rest (y.name ∷ before) (ref-rest before at y rest h))

  pub runnable_intents : (w : Option (WithTree Text)) → with_breaches outer w ≡ [] → HasRunnableIntents outer w
  runnable_intents None h = tt
  runnable_intents (Some w) h = intents-runnable (parts w.intents) [] h

  -- ---- a reduce variable and its slot tell each other, and its operator puts values of its kind together
  intents-alike : (x : Text) (slot : ℕ) → slot_in outer x ≡ Some slot → (is : List (IntentTree Text)) (before : List Text) → intent_breaches outer before is ≡ []
      → AreToldAlike x slot (renamed_intents (bound_in outer) (reduce_intents is))
  intents-alike x slot e [] before h = tt
  intents-alike x slot e (ReduceIntent at op word y ∷ rest) before h =
      let k = scalar-kind (op_kind op) in
      let kind = reduce-kind op y (reduce-own before at word op y rest h) ∙ k.1 in
      let other = slot-found (lookup outer y.name) (slot_in outer y.name) k.0 (slot_in-lookup outer y.name) kind in
      let leaf = leaf_by-slot (kind_in outer y.name) (slot_in outer y.name) k.0 other.0 kind other.1 in (
        (λ is. some-same slot (leaf_in outer y.name).slot (sym e ∙ ap (slot_in outer) is ∙ other.1 ∙ ap Some (sym leaf))),
        (λ is. slot_in-one outer x y.name slot e (other.1 ∙ ap Some (sym (is ∙ leaf)))),
        intents-alike x slot e rest (y.name ∷ before) (reduce-rest before at word op y rest h),
      )
  intents-alike x slot e (RefIntent at y ∷ rest) before h = intents-alike x slot e rest (y.name ∷ before) (ref-rest before at y rest h)

  -- the kind of a variable whose name is that of an intent's
  op-kind : (op : Op) (x : Text) (y : Placed Text) (k : VariableKind) → kind_in outer x ≡ Some k → reduce_intent op y.at (lookup outer y.name) ≡ [] → bytes_eq x y.name ≡ true
      → value_kind (Scalar (op_kind op)) ≡ Some k
  op-kind op x y k e h q = sym (reduce-kind op y h) ∙ ap (kind_in outer) (sym ((bytes_eq-Decides x y.name).0 q)) ∙ e

  intents-combine : (x : Text) (k : VariableKind) → kind_in outer x ≡ Some k → (is : List (IntentTree Text)) (before : List Text) → intent_breaches outer before is ≡ []
      → KindCombines k (paired x (renamed_intents text_of (renamed_intents (bound_in outer) (reduce_intents is))))
  intents-combine x k e [] before h = kind-uncombined k
  intents-combine x k e (ReduceIntent at op word y ∷ rest) before h =
      by (bytes_eq x y.name) refl (intents-combine x k e rest (y.name ∷ before) (reduce-rest before at word op y rest h))
    where
      by : (b : Bool) → bytes_eq x y.name ≡ b → KindCombines k (paired x (renamed_intents text_of (renamed_intents (bound_in outer) (reduce_intents rest))))
          → KindCombines k (if b then Some op else paired x (renamed_intents text_of (renamed_intents (bound_in outer) (reduce_intents rest))))
      by true q more = op_kind-combines op k (op-kind op x y k e (reduce-own before at word op y rest h) q)
      by false q more = more
  intents-combine x k e (RefIntent at y ∷ rest) before h = intents-combine x k e rest (y.name ∷ before) (ref-rest before at y rest h)

  intents-scalar : (x : Text) (k : VariableKind) → kind_in outer x ≡ Some k → (is : List (IntentTree Text)) (before : List Text) → intent_breaches outer before is ≡ []
      → reduces (reduce_intents is) x ≡ true → IsScalarKind k
  intents-scalar x k e [] before h m = absurd cc
  intents-scalar x k e (ReduceIntent at op word y ∷ rest) before h m =
      by (bytes_eq x y.name) refl m (intents-scalar x k e rest (y.name ∷ before) (reduce-rest before at word op y rest h))
    where
      by : (b : Bool) → bytes_eq x y.name ≡ b → (if b then true else reduces (reduce_intents rest) x) ≡ true → (reduces (reduce_intents rest) x ≡ true → IsScalarKind k) → IsScalarKind k
      by true q m more = scalar-by IsScalarKind tt tt (op_kind op) k (op-kind op x y k e (reduce-own before at word op y rest h) q)
      by false q m more = more m
  intents-scalar x k e (RefIntent at y ∷ rest) before h m = intents-scalar x k e rest (y.name ∷ before) (ref-rest before at y rest h) m

  with-alike : (x : Text) (slot : ℕ) → slot_in outer x ≡ Some slot → (w : Option (WithTree Text)) → with_breaches outer w ≡ [] → AreToldAlike x slot (renamed_intents (bound_in outer) (intents_of w))
  with-alike x slot e None h = tt
  with-alike x slot e (Some w) h = intents-alike x slot e (parts w.intents) [] h

  with-combine : (x : Text) (k : VariableKind) → kind_in outer x ≡ Some k → (w : Option (WithTree Text)) → with_breaches outer w ≡ []
      → KindCombines k (paired x (renamed_intents text_of (renamed_intents (bound_in outer) (intents_of w))))
  with-combine x k e None h = kind-uncombined k
  with-combine x k e (Some w) h = intents-combine x k e (parts w.intents) [] h

  with-scalar : (x : Text) (k : VariableKind) → kind_in outer x ≡ Some k → (w : Option (WithTree Text)) → with_breaches outer w ≡ [] → reduces (intents_of w) x ≡ true → IsScalarKind k
  with-scalar x k e None h m = absurd cc
  with-scalar x k e (Some w) h m = intents-scalar x k e (parts w.intents) [] h m

-- ---- what is found for a name is declared by it
find-name : (s : Scope) (x : Text) (d : Declared) → find s x ≡ Some d → x ≡ d.origin.name
find-name [] x d e = absurd cc
find-name (c ∷ cs) x d e = by (bytes_eq x c.origin.name) refl e (find-name cs x d)
  where
    by : (b : Bool) → bytes_eq x c.origin.name ≡ b → (if b then Some c else find cs x) ≡ Some d → (find cs x ≡ Some d → x ≡ d.origin.name) → x ≡ d.origin.name
    by true q e more = (bytes_eq-Decides x c.origin.name).0 q ∙ ap (λ (d : Declared). d.origin.name) (some-same c d e)
    by false q e more = more e

lookup-name : (ss : Scopes) (x : Text) (d : Declared) → lookup ss x ≡ Some d → x ≡ d.origin.name
lookup-name [] x d e = absurd cc
lookup-name (s ∷ ss) x d e = by (find s x) e (find-name s x d) (lookup-name ss x d)
  where
    by : (o : Option Declared) → option_or o (lookup ss x) ≡ Some d → (o ≡ Some d → x ≡ d.origin.name) → (lookup ss x ≡ Some d → x ≡ d.origin.name) → x ≡ d.origin.name
    by None e own others = others e
    by (Some c) e own others = own e

-- ---- one more declaration
lookup-add : (d : Declared) (ss : Scopes) (x : Text) → lookup (add d ss) x ≡ (if bytes_eq x d.origin.name then Some d else lookup ss x)
lookup-add d [] x =
    elim (bytes_eq x d.origin.name) as (λ t. option_or (if t then Some d else None) None ≡ (if t then Some d else None)) [ true ↦ refl | false ↦ refl ]
lookup-add d (s ∷ ss) x =
    elim (bytes_eq x d.origin.name) as (λ t. option_or (if t then Some d else find s x) (lookup ss x) ≡ (if t then Some d else option_or (find s x) (lookup ss x)))
    [ true ↦ refl | false ↦ refl ]

length-add : (d : Declared) (ss : Scopes) → length (add d ss) ≡ max (length ss) 1
length-add d [] = refl
length-add d (s ∷ ss) = omega arith

-- ---- scopes inside others: what is declared outside is found there, with its slot
pub record IsInside (outer scopes : Scopes) : Type 0 where
  pub found : (x : Text) (d : Declared) → lookup scopes x ≡ Some d → is_outside (length outer) d ≡ true → (lookup outer x ≡ Some d) × (slot_in scopes x ≡ slot_in outer x)
  pub deeper : length outer < length scopes

pub inside-outer : (outer : Scopes) → IsInside outer (enter outer)
inside-outer outer = record { found = λ x d e h. (e, refl); deeper = omega arith }

pub inside-enter : (outer scopes : Scopes) → IsInside outer scopes → IsInside outer (enter scopes)
inside-enter outer scopes inner =
    let deeper = inner.deeper in
    record { found = inner.found; deeper = omega (arith, deeper) }

pub inside-add : (outer scopes : Scopes) (d : Declared) → d.origin.depth ≡ length scopes → IsInside outer scopes → IsInside outer (add d scopes)
inside-add outer scopes d depth inner =
    let deeper = inner.deeper in
    let more = length-add d scopes in
    record {
      found = λ x c e h.
          let both = by x c (bytes_eq x d.origin.name) (sym (lookup-add d scopes x) ∙ e) h in
          (both.0, slot_in-add d scopes x ∙ both.1);
      deeper = omega (arith, deeper, more);
    }
  where
    by : (x : Text) (c : Declared) (b : Bool) → (if b then Some d else lookup scopes x) ≡ Some c → is_outside (length outer) c ≡ true
        → (lookup outer x ≡ Some c) × ((if b then Some (next_slot_in scopes) else slot_in scopes x) ≡ slot_in outer x)
    by x c true e h =
        let is : d ≡ c = some-same d c e in
        let low : d.origin.depth ≤ length outer = leb-true d.origin.depth (length outer) (ap (is_outside (length outer)) is ∙ h) in
        let deeper = inner.deeper in
        absurd (omega (arith, low, depth, deeper))
    by x c false e h = inner.found x c e h

inside-variables : (outer : Scopes) (o : Option ValueType) (xs : List (Placed Text)) (scopes : Scopes) → IsInside outer scopes → IsInside outer (add_variables o xs scopes)
inside-variables outer o [] scopes inner = inner
inside-variables outer o (x ∷ xs) scopes inner =
    let d : Declared = record { origin = origin_in scopes x.name; sort = LoopVariable; type = o } in
    inside-variables outer o xs (add d scopes) (inside-add outer scopes d refl inner)

pub inside-loop : (outer scopes : Scopes) (word : LoopWord) (xs : VariablesTree Text) (item : ItemTree Text) → IsInside outer (enter scopes) → IsInside outer (in_loop scopes word xs item)
inside-loop outer scopes word xs item inner =
    let type = typed_variable word xs (over_type scopes item) in
    inside-enter outer (add_variables type (variables_of xs) (enter scopes)) (inside-variables outer type (variables_of xs) (enter scopes) inner)

-- ---- `reduce=` inside the forall is to an int or a truth value
module _ (outer : Scopes) (names : AreVariables outer) (w : Option (WithTree Text)) (told : with_breaches outer w ≡ []) where
  outside-reduced : (scopes : Scopes) → IsInside outer scopes → (x : Text) (k : VariableKind) → kind_in scopes x ≡ Some k → (d : Declared) → lookup scopes x ≡ Some d
      → (is_outside (length outer) d ≡ true) × (reduces (intents_of w) d.origin.name ≡ true) → IsReduced scopes (renamed_intents (bound_in outer) (intents_of w)) x k × IsScalarKind k
  outside-reduced scopes inner x k kind d e h =
      let found = inner.found x d e h.0 in
      let outer_kind : kind_in outer x ≡ Some k = ap (λ o. kind_by (type_declared o)) (found.0 ∙ sym e) ∙ kind in (
        record {
          alike = λ slot s. with-alike outer names x slot (sym found.1 ∙ s) w told;
          combines = with-combine outer names x k outer_kind w told;
        },
        with-scalar outer names x k outer_kind w told (ap (reduces (intents_of w)) (lookup-name scopes x d e) ∙ h.1),
      )

  pub reduced : (scopes : Scopes) → IsInside outer scopes → (x : Text) (k : VariableKind) → kind_in scopes x ≡ Some k → may_reduce_in (Some (reducing_in outer w)) (lookup scopes x) ≡ true
      → IsReduced scopes (renamed_intents (bound_in outer) (intents_of w)) x k × IsScalarKind k
  reduced scopes inner x k kind h = by (lookup scopes x) refl h
    where
      by : (o : Option Declared) → lookup scopes x ≡ o → may_reduce_in (Some (reducing_in outer w)) o ≡ true → IsReduced scopes (renamed_intents (bound_in outer) (intents_of w)) x k × IsScalarKind k
      by None e h = absurd cc
      by (Some d) e h = outside-reduced scopes inner x k kind d e (both_so (is_outside (length outer) d) (reduces (intents_of w) d.origin.name) h)
