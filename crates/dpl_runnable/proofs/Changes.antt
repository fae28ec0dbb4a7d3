-- Assignments that a text spells, that need nothing which doesn't run and that break no rule give an int, a truth value or a
-- domain one of its kind and its shape, a whole array what its elements may be given, and an element one of its kind; and no
-- cell's method is called.
use Rattle.std.proofs.Common.{◌≡◌, ◌≢◌, ℕ, Bool, true, false, List, [], ◌++◌, Option, Some, None, refl, sym, ap, ◌∙◌, subst}
use Rattle.std.specs.Prelude.{◌&&◌, if◌then◌else◌}
use Rattle.dpl_syntax.specs.declared.refusal.Code.TheVariants.{WrongType}
use Rattle.dpl_syntax.specs.declared.place.Place.{Place}
use Rattle.dpl_language.specs.Tree.{Kind, IntKind, BoolKind, Op, Placed, BracketPair, Rounds, Exprs, Assign, Set, SetAdd, SetSubtract, SetMultiply, SetDivide, SetRemainder, SetReduce, AssignTree, ItemTree, Whole, Element, CallTree}
use Rattle.dpl_language.specs.Names.{Text}
use Rattle.dpl_spelling.specs.Spelt.{ItemSpelt, ExprsSpelt}
use Rattle.dpl_agreement.specs.Untasked.{UntaskedItem, UntaskedExprs}
use Rattle.dpl_rules.specs.Types.{Over, ValueType, Scalar, Domain, Array, is_cell, is_scalar, is_domain_of, fits_array, same_kind}
use Rattle.dpl_rules.specs.Verdicts.{Part, type_by, broken_by, owed_type, with_type, breach}
use Rattle.dpl_rules.specs.Sights.{Declared, Scopes, lookup, type_declared, Reducing, Sight}
use Rattle.dpl_rules.specs.Operators.{round_verdict}
use Rattle.dpl_rules.specs.Expressions.{item_type, name_verdict, expr_parts, exprs_breaches, side_part, side_breaches, cell_declared}
use Rattle.dpl_rules.specs.Assignments.{written_name, set_breaches, change_breaches, fitting, fitting_target, may_reduce_in, element_of, assignment_breaches, called_name, call_word, call_argument, call_breaches}
use Rattle.dpl_rules.proofs.Admission.{first_empty, second_empty}
use Rattle.dpl_sound.proofs.Given.{some-same, both_so}
use Rattle.dpl_sound.proofs.Known.{told-typed, post-told}
use Rattle.dpl_words.specs.Words.{IntLeaf, TruthLeaf}
use Rattle.dpl_memory.specs.Memory.{VariableKind, PlainKind, ArrayKind}
use Rattle.dpl_memory.specs.Resolved.{Bound, kind_takes}
use Rattle.dpl_runnable.specs.Kinds.{leaf_of, IsNamed, AreVariables, IsScalarKind, IsAssignedKind, IsGivenTo}
use Rattle.dpl_typed.specs.Leaves.{value_kind, kind_by, type_in, kind_in, IsFound}
use Rattle.dpl_typed.specs.Simple.{AreSimpleExprs}
use Rattle.dpl_bound.specs.Sights.{is_promoted_type}
use Rattle.dpl_bound.specs.Shapes.{takes_shape, IsTaken}
use Rattle.dpl_runnable.proofs.Kept.{kind-same}
use Rattle.dpl_nodes.specs.Spots.{IsNear}
use Rattle.dpl_runnable.specs.Runnable.{IsReduced, IsReducedBy, IsRunnableChange, IsRunnableElement}
use Rattle.dpl_runnable.proofs.Kept.{kind-cases}
use Rattle.dpl_runnable.proofs.Expressions.{known, name_verdict-type, RunnableItem, runnable_exprs}
use Rattle.dpl_runnable.proofs.Arrays.{IsElementOf, round_verdict-element}
use Rattle.dpl_runnable.proofs.Owed.{owed_type-holds, is_scalar-is, scalar-by, is_domain-kind, scalar-leaf, array-kind, is_scalar-given, is_domain_of-given, fits_array-given}
use Rattle.dpl_runnable.proofs.Scopes.{side-item, runnable_side}

-- ---- a value that fits its target is of a kind that the target is given, and of its shape
record IsFitting (t u : ValueType) (op : Assign) (k j : VariableKind) : Type 0 where
  given : IsGivenTo k j
  shaped : takes_shape t u ≡ true
  assigned : IsAssignedKind k
  taken : kind_takes k op ≡ true

-- each operator is taken where an int is given; `=` always is, and `reduce=` of ints and truth values
int_kind-takes : (op : Assign) (l : Kind) (k : VariableKind) → same_kind IntKind l ≡ true → value_kind (Scalar l) ≡ Some k → kind_takes k op ≡ true
int_kind-takes op IntKind k h e = subst (λ k. kind_takes k op ≡ true) (kind-same (PlainKind IntLeaf) k e) refl
int_kind-takes op BoolKind k h e = absurd cc

-- of an array of ints each operator is taken, and `=` of any
int_elements-take : (op : Assign) (l : Kind) → same_kind IntKind l ≡ true → kind_takes (ArrayKind l) op ≡ true
int_elements-take op IntKind h = refl
int_elements-take op BoolKind h = absurd cc

set_elements-take : (l : Kind) → kind_takes (ArrayKind l) Set ≡ true
set_elements-take IntKind = refl
set_elements-take BoolKind = refl

scalar_kind-takes : (k : VariableKind) → IsScalarKind k → kind_takes k SetReduce ≡ true
scalar_kind-takes (PlainKind IntLeaf) h = refl
scalar_kind-takes (PlainKind TruthLeaf) h = refl
scalar_kind-takes _ h = absurd h

-- a side of a type and its kind, and the target's kind
module _ (at : Place) (side : Part) (u : ValueType) (is : side.type ≡ Some u) (j : VariableKind) (of_kind : value_kind u ≡ Some j) (k : VariableKind) where
  domain-taken : (rank : ℕ) (strided : Bool) → value_kind (Domain rank strided) ≡ Some k → is_domain_of rank strided u ≡ true → IsFitting (Domain rank strided) u Set k j
  domain-taken rank strided e h =
      let one = is_domain-kind (Domain rank strided) k e refl in
      record {
        given = is_domain_of-given k u j of_kind rank strided strided e h;
        shaped = h;
        assigned = subst IsAssignedKind (sym one) tt;
        taken = subst (λ k. kind_takes k Set ≡ true) (sym one) refl;
      }

  array-taken : (l : Kind) (over : Over) (op : Assign) → value_kind (Array l over) ≡ Some k → kind_takes (ArrayKind l) op ≡ true → fits_array l over u ≡ true → IsFitting (Array l over) u op k j
  array-taken l over op e takes h =
      let one = array-kind l over k e in
      record { given = fits_array-given k u j of_kind l over e h; shaped = refl; assigned = subst IsAssignedKind one tt; taken = subst (λ k. kind_takes k op ≡ true) one takes }

  set-taken : (t : ValueType) → value_kind t ≡ Some k → is_promoted_type t ≡ false → set_breaches at side t ≡ [] → IsFitting t u Set k j
  set-taken t e =
      kind-cases (λ t. value_kind t ≡ Some k → is_promoted_type t ≡ false → set_breaches at side t ≡ [] → IsFitting t u Set k j)
      (λ l e w h. record {
        given = is_scalar-given k u j of_kind l e (owed_type-holds (is_scalar l) side.at side.type u is h);
        shaped = refl;
        assigned = scalar-by IsAssignedKind tt tt l k e;
        taken = scalar-by (λ k. kind_takes k Set ≡ true) refl refl l k e;
      })
      (λ s e w h. absurd cc) (λ rank s r e w h. domain-taken rank s e (owed_type-holds (is_domain_of rank s) side.at side.type u is h))
      (λ l over r e w h. array-taken l over Set e (set_elements-take l) (owed_type-holds (fits_array l over) side.at side.type u is h)) (λ l over r e w h. absurd cc) (λ rank r e w h. absurd cc) t k e e

  change-taken : (op : Assign) (t : ValueType) → value_kind t ≡ Some k → is_promoted_type t ≡ false → change_breaches at side t ≡ [] → IsFitting t u op k j
  change-taken op t e =
      kind-cases (λ t. value_kind t ≡ Some k → is_promoted_type t ≡ false → change_breaches at side t ≡ [] → IsFitting t u op k j)
      (λ l e w h.
      let both = both_so (same_kind IntKind l) (is_scalar l u) (owed_type-holds (λ t. same_kind IntKind l && is_scalar l t) at side.type u is h) in
      record { given = is_scalar-given k u j of_kind l e both.1; shaped = refl; assigned = scalar-by IsAssignedKind tt tt l k e; taken = int_kind-takes op l k both.0 e })
      (λ s e w h. absurd cc) (λ rank s r e w h. absurd cc)
      (λ l over r e w h.
      let both = both_so (same_kind IntKind l) (fits_array l over u) (owed_type-holds (λ t. same_kind IntKind l && fits_array l over t) at side.type u is h) in
      array-taken l over op e (int_elements-take op l both.0) both.1) (λ l over r e w h. absurd cc) (λ rank r e w h. absurd cc) t k e e

  -- where `reduce=` may stand, its target is an int or a truth value
  reduce-taken : (may : Bool) → (may ≡ true → IsScalarKind k) → (t : ValueType) → value_kind t ≡ Some k → is_promoted_type t ≡ false → (if may then set_breaches at side t else breach at WrongType) ≡ [] → IsFitting t u SetReduce k j
  reduce-taken true scalar t e w h = let set = set-taken t e w h in record { given = set.given; shaped = set.shaped; assigned = set.assigned; taken = scalar_kind-takes k (scalar refl) }
  reduce-taken false scalar t e w h = absurd cc

module _ (sign : AssignTree) (side : Part) (u : ValueType) (is : side.type ≡ Some u) (j : VariableKind) (of_kind : value_kind u ≡ Some j) (k : VariableKind) where
  fitting-taken : (op : Assign) (may : Bool) → (may ≡ true → IsScalarKind k) → (t : ValueType) → value_kind t ≡ Some k → is_promoted_type t ≡ false → fitting sign op may side t ≡ [] → IsFitting t u op k j
  fitting-taken Set may scalar t e w h = set-taken sign.at side u is j of_kind k t e w h
  fitting-taken SetAdd may scalar t e w h = change-taken sign.at side u is j of_kind k SetAdd t e w h
  fitting-taken SetSubtract may scalar t e w h = change-taken sign.at side u is j of_kind k SetSubtract t e w h
  fitting-taken SetMultiply may scalar t e w h = change-taken sign.at side u is j of_kind k SetMultiply t e w h
  fitting-taken SetDivide may scalar t e w h = change-taken sign.at side u is j of_kind k SetDivide t e w h
  fitting-taken SetRemainder may scalar t e w h = change-taken sign.at side u is j of_kind k SetRemainder t e w h
  fitting-taken SetReduce may scalar t e w h = reduce-taken sign.at side u is j of_kind k may scalar t e w h

-- ---- an element is given an int or a truth value as it is one itself, and `reduce=` is to none
record IsElementFitting (l : Kind) (u : ValueType) (op : Assign) : Type 0 where
  scalar : is_scalar l u ≡ true
  taken : kind_takes (ArrayKind l) op ≡ true
  unreduced : op ≢ SetReduce

module _ (sign : AssignTree) (side : Part) (u : ValueType) (is : side.type ≡ Some u) (l : Kind) where
  element-changed : (op : Assign) → op ≢ SetReduce → change_breaches sign.at side (Scalar l) ≡ [] → IsElementFitting l u op
  element-changed op other h =
      let both = both_so (same_kind IntKind l) (is_scalar l u) (owed_type-holds (λ t. same_kind IntKind l && is_scalar l t) sign.at side.type u is h) in
      record { scalar = both.1; taken = int_elements-take op l both.0; unreduced = other }

  element-fitting : (op : Assign) → fitting sign op false side (Scalar l) ≡ [] → IsElementFitting l u op
  element-fitting Set h = record { scalar = owed_type-holds (is_scalar l) side.at side.type u is h; taken = set_elements-take l; unreduced = λ e. absurd cc }
  element-fitting SetAdd h = element-changed SetAdd (λ e. absurd cc) h
  element-fitting SetSubtract h = element-changed SetSubtract (λ e. absurd cc) h
  element-fitting SetMultiply h = element-changed SetMultiply (λ e. absurd cc) h
  element-fitting SetDivide h = element-changed SetDivide (λ e. absurd cc) h
  element-fitting SetRemainder h = element-changed SetRemainder (λ e. absurd cc) h
  element-fitting SetReduce h = absurd cc

may-reduce : (at : Place) (may : Bool) (side : Part) (t : ValueType) → (if may then set_breaches at side t else breach at WrongType) ≡ [] → may ≡ true
may-reduce at true side t h = refl
may-reduce at false side t h = absurd cc

-- ---- names that are written are known
written-variable : (at : Place) (o : Option Declared) → ((d : Declared) → o ≡ Some d → IsNamed d.type) → written_name at o ≡ [] → IsNamed (type_declared o)
written-variable at None names h = absurd cc
written-variable at (Some d) names h = names d refl

-- as an expression such a name has the type of its declaration
written-typed : (at : Place) (o : Option Declared) → ((d : Declared) → o ≡ Some d → IsNamed d.type) → written_name at o ≡ [] → (p : IsNamed (type_declared o)) × (type_by (name_verdict at o) ≡ Some p.type)
written-typed at None names h = absurd cc
written-typed at (Some d) names h = let p = names d refl in (p, name_verdict-type at d p)

called-broken : (at word : Place) (o : Option Declared) → ((d : Declared) → o ≡ Some d → IsNamed d.type) → called_name at word o ≡ [] → ⊥
called-broken at word None names h = absurd cc
called-broken at word (Some d) names h =
    let p = names d refl in
    kind-cases (λ t. owed_type is_cell word (Some t) ≡ [] → ⊥) (λ l h. absurd cc) (λ s h. absurd cc) (λ rank s r h. absurd cc) (λ l over r h. absurd cc) (λ l over r h. absurd cc) (λ rank r h. absurd cc)
    p.type p.kind p.of_kind (subst (λ o. owed_type is_cell word o ≡ []) p.is h)

-- what a statement has in sight that no task runs
abbrev pub untasked : Scopes → Option Reducing → Sight
untasked scopes forall = record { scopes = scopes; forall = forall; in_task = false }

module _ (scopes : Scopes) (names : AreVariables scopes) (forall : Option Reducing) where
  -- ---- assignments to elements
  -- the target's type has elements, and one of them fits what it is given
  element-runnable : (x : Text) (es : Exprs Text) (sign : AssignTree) (item : ItemTree Text) → ExprsSpelt IsNear ⊥ es → ItemSpelt IsNear ⊥ item → AreSimpleExprs (IsFound scopes) es → RunnableItem scopes IsNear names item
      → (t : ValueType) (k : VariableKind) → type_in scopes x ≡ Some t → value_kind t ≡ Some k → (w : ValueType) → IsElementOf t w
      → fitting_target sign false (side_part scopes item) (Some w) ≡ [] → IsRunnableElement scopes x es sign.op item
  element-runnable x es sign item r s index value t k is of_kind w element h =
      let l = element.kind in
      let side = side_part scopes item in
      let u = value.variable.type in
      let typed : item_type scopes item ≡ Some u = value.variable.is in
      let given : side.type ≡ Some u = side-item scopes IsNear names item ∙ typed in
      let fits : fitting_target sign false side (Some (Scalar l)) ≡ [] = subst (λ w. fitting_target sign false side (Some w) ≡ []) element.element h in
      let fitting = element-fitting sign side u given l sign.op fits in
      let array : t ≡ Array l element.over = element.array in
      let one : ArrayKind l ≡ k = array-kind l element.over k (subst (λ t. value_kind t ≡ Some k) array of_kind) in
      record {
        kind = l;
        target = subst (λ o. kind_by o ≡ Some (ArrayKind l)) (sym is) (subst (λ k. value_kind t ≡ Some k) (sym one) of_kind);
        found = index;
        near = r;
        item = record {
          found = value.found;
          kind = subst (λ o. kind_by o ≡ Some (PlainKind (leaf_of l))) (sym typed) (subst (λ u. value_kind u ≡ Some (PlainKind (leaf_of l))) (sym (is_scalar-is l u fitting.scalar)) (scalar-leaf l));
          near = s;
        };
        taken = fitting.taken;
        unreduced = fitting.unreduced;
      }

  pub runnable_element : (x : Placed Text) (shape : BracketPair) (from : Place) (es : Exprs Text) (upto : Place) (sign : AssignTree) (item : ItemTree Text) → ExprsSpelt IsNear ⊥ es → ItemSpelt IsNear ⊥ item
      → UntaskedExprs es → UntaskedItem item → assignment_breaches (untasked scopes forall) (Element x shape from es upto) sign item ≡ [] → IsRunnableElement scopes x.name es sign.op item
  runnable_element x shape from es upto sign item r s v c h =
      let target = lookup scopes x.name in
      let named = type_by (name_verdict x.at target) in
      let verdict = element_of (untasked scopes forall) x from es in
      let side = side_part scopes item in
      let written = written_name x.at target in
      let index = exprs_breaches scopes es in
      let sides = side_breaches scopes item in
      let fits = fitting_target sign false side (type_by verdict) in
      let front = first_empty (written ++ index ++ broken_by verdict ++ sides) fits h in
      let told = first_empty (written ++ index ++ broken_by verdict) sides front in
      let both = first_empty (written ++ index) (broken_by verdict) told in
      let own = second_empty written index both in
      let (p, is) = written-typed x.at target (names x.name) (first_empty written index both) in
      let typed = told-typed verdict (post-told scopes (known scopes IsNear names) (Rounds from es upto) x.at named (p.type, is) own) (second_empty (written ++ index) (broken_by verdict) told) in
      element-runnable x.name es sign item r s (runnable_exprs scopes IsNear names es r v own)
      (runnable_side scopes IsNear names item s c (second_empty (written ++ index ++ broken_by verdict) sides front)) p.type p.kind p.is p.of_kind typed.0
      (round_verdict-element x.at from (expr_parts scopes es) p.type p.kind p.of_kind typed.0 (subst (λ o. type_by (with_type o (round_verdict x.at from (expr_parts scopes es))) ≡ Some typed.0) {y = Some p.type} is typed.1))
      (subst (λ o. fitting_target sign false side o ≡ []) {y = Some typed.0} typed.1 (second_empty (written ++ index ++ broken_by verdict ++ sides) fits h))

  pub call-refuted : (x : Placed Text) (call : CallTree Text) → call_breaches (untasked scopes forall) x call ≡ [] → ⊥
  call-refuted x call h =
      let s = untasked scopes forall in
      called-broken x.at (call_word call) (lookup scopes x.name) (names x.name)
      (first_empty (called_name x.at (call_word call) (lookup scopes x.name)) (call_argument s (cell_declared (type_declared (lookup scopes x.name))) call) h)

  -- ---- assignments to names; `reduce=` is to a reduce variable of the forall around
  module _ (is : List (Bound × Op)) (reduces : (x : Text) (k : VariableKind) → kind_in scopes x ≡ Some k → may_reduce_in forall (lookup scopes x) ≡ true → IsReduced scopes is x k × IsScalarKind k) where
    reduced-by : (x : Text) (sign : AssignTree) (side : Part) (t : ValueType) (op : Assign) (k : VariableKind) → kind_in scopes x ≡ Some k
        → fitting sign op (may_reduce_in forall (lookup scopes x)) side t ≡ [] → IsReducedBy scopes is x op k
    reduced-by x sign side t SetReduce k e h = reduces x k e (may-reduce sign.at (may_reduce_in forall (lookup scopes x)) side t h)
    reduced-by x sign side t _ k e h = tt

    pub runnable_change : (x : Placed Text) (sign : AssignTree) (item : ItemTree Text) → ItemSpelt IsNear ⊥ item → UntaskedItem item
        → assignment_breaches (untasked scopes forall) (Whole x) sign item ≡ [] → IsRunnableChange scopes is x.name sign.op item
    runnable_change x sign item s c h =
        let target = lookup scopes x.name in
        let may = may_reduce_in forall target in
        let side = side_part scopes item in
        let written = written_name x.at target in
        let sides = side_breaches scopes item in
        let fits = fitting_target sign may side (type_declared target) in
        let front = first_empty (written ++ sides) fits h in
        let p = written-variable x.at target (names x.name) (first_empty written sides front) in
        let value = runnable_side scopes IsNear names item s c (second_empty written sides front) in
        let q = value.variable in
        let told = subst (λ o. fitting_target sign may side o ≡ []) p.is (second_empty (written ++ sides) fits h) in
        let kind = ap kind_by p.is ∙ p.of_kind in
        let taken = fitting-taken sign side q.type (side-item scopes IsNear names item ∙ q.is) q.kind q.of_kind p.kind sign.op may (λ m. (reduces x.name p.kind kind m).1) p.type p.of_kind p.single told in
        record {
          kind = p.kind;
          target = kind;
          given = q.kind;
          item = record { found = value.found; kind = ap kind_by q.is ∙ q.of_kind; near = s };
          takes = taken.given;
          shaped = λ t e. subst (IsTaken scopes item) (some-same p.type t (sym p.is ∙ e)) (q.type, q.is, taken.shaped);
          assigned = taken.assigned;
          taken = taken.taken;
          reduced = reduced-by x.name sign side p.type sign.op p.kind kind told;
        }
