-- A chain's value is of the chain's type: an operator gives its kind, and where `&&` or `||` decide by their left side
-- alone, what follows in the chain is bool.
use Rattle.std.proofs.Common.{◌≡◌, Bool, true, false, [], Option, Some, None, refl, sym, ap, subst}
use Rattle.std.specs.Prelude.{◌&&◌}
use Rattle.std.specs.Result.{IfOk}
use Rattle.dpl_syntax.specs.declared.place.Place.{Place}
use Rattle.dpl_language.specs.Tree.{Kind, IntKind, BoolKind, Infix}
use Rattle.dpl_language.specs.Tree.{And, Or, ExprTree, Links, NoLinks, Link}
use Rattle.dpl_language.specs.Values.{Value, Index}
use Rattle.dpl_language.specs.Arithmetic.{infix_of, divides, tested_divisor, decides}
use Rattle.dpl_language.specs.Names.{Text}
use Rattle.dpl_language.specs.Outcome.{with_ok}
use Rattle.dpl_language.specs.Environment.{Environment, Limits}
use Rattle.dpl_language.specs.Expressions.{unless_decided, value_of, chained}
use Rattle.dpl_rules.specs.Types.{Over, ValueType, Scalar, Array as ArrayType, Promoted, is_bool, a_bool}
use Rattle.dpl_rules.specs.Types.{Operand, operand_of, a_bool, is_bool}
use Rattle.dpl_rules.specs.Verdicts.{type_by, has_if}
use Rattle.dpl_rules.specs.Sights.{Scopes}
use Rattle.dpl_rules.specs.Operators.{Takes, Ints, Alike, Bools, taken, between, taking, infix_verdict}
use Rattle.dpl_rules.specs.Expressions.{type_of, chain_type}
use Rattle.dpl_sound.specs.Typed.{HasType, type_at}
use Rattle.dpl_sound.specs.Formed.{HasLinks}
use Rattle.dpl_sound.proofs.Given.{some-same, both_so, has_if-gives}
use Rattle.dpl_sound.proofs.Results.{with_ok-if}
use Rattle.dpl_sound.proofs.Operators.{given, infix_of-kind, IsOfKind, taking-kind, infix_verdict-kind}

-- ---- behind `&&` and `||` a chain is bool
an_int_no_bool : Scalar IntKind ≡ Scalar BoolKind → ⊥
an_int_no_bool h = absurd cc

bools_between_ints : (at : Place) (result : Kind) (over : Option Over) (b : Option Operand) (u : ValueType)
    → type_by (between at IntKind IntKind result (Some (record { kind = BoolKind; over = over })) b) ≡ Some u → ⊥
bools_between_ints at result over None u h = absurd cc
bools_between_ints at result over (Some b) u h = absurd cc

-- no operator on ints takes bools
ints-no_bools : (at : Place) (result : Kind) (a : ValueType) (b : Option Operand) (u : ValueType) → IsOfKind BoolKind a
    → type_by (between at IntKind IntKind result (operand_of a) b) ≡ Some u → ⊥
ints-no_bools at result (Scalar IntKind) b u p h = an_int_no_bool (p None)
ints-no_bools at result (Scalar BoolKind) b u p h = bools_between_ints at result None b u h
ints-no_bools at result (ArrayType IntKind over) b u p h = an_int_no_bool (p (Some []))
ints-no_bools at result (ArrayType BoolKind over) b u p h = bools_between_ints at result (Some over) b u h
ints-no_bools at result (Promoted IntKind over) b u p h = an_int_no_bool (p None)
ints-no_bools at result (Promoted BoolKind over) b u p h = bools_between_ints at result (Some over) b u h
ints-no_bools at result _ b u p h = absurd cc

taking-bools : (takes : Takes) (at : Place) (a b u : ValueType) → IsOfKind BoolKind a → type_by (taking takes at a b) ≡ Some u → IsOfKind BoolKind u
taking-bools (Ints result) at a b u p h = elim (ints-no_bools at result a (operand_of b) u p h) [ ]
taking-bools Alike at a b u p h = taking-kind Alike at a b u h
taking-bools Bools at a b u p h = taking-kind Bools at a b u h

infix_verdict-bools : (at : Place) (op : Infix) (a : ValueType) (b : Option ValueType) (u : ValueType) → IsOfKind BoolKind a
    → type_by (infix_verdict at op (Some a) b) ≡ Some u → IsOfKind BoolKind u
infix_verdict-bools at op a None u p h = absurd cc
infix_verdict-bools at op a (Some b) u p h = taking-bools (taken op) at a b u p h

-- ---- what decides is a bool
is_bool-type : (t : ValueType) → is_bool t ≡ true → t ≡ a_bool
is_bool-type (Scalar BoolKind) h = refl
is_bool-type _ h = absurd cc

both_bools-left : (at : Place) (t b u : ValueType) → type_by (has_if (is_bool t && is_bool b) a_bool at) ≡ Some u → t ≡ a_bool
both_bools-left at t b u h = is_bool-type t (both_so (is_bool t) (is_bool b) (has_if-gives (is_bool t && is_bool b) a_bool at u h).0).0

decides-bool : (at : Place) (op : Infix) (t : ValueType) (b : Option ValueType) (u : ValueType) (v : Value) → decides op v ≡ true
    → type_by (infix_verdict at op (Some t) b) ≡ Some u → t ≡ a_bool
decides-bool at And t None u v d h = absurd cc
decides-bool at And t (Some b) u v d h = both_bools-left at t b u h
decides-bool at Or t None u v d h = absurd cc
decides-bool at Or t (Some b) u v d h = both_bools-left at t b u h
decides-bool at _ t b u v d h = absurd cc

module _ (scopes : Scopes) where
  -- a chain with a part that has no type has none
  chain_type-none : (rest : Links Text) (u : ValueType) → chain_type scopes None rest ≡ Some u → ⊥
  chain_type-none NoLinks u h = absurd cc
  chain_type-none (Link at op e rest) u h = chain_type-none rest u h

  -- so where a chain has a type, its operands so far have one
  pub chain_type-gives : (o : Option ValueType) (rest : Links Text) (u : ValueType) → chain_type scopes o rest ≡ Some u
      → (t : ValueType) × (o ≡ Some t) × (chain_type scopes (Some t) rest ≡ Some u)
  chain_type-gives None rest u h = elim (chain_type-none rest u h) [ ]
  chain_type-gives (Some t) rest u h = (t, refl, h)

  chain_type-bools : (rest : Links Text) (t u : ValueType) → IsOfKind BoolKind t → chain_type scopes (Some t) rest ≡ Some u → IsOfKind BoolKind u
  chain_type-bools NoLinks t u p h = subst (IsOfKind BoolKind) (some-same t u h) p
  chain_type-bools (Link at op e rest) t u p h =
      let next = chain_type-gives (type_by (infix_verdict at op (Some t) (type_of scopes e))) rest u h in
      chain_type-bools rest next.0 u (infix_verdict-bools at op t (type_of scopes e) next.0 p next.1) next.2

  -- what an operator gives is no array
  abbrev pub HasKind : ValueType → Type 0
  HasKind u = (k : Kind) × IsOfKind k u

  chain_type-operated : (rest : Links Text) (t u : ValueType) → HasKind t → chain_type scopes (Some t) rest ≡ Some u → HasKind u
  chain_type-operated NoLinks t u p h = subst HasKind (some-same t u h) p
  chain_type-operated (Link at op e rest) t u p h =
      let next = chain_type-gives (type_by (infix_verdict at op (Some t) (type_of scopes e))) rest u h in
      chain_type-operated rest next.0 u (given (taken op), infix_verdict-kind at op (Some t) (type_of scopes e) next.0 next.1) next.2

  pub chain_type-kind : (o : Option ValueType) (rest : Links Text) (u : ValueType) → HasLinks rest → chain_type scopes o rest ≡ Some u → HasKind u
  chain_type-kind o NoLinks u l h = elim l [ ]
  chain_type-kind o (Link at op e rest) u l h =
      let next = chain_type-gives (type_by (infix_verdict at op o (type_of scopes e))) rest u h in
      chain_type-operated rest next.0 u (given (taken op), infix_verdict-kind at op o (type_of scopes e) next.0 next.1) next.2

  -- ---- values
  module _ {S : Type 0} (limits : Limits) (env : Environment Text S) (s : S) where
    link-has : (at : Place) (op : Infix) (e : ExprTree Text) (rest : Links Text) (t m u : ValueType) (i : Option Index) (v : Value) (b : Bool) → decides op v ≡ b
        → HasType v (type_at t i) → type_by (infix_verdict at op (Some t) (type_of scopes e)) ≡ Some m → chain_type scopes (Some m) rest ≡ Some u
        → ((w : Value) → HasType w (type_at m i) → IfOk (chained limits env rest i s w) (λ w. HasType w (type_at u i)))
        → IfOk (unless_decided b v (with_ok (value_of limits env e i s) (λ w. with_ok (tested_divisor (divides op) at w)
        (λ w. chained limits env rest i s (infix_of op v w))))) (λ w. HasType w (type_at u i))
    link-has at op e rest t m u i v true d hv hm hu go =
        let bool = decides-bool at op t (type_of scopes e) m v d hm in
        subst (HasType v) (sym (chain_type-bools rest m u (infix_verdict-bools at op t (type_of scopes e) m (λ i. ap (λ t. type_at t i) bool) hm) hu i))
        (subst (λ t. HasType v (type_at t i)) bool hv)
    link-has at op e rest t m u i v false d hv hm hu go =
        with_ok-if (λ w. HasType w (type_at u i)) (value_of limits env e i s) _
        (λ w. with_ok-if (λ w. HasType w (type_at u i)) (tested_divisor (divides op) at w) _
        (λ w. go (infix_of op v w) (subst (HasType (infix_of op v w)) (sym (infix_verdict-kind at op (Some t) (type_of scopes e) m hm i)) (infix_of-kind op v w))))

    -- a chain's value, from one of the type of its operands so far
    pub chained-has : (rest : Links Text) (t u : ValueType) (i : Option Index) (v : Value) → HasType v (type_at t i) → chain_type scopes (Some t) rest ≡ Some u
        → IfOk (chained limits env rest i s v) (λ w. HasType w (type_at u i))
    chained-has NoLinks t u i v hv h = subst (λ t. HasType v (type_at t i)) (some-same t u h) hv
    chained-has (Link at op e rest) t u i v hv h =
        let next = chain_type-gives (type_by (infix_verdict at op (Some t) (type_of scopes e))) rest u h in
        link-has at op e rest t next.0 u i v (decides op v) refl hv next.1 next.2 (λ w hw. chained-has rest next.0 u i w hw next.2)
