-- The variables of a loop as they are run: each has the next slot in the loop's scope, one behind the other.
-- What is said of several variables is said of the names behind commas.
use Rattle.std.proofs.Common.{◌≡◌, ℕ, Bor, Bool, true, false, List, [], ◌∷◌, map, Option, Some, refl, sym, ap, ◌∙◌, subst}
use Rattle.dpl_syntax.specs.declared.place.Place.{Place}
use Rattle.dpl_language.specs.Tree.{IntKind, Placed, ManyVariables}
use Rattle.dpl_language.specs.Names.{Text}
use Rattle.dpl_agreement.specs.Renamed.{renamed, map_comma}
use Rattle.dpl_tree.specs.declared.expression.Name.{Name}
use Rattle.dpl_tree.specs.declared.statement.NextName.{NextName}
use Rattle.dpl_tree.specs.declared.statement.Variables.{Variables}
use Rattle.dpl_tree.specs.declared.statement.Variables.TheVariants as variables
use Rattle.dpl_tree.specs.View.{name_view}
use Rattle.dpl_tree.specs.Statements.{next_name_view, variables_view}
use Rattle.dpl_rules.specs.Types.{ValueType, Scalar, has, is_int}
use Rattle.dpl_rules.specs.Sights.{Scopes, add}
use Rattle.dpl_rules.specs.Loops.{add_variables}
use Rattle.dpl_scopes.specs.Slots.{next_slot_in}
use Rattle.dpl_lowered.specs.Shapes.{nowhere, unplaced}
use Rattle.dpl_words.specs.Words.{IntLeaf}
use Rattle.dpl_memory.specs.Memory.{PlainKind, TupleKind, Variable, variable, int_leaf}
use Rattle.dpl_memory.specs.Resolved.{variable_of}
use Rattle.dpl_nodes.specs.declared.step.Names.TheVariants as names
use Rattle.dpl_nodes.specs.Steps.{unplaced_leaf, next_name, names_view}
use Rattle.dpl_typed.specs.Leaves.{kind_if, kind_by, leaf_by}
use Rattle.dpl_bound.specs.Bounds.{loop_variable, bound_variable, bound_others}
use Rattle.dpl_heads.specs.Listed.{names_in, slots_from}
use Rattle.dpl_heads.specs.Made.{is_turn, variables_leaves}

pub int-kind : (t : Option ValueType) → has is_int t ≡ true → kind_by t ≡ Some (PlainKind IntLeaf)
int-kind (Some (Scalar IntKind)) h = refl
int-kind _ h = absurd (let f : false ≡ true = h in cc)

-- a tuple of a rank that has one
pub tuple_leaf : (b : Bool) (slot : ℕ) → b ≡ true → leaf_by (kind_if b TupleKind) (Some slot) ≡ variable TupleKind slot
tuple_leaf b slot h = ap (λ b. leaf_by (kind_if b TupleKind) (Some slot)) h

module _ (t : Option ValueType) (kind : kind_by t ≡ Some (PlainKind IntLeaf)) where
  unplaced-int : (rs : Scopes) (x : Placed Text) → unplaced (renamed variable_of (bound_variable t rs x)) ≡ unplaced_leaf (int_leaf (next_slot_in rs))
  unplaced-int rs x = ap (λ o. unplaced_leaf (leaf_by o (Some (next_slot_in rs)))) kind

  others-node : (ns : List NextName) (rs : Scopes)
      → map next_name (slots_from t (names_in ns) rs) ≡ map (λ y. record { comma = nowhere; part = unplaced y.part }) (map (map_comma (renamed variable_of)) (bound_others t rs (map next_name_view ns)))
  others-node [] rs = refl
  others-node (n ∷ ns) rs =
      let x = name_view n.name in
      let behind = add (loop_variable t rs x.name) rs in
      let rest = map (λ y. record { comma = nowhere; part = unplaced y.part }) (map (map_comma (renamed variable_of)) (bound_others t behind (map next_name_view ns))) in
      ap (λ ys. next_name (next_slot_in rs) ∷ ys) (others-node ns behind) ∙ ap (λ (p : Placed Variable). record { comma = nowhere; part = p } ∷ rest) (sym (unplaced-int rs x))

  pub many-node : (from upto : Place) (head : Placed Text) (ns : List NextName) (rs : Scopes) (slot : ℕ) (others : List ℕ) → slot ≡ next_slot_in rs
      → others ≡ slots_from t (names_in ns) (add (loop_variable t rs head.name) rs)
      → ManyVariables nowhere (record { first = unplaced_leaf (int_leaf slot); others = map next_name others }) nowhere
      ≡ variables_leaves t rs (ManyVariables from (record { first = head; others = map next_name_view ns }) upto)
  many-node from upto head ns rs slot others one more =
      let behind = add (loop_variable t rs head.name) rs in
      ap (λ n. ManyVariables nowhere (record { first = unplaced_leaf (int_leaf n); others = map next_name others }) nowhere) one
      ∙ ap (λ ns. ManyVariables nowhere (record { first = unplaced_leaf (int_leaf (next_slot_in rs)); others = map next_name ns }) nowhere) more
      ∙ ap (λ ys. ManyVariables nowhere (record { first = unplaced_leaf (int_leaf (next_slot_in rs)); others = ys }) nowhere) (others-node ns behind)
      ∙ ap (λ (p : Placed Variable). ManyVariables nowhere (record { first = p; others = map (λ y. record { comma = nowhere; part = unplaced y.part }) (map (map_comma (renamed variable_of)) (bound_others t behind (map next_name_view ns))) }) nowhere)
      (sym (unplaced-int rs head))

-- several variables, as they are made
pub several-node : (t : Option ValueType) (vs : Variables) (from upto : Place) (head : Name) (ns : Bor (List NextName)) (ss us : Scopes) (slot : ℕ) (slots : Bor (List ℕ))
    → vs ≡ variables.Many from head ns upto → us ≡ add_variables t (name_view head ∷ []) ss → slot ≡ next_slot_in ss → slots.now ≡ slots_from t (names_in ns.now) us
    → has (is_turn (variables_view vs)) t ≡ true → names_view (names.Each slot slots) ≡ variables_leaves t ss (variables_view vs)
several-node t vs from upto head ns ss us slot slots is opened next others turn =
    let kind = int-kind t (subst (λ (v : Variables). has (is_turn (variables_view v)) t ≡ true) is turn) in
    many-node t kind from upto (name_view head) ns.now ss slot slots.now next (others ∙ ap (slots_from t (names_in ns.now)) opened)
    ∙ ap (λ (v : Variables). variables_leaves t ss (variables_view v)) (sym is)
