-- What is shown of what was found: an int and a truth value as they are, and an array, whose bare name is printed, as a whole.
-- An expression that stands as a right side stands as it is.
use Rattle.std.proofs.Common.{◌≡◌, ℕ, true, false, List, Bor, Option, Some, None, refl, sym, ap, ◌∙◌}
use Rattle.std.specs.Prelude.{◌||◌}
use Rattle.std.proofs.lemmas.Option.{none-some}
use Rattle.dpl_syntax.specs.declared.place.Place.{Place}
use Rattle.dpl_language.specs.Names.{Text}
use Rattle.dpl_language.specs.Phrases.{bare_name, cell_read}
use Rattle.dpl_language.specs.Tree.{Placed, Kind, ExprTree, Named, ItemTree, One, TextArgument, ExprArgument}
use Rattle.dpl_language.specs.Phrases.{item_read}
use Rattle.dpl_agreement.specs.Renamed.{renamed_expr, renamed_item}
use Rattle.dpl_agreement.proofs.RenamedTwice.{renamed_expr-twice}
use Rattle.dpl_rules.specs.Assignments.{is_printed}
use Rattle.dpl_rules.specs.Sights.{Scopes}
use Rattle.dpl_rules.specs.Types.{ValueType, is_any_scalar, is_array}
use Rattle.dpl_lowered.specs.Shapes.{nowhere, as_expr, as_item, hidden, hidden_item}
use Rattle.dpl_lowered.specs.LoweredExpressions.{Once, lowered_expr, lowered_item}
use Rattle.dpl_lowered.specs.LoweredStatements.{array_name, lowered_shown}
use Rattle.dpl_lowered.proofs.Formed.{as_expr-as_item, lowered-formed}
use Rattle.dpl_memory.specs.Memory.{ArrayKind, Variable, variable, known_variable}
use Rattle.dpl_memory.specs.Resolved.{variable_of}
use Rattle.dpl_nodes.specs.declared.tree.IntExpr.{IntExpr, Local as IntLocal, Chain' as IntChain'}
use Rattle.dpl_nodes.specs.declared.tree.BoolExpr.{BoolExpr, Local as TruthLocal, Chain' as TruthChain'}
use Rattle.dpl_nodes.specs.declared.step.Argument.TheVariants as node
use Rattle.dpl_nodes.specs.Typed.{leaf_named, int_view, truth_view}
use Rattle.dpl_nodes.proofs.Chains.{int_links-hold, truth_links-hold}
use Rattle.dpl_nodes.proofs.Unread.{cell_read-int, cell_read-truth}
use Rattle.dpl_typed.specs.declared.typed.Typed.{Typed}
use Rattle.dpl_typed.specs.declared.typed.Typed.TheVariants as typed
use Rattle.dpl_typed.specs.Leaves.{leaf_in}
use Rattle.dpl_typed.specs.Lowered.{leaves_of}
use Rattle.dpl_typed.specs.Stands.{StandsForItem, IsArgument}
use Rattle.dpl_typed.specs.Typed.{type_of_typed, typed_view, typed_item}
use Rattle.dpl_typed.proofs.Standing.{typed_view-item, typed_item-view}
use Rattle.dpl_bound.specs.Run.{side_leaves}
use Rattle.dpl_bound.specs.Sights.{bound_in}
use Rattle.dpl_bound.proofs.Sides.{items-leaves}
use Rattle.dpl_prints.specs.Made.{typed_shown, IsArgumentAs}

-- ---- what stands as a right side
unhidden : {A B : Type 0} (t : Typed) (read : Option A) (phrase : Option B) (i : ItemTree Variable) → typed_item Once t ≡ hidden_item read phrase i → typed_item Once t ≡ i
unhidden t (Some x) phrase i h = h
unhidden t None None i h = h
unhidden t None (Some y) i h = typed_item-view Once t ∙ ap as_item (typed_view-item Once t ∙ ap as_expr h)

pub side-argument : (ss : Scopes) (e : ExprTree Text) (found : Option Typed) → StandsForItem found (λ m. side_leaves ss m (One e)) → IsArgument found (leaves_of ss Once e)
side-argument ss e None h = tt
side-argument ss e (Some t) h =
    let twice = renamed_item variable_of (renamed_item (bound_in ss) (One e)) in
    let lowered = lowered_item known_variable Once twice in
    let item = unhidden t (item_read twice) (item_read lowered) lowered (h.0 Once) ∙ items-leaves ss Once (One e) in
    (typed_view-item Once t ∙ ap as_expr item ∙ as_expr-as_item (leaves_of ss Once e) (lowered-formed known_variable Once (renamed_expr (leaf_in ss) e)), h.1)

-- ---- what is shown as it is
array_name-int : (e : IntExpr) → array_name known_variable (bare_name (int_view e)) ≡ None
array_name-int (IntLocal slot) = refl
array_name-int (IntChain' p first q shape row) =
    int_links-hold (λ a. array_name known_variable (bare_name a) ≡ None) (λ a b op. refl) row (int_view first) (array_name-int first)
array_name-int e = refl

array_name-truth : (e : BoolExpr) → array_name known_variable (bare_name (truth_view e)) ≡ None
array_name-truth (TruthLocal slot) = refl
array_name-truth (TruthChain' p first q shape row) =
    truth_links-hold (λ a. array_name known_variable (bare_name a) ≡ None) (λ a b op. refl) row (truth_view first) (array_name-truth first)
array_name-truth e = refl

any_phrase : {A : Type 0} (o : Option A) (x : ExprTree Variable) → hidden {B = A} o None x ≡ x
any_phrase None x = refl
any_phrase (Some y) x = refl

-- what is no cell read and no array; and a bare name that is no cell read
shown-open : (e f : ExprTree Variable) → cell_read f ≡ None → array_name known_variable (bare_name f) ≡ None → lowered_shown known_variable e f ≡ f
shown-open e f unread no_array =
    ap (λ o. hidden (bare_name e) o (hidden (cell_read e) (cell_read f) f)) no_array
    ∙ any_phrase (bare_name e) (hidden (cell_read e) (cell_read f) f)
    ∙ ap (λ o. hidden (cell_read e) o f) unread ∙ any_phrase (cell_read e) f

shown-named : (e f : ExprTree Variable) (x : Placed Variable) → bare_name e ≡ Some x → cell_read f ≡ None → lowered_shown known_variable e f ≡ f
shown-named e f x named unread =
    ap (λ o. hidden o (array_name known_variable (bare_name f)) (hidden (cell_read e) (cell_read f) f)) named
    ∙ ap (λ o. hidden (cell_read e) o f) unread ∙ any_phrase (cell_read e) f

-- a bare name stays one
bare-twice : (ss : Scopes) (e : ExprTree Text) (x : Placed Text) → bare_name e ≡ Some x → (y : Placed Variable) × (bare_name (renamed_expr variable_of (renamed_expr (bound_in ss) e)) ≡ Some y)
bare-twice ss (Named z) x h = (record { at = z.at; name = variable_of (bound_in ss z.name) }, refl)
bare-twice ss _ x h = absurd (none-some x h)

-- what is printed, but no int and no truth value, is an array by its bare name
printed-named : (o : Option (Placed Text)) (t : ValueType) → is_any_scalar t ≡ false → is_printed o t ≡ true → (x : Placed Text) × (o ≡ Some x)
printed-named None t other h = absurd (let f : false ≡ true = sym other ∙ h in cc)
printed-named (Some x) t other h = (x, refl)

unprinted : (o : Option (Placed Text)) (t : ValueType) → is_any_scalar t ≡ false → is_array t ≡ false → is_printed o t ≡ true → ⊥
unprinted None t other alone h = let f : false ≡ true = sym other ∙ h in cc
unprinted (Some x) t other alone h = let f : false ≡ true = sym (ap (λ b. b || is_array t) other ∙ alone) ∙ h in cc

module _ (ss : Scopes) (e : ExprTree Text) where
  abbrev twice : ExprTree Variable
  twice = renamed_expr variable_of (renamed_expr (bound_in ss) e)

  shown-made : (f : ExprTree Variable) → f ≡ leaves_of ss Once e → lowered_shown known_variable twice f ≡ f
      → ExprArgument (lowered_shown known_variable twice (lowered_expr known_variable Once twice)) ≡ ExprArgument f
  shown-made f is shows =
      ap ExprArgument (ap (λ g. lowered_shown known_variable twice g)
      (ap (lowered_expr known_variable Once) (renamed_expr-twice variable_of (bound_in ss) e) ∙ sym is) ∙ shows)

  array-made : (k : Kind) (slot : ℕ) (t : ValueType) → leaf_named (variable (ArrayKind k) slot) ≡ leaves_of ss Once e → is_any_scalar t ≡ false → is_printed (bare_name e) t ≡ true
      → IsArgumentAs ss (ExprArgument e) (Some (node.Array k slot))
  array-made k slot t is other printed =
      let f = leaf_named (variable (ArrayKind k) slot) in
      let named = printed-named (bare_name e) t other printed in
      let bare = bare-twice ss e named.0 named.1 in
      shown-made f is (shown-named twice f bare.0 bare.1 refl)

  pub typed-made : (t : Typed) → typed_view Once t ≡ leaves_of ss Once e → is_printed (bare_name e) (type_of_typed t) ≡ true → IsArgumentAs ss (ExprArgument e) (typed_shown t)
  typed-made (typed.Int x) is h =
      shown-made (int_view x.now) is (shown-open twice (int_view x.now) (cell_read-int x.now) (array_name-int x.now))
  typed-made (typed.Truth x) is h =
      shown-made (truth_view x.now) is (shown-open twice (truth_view x.now) (cell_read-truth x.now) (array_name-truth x.now))
  typed-made (typed.Range strided x) is h = unprinted (bare_name e) (type_of_typed (typed.Range strided x)) refl refl h
  typed-made (typed.Domain rank strided x) is h = unprinted (bare_name e) (type_of_typed (typed.Domain rank strided x)) refl refl h
  typed-made (typed.Array k over slot at) is h = array-made k slot (type_of_typed (typed.Array k over slot at)) is refl h
  typed-made (typed.Ints over x) is h = unprinted (bare_name e) (type_of_typed (typed.Ints over x)) refl refl h
  typed-made (typed.Truths over x) is h = unprinted (bare_name e) (type_of_typed (typed.Truths over x)) refl refl h
  typed-made (typed.Tuple rank slot) is h = unprinted (bare_name e) (type_of_typed (typed.Tuple rank slot)) refl refl h
  typed-made typed.Locale is h = unprinted (bare_name e) (type_of_typed typed.Locale) refl refl h
  typed-made typed.AllLocales is h = unprinted (bare_name e) (type_of_typed typed.AllLocales) refl refl h
  typed-made (typed.Cell k) is h = unprinted (bare_name e) (type_of_typed (typed.Cell k)) refl refl h

-- ---- texts
pub text-made : (ss : Scopes) (at : Place) (cs : List ℕ) (b : Bor (List ℕ)) → b.now ≡ cs → IsArgumentAs ss (TextArgument at cs) (Some (node.Text b))
text-made ss at cs b e = ap (TextArgument nowhere) (sym e)
