-- A declaration as a whole: where nothing is broken, its name is new and has the type that was found, and the step stands for it.
-- Behind it the names in sight are known again.
use Rattle.std.proofs.Common.{◌≡◌, false, not, [], ◌∷◌, List, ◌++◌, length, Option, Some, None, is_some, refl, sym, ap, ◌∙◌, subst, append_assoc}
use Rattle.std.specs.Prelude.{option_map}
use Rattle.dpl_syntax.specs.declared.place.Place.{Place}
use Rattle.dpl_syntax.specs.declared.refusal.Breach.{Breach}
use Rattle.dpl_syntax.specs.declared.refusal.Code.TheVariants.{NameTwice}
use Rattle.dpl_language.specs.Tree.{TypedTree, DeclareTree, Declare}
use Rattle.dpl_language.specs.Names.{Text}
use Rattle.dpl_language.specs.Declarations.{type_of}
use Rattle.dpl_agreement.specs.Renamed.{renamed_typed}
use Rattle.dpl_rules.specs.Types.{ValueType}
use Rattle.dpl_rules.specs.Verdicts.{owed}
use Rattle.dpl_rules.specs.Breaches.{or_lesser, least_from}
use Rattle.dpl_rules.specs.Sights.{Declared, Scopes, find, declared_here, add, origin_in}
use Rattle.dpl_rules.specs.Declarations.{unless_refused, written_breaches, config_breaches, declaration_breaches, declared_by}
use Rattle.dpl_scopes.specs.Slots.{next_slot_in}
use Rattle.dpl_scopes.specs.Types.{of_type}
use Rattle.dpl_lowered.specs.Shapes.{nowhere, placed}
use Rattle.dpl_lowered.specs.LoweredStatements.{written_type, tells_name, unplaced_word, declared_type, declared_initial}
use Rattle.dpl_memory.specs.Memory.{known_variable}
use Rattle.dpl_memory.specs.Resolved.{variable_of}
use Rattle.dpl_nodes.specs.Steps.{step_view}
use Rattle.dpl_typed.specs.Leaves.{kind_by, leaf_by}
use Rattle.dpl_bound.specs.Sights.{bound_in, AreKnownScopes}
use Rattle.dpl_bound.specs.Run.{stmt_leaves}
use Rattle.dpl_types.proofs.Unbroken.{unbroken}
use Rattle.dpl_declarations.specs.declared.found.Found.{Found}
use Rattle.dpl_declarations.specs.Plain.{IsOpen, IsPlain}
use Rattle.dpl_declarations.specs.Told.{type_as, told_as, TellsAs}
use Rattle.dpl_declarations.specs.Trees.{type_leaves, initial_leaves, lowered_as, IsNameType, IsFoundAs}
use Rattle.dpl_declarations.proofs.Apart.{untold-apart}

-- ---- the tree
types-leaves : (ss : Scopes) (w : Option (TypedTree Text)) → type_of (option_map (renamed_typed variable_of) (option_map (renamed_typed (bound_in ss)) w)) ≡ type_leaves ss (type_of w)
types-leaves ss None = refl
types-leaves ss (Some w) = refl

declare-leaves : (ss : Scopes) (d : DeclareTree Text) → stmt_leaves ss (Declare d) ≡ lowered_as ss d (type_of d.typed) (declared_by ss d).type
declare-leaves ss d =
    let i = initial_leaves ss d.initial in
    ap (λ y. Declare (record {
      config = unplaced_word d.config;
      at = nowhere;
      constant = false;
      name = placed (tells_name y) (record { at = d.name.at; name = leaf_by (kind_by (declared_by ss d).type) (Some (next_slot_in ss)) });
      typed = option_map written_type (declared_type known_variable y i);
      initial = declared_initial known_variable y i;
      semicolon = nowhere;
    })) (types-leaves ss d.typed)

-- ---- what is declared
unrefused : (bs : List Breach) (t : Option ValueType) → bs ≡ [] → unless_refused bs t ≡ t
unrefused [] t h = refl
unrefused (b ∷ bs) t h = absurd cc

-- no name of the scope is this one
new-name : (o : Option Declared) (at : Place) → owed (not (is_some o)) at NameTwice ≡ [] → o ≡ None
new-name None at h = refl
new-name (Some d) at h = absurd cc

add-known : (ss : Scopes) (d : Declared) → IsOpen ss → AreKnownScopes ss → IsNameType d.type → d.origin.depth ≡ length ss → (at : Place) → owed (not (declared_here ss d.origin.name)) at NameTwice ≡ [] → AreKnownScopes (add d ss)
add-known [] d inside known named depth at h = absurd inside
add-known (s ∷ ss) d inside known named depth at h = (((named.0, named.1, depth, named.2), new-name (find s d.origin.name) at h, known.0), known.1)

module _ (ss : Scopes) (d : DeclareTree Text) (f : Found) (first o p : Option Breach) (once : o ≡ least_from None (owed (not (declared_here ss d.name.name)) d.name.at NameTwice))
    (told : TellsAs ss d (type_of d.typed) f o p) (found : p ≡ None → IsPlain ss d → IsFoundAs ss d (type_of d.typed) f) (none : or_lesser first p ≡ None) (plain : IsPlain ss d) where
  abbrev twice : List Breach
  twice = owed (not (declared_here ss d.name.name)) d.name.at NameTwice

  abbrev written : List Breach
  written = written_breaches ss (origin_in ss d.name.name) (type_of d.typed) d.initial

  abbrev config : List Breach
  config = config_breaches ss d.config d

  untold : p ≡ None
  untold = (untold-apart first p none).1

  all : (o ≡ None) × (told_as ss d (type_of d.typed) ≡ [])
  all = unbroken o (told_as ss d (type_of d.typed)) (sym told.1 ∙ untold)

  alone : twice ≡ []
  alone = (unbroken None twice (sym once ∙ all.0)).1

  unbroken-declaration : declaration_breaches ss d ≡ []
  unbroken-declaration = append_assoc twice written config ∙ ap (λ bs. bs ++ (written ++ config)) alone ∙ all.1

  typed : (declared_by ss d).type ≡ of_type f.value_type
  typed = unrefused (declaration_breaches ss d) (type_as ss d (type_of d.typed)) unbroken-declaration ∙ sym told.0

  pub declared-node : stmt_leaves ss (Declare d) ≡ step_view f.step
  declared-node = declare-leaves ss d ∙ ap (lowered_as ss d (type_of d.typed)) typed ∙ (found untold plain).node

  pub declared-known : AreKnownScopes (add (declared_by ss d) ss)
  declared-known = add-known ss (declared_by ss d) plain.inside plain.known (subst IsNameType (sym typed) (found untold plain).named) refl d.name.at alone
