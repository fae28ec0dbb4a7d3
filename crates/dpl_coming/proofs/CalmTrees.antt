-- Statements that hold no other are calm, where no right side is a read of a cell.
-- But for that, they fit as they do where any name may be used in any way.
use Rattle.std.proofs.Common.{◌≡◌, List, [], ◌∷◌, Option, Some, None, refl, sym, subst}
use Rattle.dpl_syntax.specs.declared.place.Place.{Place}
use Rattle.dpl_language.specs.Tree.{ExprTree, ItemTree, One, TypeTree, ArrayType, InitTree, ItemInit, CreateInit, InitialTree, ArgumentTree, TextArgument, ExprArgument, TargetTree, Whole, Element, WithTree, VariablesTree, LoopWord, Body, Loop, StmtTree, Declare, Assigned, Write, NoStmts, Then}
use Rattle.dpl_language.specs.Values.{Index}
use Rattle.dpl_language.specs.Phrases.{ReadTree, cell_read, item_read}
use Rattle.dpl_language.specs.Declarations.{type_of}
use Rattle.dpl_language.specs.Writing.{arguments_of}
use Rattle.dpl_agreement.specs.Scopes.{IsLawful, fits, fits_expr, fits_item, fits_read, side_by, side_for, fits_init, fits_initial, fits_arguments, fits_loop, fits_body}
use Rattle.dpl_agreement.proofs.FreeNames.{anything, item_fits, stmts_fit}
use Rattle.dpl_coming.specs.Calm.{calm}

-- STATEMENTS that hold no other, and in which no right side is a read of a cell
module _ {N : Type 0} where
  abbrev InitIsUnread : InitTree N → Type 0
  InitIsUnread (ItemInit i mapped) = item_read i ≡ None
  InitIsUnread (CreateInit c) = Unit {0}

  abbrev InitialIsUnread : Option (InitialTree N) → Type 0
  InitialIsUnread None = Unit {0}
  InitialIsUnread (Some i) = InitIsUnread i.init

  abbrev pub AreUnread : List (ArgumentTree N) → Type 0
  AreUnread [] = Unit {0}
  AreUnread (TextArgument at cs ∷ rest) = AreUnread rest
  AreUnread (ExprArgument e ∷ rest) = (cell_read e ≡ None) × AreUnread rest

  abbrev pub IsUnread : StmtTree N → Type 0
  IsUnread (Declare d) = InitialIsUnread d.initial
  IsUnread (Assigned target sign i semicolon) = item_read i ≡ None
  IsUnread (Write w) = AreUnread (arguments_of w.arguments)
  IsUnread _ = ⊥

module _ {N : Type 0} (foralls : Type 0) where
  pub calm-lawful : IsLawful (calm {N = N} foralls)
  calm-lawful = record { leave-enter = λ g. refl; leave-add = λ x form g. refl; reads-add = λ x form g d. tt }

  pub item-calm : (i : ItemTree N) (t : Option Index) → fits_item (calm foralls) t i tt
  item-calm i t = item_fits i t

  pub expr-calm : (e : ExprTree N) (t : Option Index) → fits_expr (calm foralls) t e tt
  expr-calm e t = item_fits (One e) t

  -- a statement where any name may be used in any way
  fitting : (t : StmtTree N) → fits anything t tt
  fitting t = (stmts_fit (Then t NoStmts)).0

  -- RIGHT SIDES
  no_read-calm : (o : Option (ReadTree N)) → o ≡ None → fits_read (calm foralls) o tt
  no_read-calm o none = subst (λ o. fits_read (calm foralls) o tt) (sym none) tt

  side_for-calm : (target : TargetTree N) (i : ItemTree N) → item_read i ≡ None → side_for anything target i tt → side_for (calm foralls) target i tt
  side_for-calm (Whole x) i none f = (f.0, no_read-calm (item_read i) none)
  side_for-calm (Element x shape from es upto) i none f = (f.0, no_read-calm (item_read i) none)

  side_by-calm : (type : Option (TypeTree N)) (i : ItemTree N) → item_read i ≡ None → side_by anything type i tt → side_by (calm foralls) type i tt
  side_by-calm (Some (ArrayType a)) i none f = (f.0, no_read-calm (item_read i) none)
  side_by-calm _ i none f = (f.0, no_read-calm (item_read i) none)

  init-calm : (type : Option (TypeTree N)) (i : InitTree N) → InitIsUnread i → fits_init anything (side_by anything type) i tt → fits_init (calm foralls) (side_by (calm foralls) type) i tt
  init-calm type (ItemInit i mapped) none f = side_by-calm type i none f
  init-calm type (CreateInit c) none f = f

  initial-calm : (type : Option (TypeTree N)) (i : Option (InitialTree N)) → InitialIsUnread i → fits_initial anything (side_by anything type) i tt → fits_initial (calm foralls) (side_by (calm foralls) type) i tt
  initial-calm type None none f = tt
  initial-calm type (Some i) none f = init-calm type i.init none f

  arguments-calm : (xs : List (ArgumentTree N)) → AreUnread xs → fits_arguments anything xs tt → fits_arguments (calm foralls) xs tt
  arguments-calm [] none f = tt
  arguments-calm (TextArgument at cs ∷ rest) none f = arguments-calm rest none f
  arguments-calm (ExprArgument e ∷ rest) none f = ((f.0.0, no_read-calm (cell_read e) none.0), f.1, arguments-calm rest none.1 f.2)

  pub unread-calm : (t : StmtTree N) → IsUnread t → fits (calm foralls) t tt
  unread-calm (Declare d) none = let f = fitting (Declare d) in (f.0, initial-calm (type_of d.typed) d.initial none f.1, f.2, f.3, f.4, f.5)
  unread-calm (Assigned target sign i semicolon) none =
      let f = fitting (Assigned target sign i semicolon) in (f.0, side_for-calm target i none f.1, f.2)
  unread-calm (Write w) none = arguments-calm (arguments_of w.arguments) none (fitting (Write w))
  unread-calm _ none = absurd none

  -- A LOOP, by its word and its body
  pub loop-calm : (word : LoopWord) (at : Place) (xs : VariablesTree N) (within : Place) (i : ItemTree N) (intents : Option (WithTree N)) (body : Body N) → fits_loop (calm foralls) word xs intents tt → fits_body (calm foralls) body tt
      → fits (calm foralls) (Loop word at xs within i intents body) tt
  loop-calm word at xs within i intents body may calm = let f = fitting (Loop word at xs within i intents body) in (f.0, f.1, may, f.3, calm)
