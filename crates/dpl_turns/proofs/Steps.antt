-- Typed statements in a turn: what is to be tested of each, so that it fits and is silent.
use Rattle.std.proofs.Common.{◌≡◌, ℕ, true, false, Some, None, refl, sym, subst}
use Rattle.dpl_syntax.specs.declared.place.Place.{Place}
use Rattle.dpl_language.specs.Tree.{Assign, Kind, IntKind, BoolKind, ExprTree, ItemTree, One, StmtTree, Block, If, Headed, Stmts, Then, Else, ElseDo}
use Rattle.dpl_language.specs.Values.{Index}
use Rattle.dpl_language.specs.Phrases.{cell_read, item_read}
use Rattle.dpl_lowered.specs.Shapes.{nowhere}
use Rattle.dpl_words.specs.Words.{LeafKind, IntLeaf, TruthLeaf, RangeLeaf}
use Rattle.dpl_memory.specs.Memory.{PlainKind, Variable, variable, int_leaf, truth_leaf, range_leaf, is_among}
use Rattle.dpl_agreement.specs.Scopes.{PlainForm, items_in, fits_expr, fits_item, fits_exprs, fits_read, fits, fits_all, fits_else}
use Rattle.dpl_nodes.specs.declared.tree.IntExpr.{IntExpr}
use Rattle.dpl_nodes.specs.declared.tree.BoolExpr.{BoolExpr}
use Rattle.dpl_nodes.specs.declared.tree.RangeExpr.{RangeExpr, Local as RangeLocal, Between', Slice', Dimension'}
use Rattle.dpl_nodes.specs.declared.tree.IndexExpr.{IndexExpr}
use Rattle.dpl_nodes.specs.declared.step.ArrayName.{ArrayName}
use Rattle.dpl_nodes.specs.declared.step.StepWord.{StepWord}
use Rattle.dpl_nodes.specs.declared.step.StepWord.TheVariants as word
use Rattle.dpl_nodes.specs.Typed.{bracketed, int_view, truth_view, range_item, range_view, index_exprs}
use Rattle.dpl_nodes.specs.Steps.{declared_as, assigned_to, element_set, array_leaf, step_word, listed}
use Rattle.dpl_nodes.proofs.Unread.{cell_read-int, cell_read-truth, item_read-range}
use Rattle.dpl_nodes.proofs.Chains.{range_cuts-hold}
use Rattle.dpl_apart.specs.Memories.{Changes}
use Rattle.dpl_turns.specs.Bodies.{OwnNames, IsOwn, is_reduced, may_assign, may_declare, turn_scoping, IsSilent, AreSilent, IsSilentElse}
use Rattle.dpl_turns.proofs.Typed.{int_view-fits, truth_view-fits}

module _ (h : Changes) (own : OwnNames) (t : Index) where
  -- a statement that may stand in the turn of an index
  abbrev pub StandsInTurn : StmtTree Variable → Type 0
  StandsInTurn s = fits (turn_scoping h own t) s tt × IsSilent s

  unread : (item : ItemTree Variable) → item_read item ≡ None → fits_read (turn_scoping h own t) (item_read item) tt
  unread item e = subst (λ o. fits_read (turn_scoping h own t) o tt) (sym e) tt

  range_item-fits : (i : Index) (r : RangeExpr) → fits_item (turn_scoping h own t) None (range_item r) tt → fits_item (turn_scoping h own t) (Some i) (range_item r) tt
  range_item-fits i (RangeLocal slot) fit = (fit, tt)
  range_item-fits i (Between' p low at dots q high stride) fit = fit
  range_item-fits i (Slice' p r q cut w shape row) fit =
      range_cuts-hold (λ e. fits_expr (turn_scoping h own t) None e tt → fits_expr (turn_scoping h own t) (Some i) e tt) (λ e c so_far h. h) row (bracketed (range_view r) (range_item cut)) (λ h. h) fit
  range_item-fits i (Dimension' p d n) fit = fit

  -- ---- assignments to variables
  assigned-turns : (k : LeafKind) (slot : ℕ) (op : Assign) (at : Place) (item : ItemTree Variable) → may_assign h own (PlainKind k) slot op ≡ true
      → ((i : Index) → fits_item (turn_scoping h own t) (Some i) item tt) → item_read item ≡ None → StandsInTurn (assigned_to (variable (PlainKind k) slot) op at item)
  assigned-turns k slot op at item may fit e = (((may, λ i. (tt, tt)), (fit, unread item e), tt), e)

  pub int-assigned : (slot : ℕ) (op : Assign) (at : Place) (e : IntExpr) → may_assign h own (PlainKind IntLeaf) slot op ≡ true → fits_expr (turn_scoping h own t) None (int_view e) tt
      → StandsInTurn (assigned_to (int_leaf slot) op at (One (int_view e)))
  int-assigned slot op at e may fit = assigned-turns IntLeaf slot op at (One (int_view e)) may (λ i. int_view-fits h own t i e fit) (cell_read-int e)

  pub truth-assigned : (slot : ℕ) (op : Assign) (at : Place) (e : BoolExpr) → may_assign h own (PlainKind TruthLeaf) slot op ≡ true → fits_expr (turn_scoping h own t) None (truth_view e) tt
      → StandsInTurn (assigned_to (truth_leaf slot) op at (One (truth_view e)))
  truth-assigned slot op at e may fit = assigned-turns TruthLeaf slot op at (One (truth_view e)) may (λ i. truth_view-fits h own t i e fit) (cell_read-truth e)

  pub range-assigned : (slot : ℕ) (op : Assign) (at : Place) (r : RangeExpr) → may_assign h own (PlainKind RangeLeaf) slot op ≡ true → fits_item (turn_scoping h own t) None (range_item r) tt
      → StandsInTurn (assigned_to (range_leaf slot) op at (range_item r))
  range-assigned slot op at r may fit = assigned-turns RangeLeaf slot op at (range_item r) may (λ i. range_item-fits i r fit) (item_read-range r)

  -- ---- declarations of variables
  declared-turns : (k : LeafKind) (slot : ℕ) (item : ItemTree Variable) → may_declare h own (variable (PlainKind k) slot) PlainForm ≡ true → is_reduced h own (PlainKind k) slot ≡ false
      → fits_item (turn_scoping h own t) None item tt → item_read item ≡ None → StandsInTurn (declared_as None (variable (PlainKind k) slot) item)
  declared-turns k slot item may apart fit e = ((tt, (fit, unread item e), (may, apart), tt, tt, (tt, tt)), (refl, refl, tt, e))

  pub int-declared : (slot : ℕ) (e : IntExpr) → may_declare h own (int_leaf slot) PlainForm ≡ true → is_reduced h own (PlainKind IntLeaf) slot ≡ false → fits_expr (turn_scoping h own t) None (int_view e) tt
      → StandsInTurn (declared_as None (int_leaf slot) (One (int_view e)))
  int-declared slot e may apart fit = declared-turns IntLeaf slot (One (int_view e)) may apart fit (cell_read-int e)

  pub truth-declared : (slot : ℕ) (e : BoolExpr) → may_declare h own (truth_leaf slot) PlainForm ≡ true → is_reduced h own (PlainKind TruthLeaf) slot ≡ false → fits_expr (turn_scoping h own t) None (truth_view e) tt
      → StandsInTurn (declared_as None (truth_leaf slot) (One (truth_view e)))
  truth-declared slot e may apart fit = declared-turns TruthLeaf slot (One (truth_view e)) may apart fit (cell_read-truth e)

  -- ---- elements of written arrays, at the own index
  element-turns : (k : Kind) (x : ArrayName) (index : IndexExpr) (op : Assign) (at : Place) (e : ExprTree Variable) → is_among x.slot h.written ≡ true → IsOwn own (items_in (index_exprs index))
      → fits_exprs (turn_scoping h own t) (index_exprs index) tt → fits_expr (turn_scoping h own t) None e tt → cell_read e ≡ None → StandsInTurn (element_set (array_leaf k x) index op at e)
  element-turns k x index op at e written is fit side once = (((fit, (λ among. is), (written, is), refl), (side, unread (One e) once), tt), once)

  pub int-element : (x : ArrayName) (index : IndexExpr) (op : Assign) (at : Place) (e : IntExpr) → is_among x.slot h.written ≡ true → IsOwn own (items_in (index_exprs index))
      → fits_exprs (turn_scoping h own t) (index_exprs index) tt → fits_expr (turn_scoping h own t) None (int_view e) tt → StandsInTurn (element_set (array_leaf IntKind x) index op at (int_view e))
  int-element x index op at e written is fit side = element-turns IntKind x index op at (int_view e) written is fit side (cell_read-int e)

  pub truth-element : (x : ArrayName) (index : IndexExpr) (op : Assign) (at : Place) (e : BoolExpr) → is_among x.slot h.written ≡ true → IsOwn own (items_in (index_exprs index))
      → fits_exprs (turn_scoping h own t) (index_exprs index) tt → fits_expr (turn_scoping h own t) None (truth_view e) tt → StandsInTurn (element_set (array_leaf BoolKind x) index op at (truth_view e))
  truth-element x index op at e written is fit side = element-turns BoolKind x index op at (truth_view e) written is fit side (cell_read-truth e)

  -- ---- statements with bodies
  abbrev pub AllStand : Stmts Variable → Type 0
  AllStand ts = fits_all (turn_scoping h own t) ts tt × AreSilent ts

  abbrev pub ElseStands : Else Variable → Type 0
  ElseStands o = fits_else (turn_scoping h own t) o tt × IsSilentElse o

  pub all-stand : (s : StmtTree Variable) (rest : Stmts Variable) → StandsInTurn s → AllStand rest → AllStand (Then s rest)
  all-stand s rest one more = ((one.0, more.0), (one.1, more.1))

  pub block-stands : (ts : Stmts Variable) → AllStand ts → StandsInTurn (Block nowhere ts nowhere)
  block-stands ts all = (all.0, all.1)

  pub else-stands : (s : StmtTree Variable) → StandsInTurn s → ElseStands (ElseDo nowhere s)
  else-stands s one = (one.0, one.1)

  pub if-stands : (e : ExprTree Variable) (ts : Stmts Variable) (o : Else Variable) → fits_expr (turn_scoping h own t) None e tt → AllStand ts → ElseStands o → StandsInTurn (If nowhere e (listed ts) o)
  if-stands e ts o fit all otherwise = ((fit, all.0, otherwise.0), (all.1, otherwise.1))

  pub headed-stands : (word : StepWord) (at : Place) (e : ExprTree Variable) (ts : Stmts Variable) → fits_expr (turn_scoping h own t) None e tt → AllStand ts → StandsInTurn (Headed (step_word word) at e (listed ts))
  headed-stands word.While at e ts fit all = ((fit, all.0, tt), (all.1, tt))
