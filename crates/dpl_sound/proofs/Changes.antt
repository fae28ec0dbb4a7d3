-- What changes what a name holds and keeps its type keeps a store as the scopes declare it: assignments of values of
-- the declared type, stores of elements of the array's kind, and operations on cells.
use Rattle.std.proofs.Common.{◌≡◌, Bool, true, false, List, [], ◌∷◌, Option, Some, None, refl, sym, ap, ◌∙◌, subst}
use Rattle.std.specs.Prelude.{bytes_eq, if◌then◌else◌, drop, length}
use Rattle.std.specs.Option.{option_or}
use Rattle.dpl_history.specs.declared.cell.CellState.{CellState}
use Rattle.dpl_sets.specs.TextRanges.{TextRange}
use Rattle.dpl_language.specs.Tree.{Kind, IntKind, BoolKind, Op, Assign, Set, SetAdd, SetSubtract, SetMultiply, SetDivide, SetRemainder, SetReduce}
use Rattle.dpl_language.specs.Values.{Value, Array, Index}
use Rattle.dpl_language.specs.Arithmetic.{assigned}
use Rattle.dpl_language.specs.Ranges.{same_index, indices_in}
use Rattle.dpl_language.specs.Environment.{Content, Plain, ArrayOf, CellOf}
use Rattle.dpl_language.specs.Names.{Text, Entry, Opened, Declared as Kept, Store, State, paired}
use Rattle.dpl_language.specs.Names.{change_in, update_in, with_element, put_in, store_cells, set_cell, with_cells, by_name}
use Rattle.dpl_rules.specs.Types.{Over, ValueType, Scalar, Range as RangeType, Domain as DomainType, Array as ArrayType}
use Rattle.dpl_rules.specs.Types.{Promoted, Tuple as TupleType, Locale as LocaleType, AllLocales as AllLocalesType, Cell as CellType, op_kind}
use Rattle.dpl_rules.specs.Sights.{Declared, Scope, Scopes, find, lookup}
use Rattle.dpl_sound.specs.Typed.{OfKind, HasType}
use Rattle.dpl_sound.specs.Runs.{Keeps}
use Rattle.dpl_sound.specs.Stores.{AllOfKind, ContentFits, StoreFits}
use Rattle.dpl_sound.proofs.Operators.{combined-kind}
use Rattle.dpl_sound.proofs.Stores.{array_kind}

-- ---- the store
-- a change keeps what the name's declaration says
abbrev pub KeepsType : Option Declared → (Content Text → Content Text) → Type 0
KeepsType o change = (d : Declared) (c : Content Text) → o ≡ Some d → ContentFits d.type c → ContentFits d.type (change c)

-- by whether the latest entry has the name
changed_if : (b : Bool) (d : Declared) (ds : Scope) (ss : Scopes) (e : Entry) (es : Store) (x : Text) (change : Content Text → Content Text) → StoreFits ((d ∷ ds) ∷ ss) (Kept e ∷ es)
    → KeepsType (option_or (if b then Some d else find ds x) (lookup ss x)) change → (KeepsType (lookup (ds ∷ ss) x) change → StoreFits (ds ∷ ss) (change_in x change es))
    → StoreFits ((d ∷ ds) ∷ ss) (if b then Kept (record e { content = change e.content }) ∷ es else Kept e ∷ change_in x change es)
changed_if true d ds ss e es x change h keeps others = (h.0, keeps d e.content refl h.1, h.2)
changed_if false d ds ss e es x change h keeps others = (h.0, h.1, others keeps)

pub change_in-fits : (ss : Scopes) (es : Store) (x : Text) (change : Content Text → Content Text) → StoreFits ss es → KeepsType (lookup ss x) change
    → StoreFits ss (change_in x change es)
change_in-fits ss [] x change h keeps = h
change_in-fits [] (e ∷ es) x change h keeps = elim h [ ]
change_in-fits ([] ∷ ss) (Opened ∷ es) x change h keeps = change_in-fits ss es x change h keeps
change_in-fits ([] ∷ ss) (Kept e ∷ es) x change h keeps = elim h [ ]
change_in-fits ((d ∷ ds) ∷ ss) (Opened ∷ es) x change h keeps = elim h [ ]
change_in-fits ((d ∷ ds) ∷ ss) (Kept e ∷ es) x change h keeps =
    changed_if (bytes_eq x e.name) d ds ss e es x change h
    (subst (λ n. KeepsType (option_or (if bytes_eq x n then Some d else find ds x) (lookup ss x)) change) h.0 keeps)
    (λ keeps. change_in-fits (ds ∷ ss) es x change h.2 keeps)

-- ---- the environment by names
-- an assignment, of what gives a value of the declared type
pub update-fits : (scopes : Scopes) (s : State) (x : Text) (op : Assign) (v : Value) → Keeps scopes s
    → ((d : Declared) (t : ValueType) (old : Value) → lookup scopes x ≡ Some d → d.type ≡ Some t → HasType old t → HasType (assigned op (paired x s.intents) old v) t)
    → Keeps scopes (by_name.update x op v s)
update-fits scopes s x op v h typed = change_in-fits scopes s.store x (update_in op (paired x s.intents) v) h (λ d c e fits. keeps d c d.type e refl fits)
  where
    keeps : (d : Declared) (c : Content Text) (o : Option ValueType) → lookup scopes x ≡ Some d → d.type ≡ o → ContentFits o c
        → ContentFits o (update_in op (paired x s.intents) v c)
    keeps d c None e p fits = tt
    keeps d (Plain w) (Some t) e p fits = (typed d t w e p fits.0, tt)
    keeps d (ArrayOf over k rs vs) (Some t) e p fits = fits
    keeps d (CellOf k c) (Some t) e p fits = fits

-- what an assignment's operator gives of a value of a kind is of that kind: `=` gives the value, `+=` and its like give
-- ints, and `reduce=` what the operator of the intent gives
abbrev pub AssignsKind : Assign → Option Op → Kind → Type 0
AssignsKind Set intent k = Unit {0}
AssignsKind SetReduce None k = Unit {0}
AssignsKind SetReduce (Some op) k = op_kind op ≡ k
AssignsKind _ intent k = IntKind ≡ k

pub assigned-kind : (op : Assign) (intent : Option Op) (k : Kind) (old v : Value) → AssignsKind op intent k → OfKind k v → OfKind k (assigned op intent old v)
assigned-kind Set intent k old v gives h = h
assigned-kind SetAdd intent k old v gives h = subst (λ k. OfKind k (assigned SetAdd intent old v)) gives (_, refl)
assigned-kind SetSubtract intent k old v gives h = subst (λ k. OfKind k (assigned SetSubtract intent old v)) gives (_, refl)
assigned-kind SetMultiply intent k old v gives h = subst (λ k. OfKind k (assigned SetMultiply intent old v)) gives (_, refl)
assigned-kind SetDivide intent k old v gives h = subst (λ k. OfKind k (assigned SetDivide intent old v)) gives (_, refl)
assigned-kind SetRemainder intent k old v gives h = subst (λ k. OfKind k (assigned SetRemainder intent old v)) gives (_, refl)
assigned-kind SetReduce None k old v gives h = h
assigned-kind SetReduce (Some op) k old v gives h = subst (λ k. OfKind k (assigned SetReduce (Some op) old v)) gives (combined-kind op old v)

-- a store of an element
with_element-if : (k : Kind) (w v : Value) (vs ws : List Value) (b : Bool) → OfKind k w → OfKind k v → AllOfKind k vs → AllOfKind k ws
    → AllOfKind k (if b then w ∷ vs else v ∷ ws)
with_element-if k w v vs ws true hw hv h new = (hw, h)
with_element-if k w v vs ws false hw hv h new = (hv, new)

with_element-kind : (k : Kind) (t : Index) (w : Value) (is : List Index) (vs : List Value) → OfKind k w → AllOfKind k vs → AllOfKind k (with_element t w is vs)
with_element-kind k t w [] vs hw h = h
with_element-kind k t w (i ∷ is) [] hw h = tt
with_element-kind k t w (i ∷ is) (v ∷ vs) hw h =
    with_element-if k w v vs (with_element t w is vs) (same_index t i) hw h.0 h.1 (with_element-kind k t w is vs hw h.1)

array-type : (k : Kind) (rs : List TextRange) (t : ValueType) → HasType (Array k rs) t → (over : Over) × (t ≡ ArrayType k over)
array-type k rs (Scalar IntKind) h = absurd cc
array-type k rs (Scalar BoolKind) h = absurd cc
array-type k rs (RangeType strided) h = absurd cc
array-type k rs (DomainType rank strided) h = absurd cc
array-type k rs (ArrayType l over) h = (over, sym (ap (λ j. ArrayType j over) (array_kind k l rs h.0 h.1)))
array-type k rs (Promoted l over) h = elim h [ ]
array-type k rs (TupleType rank) h = absurd cc
array-type k rs LocaleType h = absurd cc
array-type k rs AllLocalesType h = absurd cc
array-type k rs (CellType l) h = absurd cc

-- an element of the array's kind stored
pub put_element-fits : (scopes : Scopes) (s : State) (x : Text) (i : Index) (w : Value) → Keeps scopes s
    → ((d : Declared) (k : Kind) (over : Over) → lookup scopes x ≡ Some d → d.type ≡ Some (ArrayType k over) → OfKind k w)
    → Keeps scopes (by_name.put_element x i w s)
put_element-fits scopes s x i w h typed = change_in-fits scopes s.store x (put_in i w) h (λ d c e fits. keeps d c d.type e refl fits)
  where
    keeps : (d : Declared) (c : Content Text) (o : Option ValueType) → lookup scopes x ≡ Some d → d.type ≡ o → ContentFits o c → ContentFits o (put_in i w c)
    keeps d c None e p fits = tt
    keeps d (Plain v) (Some t) e p fits = fits
    keeps d (ArrayOf over k rs vs) (Some t) e p fits =
        let type = array-type k rs t fits.0 in
        (fits.0, with_element-kind k i w (indices_in rs) vs (typed d k type.0 e (p ∙ ap Some type.1)) fits.1)
    keeps d (CellOf k c) (Some t) e p fits = fits

-- ---- cells: only their states change
set_cell-fits : (cs : List CellState) (c : Content Text) (o : Option ValueType) → ContentFits o c → ContentFits o (set_cell cs c)
set_cell-fits cs c None h = tt
set_cell-fits cs (Plain v) (Some t) h = h
set_cell-fits cs (ArrayOf over k rs vs) (Some t) h = h
set_cell-fits [] (CellOf k c) (Some t) h = h
set_cell-fits (new ∷ cs) (CellOf k c) (Some t) h = h

-- an operation on a cell that takes effect
pub set_cell-keeps : (scopes : Scopes) (s : State) (x : Text) (cs : List CellState) → Keeps scopes s → StoreFits scopes (change_in x (set_cell cs) s.store)
set_cell-keeps scopes s x cs h = change_in-fits scopes s.store x (set_cell cs) h (λ d c e fits. set_cell-fits cs c d.type fits)

-- the states that the tasks of a coforall leave
pub with_cells-fits : (ss : Scopes) (es : Store) (cs : List CellState) → StoreFits ss es → StoreFits ss (with_cells cs es)
with_cells-fits ss [] cs h = h
with_cells-fits [] (e ∷ es) cs h = elim h [ ]
with_cells-fits ([] ∷ ss) (Opened ∷ es) cs h = with_cells-fits ss es cs h
with_cells-fits ([] ∷ ss) (Kept e ∷ es) cs h = elim h [ ]
with_cells-fits ((d ∷ ds) ∷ ss) (Opened ∷ es) cs h = elim h [ ]
with_cells-fits ((d ∷ ds) ∷ ss) (Kept e ∷ es) cs h =
    (h.0, set_cell-fits (drop (length (store_cells es)) cs) e.content d.type h.1, with_cells-fits (ds ∷ ss) es cs h.2)
