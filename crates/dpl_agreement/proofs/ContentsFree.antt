-- What a name holds goes on to hold no `Locales`, where what is put there is none.
-- One lemma for each way in which what a name holds is asked for or changed.
use Rattle.std.proofs.Common.{Bool, true, false, List, [], ◌∷◌, Some, None, Option}
use Rattle.std.specs.Prelude.{All, if◌then◌else◌, unwrap_or, IfSome}
use Rattle.std.proofs.lemmas.List.Elements.{All-nil, All-cons, All-head, All-tail, All-map}
use Rattle.dpl_history.specs.declared.cell.CellState.{CellState}
use Rattle.dpl_sets.specs.TextRanges.{TextRange}
use Rattle.dpl_language.specs.Tree.{Op, Kind, Assign}
use Rattle.dpl_language.specs.Values.{Value, Index, default}
use Rattle.dpl_language.specs.Ranges.{indices_in, same_index}
use Rattle.dpl_language.specs.Environment.{Content, Plain, ArrayOf, CellOf}
use Rattle.dpl_language.specs.Names.{Text, value_in, update_in, element_at, with_element, element_in, put_in, redomained, is_over, redomain_content, set_cell}
use Rattle.dpl_agreement.proofs.RunsAlike.{All-every}
use Rattle.dpl_agreement.proofs.UntaskedValues.{NotLocales, NoLocalesIn}
use Rattle.dpl_agreement.proofs.UntaskedRuns.{assigned-free, default-free}

-- what is so of both parts is so of the part that a test takes, and of what stands in for a missing one
pub if-holds : {A : Type 0} (Q : A → Type 0) (b : Bool) (x y : A) → Q x → Q y → Q (if b then x else y)
if-holds Q true x y p q = p
if-holds Q false x y p q = q

pub or-holds : {A : Type 0} (Q : A → Type 0) (o : Option A) (x : A) → IfSome o Q → Q x → Q (unwrap_or o x)
or-holds Q None x p q = q
or-holds Q (Some y) x p q = p

-- WHAT A NAME HOLDS
pub value_in-free : (c : Content Text) → NoLocalesIn c → NotLocales (value_in c)
value_in-free (Plain v) h = h
value_in-free (ArrayOf over k rs vs) h = tt
value_in-free (CellOf k c) h = tt

pub update_in-free : (op : Assign) (intent : Option Op) (w : Value) → NotLocales w → (c : Content Text) → NoLocalesIn c → NoLocalesIn (update_in op intent w c)
update_in-free op intent w e (Plain v) h = assigned-free op intent v w e
update_in-free op intent w e (ArrayOf over k rs vs) h = h
update_in-free op intent w e (CellOf k c) h = h

element_at-free : (t : Index) (is : List Index) (vs : List Value) → All NotLocales vs → IfSome (element_at t is vs) NotLocales
element_at-free t [] [] h = tt
element_at-free t [] (v ∷ vs) h = tt
element_at-free t (i ∷ is) [] h = tt
element_at-free t (i ∷ is) (v ∷ vs) h =
    if-holds (λ o. IfSome o NotLocales) (same_index t i) (Some v) (element_at t is vs) (All-head NotLocales v vs h) (element_at-free t is vs (All-tail NotLocales v vs h))

with_element-free : (t : Index) (w : Value) → NotLocales w → (is : List Index) (vs : List Value) → All NotLocales vs → All NotLocales (with_element t w is vs)
with_element-free t w e [] [] h = h
with_element-free t w e [] (v ∷ vs) h = h
with_element-free t w e (i ∷ is) [] h = All-nil NotLocales
with_element-free t w e (i ∷ is) (v ∷ vs) h =
    if-holds (All NotLocales) (same_index t i) (w ∷ vs) (v ∷ with_element t w is vs) (All-cons NotLocales w vs e (All-tail NotLocales v vs h))
    (All-cons NotLocales v (with_element t w is vs) (All-head NotLocales v vs h) (with_element-free t w e is vs (All-tail NotLocales v vs h)))

pub element_in-free : (t : Index) (c : Content Text) → NoLocalesIn c → IfSome (element_in t c) NotLocales
element_in-free t (Plain v) h = tt
element_in-free t (ArrayOf over k rs vs) h = element_at-free t (indices_in rs) vs h
element_in-free t (CellOf k c) h = tt

pub put_in-free : (t : Index) (w : Value) → NotLocales w → (c : Content Text) → NoLocalesIn c → NoLocalesIn (put_in t w c)
put_in-free t w e (Plain v) h = h
put_in-free t w e (ArrayOf over k rs vs) h = with_element-free t w e (indices_in rs) vs h
put_in-free t w e (CellOf k c) h = h

pub set_cell-free : (new : CellState) (c : Content Text) → NoLocalesIn c → NoLocalesIn (set_cell (new ∷ []) c)
set_cell-free new (Plain v) h = h
set_cell-free new (ArrayOf over k rs vs) h = h
set_cell-free new (CellOf k c) h = h

redomained-free : (k : Kind) (old : List TextRange) (vs : List Value) (new : List TextRange) → All NotLocales vs → All NotLocales (redomained k old vs new)
redomained-free k old vs new h =
    All-map NotLocales (λ t. unwrap_or (element_at t (indices_in old) vs) (default k)) (indices_in new)
    (All-every (λ t. NotLocales (unwrap_or (element_at t (indices_in old) vs) (default k)))
    (λ t. or-holds NotLocales (element_at t (indices_in old) vs) (default k) (element_at-free t (indices_in old) vs h) (default-free k)) (indices_in new))

pub redomain_content-free : (x : Text) (new : List TextRange) (c : Content Text) → NoLocalesIn c → NoLocalesIn (redomain_content x new c)
redomain_content-free x new (Plain v) h = h
redomain_content-free x new (ArrayOf over k rs vs) h =
    if-holds NoLocalesIn (is_over x over) (ArrayOf over k new (redomained k rs vs new)) (ArrayOf over k rs vs) (redomained-free k rs vs new h) h
redomain_content-free x new (CellOf k c) h = h
