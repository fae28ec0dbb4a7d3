-- An operation on a cell, on the way: it goes over to what is done with the reply.
-- And an assignment whose right side is a read of a cell is the operation, and then the assignment of the value that was read, as a literal.
use Rattle.std.proofs.Common.{◌≡◌, ℕ, pos, Bool, true, false, ◌&&◌, List, [], ◌∷◌, ◌++◌, length, Option, Some, None, refl, sym, ap, ◌∙◌, append-nil}
use Rattle.dpl_syntax.specs.declared.place.Place.{Place}
use Rattle.dpl_history.specs.declared.cell.CellState.{CellState}
use Rattle.dpl_history.specs.declared.cell.CellOp.{CellOp}
use Rattle.dpl_history.specs.declared.cell.Reply.{Reply}
use Rattle.dpl_history.specs.declared.cell.Reply.TheVariants.{Value as Given, Done as NoValue}
use Rattle.dpl_history.specs.Cells.{effect}
use Rattle.dpl_sets.specs.TextRanges.{TextRange}
use Rattle.dpl_language.specs.Tree.{Placed, Kind, IntKind, BoolKind, ReadWord, AssignTree, ExprTree, Number, TruthWord, Named, Postfixed, Post, NoPosts, Dotted, CellRead, ItemTree, One, Whole, Assigned}
use Rattle.dpl_language.specs.Values.{Value, Int, Truth, array_domain, is_domain, cell_kind, ranges_in, fault, ArrayTooLarge}
use Rattle.dpl_language.specs.Arithmetic.{tested_divisor, assign_divides}
use Rattle.dpl_language.specs.Ranges.{too_large}
use Rattle.dpl_language.specs.Expressions.{whole_item}
use Rattle.dpl_language.specs.Loops.{within_budget, named_turn}
use Rattle.dpl_language.specs.Phrases.{read_op}
use Rattle.dpl_language.specs.Outcome.{Deeds, with_operation, Done, Run, with_value, unless}
use Rattle.dpl_language.specs.Environment.{Limits, Answer, Replied, Unanswered}
use Rattle.dpl_language.specs.Assignments.{reply_value, answered, called, evaluated, change, assign_name, assign_array}
use Rattle.dpl_language.specs.Statements.{exec}
use Rattle.dpl_lowered.specs.Shapes.{nowhere}
use Rattle.dpl_memory.specs.Memory.{VariableKind, PlainKind, CellKind, Variable, Memory, value_in, with_cell, with_replies, called_by, effect_in, cell_at, in_memory}
use Rattle.dpl_coming.specs.Taken.{before, and_then}
use Rattle.dpl_coming.specs.Noting.{Note, noting}
use Rattle.dpl_coming.specs.Walks.{Site, Known, with_rest, Goes}
use Rattle.dpl_coming.specs.Calls.{one_operation, Answers}

-- THE CALL
with_operation-made : (c : ℕ) (op : CellOp) (r : Reply) (done : Deeds) → with_operation c op r done ≡ and_then done (one_operation c op r)
with_operation-made c op r done =
    let made = with_operation c op r done in
    ap (λ t. record made { text = t }) (sym (append-nil done.text))
    ∙ ap (λ es. record made { text = done.text ++ []; entered = es }) (sym (append-nil done.entered))
    ∙ ap (λ ls. record made { text = done.text ++ []; entered = done.entered ++ []; loops = ls }) (sym (append-nil done.loops))

module _ (limits : Limits) (note : Note) where
  pub goes-called : (site : Site) (o1 o2 : Known) (s1 s2 : Memory) (x : Placed Variable) (k : Kind) (op : CellOp) (r : Reply) (go : Value → Run Memory) → x.name.kind ≡ CellKind k → Answers site o1 o2 s1 s2 x.name op r
      → Goes site o1 o2 s1 s2 (called limits (noting note) x op go) (go (reply_value k r))
  goes-called site o1 o2 s1 s2 x k op r go is a = record {
    made = one_operation (length x.name.cells) op r;
    known = a.known;
    on = λ rest done coming.
        ap (λ v. answered limits (noting note) x op (cell_kind (value_in v x.name.slot (with_rest site (before (one_operation (length x.name.cells) op r) rest) s1))) go
        (in_memory.call x.name op (with_rest site (before (one_operation (length x.name.cells) op r) rest) s1)) done) is
        ∙ ap (λ b. answered limits (noting note) x op k go b done) (a.replied rest coming)
        ∙ ap (go (reply_value k r) (with_rest site rest s2)) (with_operation-made (length x.name.cells) op r done);
  }

-- A READ AS A RIGHT SIDE
abbrev pub literal : Value → ExprTree Variable
literal (Int n) = Number nowhere n
literal (Truth b) = TruthWord nowhere b
literal _ = Number nowhere (pos 0)

abbrev pub read_side : Placed Variable → Place → ReadWord → ItemTree Variable
read_side x at w = One (Postfixed (Named x) (Post (Dotted nowhere (CellRead at w nowhere nowhere)) NoPosts))

-- an operation leaves the values of names as they are
kept-value : (v : VariableKind) (slot other : ℕ) (c : CellState) (s : Memory) → value_in v slot s ≡ value_in v slot (with_cell other c s)
kept-value (PlainKind l) slot other c s = refl
kept-value _ slot other c s = refl

told-value : (v : VariableKind) (slot : ℕ) (rs : List Reply) (s : Memory) → value_in v slot s ≡ value_in v slot (with_replies rs s)
told-value (PlainKind l) slot rs s = refl
told-value _ slot rs s = refl

-- of an answer: the names of the memory behind it have the values that they had
abbrev Keeps : Variable → Memory → Answer Memory → Type 0
Keeps y s (Replied c r s2) = in_memory.get y s ≡ in_memory.get y s2
Keeps y s (Unanswered c) = Unit {0}

effect-keeps : (y : Variable) (n slot : ℕ) (s : Memory) (o : Option (CellState × Reply)) → Keeps y s (effect_in n slot s o)
effect-keeps y n slot s None = tt
effect-keeps y n slot s (Some a) = kept-value y.kind y.slot slot a.0 s

called-keeps : (y : Variable) (n slot : ℕ) (op : CellOp) (s : Memory) (o : Option (List Reply)) → Keeps y s (called_by n slot op s o)
called-keeps y n slot op s None = effect-keeps y n slot s (effect op (cell_at slot s))
called-keeps y n slot op s (Some []) = tt
called-keeps y n slot op s (Some (r ∷ rs)) = told-value y.kind y.slot rs s

module _ (limits : Limits) (note : Note) where
  -- a literal is what it says
  evaluated-literal : (k : Kind) (r : Reply) (go : Value → Run Memory) (s : Memory) (done : Deeds) → evaluated limits (noting note) (One (literal (reply_value k r))) go s done ≡ go (reply_value k r) s done
  evaluated-literal IntKind (Given z) go s done = refl
  evaluated-literal BoolKind (Given z) go s done = refl
  evaluated-literal IntKind NoValue go s done = refl
  evaluated-literal BoolKind NoValue go s done = refl

  whole-literal : (k : Kind) (r : Reply) (s : Memory) → whole_item limits (noting note) (One (literal (reply_value k r))) s ≡ None
  whole-literal IntKind (Given z) s = refl
  whole-literal BoolKind (Given z) s = refl
  whole-literal IntKind NoValue s = refl
  whole-literal BoolKind NoValue s = refl

  module _ (x : Placed Variable) (at : Place) (w : ReadWord) (y : Placed Variable) (sign : AssignTree) (k : Kind) where
    -- what is done with the value that was read, by what the target is
    abbrev target_run : Option (List TextRange) → Bool → Value → Run Memory
    target_run (Some rs) b v s done = within_budget limits sign.at rs (named_turn (λ t. change limits (noting note) y sign t v)) s done
    target_run None true v s done = unless (too_large (ranges_in v) && in_memory.has_arrays y.name s) (fault ArrayTooLarge y.at) (λ s done. Done (in_memory.redomain y.name (ranges_in v) s) done) s done
    target_run None false v s done = with_value (tested_divisor (assign_divides sign.op) sign.at v) (λ v s done. Done (in_memory.update y.name sign.op v s) done) s done

    -- it is what the assignment of the literal does there
    behind_call : (o : Option (List TextRange)) (b : Bool) (r : Reply) (s2 : Memory) (done : Deeds) → array_domain (in_memory.get y.name s2) ≡ o → is_domain (in_memory.get y.name s2) ≡ b
        → target_run o b (reply_value k r) s2 done ≡ exec limits (noting note) (Assigned (Whole y) sign (One (literal (reply_value k r))) nowhere) s2 done
    behind_call (Some rs) b r s2 done e f =
        sym (ap (λ o. assign_name limits (noting note) y sign (One (literal (reply_value k r))) o (is_domain (in_memory.get y.name s2)) s2 done) e
        ∙ ap (λ o. assign_array limits (noting note) y sign (One (literal (reply_value k r))) rs o s2 done) (whole-literal k r s2)
        ∙ evaluated-literal k r (target_run (Some rs) b) s2 done)
    behind_call None true r s2 done e f =
        sym (ap (λ o. assign_name limits (noting note) y sign (One (literal (reply_value k r))) o (is_domain (in_memory.get y.name s2)) s2 done) e
        ∙ ap (λ b. assign_name limits (noting note) y sign (One (literal (reply_value k r))) None b s2 done) f
        ∙ evaluated-literal k r (target_run None true) s2 done)
    behind_call None false r s2 done e f =
        sym (ap (λ o. assign_name limits (noting note) y sign (One (literal (reply_value k r))) o (is_domain (in_memory.get y.name s2)) s2 done) e
        ∙ ap (λ b. assign_name limits (noting note) y sign (One (literal (reply_value k r))) None b s2 done) f
        ∙ evaluated-literal k r (target_run None false) s2 done)

    -- by what the target is: the call, and then the assignment of the literal
    by_target : (o : Option (List TextRange)) (b : Bool) (a : Answer Memory) (s : Memory) (done : Deeds) → Keeps y.name s a → array_domain (in_memory.get y.name s) ≡ o → is_domain (in_memory.get y.name s) ≡ b
        → answered limits (noting note) x (read_op w) k (λ v. target_run o b v) a done
        ≡ answered limits (noting note) x (read_op w) k (λ v. exec limits (noting note) (Assigned (Whole y) sign (One (literal v)) nowhere)) a done
    by_target o b (Unanswered c) s done keeps e f = refl
    by_target o b (Replied c r s2) s done keeps e f =
        behind_call o b r s2 (with_operation c (read_op w) r done) (sym (ap array_domain keeps) ∙ e) (sym (ap is_domain keeps) ∙ f)

    reads-as : (o : Option (List TextRange)) (b : Bool) (s : Memory) (done : Deeds) → x.name.kind ≡ CellKind k → array_domain (in_memory.get y.name s) ≡ o → is_domain (in_memory.get y.name s) ≡ b
        → assign_name limits (noting note) y sign (read_side x at w) o b s done ≡ answered limits (noting note) x (read_op w) k (λ v. target_run o b v) (in_memory.call x.name (read_op w) s) done
    reads-as (Some rs) b s done is e f = ap (λ v. answered limits (noting note) x (read_op w) (cell_kind (value_in v x.name.slot s)) (target_run (Some rs) b) (in_memory.call x.name (read_op w) s) done) is
    reads-as None true s done is e f = ap (λ v. answered limits (noting note) x (read_op w) (cell_kind (value_in v x.name.slot s)) (target_run None true) (in_memory.call x.name (read_op w) s) done) is
    reads-as None false s done is e f = ap (λ v. answered limits (noting note) x (read_op w) (cell_kind (value_in v x.name.slot s)) (target_run None false) (in_memory.call x.name (read_op w) s) done) is

    -- AN ASSIGNMENT whose right side is a read of a cell: the call, and then the assignment of what was read, as a literal
    pub assigned-read : (s : Memory) (done : Deeds) → x.name.kind ≡ CellKind k
        → exec limits (noting note) (Assigned (Whole y) sign (read_side x at w) nowhere) s done ≡ called limits (noting note) x (read_op w) (λ v. exec limits (noting note) (Assigned (Whole y) sign (One (literal v)) nowhere)) s done
    assigned-read s done is =
        reads-as (array_domain (in_memory.get y.name s)) (is_domain (in_memory.get y.name s)) s done is refl refl
        ∙ by_target (array_domain (in_memory.get y.name s)) (is_domain (in_memory.get y.name s)) (in_memory.call x.name (read_op w) s) s done
        (called-keeps y.name (length x.name.cells) x.name.slot (read_op w) s s.coming.replies) refl refl
        ∙ ap (λ v. answered limits (noting note) x (read_op w) (cell_kind (value_in v x.name.slot s)) (λ v. exec limits (noting note) (Assigned (Whole y) sign (One (literal v)) nowhere)) (in_memory.call x.name (read_op w) s) done) (sym is)
