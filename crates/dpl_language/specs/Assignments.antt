-- What assignments mean, and operations on cells.
-- The right side goes first, then the target's indices, then the old value, then the operation, then the store.
use Rattle.std.specs.Prelude.{Bool, true, false, ◌&&◌, Option, Some, None, List}
use Rattle.dpl_history.specs.declared.cell.CellOp.{CellOp}
use Rattle.dpl_history.specs.declared.cell.CellOp.TheVariants.{Reset}
use Rattle.dpl_history.specs.declared.cell.Reply.{Reply}
use Rattle.dpl_history.specs.declared.cell.Reply.TheVariants.{Value as Given, Done as NoValue}
use Rattle.dpl_language.specs.Tree.{Placed, Kind, AssignTree, ItemTree, Exprs, TargetTree, Whole, Element, CallTree, ReadCall, ResetCall, WriteCall}
use Rattle.dpl_sets.specs.TextRanges.{TextRange}
use Rattle.dpl_language.specs.Values.{Value, Index, ranges_in, index_of, array_domain, is_domain, cell_kind, kept_number, value_kept, fault, ArrayTooLarge, default}
use Rattle.dpl_language.specs.Arithmetic.{assigned, assign_divides, tested_divisor}
use Rattle.dpl_language.specs.Ranges.{too_large}
use Rattle.dpl_language.specs.Outcome.{Deeds, with_operation, Outcome, Done, Waits, Run, with_value, unless}
use Rattle.dpl_language.specs.Environment.{Environment, Answer, Replied, Unanswered, Limits}
use Rattle.dpl_language.specs.Phrases.{ReadTree, item_read, read_op, write_op}
use Rattle.dpl_language.specs.Expressions.{found, value_of, item_of, values_of, whole_item}
use Rattle.dpl_language.specs.Loops.{within_budget, named_turn}

-- the value that a reply hands over; an operation that replies none hands over its kind's default, which no one takes
abbrev pub reply_value : Kind → Reply → Value
reply_value k (Given z) = value_kept k z
reply_value k NoValue = default k

-- nothing more is done with a value
abbrev pub and_no_more : {S : Type 0} → Value → Run S
and_no_more v s done = Done s done

module _ {N S : Type 0} (limits : Limits) (env : Environment N S) where
  -- goes on with the reply to an operation; without one the run waits, at the cell's name
  abbrev pub answered : Placed N → CellOp → Kind → (Value → Run S) → Answer S → Deeds → Outcome S
  answered x op k go (Replied c r s) done = go (reply_value k r) s (with_operation c op r done)
  answered x op k go (Unanswered c) done = Waits x.at c op done

  -- an operation on a cell, and what is done with its reply
  abbrev pub called : Placed N → CellOp → (Value → Run S) → Run S
  called x op go s done = answered x op (cell_kind (env.get x.name s)) go (env.call x.name op s) done

  -- an expression, and what is done with its value
  abbrev pub read_or : Option (ReadTree N) → ItemTree N → (Value → Run S) → Run S
  read_or None item go s done = with_value (item_of limits env item None s) go s done
  read_or (Some r) item go s done = called r.name r.op go s done

  -- a right side, and what is done with its value: a cell read as a whole, or an expression
  abbrev pub evaluated : ItemTree N → (Value → Run S) → Run S
  evaluated item = read_or (item_read item) item

  -- an element is changed: the index is tested, which can be F1, then the divisor, which can be F2
  abbrev pub change : Placed N → AssignTree → Index → Value → Run S
  change x sign t w s done =
      with_value (found x.at (env.element x.name t s))
      (λ old. with_value (tested_divisor (assign_divides sign.op) sign.at w)
      (λ w s done. Done (env.put_element x.name t (assigned sign.op None old w) s) done)) s done

  -- An assignment to a whole array. A right side without a whole array is evaluated once, outside any turn; then the
  -- budget is tested, and each element is changed, in domain order. A promoted right side is evaluated in each turn
  -- at the turn's index, behind the budget.
  abbrev pub assign_array : Placed N → AssignTree → ItemTree N → List TextRange → Option (List TextRange) → Run S
  assign_array x sign item rs None s done =
      evaluated item (λ w. within_budget limits sign.at rs (named_turn (λ t. change x sign t w))) s done
  assign_array x sign item rs (Some arrays) s done =
      within_budget limits sign.at rs
      (named_turn (λ t s done. with_value (item_of limits env item (Some t) s) (change x sign t) s done)) s done

  -- An assignment to a domain: where arrays in scope are declared over the bare name and get too large, it is F8 at
  -- the name; else they keep the elements whose indices are in both domains.
  abbrev pub assign_domain : Placed N → ItemTree N → Run S
  assign_domain x item = evaluated item (λ v s done.
      unless (too_large (ranges_in v) && env.has_arrays x.name s) (fault ArrayTooLarge x.at)
      (λ s done. Done (env.redomain x.name (ranges_in v) s) done) s done)

  -- an assignment to a plain variable; a division by zero is F2 at the operator
  abbrev pub assign_plain : Placed N → AssignTree → ItemTree N → Run S
  assign_plain x sign item = evaluated item (λ v.
      with_value (tested_divisor (assign_divides sign.op) sign.at v)
      (λ w s done. Done (env.update x.name sign.op w s) done))

  -- an assignment to a name, by what the name is: a whole array, a domain, or a plain variable
  abbrev pub assign_name : Placed N → AssignTree → ItemTree N → Option (List TextRange) → Bool → Run S
  assign_name x sign item (Some rs) domain s done = assign_array x sign item rs (whole_item limits env item s) s done
  assign_name x sign item None true s done = assign_domain x item s done
  assign_name x sign item None false s done = assign_plain x sign item s done

  -- an assignment to an element: the right side, then the indices from left to right, then the change
  abbrev pub assign_element : Placed N → AssignTree → ItemTree N → Exprs N → Run S
  assign_element x sign item es = evaluated item (λ w s done.
      with_value (values_of limits env es s) (λ is. change x sign (index_of is) w) s done)

  abbrev pub assign : TargetTree N → AssignTree → ItemTree N → Run S
  assign (Whole x) sign item s done =
      assign_name x sign item (array_domain (env.get x.name s)) (is_domain (env.get x.name s)) s done
  assign (Element x shape from es upto) sign item s done = assign_element x sign item es s done

  -- a cell's call as a statement: its argument, if it has one, and then the operation
  abbrev pub cell_call : Placed N → CallTree N → Run S
  cell_call x (ReadCall at w from upto) s done = called x (read_op w) and_no_more s done
  cell_call x (ResetCall at from upto) s done = called x Reset and_no_more s done
  cell_call x (WriteCall at w from e upto) s done =
      with_value (value_of limits env e None s) (λ v. called x (write_op w (kept_number v)) and_no_more) s done
