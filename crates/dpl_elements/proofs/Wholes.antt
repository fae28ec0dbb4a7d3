-- Assignments to whole arrays: by the domain, and by a right side that is evaluated once.
-- Each lemma has the meaning of the assignment on its left side.
use Rattle.std.proofs.Common.{◌≡◌, Option, Some, None, List, Ok, Err, sym, ap, ◌∙◌}
use Rattle.dpl_syntax.specs.declared.place.Place.{Place}
use Rattle.dpl_sets.specs.TextRanges.{TextRange}
use Rattle.dpl_language.specs.Tree.{Placed, Assign, Kind, AssignTree, ExprTree, One}
use Rattle.dpl_language.specs.Values.{Value, Index, Fault}
use Rattle.dpl_language.specs.Phrases.{cell_read}
use Rattle.dpl_language.specs.Outcome.{Deeds, Stop, Run, with_value}
use Rattle.dpl_language.specs.Environment.{Limits}
use Rattle.dpl_language.specs.Expressions.{value_of, whole_in}
use Rattle.dpl_language.specs.Loops.{within_budget, named_turn}
use Rattle.dpl_language.specs.Assignments.{change, assign_array}
use Rattle.dpl_language.specs.Statements.{exec}
use Rattle.dpl_memory.specs.Memory.{Variable, Memory, array_at, in_memory}
use Rattle.dpl_nodes.specs.declared.step.ArrayName.{ArrayName}
use Rattle.dpl_nodes.specs.Steps.{array_leaf, whole_set}
use Rattle.dpl_elements.specs.Changes.{signed}
use Rattle.dpl_elements.proofs.Changing.{evaluated-item}

module _ (limits : Limits) (x : Placed Variable) (sign : AssignTree) where
  -- a right side that is evaluated once, whose value is the one at whatever index
  module _ (e : ExprTree Variable) (rs : List TextRange) (t : Index) (s : Memory) (done : Deeds)
      (unread : cell_read e ≡ None) (once : value_of limits in_memory e (Some t) s ≡ value_of limits in_memory e None s) where
    abbrev each_set : Value → Run Memory
    each_set v = within_budget limits sign.at rs (named_turn (λ t. change limits in_memory x sign t v))

    pub assign_array-value : (v : Value) → value_of limits in_memory e (Some t) s ≡ Ok v
        → assign_array limits in_memory x sign (One e) rs None s done ≡ each_set v s done
    assign_array-value v is =
        evaluated-item limits (One e) each_set s done unread ∙ ap (λ r. with_value r each_set s done) (sym once ∙ is)

    pub assign_array-fault : (f : Fault) → value_of limits in_memory e (Some t) s ≡ Err f → assign_array limits in_memory x sign (One e) rs None s done ≡ Stop f done
    assign_array-fault f is =
        evaluated-item limits (One e) each_set s done unread ∙ ap (λ r. with_value r each_set s done) (sym once ∙ is)

-- THE STATEMENT
pub exec-whole_set : (limits : Limits) (k : Kind) (x : ArrayName) (op : Assign) (at : Place) (e : ExprTree Variable) (s : Memory) (done : Deeds) (rs : List TextRange) (arrays : Option (List TextRange))
    → rs ≡ (array_at x.slot s).ranges → arrays ≡ whole_in limits in_memory e s
    → exec limits in_memory (whole_set (array_leaf k x) op at e) s done ≡ assign_array limits in_memory (array_leaf k x) (signed op at) (One e) rs arrays s done
exec-whole_set limits k x op at e s done rs arrays domain whole =
    ap (λ rs. assign_array limits in_memory (array_leaf k x) (signed op at) (One e) rs (whole_in limits in_memory e s) s done) (sym domain)
    ∙ ap (λ arrays. assign_array limits in_memory (array_leaf k x) (signed op at) (One e) rs arrays s done) (sym whole)
