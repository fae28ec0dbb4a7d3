-- An array is over the domain that was made of what is between its brackets.
-- Its elements begin with what is written, or with 0 or false.
use Rattle.std.proofs.Common.{ap, ◌∙◌}
use Rattle.dpl_tree.specs.Declarations.{declare_view, array_type_view}
use Rattle.dpl_rules.specs.Declarations.{domain_in, over_domain}
use Rattle.dpl_typed.specs.Typed.{types_of}
use Rattle.dpl_declarations.proofs.Arrays.{array-name}
use Rattle.dpl_declarations.proofs.names.array_name.Goals as goal

pub returns-in-Ok-array-clause-node : goal.returns-in-Ok-array-clause-node
returns-in-Ok-array-clause-node c = λ none plain.
    let ss = c.args.scopes.now in
    let d = declare_view c.args.written.now in
    let a = array_type_view c.args.typed.now in
    let depth = ap (λ n. over_domain ss (record { name = d.name.name; depth = n }) a (domain_in (types_of c.in-Ok.over))) c.depth.ensures in
    array-name ss d a _ c.in-Ok.over c.in-Ok-typed_initial.value c.next_slot-slot.result c.args.first.now c.over_items.new.first c.typed_initial.new.first c.unconfigured.new.first
    c.next_slot-slot.ensures c.in-Ok.ensures.told c.in-Ok.ensures.node (c.array_type-value_type.ensures ∙ depth) c.in-Ok-typed_initial.ensures.told c.in-Ok-typed_initial.ensures.node c.unconfigured.ensures
    c.in-Ok-array.ensures none plain
