-- The domain is that of the first whole array.
use Rattle.std.proofs.Common.{Some, sym, ap, ◌∙◌}
use Rattle.std.specs.Option.{option_map}
use Rattle.dpl_memory.specs.Memory.{array_at}
use Rattle.dpl_values.proofs.First.{ints_whole}
use Rattle.dpl_values.proofs.promoted.int_domain.Goals as goal

pub returns-in-Some : goal.returns-in-Some
returns-in-Some g c =
    let w = c.args.frame.now.memory in
    sym (ints_whole c.args.frame.now.limits w c.args.e.now ∙ ap (option_map (λ slot. (array_at slot w).ranges)) (sym c.int_array.ensures ∙ c.in-Some.is) ∙ ap (λ rs. Some rs) (sym c.array_domain.ensures))

pub returns-in-None : goal.returns-in-None
returns-in-None g c =
    let w = c.args.frame.now.memory in
    sym (ints_whole c.args.frame.now.limits w c.args.e.now ∙ ap (option_map (λ slot. (array_at slot w).ranges)) (sym c.int_array.ensures ∙ c.in-None.is))
