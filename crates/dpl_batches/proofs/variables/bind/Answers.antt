-- The first of several variables is set, and then the others are.
use Rattle.std.proofs.Common.{rules, sym, ap, ◌∙◌, w64, FitsSigned}
use Rattle.std.proofs.lemmas.Int.{to_z-of_z}
use Rattle.dpl_language.specs.Values.{Int}
use Rattle.dpl_words.specs.Words.{IntLeaf}
use Rattle.dpl_memory.specs.Memory.{PlainKind, with_value_in}
use Rattle.dpl_frame.specs.Frames.{Framed, with_memory}
use Rattle.dpl_elements.specs.Turns.{each_bound, bound_at}
use Rattle.dpl_elements.proofs.Binding.{declare-names}
use Rattle.dpl_batches.proofs.variables.bind.Goals as goal

pub returns-in-Each : goal.returns-in-Each
returns-in-Each g c =
    let now = c.args.frame.now in
    let t = c.args.index in
    let first = c.in-Each.first in
    let others = c.in-Each.others.now in
    let fits : FitsSigned w64 c.coordinate.result = search rules in
    let set = simp to_z-of_z at c.set_number-in-Each.ensures in
    c.bind_others.ensures
    ∙ ap (λ (f : Framed). with_memory (each_bound 1 others t f.memory) f) set
    ∙ ap (λ n. with_memory (each_bound 1 others t (with_value_in (PlainKind IntLeaf) first (Int n) now.memory)) now) c.coordinate.ensures
    ∙ ap (λ m. with_memory m now) (sym (declare-names first others t now.memory))
    ∙ ap (λ names. with_memory (bound_at names t now.memory) now) (sym c.in-Each.is)
