-- The ints of a store are folded one after another.
-- These are the answers to the goals of `put_int`.
use Rattle.std.proofs.Common.{sym, ap, ◌∙◌, FitsSigned, w64, rules}
use Rattle.std.proofs.lemmas.Int.{to_z-of_z}
use Rattle.dpl_language.specs.Values.{Int}
use Rattle.dpl_words.specs.Words.{IntLeaf}
use Rattle.dpl_memory.specs.Memory.{PlainKind, with_value_in}
use Rattle.dpl_frame.specs.Frames.{with_memory}
use Rattle.dpl_batches.specs.Folded.{folded_where}
use Rattle.dpl_batches.proofs.Stores.{turns-folded}
use Rattle.dpl_batches.proofs.store.put_int.Goals as goal

pub returns : goal.returns
returns g c =
    let f = c.args.frame.now in
    let x = c.args.store.now in
    let number_fits : FitsSigned w64 c.number.result = search rules in
    let word_fits : FitsSigned w64 c.folded_where-word.result = search rules in
    let word_is = (simp to_z-of_z at c.folded_where-word.ensures) ∙ ap (λ n. folded_where c.args.fold n x.mask x.words c.args.size) c.number.ensures in
    let set = simp to_z-of_z at c.set_number.ensures in
    set
    ∙ ap (λ n. with_memory (with_value_in (PlainKind IntLeaf) x.slot (Int n) f.memory) f) word_is
    ∙ ap (λ m. with_memory m f) (sym (turns-folded x c.args.fold c.args.size f.memory c.requires.made c.requires.folds))
