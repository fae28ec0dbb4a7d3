-- The test and the definition decide the same.
use Rattle.std.proofs.Common.{[], ◌∷◌, w64, FitsSigned}
use Rattle.std.proofs.lemmas.Int.{to_z-of_z}
use Rattle.std.proofs.lemmas.Bool.Decides.{same_from_decides}
use Rattle.dpl_language.specs.Ranges.{contains_index}
use Rattle.dpl_contents.specs.Range.{range_word}
use Rattle.dpl_values.proofs.Ranges.{Decides-contains_index}
use Rattle.dpl_values.proofs.range.contains.Goals as goal

pub returns : goal.returns
returns c =
    let fits : FitsSigned w64 c.args.i = c.ranges.i in
    let member = simp to_z-of_z at c.contains.ensures in
    same_from_decides c.contains.result (contains_index (range_word c.args.range ∷ []) (c.args.i ∷ []))
    member (Decides-contains_index (range_word c.args.range) c.args.i)
