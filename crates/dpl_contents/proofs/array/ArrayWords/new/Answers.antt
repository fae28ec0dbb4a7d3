-- The finite map has the word at each index of the domain.
use Rattle.std.proofs.Common.{refl, ap, ◌∙◌, Err, w64, FitsSigned}
use Rattle.std.proofs.lemmas.Int.{to_z-of_z}
use Rattle.std.proofs.lemmas.Result.{err_from_is_err_and}
use Rattle.dpl_contents.proofs.Words.{over-filled_array, seen-filled_array, fault-size, made-size}
use Rattle.dpl_contents.proofs.array.ArrayWords.new.Goals as goal

pub returns-in_err-array-clause-size : goal.returns-in_err-array-clause-size
returns-in_err-array-clause-size c =
    let p = err_from_is_err_and c.from_residual.result c.from_residual.ensures.1 in
    fault-size c.args.domain c.domain.result c.domain.ensures.domain c.domain.ensures.limits c.new.result c.from_residual.result _ c.in_err-array.was (p.1 ∙ ap Err p.2) c.new.ensures.size

pub invariant_of-result : goal.invariant_of-result
invariant_of-result c =
    let word_fits : FitsSigned w64 c.args.word = c.ranges.word in
    let array = simp to_z-of_z at c.in_ok-array.ensures.array in
    over-filled_array c.args.domain c.domain.result c.domain.ensures.domain c.domain.ensures.limits c.cut-map.result c.args.word c.in_ok-array.array array

pub returns-clause-array : goal.returns-clause-array
returns-clause-array c =
    let word_fits : FitsSigned w64 c.args.word = c.ranges.word in
    let array = simp to_z-of_z at c.in_ok-array.ensures.array in
    seen-filled_array c.args.domain c.domain.result c.domain.ensures.domain c.domain.ensures.limits c.cut-map.result c.args.word c.in_ok-array.array array

pub returns-clause-size : goal.returns-clause-size
returns-clause-size c =
    made-size c.args.domain c.domain.result c.domain.ensures.domain c.domain.ensures.limits c.new.result _ c.in_ok-array.array _ c.in_ok-array.was refl c.new.ensures.size
