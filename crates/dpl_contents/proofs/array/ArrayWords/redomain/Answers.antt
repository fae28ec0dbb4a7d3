-- The finite map keeps what is at the common indices, and has 0 at the others.
use Rattle.std.proofs.Common.{refl, ap, ◌∙◌, Err}
use Rattle.std.proofs.lemmas.Result.{err_from_is_err_and}
use Rattle.dpl_contents.proofs.Words.{over-redomained, seen-redomained, fault-size, made-size}
use Rattle.dpl_contents.proofs.array.ArrayWords.redomain.Goals as goal

pub returns-in_err-array-clause-size : goal.returns-in_err-array-clause-size
returns-in_err-array-clause-size c =
    let p = err_from_is_err_and c.from_residual.result c.from_residual.ensures.1 in
    fault-size c.args.domain c.domain.result c.domain.ensures.domain c.domain.ensures.limits c.redomain.result c.from_residual.result _ c.in_err-array.was (p.1 ∙ ap Err p.2) c.redomain.ensures.size

pub invariant_of-result : goal.invariant_of-result
invariant_of-result c =
    over-redomained c.args.domain c.domain.result c.domain.ensures.domain c.domain.ensures.limits c.self.inside.array c.in_ok-array.array c.in_ok-array.ensures.array

pub returns-clause-array : goal.returns-clause-array
returns-clause-array c =
    seen-redomained c.args.domain c.domain.result c.domain.ensures.domain c.domain.ensures.limits c.self.inside.domain c.self.inside.array c.in_ok-array.array c.args.self c.self.invariant c.self.view_is c.in_ok-array.ensures.array

pub returns-clause-size : goal.returns-clause-size
returns-clause-size c =
    made-size c.args.domain c.domain.result c.domain.ensures.domain c.domain.ensures.limits c.redomain.result _ c.in_ok-array.array _ c.in_ok-array.was refl c.redomain.ensures.size
