-- Over its own domain the finite map keeps all its words.
use Rattle.std.proofs.Common.{◌∙◌}
use Rattle.dpl_contents.proofs.Words.{over-redomained, seen-redomained}
use Rattle.dpl_contents.proofs.PartedLemmas.{held_over-own}
use Rattle.dpl_contents.proofs.array.ArrayWords.copied.Goals as goal

pub invariant_of-result : goal.invariant_of-result
invariant_of-result c =
    over-redomained c.self.inside.domain c.domain.result c.domain.ensures.domain c.domain.ensures.limits c.self.inside.array c.in-Ok.array c.in-Ok.ensures.array

pub returns : goal.returns
returns c =
    let inside = c.self.inside in
    seen-redomained inside.domain c.domain.result c.domain.ensures.domain c.domain.ensures.limits inside.domain inside.array c.in-Ok.array c.args.self.now c.self.invariant c.self.view_is c.in-Ok.ensures.array
    ∙ held_over-own inside.domain inside.array c.args.self.now c.self.invariant c.self.view_is
