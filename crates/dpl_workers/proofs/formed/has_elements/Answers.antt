-- An array that has elements is a whole one, and there.
use Rattle.std.proofs.Common.{◌<◌, arith, subst, ap, ◌∙◌}
use Rattle.std.proofs.lemmas.Bool.Decides.{nat_tests}
use Rattle.dpl_sets.specs.TextDomains.{values_of}
use Rattle.dpl_contents.specs.Domains.{AreWritten}
use Rattle.dpl_language.specs.Ranges.{size_in}
use Rattle.dpl_workers.proofs.FormedMemories.{piece-there}
use Rattle.dpl_workers.proofs.formed.has_elements.Goals as goal

pub returns-in-Some : goal.returns-in-Some
returns-in-Some c e =
    let n = c.size.result in
    let some : 0 < n = grind (arith, nat_tests) in
    piece-there c.args.frame.now.memory c.args.slot c.in-Some.array.now c.in-Some.ensures c.domain-domain.ensures.whole c.domain-domain.ensures.words
    (subst (λ rs. AreWritten (values_of rs)) c.domain-domain.ensures.domain c.domain.ensures.limits)
    (subst (λ n. 0 < n) (c.size.ensures.size ∙ ap size_in c.domain-domain.ensures.domain) some)
