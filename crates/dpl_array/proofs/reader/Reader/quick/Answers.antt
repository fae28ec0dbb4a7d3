-- What the remembered piece has, the array has.
-- These are the answers to the goals of `Reader::quick`.
use Rattle.std.proofs.Common.{Some, subst}
use Rattle.dpl_array.specs.ReaderFields.{IsRemembered}
use Rattle.dpl_array.proofs.ReaderLemmas.{remembered-value}
use Rattle.dpl_array.proofs.reader.Reader.quick.Goals as goal

pub returns : goal.returns
returns g c =
    let kept = subst (λ o. IsRemembered c.self.inside.array.now o) c.in_ok-self.was c.self.invariant.0 in
    remembered-value c.args.self.now c.in_ok-self.field-0.now c.args.index (subst (λ a. IsRemembered a (Some c.in_ok-self.field-0)) c.self.view_is kept) c.quick.result c.quick.ensures
