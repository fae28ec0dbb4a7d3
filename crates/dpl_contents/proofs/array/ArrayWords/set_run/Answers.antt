-- What is put in a row into the finite map are the words there.
use Rattle.std.proofs.Common.{is_some, subst, sym, ap, ◌∙◌}
use Rattle.dpl_array.specs.Elements.{behind, put_in_row}
use Rattle.dpl_memory.specs.Memory.{held_with}
use Rattle.dpl_contents.specs.Arrays.{IsArrayOver}
use Rattle.dpl_contents.proofs.PutLemmas.{put-over, put-seen}
use Rattle.dpl_contents.proofs.Words.{held_at-is, seen}
use Rattle.dpl_contents.proofs.array.ArrayWords.set_run.Goals as goal

pub invariant_of-self : goal.invariant_of-self
invariant_of-self c =
    let inside = c.self.inside in
    subst (IsArrayOver inside.domain) (sym c.set_run.ensures.changes) (put-over inside.domain c.args.row c.args.words.now c.set_run.result inside.array c.self.invariant)

pub returns-clause-there : goal.returns-clause-there
returns-clause-there c k below =
    let inside = c.self.inside in
    ap is_some (sym (held_at-is inside.domain inside.array c.self.invariant (behind k c.args.row) c.args.self.now c.self.view_is))
    ∙ c.set_run.ensures.there k below

pub returns-clause-changes : goal.returns-clause-changes
returns-clause-changes c =
    let inside = c.self.inside in
    ap (seen inside.domain) c.set_run.ensures.changes
    ∙ put-seen inside.domain c.args.row c.args.words.now c.set_run.result inside.array c.self.invariant
    ∙ ap (put_in_row held_with c.args.row c.args.words.now c.set_run.result) c.self.view_is
