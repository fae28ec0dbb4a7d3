-- What the finite map has at the indices behind one another are the words there.
use Rattle.std.proofs.Common.{sym, ◌∙◌}
use Rattle.dpl_array.specs.Elements.{behind}
use Rattle.dpl_contents.proofs.Words.{held_at-is}
use Rattle.dpl_contents.proofs.array.ArrayWords.run.Goals as goal

pub returns : goal.returns
returns c k word there =
    let inside = c.self.inside in
    sym (held_at-is inside.domain inside.array c.self.invariant (behind k c.args.row) c.args.self.now c.self.view_is) ∙ c.run.ensures k word there
