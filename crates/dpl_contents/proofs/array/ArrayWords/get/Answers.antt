-- What the finite map has at an index is the word there.
use Rattle.std.proofs.Common.{◌∙◌}
use Rattle.dpl_contents.proofs.Words.{held_at-is}
use Rattle.dpl_contents.proofs.array.ArrayWords.get.Goals as goal

pub returns : goal.returns
returns c = c.get.ensures ∙ held_at-is c.self.inside.domain c.self.inside.array c.self.invariant c.args.index c.args.self.now c.self.view_is
