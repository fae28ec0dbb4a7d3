-- The keys are the domain's indices, and there is a word for each.
use Rattle.dpl_contents.proofs.Words.{keys-seen, length-seen}
use Rattle.dpl_contents.proofs.array.ArrayWords.domain.Goals as goal

pub returns-clause-whole : goal.returns-clause-whole
returns-clause-whole c = keys-seen c.self.inside.domain c.self.inside.array c.self.invariant c.args.self.now c.self.view_is

pub returns-clause-words : goal.returns-clause-words
returns-clause-words c = length-seen c.self.inside.domain c.self.inside.array c.self.invariant c.args.self.now c.self.view_is
