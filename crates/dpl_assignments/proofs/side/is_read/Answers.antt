use Rattle.dpl_assignments.proofs.Sides.{posts_read_many}
use Rattle.dpl_assignments.proofs.side.is_read.Goals as goal

pub returns-in-len2-up : goal.returns-in-len2-up
returns-in-len2-up c = posts_read_many c.args.posts.now c.in-len2-up.len_at_least
