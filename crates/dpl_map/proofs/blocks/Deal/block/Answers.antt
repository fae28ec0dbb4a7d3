-- What lies between the ends of a block is in it.
use Rattle.std.proofs.Common.{◌+ℤ◌, ◌*◌, ◌&&◌, pos, int_le, filter, ap, ◌∙◌, FitsSigned, rules}
use mir.Syntax.{w128}
use Rattle.std.proofs.lemmas.Int.{to_z-of_z}
use Rattle.dpl_sets.specs.Ranges.{members_of}
use Rattle.dpl_map.proofs.DealLemmas.{between-members}
use Rattle.dpl_map.proofs.blocks.Deal.block.Goals as goal

pub returns : goal.returns
returns c =
    let deal = c.args.self.now in
    let begin_fits : FitsSigned w128 c.begin.result = search rules in
    let end_fits : FitsSigned w128 c.end.result = search rules in
    simp to_z-of_z at c.between.ensures
    ∙ ap (λ b. filter (λ i. int_le b i && int_le i c.end.result) (members_of deal.range)) c.begin.ensures.begin
    ∙ ap (λ e. filter (λ i. int_le (deal.origin +ℤ pos (c.args.number * deal.size)) i && int_le i e) (members_of deal.range)) c.end.ensures
    ∙ between-members deal.range deal.origin deal.size deal.extent deal.coordinate c.args.self.now.deal c.args.number
