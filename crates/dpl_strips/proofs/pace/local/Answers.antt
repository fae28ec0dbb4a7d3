-- The variables hold an index, by one int or by its coordinates.
-- These are the answers to the goals of `local`.
use Rattle.std.proofs.Common.{ℕ, ◌∷◌, ap, ◌∙◌}
use Rattle.std.proofs.lemmas.Option.{IfSome_then}
use Rattle.dpl_array.specs.Elements.{behind}
use Rattle.dpl_nodes.specs.declared.step.Names.{Names}
use Rattle.dpl_strips.specs.declared.pace.Pace.{Pace}
use Rattle.dpl_strips.specs.Strips.{turn_numbers, each_put}
use Rattle.dpl_strips.proofs.Paces.{GoesIn-same, declare_each-each}
use Rattle.dpl_strips.proofs.pace.local.Goals as goal

pub returns-in-Each : goal.returns-in-Each
returns-in-Each g c =
    let s = c.args.frame.now.memory in
    let row = c.args.row in
    IfSome_then c.each_held-in-Each.result c.each_held-in-Each.ensures
    (λ (p : Pace). GoesIn-same row.step (λ k. each_put (c.in-Each.variable ∷ c.in-Each.others.now) (behind k row) s.words.numbers) (turn_numbers c.args.names.now row s) c.args.slot p
    (λ (k : ℕ). ap (λ (names : Names). turn_numbers names row s k) c.in-Each.is ∙ declare_each-each c.in-Each.variable c.in-Each.others.now (behind k row) s))
