-- What marks declare are the names in sight.
use Rattle.std.proofs.Common.{◌≡◌, List, map, subst, ap, ◌∙◌}
use Rattle.std.specs.Prelude.{IfOk}
use Rattle.dpl_language.specs.Names.{Frame}
use Rattle.dpl_memory.specs.Memory.{Held}
use Rattle.dpl_outcome.specs.Leaving.{entry_kept, held_frame}
use Rattle.dpl_outcome.specs.Names.{names_of}
use Rattle.dpl_outcome.proofs.MarkedNames.{names_marked}
use Rattle.dpl_outcome.proofs.top_level.collect.Goals as goal

pub returns : goal.returns
returns c =
    let scopes = c.args.scopes.now in
    let memory = c.args.frame.memory in
    let kept : map (entry_kept memory.arrays) c.in_ok-named.named.items ≡ held_frame scopes memory (names_of scopes) =
    c.in_ok-named.ensures ∙ ap (held_frame scopes memory) (names_marked scopes c.marks.result.now c.marks.ensures.open) in
    subst (λ (frame : Frame). IfOk c.new.result (λ left. left ≡ frame)) kept
    (subst (λ (arrays : List Held). IfOk c.new.result (λ left. left ≡ map (entry_kept arrays) c.in_ok-named.named.items)) c.into_arrays.ensures c.new.ensures)
