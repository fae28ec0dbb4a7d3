-- The refusal by the walk is the program's; a program that has none is sound, and the walk makes its steps.
use Rattle.std.proofs.Common.{◌≡◌, ◌∙◌, None, map}
use Rattle.dpl_tree.specs.Statements.{program_view}
use Rattle.dpl_grammar.specs.Classes.{task_words}
use Rattle.dpl_says.specs.Says.{refusal_of}
use Rattle.dpl_run.specs.Headline.{IsProgram}
use Rattle.dpl_run.proofs.Walking.{walk-refusal, walk-first, walk-makes}
use Rattle.dpl_run.proofs.checking.check.Goals as goal

pub elaborated-requires-clause-walked : goal.elaborated-requires-clause-walked
elaborated-requires-clause-walked c =
    let s = c.requires in
    let t = program_view c.args.program.now in
    let sets = map (λ set. set.now) c.args.sets.now in
    let tokens = c.args.tokens.now in
    let w = c.in_ok-walked.walked in
    let h = c.in_ok-walked.ensures in
    let r = c.in_ok-refusal.field-0 in
    let unrefused : refusal_of task_words sets tokens t ≡ None = walk-refusal sets tokens t w r c.in_default.ensures h.first h.scopes c.in_ok-refusal.ensures ∙ c.in-None.is in
    let is : IsProgram s.0 sets t = record { tokens = tokens; lexes = s.1; spells = s.2; unrefused = unrefused } in
    walk-makes s.0 sets t w is (walk-first sets tokens t w r c.in_default.ensures h.first h.scopes c.in_ok-refusal.ensures c.in-None.is) h.steps h.slots h.scopes
