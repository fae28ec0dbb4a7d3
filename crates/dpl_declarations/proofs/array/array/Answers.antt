-- An array is over what is between its brackets, and its elements begin with what each may be given.
-- Whether a bare name stands there is seen in the text.
use Rattle.std.proofs.Common.{is_some, sym, ap, ◌∙◌}
use Rattle.dpl_language.specs.Phrases.{declared_over}
use Rattle.dpl_tree.specs.Declarations.{optional, initial_view}
use Rattle.dpl_tree.specs.View.{items_view}
use Rattle.dpl_typed.proofs.Standing.{if_ok}
use Rattle.dpl_declarations.specs.Made.{elements_tree}
use Rattle.dpl_declarations.proofs.Arrays.{array-made}
use Rattle.dpl_declarations.proofs.Overs.{is_some-mapped}
use Rattle.dpl_declarations.proofs.array.array.Goals as goal

pub returns : goal.returns
returns c =
    let a = c.args.written.now in
    let bare = c.is_some-bare.ensures ∙ sym (is_some-mapped (λ x. x.now) c.bare_over.result) ∙ ap is_some c.bare_over.ensures in
    if_ok c.step.result
    (λ s h. λ d is found made domain fits near from.
    array-made c.args.at a.from c.args.slot a.kind c.is_some-bare.result (is_some (declared_over (items_view a.over))) is (elements_tree (optional initial_view c.args.initial.now) c.args.value)
    c.over_made-over.result c.in-Ok.begun s bare (c.over_made-over.ensures d a.from is found made domain) (c.in-Ok.ensures fits) (λ o e over begun. h o e over begun near from))
    c.step.ensures
