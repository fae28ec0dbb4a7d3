-- The name, the sign, each element behind a space, and the end of the line.
use Rattle.std.proofs.Common.{◌++◌, ◌∷◌, [], ap, ◌∙◌}
use Rattle.dpl_contents.specs.Kinds.{kind_of}
use Rattle.dpl_contents.specs.Layout.{texts_of, spaced}
use Rattle.dpl_outcome.proofs.Dumped.{array_line}
use Rattle.dpl_outcome.proofs.listing.add_array.Goals as goal

pub returns : goal.returns
returns c =
    let kind = kind_of c.args.kind in
    let words = c.args.array.now.words in
    let signed = c.in_ok-extend_from_slice-2.ensures.items ∙ ap (λ t. t ++ 32 ∷ 61 ∷ []) c.in_ok-extend_from_slice.ensures.items in
    let listed = c.in_ok-list_array.ensures ∙ ap (λ t. t ++ spaced (texts_of kind words)) signed in
    c.in_ok-push.ensures.items ∙ ap (λ t. t ++ 10 ∷ []) listed ∙ array_line c.args.text.now.items c.args.name.now kind words
