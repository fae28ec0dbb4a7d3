-- What is laid out by the ranges of the domain is the printed array.
use Rattle.std.proofs.Common.{◌≡◌, ◌++◌, [], ◌∷◌, map, length, ap, sym, ◌∙◌, append-nil}
use Rattle.std.proofs.lemmas.List.{length-map}
use Rattle.std.proofs.lemmas.Result.{IfOk-equal}
use Rattle.dpl_language.specs.Ranges.{size_in}
use Rattle.dpl_memory.specs.Memory.{element_as}
use Rattle.dpl_contents.specs.Range.{range_word}
use Rattle.dpl_contents.specs.Kinds.{kind_of}
use Rattle.dpl_contents.specs.Arrays.{words_of}
use Rattle.dpl_contents.proofs.Layouts.{printed_array-none, laid_out-whole}
use Rattle.dpl_contents.proofs.print.print_array.Goals as goal

pub returns-then-size-eq0 : goal.returns-then-size-eq0
returns-then-size-eq0 c =
    let none : length c.args.array.now.words ≡ 0 = c.domain-domain.ensures.words ∙ ap size_in (sym c.domain-domain.ensures.domain) ∙ sym c.size.ensures.size ∙ c.if-size-eq0.true in
    sym (append-nil c.args.out.now.items)
    ∙ ap (λ t. c.args.out.now.items ++ t)
    (sym (printed_array-none c.args.array.now.ranges (map (element_as (kind_of c.args.kind)) c.args.array.now.words) (length-map c.args.array.now.words (element_as (kind_of c.args.kind)) ∙ none)))

pub returns-in-Line : goal.returns-in-Line
returns-in-Line c =
    let ranges = c.in-Line.ensures.parts ∙ c.domain-domain.ensures.domain in
    let long = c.domain-domain.ensures.words ∙ ap size_in (sym c.domain-domain.ensures.domain) ∙ sym c.size.ensures.size in
    let words = c.walk-walk.ensures in
    let whole = laid_out-whole (kind_of c.args.kind) c.args.array.now (range_word c.in-Line.inner ∷ []) (words_of c.walk-walk.result) c.size.result ranges words long c.if-size-eq0.false in
    IfOk-equal c.print_line.result _ _ _ c.print_line.ensures.text (ap (λ t. c.args.out.now.items ++ t) whole)

pub returns-in-Plane : goal.returns-in-Plane
returns-in-Plane c =
    let ranges = c.in-Plane.ensures.parts ∙ c.domain-domain.ensures.domain in
    let long = c.domain-domain.ensures.words ∙ ap size_in (sym c.domain-domain.ensures.domain) ∙ sym c.size.ensures.size in
    let words = c.walk-walk.ensures in
    let whole = laid_out-whole (kind_of c.args.kind) c.args.array.now (range_word c.in-Plane.middle ∷ range_word c.in-Plane.inner ∷ []) (words_of c.walk-walk.result) c.size.result ranges words long c.if-size-eq0.false in
    IfOk-equal c.print_plane.result _ _ _ c.print_plane.ensures.text (ap (λ t. c.args.out.now.items ++ t) whole)

pub returns-in-Space : goal.returns-in-Space
returns-in-Space c =
    let ranges = c.in-Space.ensures.parts ∙ c.domain-domain.ensures.domain in
    let long = c.domain-domain.ensures.words ∙ ap size_in (sym c.domain-domain.ensures.domain) ∙ sym c.size.ensures.size in
    let words = c.walk-walk.ensures in
    let whole = laid_out-whole (kind_of c.args.kind) c.args.array.now (range_word c.in-Space.outer ∷ range_word c.in-Space.middle ∷ range_word c.in-Space.inner ∷ []) (words_of c.walk-walk.result) c.size.result ranges words long c.if-size-eq0.false in
    IfOk-equal c.print_space.result _ _ _ c.print_space.ensures.text (ap (λ t. c.args.out.now.items ++ t) whole)
