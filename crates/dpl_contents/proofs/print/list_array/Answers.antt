use Rattle.std.proofs.Common.{ℤ, ◌≡◌, ◌++◌, ◌≤◌, [], sym, ap, ◌∙◌, take, drop, length, arith, append_assoc}
use Rattle.std.proofs.Math.ListN.{drop_of_length-le}
use Rattle.std.proofs.lemmas.List.{append-nil, length-map, drop-drop}
use Rattle.dpl_language.specs.Ranges.{size_in}
use Rattle.dpl_array.specs.Elements.{Elements}
use Rattle.dpl_contents.specs.Kinds.{kind_of}
use Rattle.dpl_contents.specs.Layout.{texts_of, spaced}
use Rattle.dpl_contents.proofs.Spaced.{listed, spaced_next}
use Rattle.dpl_contents.proofs.print.list_array.Goals as goal

pub loop-preserved : goal.loop-preserved
loop-preserved c =
    let walk : Elements ℤ = c.loop.walk in (
      ap (λ os. os ++ listed (kind_of c.args.kind) c.list_next.new.walk) c.in_ok-list_next.ensures.text
          ∙ append_assoc c.loop.out.items _ _
          ∙ ap (λ es. c.loop.out.items ++ (listed (kind_of c.args.kind) (take 1 walk) ++ listed (kind_of c.args.kind) es)) c.in_ok-list_next.ensures.rest
          ∙ ap (λ os. c.loop.out.items ++ os) (spaced_next (kind_of c.args.kind) walk)
          ∙ c.loop.invariant.0,
      c.in_ok-list_next.ensures.rest ∙ ap (drop 1) c.loop.invariant.1 ∙ drop-drop 1 c.loop.counter c.walk-walk.result,
    )

pub returns : goal.returns
returns c =
    let all : Elements ℤ = c.walk-walk.result in
    let size : length all ≡ length c.args.array.now.words = sym (length-map all (λ e. e.1)) ∙ ap length c.walk-walk.ensures in
    let past : length all ≤ c.loop.counter = omega (arith, size, ap size_in c.domain.ensures.domain, c.domain.ensures.words, c.size-end.ensures.size, c.loop-test.false) in
    let none : c.loop.walk ≡ [] = c.loop.invariant.1 ∙ drop_of_length-le all past in
    sym (append-nil c.loop.out.items) ∙ sym (ap (λ es. c.loop.out.items ++ listed (kind_of c.args.kind) es) none) ∙ c.loop.invariant.0
    ∙ ap (λ ws. c.args.out.now.items ++ spaced (texts_of (kind_of c.args.kind) ws)) c.walk-walk.ensures
