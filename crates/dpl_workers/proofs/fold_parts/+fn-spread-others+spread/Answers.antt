-- The part of a locale, and those of the locales behind it, as one.
use Rattle.std.proofs.Common.{None, length, sym, subst, ◌∙◌}
use Rattle.dpl_workers.specs.Parts.{IsPart, indices_of}
use Rattle.dpl_workers.proofs.PartFolding.{told-or-refused}
use Rattle.dpl_workers.proofs.Folds.{level-ends, nothing-ends, part-ends}
use Rattle.dpl_workers.proofs.fold_parts.+fn-spread-others+spread.Goals as goal

pub returns-in_default-part : goal.returns-in_default-part
returns-in_default-part g t c meaning tells =
    let op = g.W.OnWords.op c.args.shared.now.operator.now in
    let value = g.W.OnWords.value in
    let whole = c.args.shared.now.whole.now in
    let axes = c.args.shared.now.map.now in
    let l = c.args.locale in
    let n = length c.args.shared.now.parts.now in
    let here = c.in-Some.ensures.lookup.3 in
    let none = subst (IsPart whole axes l) (sym (here.1 None) ∙ c.in_default-part.is) (c.requires.parts.each l here.0) in
    level-ends op meaning whole axes l n here.0 _ value c.none-in_default-part.result.item c.spread-behind.result.item c.both.result.item c.none-in_default-part.result.turn c.spread-behind.result.turn c.both.result.turn
    c.both.ensures
    (nothing-ends op meaning whole axes _ value l c.none-in_default-part.result.turn c.none-in_default-part.result.item none c.none-in_default-part.ensures)
    (c.spread-behind.ensures meaning tells)

pub returns : goal.returns
returns g t c meaning tells =
    let op = g.W.OnWords.op c.args.shared.now.operator.now in
    let value = g.W.OnWords.value in
    let whole = c.args.shared.now.whole.now in
    let axes = c.args.shared.now.map.now in
    let l = c.args.locale in
    let n = length c.args.shared.now.parts.now in
    let here = c.in-Some.ensures.lookup.3 in
    let first = c.join-first.result.0 in
    let behind = c.join-first.result.1 in
    let sole = subst (IsPart whole axes l) (sym (here.1 None) ∙ c.in-Some-part.is) (c.requires.parts.each l here.0) in
    level-ends op meaning whole axes l n here.0 _ value first.item behind.item c.both-2.result.item first.turn behind.turn c.both-2.result.turn
    c.both-2.ensures
    (part-ends op meaning whole axes _ value l (indices_of c.in-Some-part.part whole axes l) first.turn first.item sole
    (told-or-refused value op meaning whole axes _ tells c.in-Some-part.part l first c.join-first.ensures.first))
    (c.join-first.ensures.second meaning tells)
