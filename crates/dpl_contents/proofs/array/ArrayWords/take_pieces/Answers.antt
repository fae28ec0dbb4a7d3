-- The pieces are those that the locales own, and make the array together.
use Rattle.std.proofs.Common.{List, ap, sym, ◌∙◌}
use Rattle.dpl_map.specs.Maps.{AxisValue}
use Rattle.dpl_array.specs.Arrays.{ArrayValue}
use Rattle.dpl_contents.specs.Parted.{parted}
use Rattle.dpl_contents.specs.Pieces.{ArePiecesOver}
use Rattle.dpl_contents.proofs.DealtLemmas.{over-dealt, seen-dealt}
use Rattle.dpl_contents.proofs.PartedLemmas.{pieces-parted, union-held}
use Rattle.dpl_contents.proofs.array.ArrayWords.take_pieces.Goals as goal

pub returns-clause-pieces : goal.returns-clause-pieces
returns-clause-pieces c =
    let inside = c.self.inside in
    let array = c.in_ok-array.array in
    let is = c.in_ok-array.ensures in
    pieces-parted inside.domain array (over-dealt inside.domain inside.array array c.args.map.now is c.self.invariant) c.take_pieces-pieces.result c.args.self c.take_pieces-pieces.ensures.pieces
    (seen-dealt inside.domain inside.array array c.args.map.now is c.args.self c.self.view_is)
    ∙ ap (λ (axes : List AxisValue). parted axes c.args.self) (ap (λ (a : ArrayValue _). a.map) is)

pub returns-clause-back : goal.returns-clause-back
returns-clause-back c =
    let inside = c.self.inside in
    let array = c.in_ok-array.array in
    let is = c.in_ok-array.ensures in
    let cut = over-dealt inside.domain inside.array array c.args.map.now is c.self.invariant in
    let ps = c.take_pieces-pieces.result in
    let over : ArePiecesOver inside.domain ps = record {
      domain = ap (λ qs. qs.domain) c.take_pieces-pieces.ensures.pieces ∙ cut.domain;
      formed = c.domain.ensures.formed;
      written = c.self.invariant.written;
    } in
    sym (union-held inside.domain ps over c.take_pieces-pieces.ensures.whole array (sym c.take_pieces-pieces.ensures.back))
    ∙ seen-dealt inside.domain inside.array array c.args.map.now is c.args.self c.self.view_is
