-- A part is told by the indices of the domain.
-- These are the answers to the goals of `Piece::over`.
use Rattle.std.proofs.Common.{◌≡◌, ◌↔◌, ℤ, List, length, sym, ap, ◌∙◌, subst}
use Rattle.dpl_map.specs.Cuts.{AreCut}
use Rattle.dpl_map.specs.Parts.{part}
use Rattle.dpl_sets.specs.Indices.{indices}
use Rattle.dpl_array.specs.Elements.{tabulated}
use Rattle.dpl_array.specs.PieceFields.{kept_at, IsKept}
use Rattle.dpl_array.specs.Rows.{row_of, StandsIn}
use Rattle.dpl_array.proofs.PieceLemmas.{part-same, in-domain, with_domain}
use Rattle.dpl_array.proofs.piece.Piece.over.Goals as goal

pub invariant_of-piece : goal.invariant_of-piece
invariant_of-piece g c =
    let p = c.piece.inside in
    let kept = c.piece.invariant.0 in
    let indices-same : indices p.domain ≡ indices c.args.domain = ap (λ q. indices q.domain) c.piece.view_is ∙ sym c.requires in
    let parts-same : part p.domain p.map p.locale ≡ part c.args.domain p.map p.locale = part-same p.domain c.args.domain p.map p.locale indices-same in
    let still : IsKept c.args.domain p.map p.locale p.parts.items p.starts.items (length p.values.items) = record {
      rows = kept.rows;
      same = subst (λ ts. (t : List ℤ) → StandsIn (row_of p.parts.items) t ↔ StandsIn ts t) parts-same kept.same;
      cut = subst (λ ts. AreCut indices ts p.parts.items) parts-same kept.cut;
      some = kept.some;
      one = kept.one;
      distinct = kept.distinct;
      starting = kept.starting;
      long = kept.long;
      small = kept.small;
    } in
    (still, c.piece.invariant.1)

pub returns : goal.returns
returns g c =
    let p = c.piece.inside in
    let indices-same : indices p.domain ≡ indices c.args.domain = ap (λ q. indices q.domain) c.piece.view_is ∙ sym c.requires in
    let parts-same : part p.domain p.map p.locale ≡ part c.args.domain p.map p.locale = part-same p.domain c.args.domain p.map p.locale indices-same in
    in-domain c.args.domain p.map p.locale (λ ts. tabulated ts (kept_at p.parts.items p.values.items)) (part p.domain p.map p.locale) (part c.args.domain p.map p.locale) parts-same
    ∙ ap (with_domain c.args.domain) c.piece.view_is
