-- The domains of the part have its indices, and there is a value for each place of their row.
-- These are the answers to the goals of `Piece::new`.
use Rattle.std.proofs.Common.{◌≡◌, length, replicate, arith, ap, ◌∙◌, subst}
use Rattle.std.proofs.lemmas.List.{length-replicate}
use Rattle.dpl_map.specs.Parts.{part}
use Rattle.dpl_array.specs.Rows.{row_of}
use Rattle.dpl_array.specs.PieceFields.{kept_at, IsKept}
use Rattle.dpl_array.specs.Spans.{AreSpansOf}
use Rattle.dpl_array.specs.Elements.{tabulated}
use Rattle.dpl_array.proofs.RowLemmas.{length-row, length-part, row-same}
use Rattle.dpl_array.proofs.DistinctLemmas.{distinct-part, distinct-row}
use Rattle.dpl_array.proofs.PieceLemmas.{piece-filled}
use Rattle.dpl_array.proofs.piece.Piece.new.Goals as goal

pub starts_of-requires : goal.starts_of-requires
starts_of-requires g c =
    let parts = c.in-Ok.parts.items in
    let row : length (row_of c.deref.result.now) ≡ length (part c.args.domain c.args.map c.args.locale) = ap (λ ds. length (row_of ds)) c.deref.ensures.value ∙ length-row parts ∙ c.in-Ok.ensures.sizes in
    let le = length-part c.args.domain c.args.map c.args.locale in
    record { small = omega (arith, row, le, c.requires.small) }

pub of-spans-requires : goal.of-spans-requires
of-spans-requires g c =
    let parts = c.in-Ok.parts.items in
    let row : length (row_of c.deref-2.result.now) ≡ length (part c.args.domain c.args.map c.args.locale) = ap (λ ds. length (row_of ds)) c.deref-2.ensures.value ∙ length-row parts ∙ c.in-Ok.ensures.sizes in
    let le = length-part c.args.domain c.args.map c.args.locale in
    record { small = omega (arith, row, le, c.requires.small) }

pub invariant_of-result : goal.invariant_of-result
invariant_of-result g c =
    let parts = c.in-Ok.parts.items in
    let row : length (row_of parts) ≡ length (part c.args.domain c.args.map c.args.locale) = length-row parts ∙ c.in-Ok.ensures.sizes in
    let le = length-part c.args.domain c.args.map c.args.locale in
    let long : length c.in_ok-values.values.items ≡ c.in_ok-starts.size = ap length c.in_ok-values.ensures ∙ length-replicate c.in_ok-starts.size c.args.value in
    let ts = part c.args.domain c.args.map c.args.locale in
    let same = row-same ts parts c.in-Ok.ensures.cut c.in-Ok.ensures.apart in
    let kept : IsKept c.args.domain c.args.map c.args.locale parts c.in_ok-starts.starts.items (length c.in_ok-values.values.items) = record {
      rows = c.in-Ok.ensures.rows;
      same = same;
      cut = c.in-Ok.ensures.cut;
      some = c.in-Ok.ensures.some;
      one = c.in-Ok.ensures.one;
      distinct = distinct-row ts parts (distinct-part c.args.domain c.args.map c.args.locale c.each_once.ensures) c.in-Ok.ensures.cut c.in-Ok.ensures.apart (λ t. (same t).0);
      starting = rw c.deref.ensures.value at c.in_ok-starts.ensures.starts;
      long = long ∙ c.in_ok-starts.ensures.size ∙ ap (λ ds. length (row_of ds)) c.deref.ensures.value;
      small = omega (arith, row, le, c.requires.small);
    } in
    (kept, subst (λ ds. AreSpansOf (row_of ds) c.of-spans.result) c.deref-2.ensures.value c.of-spans.ensures)

pub returns : goal.returns
returns g c =
    let parts = c.in-Ok.parts.items in
    let size : c.in_ok-starts.size ≡ length (row_of parts) = c.in_ok-starts.ensures.size ∙ ap (λ ds. length (row_of ds)) c.deref.ensures.value in
    let values : c.in_ok-values.values.items ≡ replicate (length (row_of parts)) c.args.value = c.in_ok-values.ensures ∙ ap (λ n. replicate n c.args.value) size in
    let ts = part c.args.domain c.args.map c.args.locale in
    let filled_row = piece-filled ts parts c.args.value (row-same ts parts c.in-Ok.ensures.cut c.in-Ok.ensures.apart) in
    ap (λ es. record { domain = c.args.domain; map = c.args.map; locale = c.args.locale; elements = es }) (ap (λ vs. tabulated ts (kept_at parts vs)) values ∙ filled_row)
