-- The walk goes along the row, which has the elements.
-- These are the answers to the goals of `Piece::walk`.
use Rattle.std.proofs.Common.{◌≡◌, List, [], ◌∷◌, ◌++◌, None, drop, slice_get, refl, ap, sym, subst, ◌∙◌}
use Rattle.std.specs.List.{zip}
use Rattle.std.proofs.lemmas.Option.{none-some}
use Rattle.dpl_map.specs.Axes.{AreSingle}
use Rattle.dpl_array.specs.PieceFields.{piece_of}
use Rattle.dpl_array.specs.Rows.{row_of}
use Rattle.dpl_array.specs.Arrays.{IsWalkOf}
use Rattle.dpl_array.proofs.PieceLemmas.{kept-row, kept-one, walk-some, walk-none}
use Rattle.dpl_array.proofs.piece.Piece.walk.Given.{Over}
use Rattle.dpl_array.proofs.piece.Piece.walk.Goals as goal
use Rattle.dpl_array.proofs.piece.Piece.walk.Goals.{in-Some, in-None}

no-first : {X : Type 0} (xs : List X) → slice_get xs 0 ≡ None → xs ≡ []
no-first [] none = refl
no-first (x ∷ xs) none = absurd (none-some x (sym none))

-- the row that the walk goes along, beside its values, is that of all domains beside all values
all-of : (g : Over) (c : goal.After-deref-3 g) →
    zip (c.match-first.indices.0 ++ row_of (drop c.match-first.indices.1 c.deref-2.result.now)) c.deref-3.result.now ≡ zip (row_of c.self.inside.parts.items) c.self.inside.values.items
all-of g c =
    let parts = c.self.inside.parts.items in
    let values = c.self.inside.values.items in
    ap (λ ds. zip (c.match-first.indices.0 ++ row_of (drop c.match-first.indices.1 ds)) c.deref-3.result.now) c.deref-2.ensures.value
    ∙ ap (λ vs. zip (c.match-first.indices.0 ++ row_of (drop c.match-first.indices.1 parts)) vs) c.deref-3.ensures.value
    ∙ elim c.match-first.branch [
      | in-Some w ↦
          ap (λ i. zip (i.0 ++ row_of (drop i.1 parts)) values) w.indices-is ∙ ap (λ ts. zip (ts ++ row_of (drop 1 parts)) values) w.cursor.ensures
          ∙ walk-some values parts w.in-Some.first.now (ap (λ ds. slice_get ds 0) (sym c.deref.ensures.value) ∙ sym w.in-Some.ensures.value)
      | in-None w ↦
          ap (λ i. zip (i.0 ++ row_of (drop i.1 parts)) values) w.indices-is
          ∙ walk-none values parts w.cursor-in-None.result (no-first parts (ap (λ ds. slice_get ds 0) (sym c.deref.ensures.value) ∙ sym w.in-None.ensures.value)) c.self.invariant.0.long
    ]

pub returns-clause-walk : goal.returns-clause-walk
returns-clause-walk g c =
    let p = c.self.inside in
    let start = zip (c.match-first.indices.0 ++ row_of (drop c.match-first.indices.1 c.deref-2.result.now)) c.deref-3.result.now in
    let over : IsWalkOf (piece_of p) (zip (row_of p.parts.items) p.values.items) = (p.parts.items, c.self.invariant.0.rows, c.self.invariant.0.cut, kept-row p.domain p.map p.locale p.parts.items p.starts.items p.values.items c.self.invariant.0) in
    subst (λ q. IsWalkOf q start) c.self.view_is (subst (IsWalkOf (piece_of p)) (sym (all-of g c)) over)

pub returns-clause-single : goal.returns-clause-single
returns-clause-single g c = λ single.
    let p = c.self.inside in
    let few = c.self.invariant.0.one (subst (λ q. AreSingle q.map) (sym c.self.view_is) single) in
    all-of g c ∙ kept-one p.domain p.map p.locale p.parts.items p.starts.items p.values.items c.self.invariant.0 few ∙ ap (λ q. q.elements) c.self.view_is
