-- Where the values end, nothing is left.
-- These are the answers to the goals of `PieceWalk::next`.
use Rattle.std.proofs.Common.{◌≡◌, [], drop, length, ap, sym, ◌∙◌, ltb-false}
use Rattle.std.proofs.lemmas.List.{drop_all}
use Rattle.std.specs.List.{zip}
use Rattle.dpl_array.proofs.PieceLemmas.{walk-end}
use Rattle.dpl_array.proofs.piece_walk.PieceWalk.next.Goals as goal

pub returns-in_err-value-clause-rest : goal.returns-in_err-value-clause-rest
returns-in_err-value-clause-rest g c =
    let w = c.self.inside in
    let none : drop w.place w.values.now ≡ [] = drop_all w.place w.values.now (ltb-false w.place (length w.values.now) (sym c.in_err-value.ensures.lookup.0)) in
    ap (λ ts. zip ts (drop w.place w.values.now)) c.next.ensures.rest ∙ walk-end (drop w.place w.values.now) w.row none ∙ ap (drop 1) c.self.view_is
