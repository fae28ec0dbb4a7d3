-- A line of a row is one of the rows left, and so of all rows.
use Rattle.std.proofs.Common.{rules, ◌≡◌, ◌++◌, Some, codes}
use Rattle.std.proofs.lemmas.Str.Pattern.{split_text_parts}
use Rattle.dpl_hints.specs.Hints.{Holds}
use Rattle.dpl_hints.proofs.Parts.{holds-all, holds-back, holds-both, holds-front, holds-some}
use Rattle.dpl_hints.proofs.find.first_told.Goals as goal

pub rows-init : goal.rows-init
rows-init c = (search rules, holds-all c.args.rows.now)

pub returns-then-is_some : goal.returns-then-is_some
returns-then-is_some c =
    let parted : c.rows.rest.now ≡ c.in-Some.row.now ++ (codes "\n" ++ c.in-Some.others.now) =
    split_text_parts (codes "\n") c.rows.rest.now (Some (c.in-Some.row, c.in-Some.others)) c.in-Some.ensures.cases in
    let row : Holds c.args.rows.now c.in-Some.row.now =
    holds-both c.args.rows.now c.rows.rest.now c.in-Some.row.now c.rows.invariant.1 (holds-front c.rows.rest.now c.in-Some.row.now (codes "\n") c.in-Some.others.now parted) in
    holds-some c.args.rows.now c.in-Some.row.now c.told-line.result row c.told-line.ensures

pub rows-preserved : goal.rows-preserved
rows-preserved c =
    let parted : c.rows.rest.now ≡ c.in-Some.row.now ++ (codes "\n" ++ c.in-Some.others.now) =
    split_text_parts (codes "\n") c.rows.rest.now (Some (c.in-Some.row, c.in-Some.others)) c.in-Some.ensures.cases in
    (search rules, holds-both c.args.rows.now c.rows.rest.now c.in-Some.others.now c.rows.invariant.1 (holds-back c.rows.rest.now c.in-Some.row.now (codes "\n") c.in-Some.others.now parted))
