-- The text at the front, or the backslash of its first bad escape.
use Rattle.std.proofs.Common.{◌≡◌, ◌<◌, ℕ, List, length, take, ap, subst, ◌∙◌}
use Rattle.dpl_syntax.specs.Text.{between, well_escaped}
use Rattle.dpl_lexer.proofs.Scans.{quoted_found, escape_found, unended_found}
use Rattle.dpl_lexer.proofs.quoted.quoted.Goals as goal

pub returns-in_default-clause-err : goal.returns-in_default-clause-err
returns-in_default-clause-err c = unended_found c.args.bytes.now c.requires c.in_default.ensures.none

pub returns-in-Some-bad_escape-clause-err : goal.returns-in-Some-bad_escape-clause-err
returns-in-Some-bad_escape-clause-err c =
    let text = c.args.bytes.now in
    let len = c.in-Some.len in
    let n = c.in-Some-bad_escape.n in
    let found = c.in-Some.ensures.some in
    let inner : c.between.result.now ≡ between (take len text) = c.between.ensures ∙ ap between c.split_at.ensures.front in
    let before : n < length (between (take len text)) = subst (λ (l : List ℕ). n < length l) inner c.in-Some-bad_escape.ensures.some.0 in
    let well : well_escaped (between (take len text)) ≡ take n (between (take len text)) = subst (λ (l : List ℕ). well_escaped l ≡ take n l) inner c.in-Some-bad_escape.ensures.some.1 in
    escape_found text len n c.requires found.0 found.1 found.2 before well

pub returns-in-None-clause-ok : goal.returns-in-None-clause-ok
returns-in-None-clause-ok c =
    let text = c.args.bytes.now in
    let len = c.in-Some.len in
    let found = c.in-Some.ensures.some in
    let inner : c.between.result.now ≡ between (take len text) = c.between.ensures ∙ ap between c.split_at.ensures.front in
    let good : well_escaped (between (take len text)) ≡ between (take len text) = subst (λ (l : List ℕ). well_escaped l ≡ l) inner c.in-None.ensures.none in
    quoted_found text len c.requires found.0 found.1 found.2 good
