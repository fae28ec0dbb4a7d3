-- An index that the locale owns is not wanted.
-- These are the answers to the goals of `gather_foreign`.
use Rattle.std.proofs.Common.{◌≡◌, not, true, inl, sym, ap, ◌∙◌, eq-eqb}
use Rattle.dpl_map.specs.Maps.{owner}
use Rattle.dpl_array.proofs.WalkLemmas.{other-test}
use Rattle.dpl_halo.specs.Halos.{is_foreign}
use Rattle.dpl_halo.proofs.GatherLemmas.{gather-nothing}
use Rattle.dpl_halo.proofs.halo.gather_foreign.Goals as goal

pub returns-then-owner-locale-clause-gathered : goal.returns-then-owner-locale-clause-gathered
returns-then-owner-locale-clause-gathered g c = λ seen gathered.
    let a = c.args.array.now in
    let owns : owner a.map c.args.index ≡ c.args.locale = ap (λ m. owner m c.args.index) (sym c.map.ensures) ∙ sym c.owner.ensures.owner ∙ c.if-owner-locale.true in
    gather-nothing a (is_foreign a.map c.args.locale) seen c.args.gathered.now c.args.gathered.now c.args.index gathered (inl (ap not (eq-eqb (owner a.map c.args.index) c.args.locale owns)))

pub returns-clause-gathered : goal.returns-clause-gathered
returns-clause-gathered g c = λ seen gathered.
    let a = c.args.array.now in
    let owns : c.owner.result ≡ owner a.map c.args.index = c.owner.ensures.owner ∙ ap (λ m. owner m c.args.index) c.map.ensures in
    let foreign : is_foreign a.map c.args.locale c.args.index ≡ true = ap not (other-test (owner a.map c.args.index) c.args.locale (λ same. c.if-owner-locale.false (owns ∙ same))) in
    c.in_ok-gather.ensures.gathered (is_foreign a.map c.args.locale) seen foreign gathered
