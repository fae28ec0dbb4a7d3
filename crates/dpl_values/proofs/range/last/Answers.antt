-- The last member is the list's last element.
use Rattle.std.proofs.Common.{ap, sym, ◌∙◌, rules, Ok, w64, FitsSigned}
use Rattle.std.proofs.lemmas.Int.{to_z-of_z}
use Rattle.dpl_sets.specs.Ranges.{members_of}
use Rattle.dpl_language.specs.Values.{Int, EmptyEnd, fault}
use Rattle.dpl_values.proofs.Ranges.{end_of-last, told_end}
use Rattle.dpl_values.proofs.Telling.{told}
use Rattle.dpl_values.proofs.range.last.Goals as goal

pub returns-in-Some : goal.returns-in-Some
returns-in-Some c =
    let fits : FitsSigned w64 c.in-Some.end = search rules in
    sym (ap (λ n. Ok (Int n)) (to_z-of_z w64 c.in-Some.end fits)
    ∙ ap (told_end c.args.at) (sym c.in-Some.is ∙ c.last.ensures)
    ∙ sym (end_of-last c.args.at (members_of c.args.range.range)))

pub returns-in-None : goal.returns-in-None
returns-in-None c =
    told ⊥ Int c.new.new.turn c.new.result (fault EmptyEnd c.args.at) _ c.new.ensures.alarm c.new.ensures.no_turn
    (end_of-last c.args.at (members_of c.args.range.range) ∙ ap (told_end c.args.at) (sym c.last.ensures ∙ c.in-None.is))
