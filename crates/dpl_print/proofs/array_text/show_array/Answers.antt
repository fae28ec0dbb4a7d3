-- The elements in the domain's order are the words of the array.
use Rattle.std.proofs.Common.{◌≡◌, ◌++◌, OnOk, sym, subst}
use Rattle.dpl_sets.specs.TextDomains.{values_of}
use Rattle.dpl_contents.specs.Domains.{AreWritten}
use Rattle.dpl_contents.specs.Kinds.{kind_of}
use Rattle.dpl_print.proofs.ShownArrays.{array_text-words}
use Rattle.dpl_print.proofs.array_text.show_array.Goals as goal

pub returns-in-Some : goal.returns-in-Some
returns-in-Some c =
    let a = c.in-Some.array.now in
    subst (λ text. OnOk c.print_array.result (c.print_array.new.out.items ≡ c.args.out.now.items ++ text))
    (sym (array_text-words c.args.kind c.args.slot c.args.frame.now.memory (kind_of c.element_kind.result) a c.element_kind.ensures c.in-Some.ensures
    (subst (λ rs. AreWritten (values_of rs)) c.domain.ensures.domain c.domain-in-Some.ensures.limits) c.domain.ensures.whole c.domain.ensures.words))
    c.print_array.ensures
