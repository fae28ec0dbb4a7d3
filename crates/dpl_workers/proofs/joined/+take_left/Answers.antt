-- The last of the workers has the locale, or one before it.
use Rattle.std.proofs.Common.{◌≡◌, ◌==◌, true, false, sym, ap, ◌∙◌, arith}
use Rattle.std.specs.Prelude.{if◌then◌else◌}
use Rattle.std.proofs.lemmas.Bool.Decides.{nat_tests}
use Rattle.dpl_frame.specs.Frames.{with_memory}
use Rattle.dpl_frame.specs.Shares.{Plain, plain_of, with_plain}
use Rattle.dpl_workers.specs.Joined.{words_by}
use Rattle.dpl_workers.proofs.WorkerEnds.{words-last}
use Rattle.dpl_workers.proofs.joined.+take_left.Goals as goal

pub returns-then-last-locale : goal.returns-then-last-locale
returns-then-last-locale t c =
    let m = c.args.frame.now.memory in
    let is : (c.in-Some.last.locale == c.args.locale) ≡ true = let same = c.if-last-locale.true in grind (arith, nat_tests) in
    c.take_words.ensures
    ∙ ap (λ (p : Plain). with_memory (with_plain p m) c.args.frame.now)
    (sym (ap (λ ws. words_by c.args.locale ws (plain_of m)) c.in-Some.ensures.items ∙ words-last c.args.locale c.pop.new.self.items c.in-Some.last (plain_of m)
    ∙ ap (λ b. if b then c.in-Some.last.words else words_by c.args.locale c.pop.new.self.items (plain_of m)) is))

pub returns-else-last-locale : goal.returns-else-last-locale
returns-else-last-locale t c =
    let m = c.args.frame.now.memory in
    let is : (c.in-Some.last.locale == c.args.locale) ≡ false = let other = c.if-last-locale.false in grind (arith, nat_tests) in
    c.take_left.ensures
    ∙ ap (λ (p : Plain). with_memory (with_plain p m) c.args.frame.now)
    (sym (ap (λ ws. words_by c.args.locale ws (plain_of m)) c.in-Some.ensures.items ∙ words-last c.args.locale c.pop.new.self.items c.in-Some.last (plain_of m)
    ∙ ap (λ b. if b then c.in-Some.last.words else words_by c.args.locale c.pop.new.self.items (plain_of m)) is))
