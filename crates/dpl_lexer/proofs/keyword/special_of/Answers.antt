-- No word of the table's part was this one, and the part has all words that begin so.
use Rattle.std.proofs.Common.{◌≡◌, inl, inr, ℕ, ◌+◌, ◌-◌, ◌<◌, ◌≤◌, List, get_or, sym, ap, ◌∙◌, arith}
use Rattle.std.proofs.lemmas.Bool.{cases_eq}
use Rattle.dpl_lexer.specs.Scan.{special_text, special_at}
use Rattle.dpl_lexer.proofs.ByteTests.{bytes_eq-same}
use Rattle.dpl_lexer.proofs.Specials.{is_listed, before_small}
use Rattle.dpl_lexer.proofs.keyword.special_of.Goals as goal

pub special_at-special-requires : goal.special_at-special-requires
special_at-special-requires c = let small = before_small (c.from-letter.result + 1) in omega (arith, c.loop-i-test.true)

pub loop-i-preserved : goal.loop-i-preserved
loop-i-preserved c = λ j ge lt.
    elim (cases_eq j c.loop-i.i) [
      | inl same ↦ λ e. absurd (cc (bytes_eq-same (special_text (special_at c.loop-i.i)) c.args.word.now (sym (e ∙ ap (λ (k : ℕ). special_text (special_at k)) same)), c.special_text.ensures, c.special_at-special.ensures, c.eq.ensures, c.if-eq.false))
      | inr other ↦ c.loop-i.invariant j ge (omega arith)
    ]

pub returns-clause-none : goal.returns-clause-none
returns-clause-none c = λ s e.
    let letter : get_or (special_text s) 0 0 - 65 ≡ c.from-letter.result = ap (λ (l : List ℕ). get_or l 0 0 - 65) (sym e) ∙ sym c.from-letter.ensures in
    let at = is_listed s in
    let from : c.specials_before-from.result ≤ at.index = rw (c.specials_before-from.ensures, ← letter) at.from in
    let end : at.index < c.specials_before-upto.result = rw (c.specials_before-upto.ensures, ← letter) at.upto in
    let upto : at.index < c.loop-i.i = omega arith in
    absurd (c.loop-i.invariant at.index from upto (e ∙ ap special_text (sym at.is)))
