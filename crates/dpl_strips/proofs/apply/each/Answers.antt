-- One word more is what the function makes of the strip's.
-- These are the answers to the goals of `each`.
use Rattle.std.proofs.Common.{ℤ, get_or, pos, subst, sym, ◌∙◌, arith, FitsSigned, w64, rules, length-set}
use Rattle.std.proofs.lemmas.Int.{to_z-of_z}
use Rattle.std.proofs.lemmas.List.{get_or-set_other}
use Rattle.dpl_strips.proofs.Strips.{written}
use Rattle.dpl_strips.proofs.apply.each.Goals as goal

pub loop-k-preserved : goal.loop-k-preserved
loop-k-preserved g c =
    let k = c.loop-k.k in
    let words = c.loop-k.strip.words in
    let first = c.args.strip.now.words in
    let word_fits : FitsSigned w64 (get_or words k (pos 0)) = search rules in
    let made_fits : FitsSigned w64 c.apply.result = search rules in
    let applied = simp to_z-of_z at c.apply.ensures in
    let of_word = λ (n w : ℤ). g.F.Fn.post c.args.apply (n, tt) w in
    record {
      row = c.loop-k.invariant.row;
      size = c.loop-k.invariant.size;
      long = length-set words k _ ∙ c.loop-k.invariant.long;
      made = written (λ j w. of_word (get_or first j (pos 0)) w) words k _ (search rules) c.loop-k.invariant.made
          (subst (of_word (get_or first k (pos 0))) (sym (to_z-of_z w64 c.apply.result made_fits))
          (subst (λ n. of_word n c.apply.result) (c.loop-k.invariant.left k (omega arith)) applied));
      left = λ j below. get_or-set_other words k j _ (pos 0) (λ is. omega (arith, below, is)) ∙ c.loop-k.invariant.left j (omega (arith, below));
    }
