-- The next token is of the class, if it is the one that is wanted.
-- These are the answers to the goals of `is_sign`.
use Rattle.std.proofs.Common.{◌∙◌, sym, ap}
use Rattle.dpl_grammar.specs.Numbers.{kind_number}
use Rattle.dpl_grammar.specs.Classes.{has, sign}
use Rattle.dpl_expressions.proofs.Tokens.{next_kind, same_sign}
use Rattle.dpl_expressions.proofs.token.is_sign.Goals as goal

pub returns-in-Sign : goal.returns-in-Sign
returns-in-Sign c =
    let wanted = sign c.args.wanted in
    let is = next_kind wanted c.args.tokens.now c.next-item.result c.in-len1-up.len_at_least c.next-item.is in
    c.eq.ensures ∙ same_sign c.in-Sign.found c.args.wanted ∙ sym (is ∙ ap (λ k. has wanted (kind_number k)) c.in-Sign.is)
