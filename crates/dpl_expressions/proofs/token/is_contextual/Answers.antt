-- The next token is of the class, if it is the one that is wanted.
-- These are the answers to the goals of `is_contextual`.
use Rattle.std.proofs.Common.{◌∙◌, sym, ap}
use Rattle.dpl_grammar.specs.Numbers.{kind_number}
use Rattle.dpl_grammar.specs.Classes.{has, contextual}
use Rattle.dpl_expressions.proofs.Tokens.{next_kind, same_contextual}
use Rattle.dpl_expressions.proofs.token.is_contextual.Goals as goal

pub returns-in-Contextual : goal.returns-in-Contextual
returns-in-Contextual c =
    let wanted = contextual c.args.wanted in
    let is = next_kind wanted c.args.tokens.now c.next-item.result c.in-len1-up.len_at_least c.next-item.is in
    c.eq.ensures ∙ same_contextual c.in-Contextual.found c.args.wanted ∙ sym (is ∙ ap (λ k. has wanted (kind_number k)) c.in-Contextual.is)
