-- The next token is of the class, if it is the one that is wanted.
-- These are the answers to the goals of `is_keyword`.
use Rattle.std.proofs.Common.{◌∙◌, sym, ap}
use Rattle.dpl_grammar.specs.Numbers.{kind_number}
use Rattle.dpl_grammar.specs.Classes.{has, keyword}
use Rattle.dpl_expressions.proofs.Tokens.{next_kind, same_keyword}
use Rattle.dpl_expressions.proofs.token.is_keyword.Goals as goal

pub returns-in-Keyword : goal.returns-in-Keyword
returns-in-Keyword c =
    let wanted = keyword c.args.wanted in
    let is = next_kind wanted c.args.tokens.now c.next-item.result c.in-len1-up.len_at_least c.next-item.is in
    c.eq.ensures ∙ same_keyword c.in-Keyword.found c.args.wanted ∙ sym (is ∙ ap (λ k. has wanted (kind_number k)) c.in-Keyword.is)
