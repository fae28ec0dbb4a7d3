-- Each turn reads one piece of a gap or one token more.
use Rattle.std.proofs.Common.{◌≡◌, take, ap, subst, ◌∙◌, arith}
use Rattle.dpl_syntax.specs.Text.{after, start, IsLexeme}
use Rattle.dpl_lexer.proofs.Steps.{skips_one, takes_one}
use Rattle.dpl_lexer.proofs.lexer.tokens_of.Goals as goal

pub tokens-preserved-in-Some : goal.tokens-preserved-in-Some
tokens-preserved-in-Some c =
    let found = c.in-Some.ensures.some in
    let len = c.in-Some.len in
    let rest = c.tokens.rest.now in
    let place : c.after-at.result ≡ after c.tokens.at (take len rest) = c.after-at.ensures.is ∙ ap (after c.tokens.at) c.split_at.ensures.front in
    record {
      so_far = rw (place, c.split_at.ensures.back) (skips_one c.tokens.tokens.items start c.tokens.at c.args.text.now rest len found.piece c.tokens.invariant.so_far);
      line_in = omega (arith, found.some, found.within);
      column_in = omega (arith, found.some, found.within);
    }

pub tokens-preserved : goal.tokens-preserved
tokens-preserved c =
    let found = c.in-Ok.ensures.ok in
    let len = c.in-Ok.found.len in
    let rest = c.tokens.rest.now in
    let place : c.after-at-in-Ok.result ≡ after c.tokens.at (take len rest) = c.after-at-in-Ok.ensures.is ∙ ap (after c.tokens.at) c.split_at-in-Ok.ensures.front in
    let spelled : IsLexeme c.kind_of-kind.result (take len rest) = subst (IsLexeme c.kind_of-kind.result) c.split_at-in-Ok.ensures.front c.kind_of-kind.ensures in
    record {
      so_far = rw (place, c.split_at-in-Ok.ensures.back, c.in_ok-push-in-Ok.ensures.items) (takes_one c.tokens.tokens.items start c.tokens.at c.args.text.now rest len c.kind_of-kind.result spelled found.ends c.tokens.invariant.so_far);
      line_in = omega (arith, found.some);
      column_in = omega (arith, found.some);
    }
