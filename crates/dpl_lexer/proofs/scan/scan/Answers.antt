-- A word was found as its part says.
use Rattle.std.proofs.Common.{◌≡◌, get_or, true}
use Rattle.dpl_syntax.specs.Text.{is_letter}
use Rattle.dpl_lexer.proofs.Scans.{word_found}
use Rattle.dpl_lexer.proofs.scan.scan.Goals as goal

pub returns-then-is_letter-clause-ok : goal.returns-then-is_letter-clause-ok
returns-then-is_letter-clause-ok c =
    let letter : is_letter (get_or c.args.bytes.now 0 0) ≡ true = cc in
    word_found c.args.bytes.now c.word_len.result c.requires.some c.word_len.ensures.within letter c.word_len.ensures.all c.word_len.ensures.ended
