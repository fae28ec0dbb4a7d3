-- A sign, or what keeps the text from being read on.
use Rattle.std.proofs.Common.{◌≡◌, true, false}
use Rattle.dpl_syntax.specs.Gaps.{opens_block}
use Rattle.dpl_lexer.proofs.Scans.{sign_found, opens_none, block_unended, bad_byte}
use Rattle.dpl_lexer.proofs.scan.signed.Goals as goal

pub returns-then-begins_with-clause-err : goal.returns-then-begins_with-clause-err
returns-then-begins_with-clause-err c =
    let opens : opens_block c.args.bytes.now ≡ true = cc in
    block_unended c.args.bytes.now c.requires.dark opens

pub returns-in-Some-clause-ok : goal.returns-in-Some-clause-ok
returns-in-Some-clause-ok c =
    let not : opens_block c.args.bytes.now ≡ false = cc in
    sign_found c.args.bytes.now c.in-Some.sign c.sign_len.result c.sign_len.ensures (opens_none c.args.bytes.now c.requires.dark not) c.in-Some.ensures

pub returns-in-None-clause-err : goal.returns-in-None-clause-err
returns-in-None-clause-err c = bad_byte c.args.bytes.now c.requires.dark c.requires.bare c.in-None.ensures
