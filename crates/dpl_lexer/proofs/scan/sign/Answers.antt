-- The sign at the front is of three bytes, or else of two, or else of one.
use Rattle.std.proofs.Common.{arith}
use Rattle.dpl_lexer.proofs.Scans.{no_sign_at_end, no_triple, one_byte, two_bytes, three_bytes_found}
use Rattle.dpl_lexer.proofs.scan.sign.Goals as goal

pub returns-then-begins_triple : goal.returns-then-begins_triple
returns-then-begins_triple c = three_bytes_found c.args.bytes.now cc

pub returns-in-empty : goal.returns-in-empty
returns-in-empty c = no_sign_at_end c.args.bytes.now c.in-empty.len_below

pub returns-in-len1 : goal.returns-in-len1
returns-in-len1 c = one_byte c.args.bytes.now c.single.result c.in-len1.len_at_least (no_triple c.args.bytes.now cc) (λ two. absurd (omega arith)) c.single.ensures.some c.single.ensures.none

pub returns-in-Some : goal.returns-in-Some
returns-in-Some c = two_bytes c.args.bytes.now c.in-Some.sign c.in-len2-up.len_at_least (no_triple c.args.bytes.now cc) c.in-Some.ensures.some

pub returns-in-None : goal.returns-in-None
returns-in-None c = one_byte c.args.bytes.now c.single-in-None.result (omega arith) (no_triple c.args.bytes.now cc) (λ two. c.in-None.ensures.none) c.single-in-None.ensures.some c.single-in-None.ensures.none
