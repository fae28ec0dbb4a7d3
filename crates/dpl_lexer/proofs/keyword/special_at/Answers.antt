-- An element within a list is the same whatever stands for one past its end.
use Rattle.std.proofs.lemmas.List.{get_or_default}
use Rattle.dpl_lexer.specs.Scan.{special_at}
use Rattle.dpl_lexer.specs.declared.keyword.TheConstants.{SPECIALS}
use Rattle.dpl_lexer.proofs.keyword.special_at.Goals as goal

pub returns : goal.returns
unfolding special_at
returns c = get_or_default SPECIALS c.args.place _ _ c.requires
