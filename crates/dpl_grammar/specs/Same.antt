-- Languages that are the same: they have the same spellings and the same fronts.
use Rattle.std.specs.Prelude.{List}
use Rattle.dpl_syntax.specs.declared.token.Token.{Token}
use Rattle.dpl_grammar.specs.Language.{Language}

pub record Same {T : Type 0} (L M : Language T) : Type 0 where
  pub there : (u : List Token) (x : T) → L.Spells u x → M.Spells u x
  pub back : (u : List Token) (x : T) → M.Spells u x → L.Spells u x
  pub front_there : (u : List Token) → L.Front u → M.Front u
  pub front_back : (u : List Token) → M.Front u → L.Front u
