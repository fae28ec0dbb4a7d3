-- An expression with nothing behind it, as a base: it does what it does by itself.
-- The base is on the left side.
use Rattle.std.proofs.Common.{◌≡◌, refl}
use Rattle.dpl_language.specs.Tree.{ExprTree, Grouped, ItemTree, One, NoPosts}
use Rattle.dpl_language.specs.Names.{Text}
use Rattle.dpl_language.specs.Phrases.{base_of, item_base}
use Rattle.dpl_rules.specs.Sights.{Scopes}
use Rattle.dpl_rules.specs.Deeds.{base_deeds, expr_deeds, item_deeds}

mutual
  pub base_alone : (ss : Scopes) (e : ExprTree Text) → base_deeds ss (base_of e) NoPosts (expr_deeds ss e) ≡ expr_deeds ss e
  base_alone ss (Grouped from item upto) = item_alone ss item
  base_alone ss _ = refl

  item_alone : (ss : Scopes) (i : ItemTree Text) → base_deeds ss (item_base i) NoPosts (item_deeds ss i) ≡ item_deeds ss i
  item_alone ss (One e) = base_alone ss e
  item_alone ss _ = refl
