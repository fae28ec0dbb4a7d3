-- How lowered expressions look: brackets stand round ranges alone, and round no item.
-- So an expression and the item that it is are the same but for these brackets.
use Rattle.std.proofs.Common.{◌≡◌, Bool, true, false, refl, sym, ap, ◌∙◌}
use Rattle.std.specs.Prelude.{if◌then◌else◌}
use Rattle.dpl_syntax.specs.declared.place.Place.{Place}
use Rattle.dpl_language.specs.Tree.{ExprTree, Grouped, Chain, Postfixed, ItemTree, One, RangeItem, Links, NoLinks, Link, Posts, NoPosts, Post}
use Rattle.dpl_language.specs.Phrases.{base_of}
use Rattle.dpl_lowered.specs.Known.{Known}
use Rattle.dpl_lowered.specs.Shapes.{nowhere, as_expr, as_item, grouped, nests, nested, stacked_on, stacked}
use Rattle.dpl_lowered.specs.LoweredExpressions.{Times, Once, based, lowered_expr, lowered_item, lowered_links, lowered_posts}

module _ {N : Type 0} where
  abbrev pub IsBracketedRange : Place → ItemTree N → Place → Type 0
  IsBracketedRange from (One e) upto = ⊥
  IsBracketedRange from (RangeItem low at dots high by) upto = (from ≡ nowhere) × (upto ≡ nowhere)

  -- no brackets, but round a range
  abbrev pub IsFormed : ExprTree N → Type 0
  IsFormed (Grouped from item upto) = IsBracketedRange from item upto
  IsFormed _ = Unit {0}

  -- no brackets at all
  abbrev pub IsBare : ExprTree N → Type 0
  IsBare (Grouped from item upto) = ⊥
  IsBare _ = Unit {0}

  abbrev pub IsFormedItem : ItemTree N → Type 0
  IsFormedItem (One e) = IsBare e
  IsFormedItem (RangeItem low at dots high by) = Unit {0}

  bare-formed : (e : ExprTree N) → IsBare e → IsFormed e
  bare-formed (Grouped from item upto) b = absurd b
  bare-formed _ b = tt

  as_expr-formed : (i : ItemTree N) → IsFormedItem i → IsFormed (as_expr i)
  as_expr-formed (One e) b = bare-formed e b
  as_expr-formed (RangeItem low at dots high by) b = (refl, refl)

  as_item-formed : (e : ExprTree N) → IsFormed e → IsFormedItem (as_item e)
  as_item-formed (Grouped from (One e) upto) f = absurd f
  as_item-formed _ f = tt

  -- back and forth
  pub as_expr-as_item : (e : ExprTree N) → IsFormed e → as_expr (as_item e) ≡ e
  as_expr-as_item (Grouped from (One e) upto) f = absurd f
  as_expr-as_item (Grouped from (RangeItem low at dots high by) upto) f =
      sym (ap (λ from. Grouped from (RangeItem low at dots high by) upto) f.0 ∙ ap (Grouped nowhere (RangeItem low at dots high by)) f.1)
  as_expr-as_item _ f = refl

  as_item-bare : (e : ExprTree N) → IsBare e → as_item e ≡ One e
  as_item-bare (Grouped from item upto) b = absurd b
  as_item-bare _ b = refl

  pub as_item-as_expr : (i : ItemTree N) → IsFormedItem i → as_item (as_expr i) ≡ i
  as_item-as_expr (One e) b = as_item-bare e b
  as_item-as_expr (RangeItem low at dots high by) b = refl

  grouped-formed : (rest : Links N) (a : ExprTree N) (first : Links N) → IsFormed (grouped (Chain a first) rest)
  grouped-formed NoLinks a first = tt
  grouped-formed (Link at op e rest) a first = grouped-formed rest (Chain a first) (Link at op e NoLinks)

  nested-formed : (a : ExprTree N) (rest : Links N) → IsFormed (nested a rest)
  nested-formed a NoLinks = tt
  nested-formed a (Link at op e rest) = by_test (nests (Link at op e rest))
    where
      by_test : (b : Bool) → IsFormed (if b then grouped a (Link at op e rest) else Chain a (Link at op e rest))
      by_test true = grouped-formed rest a (Link at op e NoLinks)
      by_test false = tt

  stacked_on-formed : (posts : Posts N) (e : ExprTree N) (first : Posts N) → IsFormed (stacked_on (Postfixed e first) posts)
  stacked_on-formed NoPosts e first = tt
  stacked_on-formed (Post p rest) e first = stacked_on-formed rest (Postfixed e first) (Post p NoPosts)

  stacked-formed : (e : ExprTree N) (posts : Posts N) → IsFormed (stacked e posts)
  stacked-formed e NoPosts = tt
  stacked-formed e (Post p rest) = stacked_on-formed rest e (Post p NoPosts)

module _ {N : Type 0} (known : N → Known) where
  mutual
    pub lowered-formed : (m : Times) (e : ExprTree N) → IsFormed (lowered_expr known m e)
    lowered-formed m (Grouped from item upto) = as_expr-formed (lowered_item known m item) (item-formed m item)
    lowered-formed m (Chain e rest) = nested-formed (lowered_expr known m e) (lowered_links known m rest)
    lowered-formed m (Postfixed e posts) = stacked-formed (based known posts e (lowered_expr known Once e)) (lowered_posts known (base_of e) posts)
    lowered-formed m _ = tt

    pub item-formed : (m : Times) (i : ItemTree N) → IsFormedItem (lowered_item known m i)
    item-formed m (One e) = as_item-formed (lowered_expr known m e) (lowered-formed m e)
    item-formed m (RangeItem low at dots high by) = tt
