-- The tokens at which breaches are told: the first of an expression, and the last of what stands before a bracket.
use Rattle.dpl_syntax.specs.declared.place.Place.{Place}
use Rattle.std.specs.Prelude.{unwrap_or}
use Rattle.dpl_language.specs.Tree.{ExprTree, Number, TruthWord, Named, LocalesWord, LocaleCount, HereWord, Grouped, DomainLiteral, Prefixed, Reduced, Chain, Postfixed, ItemTree, One, RangeItem, Links, NoLinks, Link, Posts, NoPosts, Post, PostTree, Brackets, Rounds, Dotted, MethodTree, Plainly, Dim, Contains, Expand, CellRead}
use Rattle.dpl_language.specs.Tree.{DeclareTree, VariablesTree, OneVariable, ManyVariables}

module _ {N : Type 0} where
  -- ---- first tokens
  abbrev pub first_of : ExprTree N → Place
  first_of (Number at n) = at
  first_of (TruthWord at b) = at
  first_of (Named x) = x.at
  first_of (LocalesWord at) = at
  first_of (LocaleCount at) = at
  first_of (HereWord at) = at
  first_of (Grouped from item upto) = from
  first_of (DomainLiteral from items upto) = from
  first_of (Prefixed at op e) = at
  first_of (Reduced at op word e) = at
  first_of (Chain e rest) = first_of e
  first_of (Postfixed e posts) = first_of e

  abbrev pub first_of_item : ItemTree N → Place
  first_of_item (One e) = first_of e
  first_of_item (RangeItem low at dots high by) = first_of low

  abbrev pub first_of_variables : VariablesTree N → Place
  first_of_variables (OneVariable x) = x.at
  first_of_variables (ManyVariables from xs upto) = from

  -- a declaration begins with `config`, if it has it
  abbrev pub first_of_declaration : DeclareTree N → Place
  first_of_declaration d = unwrap_or d.config d.at

  -- ---- last tokens
  abbrev pub last_of_method : MethodTree N → Place
  last_of_method (Plainly at w) = at
  last_of_method (Dim at from rank_at d upto) = upto
  last_of_method (Contains at from es upto) = upto
  last_of_method (Expand at from e upto) = upto
  last_of_method (CellRead at w from upto) = upto

  abbrev pub last_of_post : PostTree N → Place
  last_of_post (Brackets from items upto) = upto
  last_of_post (Rounds from es upto) = upto
  last_of_post (Dotted dot m) = last_of_method m

  abbrev pub last_of_posts : Place → Posts N → Place
  last_of_posts last NoPosts = last
  last_of_posts last (Post p rest) = last_of_posts (last_of_post p) rest

  -- what isn't listed is one token
  abbrev mutual
    pub last_of : ExprTree N → Place
    last_of (Grouped from item upto) = upto
    last_of (DomainLiteral from items upto) = upto
    last_of (Prefixed at op e) = last_of e
    last_of (Reduced at op word e) = last_of e
    last_of (Chain e rest) = last_of_links (last_of e) rest
    last_of (Postfixed e posts) = last_of_posts (last_of e) posts
    last_of e = first_of e

    pub last_of_links : Place → Links N → Place
    last_of_links last NoLinks = last
    last_of_links last (Link at op e rest) = last_of_links (last_of e) rest
