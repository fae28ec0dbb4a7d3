-- The rules of maps: what may stand behind `dmapped`, beside a domain of some rank.
-- C5 stands at the word of the map, before its opening bracket; where the domain has no type, its rank isn't asked.
use Rattle.std.specs.Prelude.{ℕ, ◌==◌, Bool, true, false, ◌&&◌, if◌then◌else◌, List, [], ◌∷◌, ◌++◌, length, option_and_then, Option, Some, None}
use Rattle.dpl_syntax.specs.declared.place.Place.{Place}
use Rattle.dpl_language.specs.Tree.{ExprTree, Postfixed, ItemTree, Posts, NoPosts, Post, PostTree, Dotted, Plainly, Low, LowBound, StartTree, StartExpr, StartTuple, MapTree, BlockMap, CyclicMap, BlockCyclicMap, MappedTree}
use Rattle.dpl_language.specs.Names.{Text}
use Rattle.dpl_language.specs.Phrases.{parts}
use Rattle.dpl_rules.specs.Types.{ValueType, domain_of, is_int}
use Rattle.dpl_syntax.specs.declared.refusal.Code.TheVariants.{WrongType, WrongRank}
use Rattle.dpl_syntax.specs.declared.refusal.Breach.{Breach}
use Rattle.dpl_rules.specs.Verdicts.{breach, owed, owed_type, where_given}
use Rattle.dpl_rules.specs.Places.{first_of, first_of_item}
use Rattle.dpl_rules.specs.Sights.{Scopes}
use Rattle.dpl_rules.specs.Deeds.{map_deeds, inner_reductions}
use Rattle.dpl_rules.specs.Expressions.{type_of, item_type, expr_breaches, item_breaches}

-- ---- `X.low` and `X.lowBound`, as the last that stands behind a base
pub record LowTree : Type 0 where
  pub of : ExprTree Text
  pub at : Place
  pub bound : Bool

abbrev pub post_low : PostTree Text → ExprTree Text → Option LowTree
post_low (Dotted dot (Plainly at Low)) e = Some (record { of = e; at = at; bound = false })
post_low (Dotted dot (Plainly at LowBound)) e = Some (record { of = e; at = at; bound = true })
post_low _ e = None

-- all but the last, and the last
abbrev pub front_of : Posts Text → Posts Text
front_of NoPosts = NoPosts
front_of (Post p NoPosts) = NoPosts
front_of (Post p (Post q rest)) = Post p (front_of (Post q rest))

abbrev pub posts_low : Posts Text → ExprTree Text → Option LowTree
posts_low NoPosts e = None
posts_low (Post p NoPosts) e = post_low p e
posts_low (Post p (Post q rest)) e = posts_low (Post q rest) e

abbrev pub low_of : ExprTree Text → Option LowTree
low_of (Postfixed e posts) = posts_low posts (Postfixed e (front_of posts))
low_of _ = None

-- ---- the rank of what is mapped, where it is known
abbrev pub owed_rank : Option ℕ → ℕ → Place → List Breach
owed_rank rank n word = where_given rank (λ rank. owed (n == rank) word WrongRank)

-- a domain of that rank
abbrev pub box_rank : Option ℕ → Place → Place → Option (ℕ × Bool) → List Breach
box_rank rank word at None = breach at WrongType
box_rank rank word at (Some d) = owed_rank rank d.0 word

abbrev pub box_of : Option ℕ → Place → Place → Option ValueType → List Breach
box_of rank word at t = where_given t (λ t. box_rank rank word at (domain_of t))

-- an int starts a map of rank 1
abbrev pub int_start : Option ℕ → Place → Place → Option ValueType → List Breach
int_start rank word at t = where_given t (λ t. if is_int t then owed_rank rank 1 word else breach at WrongType)

module _ (scopes : Scopes) where
  -- a box is a domain of the rank
  abbrev pub box_breaches : Option ℕ → Place → ItemTree Text → List Breach
  box_breaches rank word box = item_breaches scopes box ++ box_of rank word (first_of_item box) (item_type scopes box)

  abbrev pub plain_start : Option ℕ → Place → ExprTree Text → List Breach
  plain_start rank word e = expr_breaches scopes e ++ int_start rank word (first_of e) (type_of scopes e)

  -- `X.low` of a domain X of the rank starts a map; `X.lowBound` only where X is unstrided
  abbrev pub domain_start : Option ℕ → Place → ExprTree Text → LowTree → Option (ℕ × Bool) → List Breach
  domain_start rank word e l None = plain_start rank word e
  domain_start rank word e l (Some d) =
      expr_breaches scopes l.of ++ (if l.bound && d.1 then breach l.at WrongType else owed_rank rank d.0 word)

  abbrev pub low_start : Option ℕ → Place → ExprTree Text → Option LowTree → List Breach
  low_start rank word e None = plain_start rank word e
  low_start rank word e (Some l) = domain_start rank word e l (option_and_then domain_of (type_of scopes l.of))

  -- a tuple of ints, as many as the rank
  abbrev pub int_breaches : List (ExprTree Text) → List Breach
  int_breaches [] = []
  int_breaches (e ∷ es) = expr_breaches scopes e ++ owed_type is_int (first_of e) (type_of scopes e) ++ int_breaches es

  abbrev pub start_breaches : Option ℕ → Place → StartTree Text → List Breach
  start_breaches rank word (StartExpr e) = low_start rank word e (low_of e)
  start_breaches rank word (StartTuple from es upto) = int_breaches (parts es) ++ owed_rank rank (length (parts es)) word

  abbrev pub map_breaches : Option ℕ → MapTree Text → List Breach
  map_breaches rank (BlockMap m) = box_breaches rank m.word m.box
  map_breaches rank (CyclicMap m) = start_breaches rank m.word m.start
  map_breaches rank (BlockCyclicMap m) = start_breaches rank m.word m.start ++ start_breaches rank m.word m.size

  -- its arguments hold no reduction (C9)
  abbrev pub mapped_breaches : Option ℕ → Option (MappedTree Text) → List Breach
  mapped_breaches rank mapped = where_given mapped (λ m. map_breaches rank m.map ++ inner_reductions (map_deeds scopes m.map))
