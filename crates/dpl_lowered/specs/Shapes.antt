-- How a lowered tree is put together: without brackets, each operator with two operands, each post behind a base of its own.
-- Where such a tree would mean something else, brackets and chains stay.
use Rattle.std.specs.Prelude.{Bool, true, false, not, ◌&&◌, ◌||◌, if◌then◌else◌, Option, Some, None, map}
use Rattle.dpl_syntax.specs.declared.place.Place.{Place}
use Rattle.dpl_language.specs.Tree.{Placed, AfterComma, Listed, Infix, ExprTree, Number, TruthWord, Named, LocalesWord, LocaleCount, HereWord, Grouped, DomainLiteral, Prefixed, Reduced, Chain, Postfixed, ItemTree, One, RangeItem, Links, NoLinks, Link, Posts, NoPosts, Post, Items, FirstItem, MoreItems, NoItems, NextItem, Exprs, FirstExpr, MoreExprs, NoExprs, NextExpr}
use Rattle.dpl_language.specs.Values.{Truth}
use Rattle.dpl_language.specs.Arithmetic.{decides}

-- PLACES
-- the place of a token that no fault tells
abbrev pub nowhere : Place
nowhere = record { line = 0; column = 0 }

-- a place, where a fault may tell it
abbrev pub kept : Bool → Place → Place
kept true at = at
kept false at = nowhere

-- a name, with its place where a fault may tell it
abbrev pub placed : {N : Type 0} → Bool → Placed N → Placed N
placed told x = record { at = kept told x.at; name = x.name }

abbrev pub unplaced : {N : Type 0} → Placed N → Placed N
unplaced x = record { at = nowhere; name = x.name }

-- a list with commas, of which each part is changed, and no comma's place is left
abbrev pub relisted : {A B : Type 0} → (A → B) → Listed A → Listed B
relisted {A} {B} change xs = record {
  first = change xs.first;
  others = map {A = AfterComma A} {B = AfterComma B} (λ x. record { comma = nowhere; part = change x.part }) xs.others;
}

-- BRACKETS
-- what stands in round brackets, as an expression: they stay round a range alone
abbrev pub as_expr : {N : Type 0} → ItemTree N → ExprTree N
as_expr (One e) = e
as_expr (RangeItem low at dots high by) = Grouped nowhere (RangeItem low at dots high by) nowhere

-- an expression as an item: there a range needs no brackets
abbrev pub as_item : {N : Type 0} → ExprTree N → ItemTree N
as_item (Number at n) = One (Number at n)
as_item (TruthWord at b) = One (TruthWord at b)
as_item (Named x) = One (Named x)
as_item (LocalesWord at) = One (LocalesWord at)
as_item (LocaleCount at) = One (LocaleCount at)
as_item (HereWord at) = One (HereWord at)
as_item (Grouped from item upto) = item
as_item (DomainLiteral from items upto) = One (DomainLiteral from items upto)
as_item (Prefixed at op e) = One (Prefixed at op e)
as_item (Reduced at op word e) = One (Reduced at op word e)
as_item (Chain e rest) = One (Chain e rest)
as_item (Postfixed e posts) = One (Postfixed e posts)

-- expressions as items
abbrev pub as_more_items : {N : Type 0} → MoreExprs N → MoreItems N
as_more_items NoExprs = NoItems
as_more_items (NextExpr comma e more) = NextItem comma (as_item e) (as_more_items more)

abbrev pub as_items : {N : Type 0} → Exprs N → Items N
as_items (FirstExpr e more) = FirstItem (as_item e) (as_more_items more)

-- Cell reads and bare names mean more where they stand by themselves than they do in brackets: `x = c.readFE();` reads the
-- cell, `writeln(A)` shows the array, `[D]` makes an array over D, and `c.readFE()` is a read of c. So brackets stay
-- where a phrase is seen in the lowered tree that isn't seen in the tree. The phrase that is seen in the tree goes
-- before the one in the lowered tree.
abbrev pub in_brackets : {B N : Type 0} → Option B → ExprTree N → ExprTree N
in_brackets None e = e
in_brackets (Some y) e = Grouped nowhere (One e) nowhere

abbrev pub hidden : {A B N : Type 0} → Option A → Option B → ExprTree N → ExprTree N
hidden None phrase e = in_brackets phrase e
hidden (Some x) phrase e = e

abbrev pub item_in_brackets : {B N : Type 0} → Option B → ItemTree N → ItemTree N
item_in_brackets None item = item
item_in_brackets (Some y) item = One (Grouped nowhere item nowhere)

abbrev pub hidden_item : {A B N : Type 0} → Option A → Option B → ItemTree N → ItemTree N
hidden_item None phrase item = item_in_brackets phrase item
hidden_item (Some x) phrase item = item

-- CHAINS
-- an operator between two operands
abbrev pub two : {N : Type 0} → ExprTree N → Place → Infix → ExprTree N → ExprTree N
two a at op b = Chain a (Link at op b NoLinks)

-- the operands so far, and the others: grouped to the left
abbrev pub grouped : {N : Type 0} → ExprTree N → Links N → ExprTree N
grouped a NoLinks = a
grouped a (Link at op b rest) = grouped (two a at op b) rest

-- what decides an operator decides the next one
abbrev pub passes_on : Infix → Infix → Bool
passes_on op next =
    (not (decides op (Truth false)) || decides next (Truth false))
    && (not (decides op (Truth true)) || decides next (Truth true))

abbrev pub all_pass_on : {N : Type 0} → Infix → Links N → Bool
all_pass_on op NoLinks = true
all_pass_on op (Link at next e rest) = passes_on op next && all_pass_on next rest

-- A value that decides an operator is that of the whole chain: `a && b + c` in one chain is false where a is, and
-- `(a && b) + c` is not. No text spells such a chain, nor one without an operator; each stays as it is.
abbrev pub nests : {N : Type 0} → Links N → Bool
nests NoLinks = false
nests (Link at op e rest) = all_pass_on op rest

-- a chain with two operands for each operator
abbrev pub nested : {N : Type 0} → ExprTree N → Links N → ExprTree N
nested a rest = if nests rest then grouped a rest else Chain a rest

-- POSTS
-- posts, each behind what stands before it: `A.domain.dim(0)` is `(A.domain).dim(0)`
abbrev pub stacked_on : {N : Type 0} → ExprTree N → Posts N → ExprTree N
stacked_on e NoPosts = e
stacked_on e (Post p rest) = stacked_on (Postfixed e (Post p NoPosts)) rest

-- no text spells a base without posts; it stays as it is
abbrev pub stacked : {N : Type 0} → ExprTree N → Posts N → ExprTree N
stacked e NoPosts = Postfixed e NoPosts
stacked e (Post p rest) = stacked_on (Postfixed e (Post p NoPosts)) rest
