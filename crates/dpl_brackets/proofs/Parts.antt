-- One, two or three parts of a form, as the list of trees that they stand for.
-- Each lemma on lists has the list of parts on its left side.
use Rattle.std.proofs.Common.{◌≡◌, ℕ, suc, ◌<◌, ◌≤◌, Bool, true, Bor, List, [], ◌∷◌, length, get_or, map, Option, Some, None, refl, sym, ap, subst, ◌∙◌, arith}
use Rattle.dpl_language.specs.Tree.{ExprTree, ItemTree, One, Items, FirstItem, NoItems, NextItem, Exprs, FirstExpr, NoExprs, NextExpr}
use Rattle.dpl_lowered.specs.Shapes.{nowhere}
use Rattle.dpl_memory.specs.Memory.{Variable}
use Rattle.dpl_nodes.specs.Typed.{items_one, items_two, items_three, exprs_one, exprs_two, exprs_three, int_view, domain_view}
use Rattle.dpl_nodes.specs.declared.tree.DomainExpr.{DomainExpr}
use Rattle.dpl_nodes.specs.declared.tree.IntExpr.{IntExpr}
use Rattle.dpl_rules.specs.Types.{Tuple}
use Rattle.std.proofs.lemmas.Option.{none-some}
use Rattle.dpl_typed.specs.declared.typed.Typed.{Typed}
use Rattle.dpl_typed.specs.declared.part.Part.{Part as PartNode}
use Rattle.dpl_typed.specs.declared.typed.Typed.TheVariants as typed
use Rattle.dpl_typed.specs.Typed.{type_of_typed, types_of, part_view, is_rank, is_tuple_rank, has_node}
use Rattle.dpl_typed.specs.Stands.{IsArgument, IsItem, AreArguments, AreItems}

-- ---- lists of a length
pub list-one : (ps : List PartNode) (a : PartNode) → 1 ≤ length ps → length ps < 2 → a ≡ get_or ps 0 a → ps ≡ a ∷ []
list-one [] a l h e = absurd (omega (arith, l))
list-one (p ∷ []) a l h e = ap (λ (q : PartNode). q ∷ []) (sym e)
list-one (p ∷ q ∷ ps) a l h e = absurd (omega (arith, h))

pub list-two : (ps : List PartNode) (a b : PartNode) → 2 ≤ length ps → length ps < 3 → a ≡ get_or ps 0 a → b ≡ get_or ps 1 b → ps ≡ a ∷ b ∷ []
list-two [] a b l h e f = absurd (omega (arith, l))
list-two (p ∷ []) a b l h e f = absurd (omega (arith, l))
list-two (p ∷ q ∷ []) a b l h e f = ap (λ (x : PartNode). x ∷ q ∷ []) (sym e) ∙ ap (λ (x : PartNode). a ∷ x ∷ []) (sym f)
list-two (p ∷ q ∷ r ∷ ps) a b l h e f = absurd (omega (arith, h))

pub list-three : (ps : List PartNode) (a b c : PartNode) → 3 ≤ length ps → length ps < 4 → a ≡ get_or ps 0 a → b ≡ get_or ps 1 b → c ≡ get_or ps 2 c → ps ≡ a ∷ b ∷ c ∷ []
list-three [] a b c l h e f g = absurd (omega (arith, l))
list-three (p ∷ []) a b c l h e f g = absurd (omega (arith, l))
list-three (p ∷ q ∷ []) a b c l h e f g = absurd (omega (arith, l))
list-three (p ∷ q ∷ r ∷ []) a b c l h e f g =
    ap (λ (x : PartNode). x ∷ q ∷ r ∷ []) (sym e) ∙ ap (λ (x : PartNode). a ∷ x ∷ r ∷ []) (sym f) ∙ ap (λ (x : PartNode). a ∷ b ∷ x ∷ []) (sym g)
list-three (p ∷ q ∷ r ∷ s ∷ ps) a b c l h e f g = absurd (omega (arith, h))

-- ---- an int
pub int-item : (o : Option Typed) (x : Bor IntExpr) → o ≡ Some (typed.Int x) → (i : ItemTree Variable) → IsItem o i → One (int_view x.now) ≡ i
int-item o x e i h = (subst (λ o. IsItem o i) e h).0

pub int-argument : (o : Option Typed) (x : Bor IntExpr) → o ≡ Some (typed.Int x) → (i : ExprTree Variable) → IsArgument o i → int_view x.now ≡ i
int-argument o x e i h = (subst (λ o. IsArgument o i) e h).0

-- ---- items: where each part is as an item, so are all
pub items-of-one : (a : PartNode) (x : ItemTree Variable) (is : Items Variable) → ((i : ItemTree Variable) → IsItem a.found i → x ≡ i) → AreItems (a ∷ []) is → items_one x ≡ is
items-of-one a x (FirstItem i NoItems) e h = ap items_one (e i h.0)
items-of-one a x (FirstItem i (NextItem c j more)) e h = absurd h.1

pub items-of-two : (a b : PartNode) (x y : ItemTree Variable) (is : Items Variable) → ((i : ItemTree Variable) → IsItem a.found i → x ≡ i) → ((i : ItemTree Variable) → IsItem b.found i → y ≡ i)
    → AreItems (a ∷ b ∷ []) is → items_two x y ≡ is
items-of-two a b x y (FirstItem i NoItems) e f h = absurd h.1
items-of-two a b x y (FirstItem i (NextItem c j NoItems)) e f h =
    ap (λ z. items_two z y) (e i h.0) ∙ ap (λ z. items_two i z) (f j h.1.1) ∙ ap (λ z. FirstItem i (NextItem z j NoItems)) (sym h.1.0)
items-of-two a b x y (FirstItem i (NextItem c j (NextItem d k more))) e f h = absurd h.1.2

pub items-of-three : (a b c : PartNode) (x y z : ItemTree Variable) (is : Items Variable) → ((i : ItemTree Variable) → IsItem a.found i → x ≡ i) → ((i : ItemTree Variable) → IsItem b.found i → y ≡ i)
    → ((i : ItemTree Variable) → IsItem c.found i → z ≡ i) → AreItems (a ∷ b ∷ c ∷ []) is → items_three x y z ≡ is
items-of-three a b c x y z (FirstItem i NoItems) e f g h = absurd h.1
items-of-three a b c x y z (FirstItem i (NextItem d j NoItems)) e f g h = absurd h.1.2
items-of-three a b c x y z (FirstItem i (NextItem d j (NextItem m k NoItems))) e f g h =
    ap (λ w. items_three w y z) (e i h.0) ∙ ap (λ w. items_three i w z) (f j h.1.1) ∙ ap (λ w. items_three i j w) (g k h.1.2.1)
    ∙ ap (λ w. FirstItem i (NextItem w j (NextItem nowhere k NoItems))) (sym h.1.0) ∙ ap (λ w. FirstItem i (NextItem d j (NextItem w k NoItems))) (sym h.1.2.0)
items-of-three a b c x y z (FirstItem i (NextItem d j (NextItem m k (NextItem n l more)))) e f g h = absurd h.1.2.2

-- ---- arguments
pub exprs-of-one : (a : PartNode) (x : ExprTree Variable) (es : Exprs Variable) → ((i : ExprTree Variable) → IsArgument a.found i → x ≡ i) → AreArguments (a ∷ []) es → exprs_one x ≡ es
exprs-of-one a x (FirstExpr i NoExprs) e h = ap exprs_one (e i h.0)
exprs-of-one a x (FirstExpr i (NextExpr c j more)) e h = absurd h.1

pub exprs-of-two : (a b : PartNode) (x y : ExprTree Variable) (es : Exprs Variable) → ((i : ExprTree Variable) → IsArgument a.found i → x ≡ i) → ((i : ExprTree Variable) → IsArgument b.found i → y ≡ i)
    → AreArguments (a ∷ b ∷ []) es → exprs_two x y ≡ es
exprs-of-two a b x y (FirstExpr i NoExprs) e f h = absurd h.1
exprs-of-two a b x y (FirstExpr i (NextExpr c j NoExprs)) e f h =
    ap (λ z. exprs_two z y) (e i h.0) ∙ ap (λ z. exprs_two i z) (f j h.1.1) ∙ ap (λ z. FirstExpr i (NextExpr z j NoExprs)) (sym h.1.0)
exprs-of-two a b x y (FirstExpr i (NextExpr c j (NextExpr d k more))) e f h = absurd h.1.2

pub exprs-of-three : (a b c : PartNode) (x y z : ExprTree Variable) (es : Exprs Variable) → ((i : ExprTree Variable) → IsArgument a.found i → x ≡ i) → ((i : ExprTree Variable) → IsArgument b.found i → y ≡ i)
    → ((i : ExprTree Variable) → IsArgument c.found i → z ≡ i) → AreArguments (a ∷ b ∷ c ∷ []) es → exprs_three x y z ≡ es
exprs-of-three a b c x y z (FirstExpr i NoExprs) e f g h = absurd h.1
exprs-of-three a b c x y z (FirstExpr i (NextExpr d j NoExprs)) e f g h = absurd h.1.2
exprs-of-three a b c x y z (FirstExpr i (NextExpr d j (NextExpr m k NoExprs))) e f g h =
    ap (λ w. exprs_three w y z) (e i h.0) ∙ ap (λ w. exprs_three i w z) (f j h.1.1) ∙ ap (λ w. exprs_three i j w) (g k h.1.2.1)
    ∙ ap (λ w. FirstExpr i (NextExpr w j (NextExpr nowhere k NoExprs))) (sym h.1.0) ∙ ap (λ w. FirstExpr i (NextExpr d j (NextExpr w k NoExprs))) (sym h.1.2.0)
exprs-of-three a b c x y z (FirstExpr i (NextExpr d j (NextExpr m k (NextExpr n l more)))) e f g h = absurd h.1.2.2

-- ---- of the parts as their rule sees them
length-parts : (ps : List PartNode) → length (map part_view ps) ≡ length ps
length-parts [] = refl
length-parts (p ∷ ps) = ap (λ n. suc n) (length-parts ps)

pub few-parts : (ps : List PartNode) → length (map part_view ps) < 4 → length ps < 4
few-parts ps h = subst (λ n. n < 4) (length-parts ps) h

-- no tuple has one number alone
pub argument-tuple : (o : Option Typed) (e : ExprTree Variable) → IsArgument o e → (n : ℕ) → types_of o ≡ Some (Tuple n) → is_tuple_rank n ≡ true
argument-tuple None e h n same = absurd (none-some (Tuple n) same)
argument-tuple (Some t) e h n same =
    let is : type_of_typed t ≡ Tuple n = cc in
    ap has_node (sym is) ∙ h.1

-- one domain
pub domain-item : (a : PartNode) (rank : ℕ) (strided : Bool) (node : Bor DomainExpr) → a.found ≡ Some (typed.Domain rank strided node) → (is : Items Variable) → AreItems (a ∷ []) is
    → (is_rank rank ≡ true) × (items_one (One (domain_view node.now)) ≡ is)
domain-item a rank strided node e (FirstItem i NoItems) h =
    let item = subst (λ o. IsItem o i) e h.0 in
    (item.1, ap items_one item.0)
domain-item a rank strided node e (FirstItem i (NextItem c j more)) h = absurd h.1
