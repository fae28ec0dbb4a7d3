-- Rules that break nothing are met: what a map's box and start are, where nothing was told.
-- Each lemma is stated of what is found, by its type.
use Rattle.std.proofs.Common.{◌≡◌, ℕ, ◌<◌, ◌==◌, Bool, true, false, if◌then◌else◌, List, [], Option, Some, None, refl, sym, subst, ◌∙◌, arith}
use Rattle.std.specs.Prelude.{nat_lt, is_some}
use Rattle.std.proofs.lemmas.Bool.Decides.{nat_tests}
use Rattle.std.proofs.lemmas.Option.{none-some}
use Rattle.dpl_syntax.specs.declared.place.Place.{Place}
use Rattle.dpl_syntax.specs.declared.refusal.Breach.{Breach}
use Rattle.dpl_syntax.specs.declared.refusal.Code.TheVariants.{WrongType, WrongRank}
use Rattle.dpl_language.specs.Names.{Text}
use Rattle.dpl_language.specs.Tree.{ExprTree, ItemTree, StartExpr}
use Rattle.dpl_rules.specs.Types.{ValueType, has, is_int, is_domain, domain_of}
use Rattle.dpl_rules.specs.Verdicts.{breach, owed}
use Rattle.dpl_rules.specs.Breaches.{least_from}
use Rattle.dpl_rules.specs.Sights.{Scopes}
use Rattle.dpl_rules.specs.Expressions.{type_of, item_type, expr_breaches, item_breaches}
use Rattle.dpl_rules.specs.Maps.{owed_rank, box_rank, box_of, int_start}
use Rattle.dpl_sound.proofs.Known.{IsTyped}
use Rattle.dpl_lowered.specs.LoweredExpressions.{Once}
use Rattle.dpl_nodes.specs.declared.placing.StartExpr.{StartExpr as StartNode}
use Rattle.dpl_nodes.specs.declared.tree.DomainExpr.{DomainExpr}
use Rattle.std.specs.Borrow.{Bor}
use Rattle.dpl_types.proofs.Unbroken.{unbroken, owed-holds, both-hold}
use Rattle.dpl_typed.specs.declared.typed.Typed.{Typed}
use Rattle.dpl_typed.specs.Leaves.{IsFound}
use Rattle.dpl_typed.specs.Lowered.{leaves_of, item_leaves}
use Rattle.dpl_typed.specs.Simple.{IsSimple, IsSimpleItem}
use Rattle.dpl_typed.specs.Stands.{IsArgument, IsItem}
use Rattle.dpl_typed.specs.Typed.{types_of}
use Rattle.dpl_mapped.specs.Named.{IsKnownRank}
use Rattle.dpl_mapped.specs.Made.{IsBox, IsBoxAs, IsIntStart, IsStartAs}
use Rattle.dpl_mapped.proofs.Typed.{expr-typed, item-typed}

-- a test that holds doesn't fail
pub unfailed : (b : Bool) → b ≡ true → b ≡ false → ⊥
unfailed b e f = let g : true ≡ false = sym e ∙ f in cc

-- ---- ranks
few : (n k : ℕ) → (n == k) ≡ true → nat_lt k 4 ≡ true → n < 4
few n k e f = grind (arith, nat_tests)

pub rank-few : (rank : Option ℕ) (n : ℕ) (word : Place) → IsKnownRank rank → owed_rank rank n word ≡ [] → n < 4
rank-few rank n word known h =
    let same : owed (n == known.0) word WrongRank ≡ [] = subst (λ r. owed_rank r n word ≡ []) known.1 h in
    few n known.0 (owed-holds (n == known.0) word WrongRank same) (both-hold (nat_lt 0 known.0) (nat_lt known.0 4) known.2).1

-- ---- an int, and a domain
if-holds : (b : Bool) (bs : List Breach) (at : Place) → (if b then bs else breach at WrongType) ≡ [] → b ≡ true
if-holds true bs at h = refl
if-holds false bs at h = absurd cc

pub int-met : (rank : Option ℕ) (word at : Place) (o : Option ValueType) → IsTyped o → int_start rank word at o ≡ [] → has is_int o ≡ true
int-met rank word at None typed h = absurd (none-some typed.0 typed.1)
int-met rank word at (Some t) typed h = if-holds (is_int t) (owed_rank rank 1 word) at h

box_rank-met : (rank : Option ℕ) (word at : Place) (d : Option (ℕ × Bool)) → box_rank rank word at d ≡ [] → is_some d ≡ true
box_rank-met rank word at None h = absurd cc
box_rank-met rank word at (Some d) h = refl

box-met : (rank : Option ℕ) (word at : Place) (o : Option ValueType) → IsTyped o → box_of rank word at o ≡ [] → has is_domain o ≡ true
box-met rank word at None typed h = absurd (none-some typed.0 typed.1)
box-met rank word at (Some t) typed h = box_rank-met rank word at (domain_of t) h

-- ---- what is made of what was found
int-made : (ss : Scopes) (e : ExprTree Text) (found : Option Typed) (r : Option StartNode) → has is_int (types_of found) ≡ true → IsArgument found (leaves_of ss Once e) → IsIntStart found r → IsStartAs ss (StartExpr e) r
int-made ss e found None is node made = unfailed (has is_int (types_of found)) is made
int-made ss e found (Some s) is node made = made (leaves_of ss Once e) node

pub plain-made : (ss : Scopes) (rank : Option ℕ) (word at : Place) (e : ExprTree Text) (found : Option Typed) (r : Option StartNode) (o p q : Option Breach) → types_of found ≡ type_of ss e
    → p ≡ least_from o (expr_breaches ss e) → q ≡ least_from p (int_start rank word at (types_of found)) → q ≡ None → IsSimple (IsFound ss) e → IsArgument found (leaves_of ss Once e) → IsIntStart found r
    → IsStartAs ss (StartExpr e) r
plain-made ss rank word at e found r o p q typed told starts none simple node made =
    let start = unbroken p (int_start rank word at (types_of found)) (sym starts ∙ none) in
    let own = unbroken o (expr_breaches ss e) (sym told ∙ start.0) in
    let type = subst IsTyped (sym typed) (expr-typed ss e simple own.1) in
    int-made ss e found r (int-met rank word at (types_of found) type start.1) node made

box-as : (ss : Scopes) (i : ItemTree Text) (found : Option Typed) (r : Option (Bor DomainExpr)) → has is_domain (types_of found) ≡ true → IsItem found (item_leaves ss Once i) → IsBox found r → IsBoxAs ss i r
box-as ss i found None is node made = unfailed (has is_domain (types_of found)) is made
box-as ss i found (Some d) is node made = made (item_leaves ss Once i) node

pub box-made : (ss : Scopes) (rank : Option ℕ) (word at : Place) (i : ItemTree Text) (found : Option Typed) (r : Option (Bor DomainExpr)) (o p q : Option Breach) → types_of found ≡ item_type ss i
    → p ≡ least_from o (item_breaches ss i) → q ≡ least_from p (box_of rank word at (types_of found)) → q ≡ None → IsSimpleItem (IsFound ss) i → IsItem found (item_leaves ss Once i) → IsBox found r
    → IsBoxAs ss i r
box-made ss rank word at i found r o p q typed told boxes none simple node made =
    let box = unbroken p (box_of rank word at (types_of found)) (sym boxes ∙ none) in
    let own = unbroken o (item_breaches ss i) (sym told ∙ box.0) in
    let type = subst IsTyped (sym typed) (item-typed ss i simple own.1) in
    box-as ss i found r (box-met rank word at (types_of found) type box.1) node made
