-- What a typed expression stands for, in other words: as another tree that is the same, as an item and as an expression, and once.
-- The brackets round a range with bounds come and go. And what follows of what a call gave, where it gave something.
use Rattle.std.proofs.Common.{◌≡◌, Option, Some, None, Result, Ok, Err, refl, ap, subst, ◌∙◌}
use Rattle.std.specs.Prelude.{IfOk, OnOk}
use Rattle.dpl_language.specs.Tree.{ExprTree, ItemTree}
use Rattle.dpl_lowered.specs.Shapes.{as_expr, as_item}
use Rattle.dpl_lowered.specs.LoweredExpressions.{Times, Once}
use Rattle.dpl_memory.specs.Memory.{Variable}
use Rattle.dpl_nodes.proofs.Items.{int_view-item, truth_view-item, range_view-item, range_item-view, domain_view-item, promoted_int-item, promoted_truth-item}
use Rattle.dpl_typed.specs.declared.typed.Typed.{Typed}
use Rattle.dpl_typed.specs.declared.typed.Typed.TheVariants.{Int, Truth, Range, Domain, Ints, Truths}
use Rattle.dpl_typed.specs.Typed.{type_of_typed, typed_view, typed_item, has_node}
use Rattle.dpl_typed.specs.Stands.{StandsFor, StandsForItem, IsArgument, IsItem}

pub typed_view-item : (m : Times) (t : Typed) → typed_view m t ≡ as_expr (typed_item m t)
typed_view-item m (Range strided e) = range_view-item e.now
typed_view-item m _ = refl

pub typed_item-view : (m : Times) (t : Typed) → typed_item m t ≡ as_item (typed_view m t)
typed_item-view m (Int e) = int_view-item e.now
typed_item-view m (Truth e) = truth_view-item e.now
typed_item-view m (Range strided e) = range_item-view e.now
typed_item-view m (Domain rank strided e) = domain_view-item e.now
typed_item-view m (Ints over e) = promoted_int-item m e.now
typed_item-view m (Truths over e) = promoted_truth-item m e.now
typed_item-view m _ = refl

pub stands-same : (r : Option Typed) (f g : Times → ExprTree Variable) → ((m : Times) → f m ≡ g m) → StandsFor r f → StandsFor r g
stands-same None f g e h = tt
stands-same (Some t) f g e h = (λ m. h.0 m ∙ e m, h.1)

-- what has the same view and type stands for the same
pub stands-alike : (found : Option Typed) (t r : Typed) → found ≡ Some t → ((m : Times) → typed_view m r ≡ typed_view m t) → type_of_typed r ≡ type_of_typed t
    → (f : Times → ExprTree Variable) → StandsFor found f → StandsFor (Some r) f
stands-alike found t r is same typed f h =
    let s = subst (λ x. StandsFor x f) is h in
    (λ m. same m ∙ s.0 m, ap has_node typed ∙ s.1)

pub item-same : (r : Option Typed) (f g : Times → ItemTree Variable) → ((m : Times) → f m ≡ g m) → StandsForItem r f → StandsForItem r g
item-same None f g e h = tt
item-same (Some t) f g e h = (λ m. h.0 m ∙ e m, h.1)

pub stands-item : (r : Option Typed) (f : Times → ExprTree Variable) → StandsFor r f → StandsForItem r (λ m. as_item (f m))
stands-item None f h = tt
stands-item (Some t) f h = (λ m. typed_item-view m t ∙ ap as_item (h.0 m), h.1)

pub stands-expr : (r : Option Typed) (f : Times → ItemTree Variable) → StandsForItem r f → StandsFor r (λ m. as_expr (f m))
stands-expr None f h = tt
stands-expr (Some t) f h = (λ m. typed_view-item m t ∙ ap as_expr (h.0 m), h.1)

-- a part, which is evaluated once
pub stands-argument : (r : Option Typed) (f : Times → ExprTree Variable) → StandsFor r f → IsArgument r (f Once)
stands-argument None f h = tt
stands-argument (Some t) f h = (h.0 Once, h.1)

pub item-once : (r : Option Typed) (f : Times → ItemTree Variable) → StandsForItem r f → IsItem r (f Once)
item-once None f h = tt
item-once (Some t) f h = (h.0 Once, h.1)

pub argument-item : (r : Option Typed) (e : ExprTree Variable) → IsArgument r e → IsItem r (as_item e)
argument-item None e h = tt
argument-item (Some t) e h = (typed_item-view Once t ∙ ap as_item h.0, h.1)

-- what is found holds of what a call gave
pub if_ok : {A E : Type 0} {P Q : A → Type 0} (r : Result A E) → ((a : A) → P a → Q a) → IfOk r P → IfOk r Q
if_ok (Ok a) f p = f a p
if_ok (Err e) f p = tt

pub if_both : {A E : Type 0} {P Q R : A → Type 0} (r : Result A E) → ((a : A) → P a → Q a → R a) → IfOk r P → IfOk r Q → IfOk r R
if_both (Ok a) f p q = f a p q
if_both (Err e) f p q = tt

-- what follows where a call gave something, from what holds there, from two such, and from nothing
pub on_ok : {A E P Q : Type 0} (r : Result A E) → (P → Q) → OnOk r P → OnOk r Q
on_ok (Ok a) f p = f p
on_ok (Err e) f p = tt

pub on_both : {A E P Q R : Type 0} (r : Result A E) → (P → Q → R) → OnOk r P → OnOk r Q → OnOk r R
on_both (Ok a) f p q = f p q
on_both (Err e) f p q = tt

pub on_any : {A E P : Type 0} (r : Result A E) → P → OnOk r P
on_any (Ok a) p = p
on_any (Err e) p = tt
