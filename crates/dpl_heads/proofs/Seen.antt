-- Names of intents that were seen: those in a scope of their own are those of the list of the rule.
-- The rule asks only whether a name is among them.
use Rattle.std.proofs.Common.{◌≡◌, ◌<◌, ℕ, ◌+◌, Bool, true, false, not, ◌||◌, if◌then◌else◌, List, [], ◌∷◌, ◌++◌, length, drop, get_or, Option, Some, None, refl, sym, ap, ◌∙◌}
use Rattle.std.proofs.lemmas.List.{drop_more}
use Rattle.std.specs.Prelude.{bytes_eq}
use Rattle.dpl_syntax.specs.declared.refusal.Breach.{Breach}
use Rattle.dpl_syntax.specs.declared.refusal.Code.TheVariants.{NameTwice}
use Rattle.dpl_language.specs.Tree.{IntentTree, ReduceIntent, RefIntent}
use Rattle.dpl_language.specs.Names.{Text}
use Rattle.dpl_tree.specs.declared.statement.NextIntent.{NextIntent}
use Rattle.dpl_tree.specs.declared.statement.With.{With}
use Rattle.dpl_tree.specs.Declarations.{optional}
use Rattle.dpl_tree.specs.Statements.{intent_view, with_view}
use Rattle.dpl_rules.specs.Verdicts.{owed}
use Rattle.dpl_rules.specs.Sights.{Variable, Scopes, lookup, declared_here, origin_in}
use Rattle.dpl_rules.specs.Loops.{is_among, reduce_intent, ref_intent, intent_breaches, with_breaches}
use Rattle.dpl_rules.specs.Breaches.{least_from}
use Rattle.dpl_types.proofs.Breaches.{least_from_append}
use Rattle.dpl_heads.specs.Listed.{intents_in}
use Rattle.dpl_heads.specs.Seen.{see, named, intent_told, seen_told}
use Rattle.dpl_heads.proofs.Once.{declared_here_add}

abbrev Same : Scopes → List Text → Type 0
Same seen before = (x : Text) → declared_here seen x ≡ is_among x before

among_next : (x y : Text) (ys : List Text) → is_among x (y ∷ ys) ≡ (bytes_eq x y || is_among x ys)
among_next x y ys = by_test (bytes_eq x y)
  where
    by_test : (b : Bool) → (if b then true else is_among x ys) ≡ (b || is_among x ys)
    by_test true = refl
    by_test false = refl

same_next : (seen : Scopes) (before : List Text) (y : Text) → Same seen before → Same (see y seen) (y ∷ before)
same_next seen before y same = λ x.
    declared_here_add (record { origin = origin_in seen y; sort = Variable; type = None }) seen x
    ∙ ap (λ b. bytes_eq x y || b) (same x)
    ∙ sym (among_next x y before)

told_same : (scopes seen : Scopes) (before : List Text) (is : List (IntentTree Text)) → Same seen before → seen_told scopes seen is ≡ intent_breaches scopes before is
told_same scopes seen before [] same = refl
told_same scopes seen before (ReduceIntent at op word x ∷ is) same =
    ap (λ b. owed (not b) x.at NameTwice ++ reduce_intent op x.at (lookup scopes x.name) ++ seen_told scopes (see x.name seen) is) (same x.name)
    ∙ ap (λ bs. owed (not (is_among x.name before)) x.at NameTwice ++ reduce_intent op x.at (lookup scopes x.name) ++ bs) (told_same scopes (see x.name seen) (x.name ∷ before) is (same_next seen before x.name same))
told_same scopes seen before (RefIntent at x ∷ is) same =
    ap (λ b. owed (not b) x.at NameTwice ++ ref_intent x.at (lookup scopes x.name) ++ seen_told scopes (see x.name seen) is) (same x.name)
    ∙ ap (λ bs. owed (not (is_among x.name before)) x.at NameTwice ++ ref_intent x.at (lookup scopes x.name) ++ bs) (told_same scopes (see x.name seen) (x.name ∷ before) is (same_next seen before x.name same))

-- at first none was seen
pub seen_told_breaches : (scopes : Scopes) (is : List (IntentTree Text)) → seen_told scopes ([] ∷ []) is ≡ intent_breaches scopes [] is
seen_told_breaches scopes is = told_same scopes ([] ∷ []) [] is (λ x. refl)

pub intents_step : (scopes : Scopes) (xs : List NextIntent) (k : ℕ) (d : NextIntent) → k < length xs → (seen next : Scopes) (o p : Option Breach) →
    let i = intent_view (get_or xs k d).intent in
    next ≡ see (named i) seen → p ≡ least_from o (intent_told scopes seen i) →
    least_from p (seen_told scopes next (intents_in (drop (k + 1) xs))) ≡ least_from o (seen_told scopes seen (intents_in (drop k xs)))
intents_step scopes xs k d within seen next o p sees told =
    let i = intent_view (get_or xs k d).intent in
    let left = seen_told scopes (see (named i) seen) (intents_in (drop (k + 1) xs)) in
    rw (drop_more xs k d within) (
    ap (λ seen. least_from p (seen_told scopes seen (intents_in (drop (k + 1) xs)))) sees
    ∙ ap (λ q. least_from q left) told
    ∙ sym (least_from_append o (intent_told scopes seen i) left)
    )

-- the first intent, and then the others
pub intents_begin : (scopes : Scopes) (i : IntentTree Text) (is : List (IntentTree Text)) (seen next : Scopes) (o p q : Option Breach) →
    seen ≡ [] ∷ [] → next ≡ see (named i) seen → p ≡ least_from o (intent_told scopes seen i) → q ≡ least_from p (seen_told scopes next is) → q ≡ least_from o (intent_breaches scopes [] (i ∷ is))
intents_begin scopes i is seen next o p q none sees head rest =
    rest
    ∙ ap (λ p. least_from p (seen_told scopes next is)) head
    ∙ ap (λ next. least_from (least_from o (intent_told scopes seen i)) (seen_told scopes next is)) sees
    ∙ sym (least_from_append o (intent_told scopes seen i) (seen_told scopes (see (named i) seen) is))
    ∙ ap (λ seen. least_from o (seen_told scopes seen (i ∷ is))) none
    ∙ ap (least_from o) (seen_told_breaches scopes (i ∷ is))

-- a loop's intents, where there are some
pub intents_told : (ss : Scopes) (w : Option With) (v : With) (seen next : Scopes) (o p q : Option Breach) → w ≡ Some v → seen ≡ [] ∷ [] → next ≡ see (named (intent_view v.first)) seen
    → p ≡ least_from o (intent_told ss seen (intent_view v.first)) → q ≡ least_from p (seen_told ss next (intents_in v.others.now)) → q ≡ least_from o (with_breaches ss (optional with_view w))
intents_told ss w v seen next o p q is none sees head rest =
    intents_begin ss (intent_view v.first) (intents_in v.others.now) seen next o p q none sees head rest
    ∙ ap (λ (w : Option With). least_from o (with_breaches ss (optional with_view w))) (sym is)
