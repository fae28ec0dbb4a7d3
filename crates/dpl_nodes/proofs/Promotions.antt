-- Promoted expressions, and what they have in common with those that are evaluated once: none is a cell read, and one
-- without a whole array has at each index the value that it has without one.
use Rattle.std.proofs.Common.{◌≡◌, List, Option, Some, None, refl, sym, ◌∙◌}
use Rattle.std.specs.Option.{option_or}
use Rattle.dpl_syntax.specs.declared.place.Place.{Place}
use Rattle.dpl_sets.specs.TextRanges.{TextRange}
use Rattle.dpl_language.specs.Tree.{Prefix, Minus, Not, Infix, Add, Subtract, Multiply, Divide, Remainder, ExprTree, Prefixed}
use Rattle.dpl_language.specs.Values.{Index}
use Rattle.dpl_language.specs.Phrases.{cell_read}
use Rattle.dpl_language.specs.Environment.{Limits}
use Rattle.dpl_language.specs.Expressions.{whole_in, value_of}
use Rattle.dpl_lowered.specs.Shapes.{nowhere, two, grouped}
use Rattle.dpl_lowered.specs.LoweredExpressions.{Times}
use Rattle.dpl_memory.specs.Memory.{Variable, Memory, in_memory, array_at}
use Rattle.dpl_nodes.specs.declared.tree.IntExpr.{IntExpr, Negative' as IntNegative', Sum' as IntSum', Difference' as IntDifference', Product' as IntProduct', Quotient' as IntQuotient', Remainder' as IntRemainder', Chain' as IntChain', Row_of-IntLink, end_of-IntLink, more_of-IntLink}
use Rattle.dpl_nodes.specs.declared.tree.BoolExpr.{BoolExpr, Not' as TruthNot', Chain' as TruthChain', Row_of-TruthLink, end_of-TruthLink, more_of-TruthLink, Compare as TruthCompare}
use Rattle.dpl_nodes.specs.declared.tree.PromotedInt.{PromotedInt, Scalar' as IntScalar', Element as IntElement, Negative', Chain' as IntsChain', Row_of-PromotedIntLink, end_of-PromotedIntLink, more_of-PromotedIntLink}
use Rattle.dpl_nodes.specs.declared.tree.PromotedTruth.{PromotedTruth, Scalar' as TruthScalar', Element as TruthElement, Not', Chain' as TruthsChain', Row_of-PromotedTruthLink, end_of-PromotedTruthLink, more_of-PromotedTruthLink, Compare}
use Rattle.dpl_nodes.specs.Typed.{int_view, int_links, int_infix, int_place, truth_view, truth_links, junction_view, comparison_view, promoted_int, promoted_int_links, promoted_truth, promoted_truth_links}
use Rattle.dpl_nodes.proofs.Unread.{cell_read-int, cell_read-truth}
use Rattle.dpl_nodes.proofs.Chains.{promoted_int_links-hold, promoted_truth_links-hold}

-- ---- no cell reads
pub cell_read-promoted_int : (m : Times) (e : PromotedInt) → cell_read (promoted_int m e) ≡ None
cell_read-promoted_int m (IntScalar' p e) = cell_read-int e
cell_read-promoted_int m (IntsChain' p first q shape row) =
    promoted_int_links-hold m (λ a. cell_read a ≡ None) (λ a b op. refl) row (promoted_int m first) (cell_read-promoted_int m first)
cell_read-promoted_int m _ = refl

pub cell_read-promoted_truth : (m : Times) (e : PromotedTruth) → cell_read (promoted_truth m e) ≡ None
cell_read-promoted_truth m (TruthScalar' p e) = cell_read-truth e
cell_read-promoted_truth m (TruthsChain' p first q shape row) =
    promoted_truth_links-hold m (λ a. cell_read a ≡ None) (λ a b op. refl) row (promoted_truth m first) (cell_read-promoted_truth m first)
cell_read-promoted_truth m _ = refl

-- ---- the first of two domains
is_whole : (rs : List TextRange) → Some rs ≡ None → ⊥
is_whole rs h = cc

option_or-none : (a : Option (List TextRange)) → option_or a None ≡ a
option_or-none None = refl
option_or-none (Some rs) = refl

-- there is none only where there is neither
option_or-neither : (a b : Option (List TextRange)) → option_or a b ≡ None → (a ≡ None) × (b ≡ None)
option_or-neither None b h = (refl, h)
option_or-neither (Some rs) b h = absurd (is_whole rs h)

module _ (limits : Limits) (s : Memory) where
  -- ---- operators
  -- the first whole array in two operands
  pub whole_in-two : (a b : ExprTree Variable) (at : Place) (op : Infix) → whole_in limits in_memory (two a at op b) s ≡ option_or (whole_in limits in_memory a s) (whole_in limits in_memory b s)
  whole_in-two a b at op = rw (option_or-none (whole_in limits in_memory b s)) refl

  -- neither operand has one
  neither : (a b : ExprTree Variable) (at : Place) (op : Infix) → whole_in limits in_memory (two a at op b) s ≡ None
      → (whole_in limits in_memory a s ≡ None) × (whole_in limits in_memory b s ≡ None)
  neither a b at op h = option_or-neither (whole_in limits in_memory a s) (whole_in limits in_memory b s) (sym (whole_in-two a b at op) ∙ h)

  -- an expression has at an index the value that it has without one
  abbrev IsSameAt : Index → ExprTree Variable → Type 0
  IsSameAt t e = value_of limits in_memory e (Some t) s ≡ value_of limits in_memory e None s

  prefixed-at : (t : Index) (op : Prefix) (e : ExprTree Variable) → IsSameAt t e → IsSameAt t (Prefixed nowhere op e)
  prefixed-at t op e same = rw same refl

  two-at : (t : Index) (a b : ExprTree Variable) (at : Place) (op : Infix) → IsSameAt t a → IsSameAt t b → IsSameAt t (two a at op b)
  two-at t a b at op first second = rw (first, second) refl

  -- two operands without a whole array, that are told of where there is none
  two-once : (t : Index) (a b : ExprTree Variable) (at : Place) (op : Infix) → (whole_in limits in_memory a s ≡ None → IsSameAt t a) → (whole_in limits in_memory b s ≡ None → IsSameAt t b)
      → whole_in limits in_memory (two a at op b) s ≡ None → IsSameAt t (two a at op b)
  two-once t a b at op first second none = let both = neither a b at op none in two-at t a b at op (first both.0) (second both.1)

  two-whole : (a b : ExprTree Variable) (at : Place) (op : Infix) → whole_in limits in_memory a s ≡ None → whole_in limits in_memory b s ≡ None → whole_in limits in_memory (two a at op b) s ≡ None
  two-whole a b at op first second = rw (first, second) refl

  -- ---- without a whole array
  mutual
    pub int_view-whole : (e : IntExpr) → whole_in limits in_memory (int_view e) s ≡ None
    int_view-whole (IntNegative' p e) = int_view-whole e
    int_view-whole (IntSum' p a q b) = two-whole (int_view a) (int_view b) nowhere Add (int_view-whole a) (int_view-whole b)
    int_view-whole (IntDifference' p a q b) = two-whole (int_view a) (int_view b) nowhere Subtract (int_view-whole a) (int_view-whole b)
    int_view-whole (IntProduct' p a q b) = two-whole (int_view a) (int_view b) nowhere Multiply (int_view-whole a) (int_view-whole b)
    int_view-whole (IntQuotient' p a q b at) = two-whole (int_view a) (int_view b) at.now Divide (int_view-whole a) (int_view-whole b)
    int_view-whole (IntRemainder' p a q b at) = two-whole (int_view a) (int_view b) at.now Remainder (int_view-whole a) (int_view-whole b)
    int_view-whole (IntChain' p first q shape row) = int_links-whole row (int_view first) (int_view-whole first)
    int_view-whole _ = refl

    int_links-whole : {m : _} (row : Row_of-IntLink m) (a : ExprTree Variable) → whole_in limits in_memory a s ≡ None → whole_in limits in_memory (grouped a (int_links row)) s ≡ None
    int_links-whole end_of-IntLink a h = h
    int_links-whole (more_of-IntLink op p e row) a h =
        int_links-whole row (two a (int_place op) (int_infix op) (int_view e)) (two-whole a (int_view e) (int_place op) (int_infix op) h (int_view-whole e))

  mutual
    pub truth_view-whole : (e : BoolExpr) → whole_in limits in_memory (truth_view e) s ≡ None
    truth_view-whole (TruthNot' p e) = truth_view-whole e
    truth_view-whole (TruthChain' p first q shape row) = truth_links-whole row (truth_view first) (truth_view-whole first)
    truth_view-whole (TruthCompare c a b) = two-whole (int_view a.now) (int_view b.now) nowhere (comparison_view c) (int_view-whole a.now) (int_view-whole b.now)
    truth_view-whole _ = refl

    truth_links-whole : {m : _} (row : Row_of-TruthLink m) (a : ExprTree Variable) → whole_in limits in_memory a s ≡ None → whole_in limits in_memory (grouped a (truth_links row)) s ≡ None
    truth_links-whole end_of-TruthLink a h = h
    truth_links-whole (more_of-TruthLink op p e row) a h =
        truth_links-whole row (two a nowhere (junction_view op) (truth_view e)) (two-whole a (truth_view e) nowhere (junction_view op) h (truth_view-whole e))

  mutual
    pub int_view-at : (e : IntExpr) (t : Index) → IsSameAt t (int_view e)
    int_view-at (IntNegative' p e) t = prefixed-at t Minus (int_view e) (int_view-at e t)
    int_view-at (IntSum' p a q b) t = two-at t (int_view a) (int_view b) nowhere Add (int_view-at a t) (int_view-at b t)
    int_view-at (IntDifference' p a q b) t = two-at t (int_view a) (int_view b) nowhere Subtract (int_view-at a t) (int_view-at b t)
    int_view-at (IntProduct' p a q b) t = two-at t (int_view a) (int_view b) nowhere Multiply (int_view-at a t) (int_view-at b t)
    int_view-at (IntQuotient' p a q b at) t = two-at t (int_view a) (int_view b) at.now Divide (int_view-at a t) (int_view-at b t)
    int_view-at (IntRemainder' p a q b at) t = two-at t (int_view a) (int_view b) at.now Remainder (int_view-at a t) (int_view-at b t)
    int_view-at (IntChain' p first q shape row) t = int_links-at row (int_view first) t (int_view-at first t)
    int_view-at _ t = refl

    int_links-at : {m : _} (row : Row_of-IntLink m) (a : ExprTree Variable) (t : Index) → IsSameAt t a → IsSameAt t (grouped a (int_links row))
    int_links-at end_of-IntLink a t h = h
    int_links-at (more_of-IntLink op p e row) a t h =
        int_links-at row (two a (int_place op) (int_infix op) (int_view e)) t (two-at t a (int_view e) (int_place op) (int_infix op) h (int_view-at e t))

  mutual
    pub truth_view-at : (e : BoolExpr) (t : Index) → IsSameAt t (truth_view e)
    truth_view-at (TruthNot' p e) t = prefixed-at t Not (truth_view e) (truth_view-at e t)
    truth_view-at (TruthChain' p first q shape row) t = truth_links-at row (truth_view first) t (truth_view-at first t)
    truth_view-at (TruthCompare c a b) t = two-at t (int_view a.now) (int_view b.now) nowhere (comparison_view c) (int_view-at a.now t) (int_view-at b.now t)
    truth_view-at _ t = refl

    truth_links-at : {m : _} (row : Row_of-TruthLink m) (a : ExprTree Variable) (t : Index) → IsSameAt t a → IsSameAt t (grouped a (truth_links row))
    truth_links-at end_of-TruthLink a t h = h
    truth_links-at (more_of-TruthLink op p e row) a t h =
        truth_links-at row (two a nowhere (junction_view op) (truth_view e)) t (two-at t a (truth_view e) nowhere (junction_view op) h (truth_view-at e t))

  -- ---- promoted expressions in which there is none, and which so are evaluated once
  -- what came so far has no whole array where the chain has none, and has then at an index the value that it has without one
  abbrev IsOnce : Index → ExprTree Variable → Type 0
  IsOnce t e = whole_in limits in_memory e s ≡ None → IsSameAt t e

  mutual
    pub promoted_int-once : (m : Times) (e : PromotedInt) (t : Index) → IsOnce t (promoted_int m e)
    promoted_int-once m (IntScalar' p e) t none = int_view-at e t
    promoted_int-once m (IntElement slot at) t none = absurd (is_whole (array_at slot s).ranges none)
    promoted_int-once m (Negative' p e) t none = prefixed-at t Minus (promoted_int m e) (promoted_int-once m e t none)
    promoted_int-once m (IntsChain' p first q shape row) t none = promoted_int_links-once m row (promoted_int m first) t (promoted_int-once m first t) none

    promoted_int_links-once : {n : _} (m : Times) (row : Row_of-PromotedIntLink n) (a : ExprTree Variable) (t : Index) → IsOnce t a → IsOnce t (grouped a (promoted_int_links m row))
    promoted_int_links-once m end_of-PromotedIntLink a t h = h
    promoted_int_links-once m (more_of-PromotedIntLink op p e row) a t h =
        promoted_int_links-once m row (two a (int_place op) (int_infix op) (promoted_int m e)) t (two-once t a (promoted_int m e) (int_place op) (int_infix op) h (promoted_int-once m e t))

  mutual
    pub promoted_truth-once : (m : Times) (e : PromotedTruth) (t : Index) → IsOnce t (promoted_truth m e)
    promoted_truth-once m (TruthScalar' p e) t none = truth_view-at e t
    promoted_truth-once m (TruthElement slot at) t none = absurd (is_whole (array_at slot s).ranges none)
    promoted_truth-once m (Not' p e) t none = prefixed-at t Not (promoted_truth m e) (promoted_truth-once m e t none)
    promoted_truth-once m (TruthsChain' p first q shape row) t none = promoted_truth_links-once m row (promoted_truth m first) t (promoted_truth-once m first t) none
    promoted_truth-once m (Compare c a b) t none =
        two-once t (promoted_int m a.now) (promoted_int m b.now) nowhere (comparison_view c) (promoted_int-once m a.now t) (promoted_int-once m b.now t) none

    promoted_truth_links-once : {n : _} (m : Times) (row : Row_of-PromotedTruthLink n) (a : ExprTree Variable) (t : Index)
        → IsOnce t a → IsOnce t (grouped a (promoted_truth_links m row))
    promoted_truth_links-once m end_of-PromotedTruthLink a t h = h
    promoted_truth_links-once m (more_of-PromotedTruthLink op p e row) a t h =
        promoted_truth_links-once m row (two a nowhere (junction_view op) (promoted_truth m e)) t (two-once t a (promoted_truth m e) nowhere (junction_view op) h (promoted_truth-once m e t))
