-- What stands behind a range or a domain: methods, slices and `contains`, by its value.
-- A range is the same as an item and as an expression; each lemma has the value of the plain tree on its left side.
use Rattle.std.proofs.Common.{◌≡◌, ℤ, Bool, true, false, List, [], ◌∷◌, None, Result, Ok, Err, refl, ap, ◌∙◌}
use Rattle.std.specs.Prelude.{◌||◌, if◌then◌else◌}
use Rattle.dpl_syntax.specs.declared.place.Place.{Place}
use Rattle.dpl_sets.specs.TextDomains.{text_expanded}
use Rattle.dpl_sets.specs.TextRanges.{TextRange}
use Rattle.dpl_language.specs.Tree.{ExprTree, Postfixed, Posts, NoPosts, Post, Dotted, MethodTree, Contains, Exprs, FirstExpr, NoExprs}
use Rattle.dpl_language.specs.Values.{Value, Index, Int, Truth, Range, Domain, all_ranges, index_of, Fault, fault, PastLimit}
use Rattle.dpl_language.specs.Ranges.{contains_index, range_sliced, bounds_past_limit, too_many, expanded}
use Rattle.dpl_language.specs.Outcome.{with_ok}
use Rattle.dpl_language.specs.Environment.{Limits}
use Rattle.dpl_language.specs.Phrases.{OtherBase, base_of}
use Rattle.dpl_language.specs.Expressions.{value_of, item_of, values_of, answer_of, behind, post_of}
use Rattle.dpl_lowered.specs.Shapes.{nowhere}
use Rattle.dpl_memory.specs.Memory.{Variable, Memory, in_memory}
use Rattle.dpl_nodes.specs.declared.tree.RangeExpr.{RangeExpr, Local}
use Rattle.dpl_nodes.specs.declared.tree.DomainPost.{DomainPost, Slice', Expanded'}
use Rattle.dpl_nodes.specs.declared.tree.DomainExpr.{DomainExpr}
use Rattle.dpl_frame.specs.declared.fault.Turn.{Turn}
use Rattle.dpl_frame.specs.Faults.{Halt, Tells, as_range}
use Rattle.dpl_contents.specs.declared.range.RangeWord.{RangeWord}
use Rattle.dpl_loop.proofs.Folding.{with_ok-ends}
use Rattle.dpl_nodes.specs.Typed.{range_item, range_view, dotted, bracketed, domain_view, domain_post}

-- `contains` of an int
abbrev pub containing : ExprTree Variable → MethodTree Variable
containing e = Contains nowhere nowhere (FirstExpr e NoExprs) nowhere

-- what is found, and nothing done with it
as_it_is : (a : Result Value Fault) → with_ok a (λ v. Ok v) ≡ a
as_it_is (Ok v) = refl
as_it_is (Err f) = refl

-- an expanded domain that is small enough, and one that isn't
pub expanded-within : (at : Place) (k : ℤ) (rs : List TextRange) → bounds_past_limit (text_expanded k rs) ≡ false → too_many (text_expanded k rs) ≡ false → expanded at k rs ≡ Ok (Domain (text_expanded k rs))
expanded-within at k rs bounds size =
    ap (λ b. if b || too_many (text_expanded k rs) then Err (fault PastLimit at) else Ok (Domain (text_expanded k rs))) bounds
    ∙ ap (λ b. if b then Err (fault PastLimit at) else Ok (Domain (text_expanded k rs))) size

pub expanded-past : (at : Place) (k : ℤ) (rs : List TextRange) → ((bounds_past_limit (text_expanded k rs) ≡ false) × (too_many (text_expanded k rs) ≡ false) → ⊥) → expanded at k rs ≡ Err (fault PastLimit at)
expanded-past at k rs = by (bounds_past_limit (text_expanded k rs)) (too_many (text_expanded k rs))
  where
    by : (b c : Bool) → ((b ≡ false) × (c ≡ false) → ⊥) → (if b || c then Err (fault PastLimit at) else Ok (Domain (text_expanded k rs))) ≡ Err (fault PastLimit at)
    by true c h = refl
    by false true h = refl
    by false false h = absurd (h (refl, refl))

module _ (limits : Limits) (w : Memory) where
  pub range_view_value : (r : RangeExpr) → value_of limits in_memory (range_view r) None w ≡ item_of limits in_memory (range_item r) None w
  range_view_value (Local slot) = refl
  range_view_value _ = refl

  -- what stands behind a range, by its value
  behind_range : (r : RangeExpr) (posts : Posts Variable) (a : Result Value Fault) → item_of limits in_memory (range_item r) None w ≡ a
      → with_ok (value_of limits in_memory (range_view r) None w) (behind limits in_memory posts (base_of (range_view r)) w) ≡ with_ok a (behind limits in_memory posts (base_of (range_view r)) w)
  behind_range r posts a e = ap (λ x. with_ok x (behind limits in_memory posts (base_of (range_view r)) w)) (range_view_value r ∙ e)

  -- ---- methods
  pub method_ends : {A : Type 0} (may more : Type 0) (wider : may → more) (value : A → Value) (t : Turn) (h : Halt) (r : RangeExpr) (m : MethodTree Variable)
      → Tells {A = RangeWord} may as_range t (Err h) (item_of limits in_memory (range_item r) None w) → Tells more value t (Err h) (value_of limits in_memory (dotted (range_view r) m) None w)
  method_ends may more wider value t h r m tells =
      let item = item_of limits in_memory (range_item r) None w in
      let posts : Posts Variable = Post (Dotted nowhere m) NoPosts in
      with_ok-ends may more as_range t h item (behind limits in_memory posts (base_of (range_view r)) w) _ value wider (behind_range r posts item refl) tells

  pub method_answer : (r : RangeExpr) (m : MethodTree Variable) (x : TextRange) (a : Result Value Fault) → item_of limits in_memory (range_item r) None w ≡ Ok (Range x)
      → answer_of limits in_memory m w (Range x) ≡ a → value_of limits in_memory (dotted (range_view r) m) None w ≡ a
  method_answer r m x a e answer =
      behind_range r (Post (Dotted nowhere m) NoPosts) (Ok (Range x)) e ∙ ap (λ y. with_ok y (λ v. Ok v)) answer ∙ as_it_is a

  contained : (x : TextRange) (a : Result Value Fault)
      → with_ok (with_ok a (λ v. with_ok (Ok []) (λ vs. Ok (v ∷ vs)))) (λ vs. Ok (Truth (contains_index (x ∷ []) (index_of vs)))) ≡ with_ok a (λ v. Ok (Truth (contains_index (x ∷ []) (index_of (v ∷ [])))))
  contained x (Ok v) = refl
  contained x (Err f) = refl

  pub contains_ends : {A B : Type 0} (may more : Type 0) (wider : may → more) (one : A → Value) (value : B → Value) (t : Turn) (h : Halt) (r : RangeExpr) (e : ExprTree Variable) (x : TextRange)
      → item_of limits in_memory (range_item r) None w ≡ Ok (Range x) → Tells may one t (Err h) (value_of limits in_memory e None w)
      → Tells more value t (Err h) (value_of limits in_memory (dotted (range_view r) (containing e)) None w)
  contains_ends may more wider one value t h r e x range tells =
      let index = value_of limits in_memory e None w in
      let go = λ (v : Value). Ok (Truth (contains_index (x ∷ []) (index_of (v ∷ [])))) in
      with_ok-ends may more one t h index go _ value wider (method_answer r (containing e) x (with_ok index go) range (contained x index)) tells

  pub contains_answer : (r : RangeExpr) (e : ExprTree Variable) (x : TextRange) (n : ℤ) → item_of limits in_memory (range_item r) None w ≡ Ok (Range x)
      → value_of limits in_memory e None w ≡ Ok (Int n) → value_of limits in_memory (dotted (range_view r) (containing e)) None w ≡ Ok (Truth (contains_index (x ∷ []) (n ∷ [])))
  contains_answer r e x n range index =
      method_answer r (containing e) x (Ok (Truth (contains_index (x ∷ []) (n ∷ [])))) range
      (ap (λ a. with_ok (with_ok a (λ v. with_ok (Ok []) (λ vs. Ok (v ∷ vs)))) (λ vs. Ok (Truth (contains_index (x ∷ []) (index_of vs))))) index)

  -- ---- a slice of what is a range
  pub cut-value : (a : ExprTree Variable) (cut : RangeExpr) (x : TextRange) → value_of limits in_memory a None w ≡ Ok (Range x)
      → value_of limits in_memory (bracketed a (range_item cut)) None w ≡ with_ok (item_of limits in_memory (range_item cut) None w) (λ v. Ok (Range (range_sliced x (all_ranges (v ∷ [])))))
  cut-value a cut x h = rw h (by (item_of limits in_memory (range_item cut) None w))
    where
      by : (i : Result Value Fault) → with_ok (with_ok (with_ok i (λ v. with_ok (Ok []) (λ vs. Ok (v ∷ vs)))) (λ vs. Ok (Range (range_sliced x (all_ranges vs))))) (λ v. Ok v)
          ≡ with_ok i (λ v. Ok (Range (range_sliced x (all_ranges (v ∷ [])))))
      by (Ok v) = refl
      by (Err f) = refl

  -- ---- domains: what a post makes of one, and a method
  pub made-value : (a : ExprTree Variable) (p : DomainPost) (rs : List TextRange) → value_of limits in_memory a None w ≡ Ok (Domain rs)
      → value_of limits in_memory (Postfixed a (Post (domain_post p) NoPosts)) None w ≡ post_of limits in_memory (domain_post p) OtherBase w (Domain rs)
  made-value a (Slice' p ranges) rs h = rw h (as_it_is (post_of limits in_memory (domain_post (Slice' p ranges)) OtherBase w (Domain rs)))
  made-value a (Expanded' at p k) rs h = rw h (as_it_is (post_of limits in_memory (domain_post (Expanded' at p k)) OtherBase w (Domain rs)))

  pub domain_answer : (d : DomainExpr) (m : MethodTree Variable) (rs : List TextRange) (a : Result Value Fault) → value_of limits in_memory (domain_view d) None w ≡ Ok (Domain rs)
      → answer_of limits in_memory m w (Domain rs) ≡ a → value_of limits in_memory (dotted (domain_view d) m) None w ≡ a
  domain_answer d m rs a e answer =
      ap (λ x. with_ok x (behind limits in_memory (Post (Dotted nowhere m) NoPosts) (base_of (domain_view d)) w)) e ∙ ap (λ y. with_ok y (λ v. Ok v)) answer ∙ as_it_is a

  -- and whether it has an index
  contains-index : (rs : List TextRange) (q : Result (List Value) Fault)
      → with_ok q (λ vs. Ok (Truth (contains_index rs (index_of vs)))) ≡ with_ok (with_ok q (λ vs. Ok (index_of vs))) (λ t. Ok (Truth (contains_index rs t)))
  contains-index rs (Ok vs) = refl
  contains-index rs (Err f) = refl

  pub domain_contains : (d : DomainExpr) (es : Exprs Variable) (rs : List TextRange) (i : Result Index Fault) → value_of limits in_memory (domain_view d) None w ≡ Ok (Domain rs)
      → with_ok (values_of limits in_memory es w) (λ vs. Ok (index_of vs)) ≡ i
      → value_of limits in_memory (dotted (domain_view d) (Contains nowhere nowhere es nowhere)) None w ≡ with_ok i (λ t. Ok (Truth (contains_index rs t)))
  domain_contains d es rs i e index =
      domain_answer d (Contains nowhere nowhere es nowhere) rs (with_ok i (λ t. Ok (Truth (contains_index rs t)))) e
      (contains-index rs (values_of limits in_memory es w) ∙ ap (λ i. with_ok i (λ t. Ok (Truth (contains_index rs t)))) index)
