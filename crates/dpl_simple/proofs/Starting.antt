-- Where maps start, and what is named from there.
use Rattle.std.proofs.Common.{◌≡◌, ℤ, List, [], ◌∷◌, Contains, map, flat_map, Option, Some, None, IsNone, IfSome, ◌↔◌, Result, Ok, Err, refl, sym, subst, ap, ◌∙◌}
use Rattle.dpl_syntax.specs.declared.place.Place.{Place}
use Rattle.dpl_sets.specs.TextRanges.{TextRange}
use Rattle.dpl_sets.specs.TextDomains.{values_of}
use Rattle.dpl_sets.specs.Ranges.{RangeValue, members_of}
use Rattle.dpl_sets.specs.Indices.{indices}
use Rattle.dpl_range.specs.Invariant.{IsRange}
use Rattle.dpl_map.proofs.ListLemmas.{Contains-nothing}
use Rattle.dpl_layout.specs.Roots.{IsLeast, IsLeastOf}
use Rattle.dpl_contents.specs.Domains.{AreWritten}
use Rattle.dpl_language.specs.Tree.{Word, Size, Plainly, ExprTree, StartExpr}
use Rattle.dpl_language.specs.Values.{Value, Domain, Index, coordinates, Fault}
use Rattle.dpl_language.specs.Ranges.{least_of, least_before, least_in, low_of, tuple_or_end, end_of, method_of}
use Rattle.dpl_language.specs.Distributions.{CyclicFrom}
use Rattle.dpl_language.specs.Outcome.{with_ok}
use Rattle.dpl_language.specs.Environment.{Limits}
use Rattle.dpl_language.specs.Expressions.{value_of}
use Rattle.dpl_language.specs.Roots.{or_no_map, cyclic_or_none, start_of}
use Rattle.dpl_memory.specs.Memory.{Variable, Memory, in_memory}
use Rattle.dpl_nodes.specs.Typed.{dotted}
use Rattle.dpl_nodes.specs.Steps.{low_word}
use Rattle.dpl_simple.specs.Starts.{value_or_none}
use Rattle.dpl_values.proofs.Ranges.{told_end, end_of-least}

-- LEAST MEMBERS
told-same : (at : Place) (i j : ℤ) → told_end at (Some i) ≡ told_end at (Some j) → i ≡ j
told-same at i j e = cc

-- the least member of a range, where it stands in front of others
least-before : (r : RangeValue) (i : ℤ) (t : Index) (is : List ℤ) → members_of r ≡ is → IsRange r → IsLeast r i → least_before is (Some t) ≡ Some (i ∷ t)
least-before r i t [] none range least = absurd (Contains-nothing i (subst (λ is. Contains is i) none least.is_member))
least-before r i t (j ∷ js) some range least =
    let at : Place = record { line = 0; column = 0 } in
    let told : told_end at (Some (least_of j js)) ≡ told_end at (Some i) =
    sym (ap (end_of at least_of) some)
    ∙ end_of-least at r (Some i) range ((λ e. cc, λ e. absurd (Contains-nothing i (subst (λ is. Contains is i) e least.is_member))), least.is_member, least.is_least) in
    ap (λ (k : ℤ). Some (k ∷ t)) (told-same at (least_of j js) i told)

pub least_in-some : (rs : List TextRange) (t : Index) → AreWritten (values_of rs) → IsLeastOf (values_of rs) t → least_in rs ≡ Some t
least_in-some [] [] written least = refl
least_in-some [] (i ∷ t) written least = absurd least
least_in-some (r ∷ rs) [] written least = absurd least
least_in-some (r ∷ rs) (i ∷ t) written least =
    ap (least_before (members_of r.value)) (least_in-some rs t written.2 least.1)
    ∙ least-before r.value i t (members_of r.value) refl written.0 least.0

-- a product without a tuple has a factor without one, the first or another
rest-none : (i : ℤ) (is : List ℤ) (rest : List Index) → flat_map (λ i. map (λ t. i ∷ t) rest) (i ∷ is) ≡ [] → rest ≡ []
rest-none i is [] e = refl
rest-none i is (t ∷ ts) e = cc

none-before : (is : List ℤ) (o : Option Index) (rest : List Index) → (rest ≡ [] → o ≡ None) → flat_map (λ i. map (λ t. i ∷ t) rest) is ≡ [] → least_before is o ≡ None
none-before [] o rest none e = refl
none-before (i ∷ is) o rest none e = ap (least_before (i ∷ is)) (none (rest-none i is rest e))

pub least_in-none : (rs : List TextRange) → indices (values_of rs) ≡ [] → least_in rs ≡ None
unfolding indices
least_in-none [] e = cc
least_in-none (r ∷ rs) e = none-before (members_of r.value) (least_in rs) (indices (values_of rs)) (least_in-none rs) e

-- what a domain's corner is told to be
pub least_in-is : (rs : List TextRange) (d : List RangeValue) (o : Option Index) → d ≡ values_of rs → AreWritten (values_of rs) → (IsNone o ↔ (indices d ≡ [])) → IfSome o (IsLeastOf d)
    → o ≡ least_in rs
least_in-is rs d None e written none least = sym (least_in-none rs (subst (λ d. indices d ≡ []) e (none.0 refl)))
least_in-is rs d (Some t) e written none least = sym (least_in-some rs t written (subst (λ d. IsLeastOf d t) e least))

-- STARTS
module _ (limits : Limits) (s : Memory) where
  low-method : (w : Word) (at : Place) (v : Value) → method_of (low_word w) at v ≡ low_of at v
  low-method Size at v = refl
  low-method _ at v = refl

  ended : (at : Place) (o : Option Index) → value_or_none (with_ok (with_ok (tuple_or_end at o) (λ w. Ok w)) (λ v. Ok (coordinates v))) ≡ o
  ended at None = refl
  ended at (Some t) = refl

  -- the least members of a domain
  pub start-least : (e : ExprTree Variable) (at : Place) (w : Word) (rs : List TextRange) → value_of limits in_memory e None s ≡ Ok (Domain rs)
      → value_or_none (start_of limits in_memory (StartExpr (dotted e (Plainly at (low_word w)))) s) ≡ least_in rs
  start-least e at w rs is =
      ap (λ r. value_or_none (with_ok (with_ok r (λ v. with_ok (method_of (low_word w) at v) (λ x. Ok x))) (λ v. Ok (coordinates v)))) is
      ∙ ap (λ r. value_or_none (with_ok (with_ok r (λ x. Ok x)) (λ v. Ok (coordinates v)))) (low-method w at (Domain rs))
      ∙ ended at (least_in rs)

-- WHAT IS NAMED
pub cyclic-named : (r : Result Index Fault) → or_no_map (with_ok r (λ t. Ok (CyclicFrom t))) ≡ cyclic_or_none (value_or_none r)
cyclic-named (Ok t) = refl
cyclic-named (Err f) = refl
