-- One range is a cut of its own members, and so is none of nothing.
use Rattle.std.proofs.Common.{rules, arith, ◌<ℤ◌, ◌<◌, ◌≡◌, ◌≢◌, ◌==◌, [], ℕ, ℤ, pos, ◌≤ℤ◌, List, All, IfOk, sym, subst, refl, true, length, ◌∙◌, eq-eqb, ap, FitsSigned, w64}
use Rattle.std.proofs.lemmas.Int.{ints, to_z-of_z}
use Rattle.std.proofs.lemmas.List.Elements.{All-nil}
use Rattle.std.proofs.lemmas.Result.{IfOk-weaker}
use Rattle.dpl_range.proofs.Lists.{filter-alike}
use Rattle.dpl_map.proofs.PartLemmas.{filter-every}
use Rattle.dpl_sets.specs.Ranges.{RangeValue, members_of}
use Rattle.dpl_map.specs.AxisFields.{IsAxis, rule_of}
use Rattle.dpl_map.specs.Cuts.{behind}
use Rattle.dpl_map.specs.Counts.{IsWithinValues, rule_block, AreFewRanges}
use Rattle.dpl_map.specs.Maps.{RuleValue, Block, Cyclic, BlockCyclic, AxisValue, axis_coordinate}
use Rattle.dpl_map.specs.Axes.{IsSingle, cut_rule, block_cyclic_axis, owned_of}
use Rattle.dpl_map.specs.Orders.{AreListed}
use Rattle.dpl_map.specs.declared.find.Order.TheVariants.{Blocks}
use Rattle.dpl_map.proofs.CutLemmas.{AreSorted-behind_none, All-behind}
use Rattle.dpl_map.proofs.FewLemmas.{IfOk-both, AreFewRanges-single, cut_rule-one, cut_rule-more}
use Rattle.dpl_map.proofs.SteadyLemmas.{axis-one}
use Rattle.dpl_map.proofs.axis.Axis.parts.Goals as goal

-- by a rule that gives one range, no two members have different keys
same-key : (rule : RuleValue) → IsSingle rule → (i j : ℤ) → rule_block rule i <ℤ rule_block rule j → ⊥
same-key (Block low high) single i j less = omega (arith, ints, less)
same-key (Cyclic start) single i j less = omega (arith, ints, less)
same-key (BlockCyclic start size) single i j less = single

module _ (rule : RuleValue) (single : IsSingle rule) (is : List ℤ) (range : RangeValue) (all : members_of range ≡ is) (ranges : List RangeValue) (alone : ranges ≡ behind (members_of range) range []) where
  listed : AreListed rule is ranges
  listed =
      subst (AreListed rule is) (sym alone)
      (Blocks, AreSorted-behind_none members_of (λ i j. rule_block rule i <ℤ rule_block rule j) is (members_of range) range (same-key rule single) all refl)

  some : All (λ r. members_of r ≢ []) ranges
  some = subst (All (λ r. members_of r ≢ [])) (sym alone) (All-behind members_of range [] (All-nil (λ r. members_of r ≢ [])))

  few : AreFewRanges rule is (length ranges)
  few =
      subst (λ (rs : List RangeValue). AreFewRanges rule is (length rs)) (sym alone)
      (subst (λ (js : List ℤ). AreFewRanges rule js (length (behind (members_of range) range []))) all (AreFewRanges-single rule (members_of range) range single))

-- one coordinate has each member
owned-one : (axis : AxisValue) (c : ℕ) (range : RangeValue) → IsAxis axis → axis.extent ≡ 1 → c < axis.extent → members_of range ≡ owned_of axis c range
owned-one axis c range limits one below =
    sym
    (filter-alike (λ i. axis_coordinate axis i == c) (λ i. true) (members_of range)
    (λ k i at. eq-eqb _ _ (let first = axis-one axis i limits one in omega (arith, first, one, below)))
    ∙ filter-every (members_of range))

-- and a range as it is
whole : (axis : AxisValue) (c : ℕ) (range : RangeValue) → IsAxis axis → axis.extent ≡ 1 → c < axis.extent → IsSingle (cut_rule axis) × (members_of range ≡ owned_of axis c range)
whole axis c range limits one below = (subst IsSingle (sym (cut_rule-one axis one)) tt, owned-one axis c range limits one below)

pub returns-then-self-eq1-clause-cut : goal.returns-then-self-eq1-clause-cut
returns-then-self-eq1-clause-cut c =
    let axis = c.args.self.now in
    let one : axis.extent ≡ 1 = subst (λ (a : AxisValue). a.extent ≡ 1) c.self.view_is c.if-self-eq1.true in
    let one_range = whole axis c.args.coordinate c.args.range.now (subst IsAxis c.self.view_is c.self.invariant) one c.requires in
    let owned = owned_of axis c.args.coordinate c.args.range.now in
    IfOk-weaker c.sole.result (λ v. v.items ≡ behind (members_of c.args.range.now) c.args.range.now []) (λ v. AreListed (cut_rule axis) owned v.items)
    (λ v alone. listed (cut_rule axis) one_range.0 owned c.args.range.now one_range.1 v.items alone) c.sole.ensures

pub returns-then-self-eq1-clause-some : goal.returns-then-self-eq1-clause-some
returns-then-self-eq1-clause-some c =
    let axis = c.args.self.now in
    let one : axis.extent ≡ 1 = subst (λ (a : AxisValue). a.extent ≡ 1) c.self.view_is c.if-self-eq1.true in
    let one_range = whole axis c.args.coordinate c.args.range.now (subst IsAxis c.self.view_is c.self.invariant) one c.requires in
    let owned = owned_of axis c.args.coordinate c.args.range.now in
    IfOk-weaker c.sole.result (λ v. v.items ≡ behind (members_of c.args.range.now) c.args.range.now []) (λ v. All (λ r. members_of r ≢ []) v.items)
    (λ v alone. some (cut_rule axis) one_range.0 owned c.args.range.now one_range.1 v.items alone) c.sole.ensures

pub returns-then-self-eq1-clause-few : goal.returns-then-self-eq1-clause-few
returns-then-self-eq1-clause-few c =
    let axis = c.args.self.now in
    let one : axis.extent ≡ 1 = subst (λ (a : AxisValue). a.extent ≡ 1) c.self.view_is c.if-self-eq1.true in
    let one_range = whole axis c.args.coordinate c.args.range.now (subst IsAxis c.self.view_is c.self.invariant) one c.requires in
    let owned = owned_of axis c.args.coordinate c.args.range.now in
    IfOk-weaker c.sole.result (λ v. v.items ≡ behind (members_of c.args.range.now) c.args.range.now []) (λ v. AreFewRanges (cut_rule axis) owned (length v.items))
    (λ v alone. few (cut_rule axis) one_range.0 owned c.args.range.now one_range.1 v.items alone) c.sole.ensures

-- Over more coordinates the block-cyclic rule cuts by itself.
dealt-by : (axis : AxisValue) (start size : ℤ) (extent : ℕ) → block_cyclic_axis start size extent ≡ axis → (extent ≡ 1 → ⊥) → cut_rule axis ≡ BlockCyclic start size
dealt-by axis start size extent is more = ap cut_rule (sym is) ∙ cut_rule-more (block_cyclic_axis start size extent) more

pub returns-in-BlockCyclic-clause-cut : goal.returns-in-BlockCyclic-clause-cut
returns-in-BlockCyclic-clause-cut c =
    let start_fits : FitsSigned w64 c.in-BlockCyclic.start = search rules in
    let size_fits : FitsSigned w64 c.in-BlockCyclic.size = search rules in
    let axis = c.args.self.now in
    let rule = BlockCyclic c.in-BlockCyclic.start c.in-BlockCyclic.size in
    let cut = simp to_z-of_z at c.dealt.ensures.cut in
    let is : block_cyclic_axis c.in-BlockCyclic.start c.in-BlockCyclic.size c.self.inside.extent ≡ axis =
    subst (λ r. ◌≡◌ {A = AxisValue} (record { rule = rule_of r; extent = c.self.inside.extent }) axis) c.in-BlockCyclic.is c.self.view_is in
    subst (λ (r : RuleValue). IfOk c.dealt.result (λ v. AreListed r (owned_of axis c.args.coordinate c.args.range.now) v.items))
    (sym (dealt-by axis c.in-BlockCyclic.start c.in-BlockCyclic.size c.self.inside.extent is c.if-self-eq1.false))
    (subst (λ (a : AxisValue). IfOk c.dealt.result (λ v. AreListed rule (owned_of a c.args.coordinate c.args.range.now) v.items)) is cut)

pub returns-in-BlockCyclic-clause-few : goal.returns-in-BlockCyclic-clause-few
returns-in-BlockCyclic-clause-few c =
    let start_fits : FitsSigned w64 c.in-BlockCyclic.start = search rules in
    let size_fits : FitsSigned w64 c.in-BlockCyclic.size = search rules in
    let axis = c.args.self.now in
    let rule = BlockCyclic c.in-BlockCyclic.start c.in-BlockCyclic.size in
    let few = simp to_z-of_z at c.dealt.ensures.few in
    let blocks = simp to_z-of_z at c.dealt.ensures.blocks in
    let is : block_cyclic_axis c.in-BlockCyclic.start c.in-BlockCyclic.size c.self.inside.extent ≡ axis =
    subst (λ r. ◌≡◌ {A = AxisValue} (record { rule = rule_of r; extent = c.self.inside.extent }) axis) c.in-BlockCyclic.is c.self.view_is in
    subst (λ (r : RuleValue). IfOk c.dealt.result (λ v. AreFewRanges r (owned_of axis c.args.coordinate c.args.range.now) (length v.items)))
    (sym (dealt-by axis c.in-BlockCyclic.start c.in-BlockCyclic.size c.self.inside.extent is c.if-self-eq1.false))
    (subst (λ (a : AxisValue). IfOk c.dealt.result (λ v. AreFewRanges rule (owned_of a c.args.coordinate c.args.range.now) (length v.items))) is
    (IfOk-both c.dealt.result (λ v. pos (length v.items) ≤ℤ c.in-BlockCyclic.size)
    (λ v. IsWithinValues (rule_block rule) (owned_of (block_cyclic_axis c.in-BlockCyclic.start c.in-BlockCyclic.size c.self.inside.extent) c.args.coordinate c.args.range.now) (length v.items)) few blocks))

-- By another rule a coordinate has one range.
pub returns : goal.returns
returns c =
    let axis = c.args.self.now in
    let rule : IsSingle axis.rule = search rules in
    let more : axis.extent ≡ 1 → ⊥ = subst (λ (a : AxisValue). a.extent ≡ 1 → ⊥) c.self.view_is c.if-self-eq1.false in
    let single : IsSingle (cut_rule axis) = subst IsSingle (sym (cut_rule-more axis more)) rule in
    let owned = owned_of axis c.args.coordinate c.args.range.now in
    record {
      cut = IfOk-weaker c.sole-2.result (λ v. v.items ≡ behind (members_of c.part.result) c.part.result []) (λ v. AreListed (cut_rule axis) owned v.items)
          (λ v alone. listed (cut_rule axis) single owned c.part.result c.part.ensures.members v.items alone) c.sole-2.ensures;
      some = IfOk-weaker c.sole-2.result (λ v. v.items ≡ behind (members_of c.part.result) c.part.result []) (λ v. All (λ r. members_of r ≢ []) v.items)
          (λ v alone. some (cut_rule axis) single owned c.part.result c.part.ensures.members v.items alone) c.sole-2.ensures;
      few = IfOk-weaker c.sole-2.result (λ v. v.items ≡ behind (members_of c.part.result) c.part.result []) (λ v. AreFewRanges (cut_rule axis) owned (length v.items))
          (λ v alone. few (cut_rule axis) single owned c.part.result c.part.ensures.members v.items alone) c.sole-2.ensures;
    }
