-- Declarations of arrays: by the domain, by an initial value that is evaluated once, and by the test of the budget.
-- Each lemma has the meaning of the declaration, or of a part of it, on its left side.
use Rattle.std.proofs.Common.{◌≡◌, ℕ, ℤ, pos, Bool, true, false, nat_lt, if◌then◌else◌, Option, Some, None, List, [], ◌∷◌, map, Result, Ok, Err, refl, sym, ap, ◌∙◌}
use Rattle.std.specs.Prelude.{IfOk}
use Rattle.dpl_syntax.specs.declared.place.Place.{Place}
use Rattle.dpl_sets.specs.TextRanges.{TextRange}
use Rattle.dpl_language.specs.Tree.{Placed, Kind, IntKind, BoolKind, ExprTree, One}
use Rattle.dpl_language.specs.Values.{Value, Domain, Index, ranges_in, default, kept_number, Fault, fault, Budget, ArrayTooLarge}
use Rattle.dpl_language.specs.Distributions.{no_root}
use Rattle.dpl_language.specs.Ranges.{indices_in, size_in, too_large}
use Rattle.dpl_language.specs.Phrases.{cell_read}
use Rattle.dpl_language.specs.Outcome.{Deeds, Done, Stop, Run, Outcome, with_value, unless, then_do}
use Rattle.dpl_language.specs.Environment.{Limits}
use Rattle.dpl_language.specs.Expressions.{value_of, domain_of}
use Rattle.dpl_language.specs.Declarations.{Shell, array_with, filled, gathered, declaring, array_of_item, array_of}
use Rattle.dpl_language.specs.Statements.{exec}
use Rattle.dpl_memory.specs.Memory.{whole_held, ArrayKind, Variable, Memory, variable, with_array, with_root, in_memory}
use Rattle.dpl_nodes.specs.declared.step.ArrayDeclaration.{ArrayDeclaration}
use Rattle.dpl_nodes.specs.Steps.{placed_leaf, over_items, array_declared}
use Rattle.dpl_frame.specs.Faults.{fault_view}
use Rattle.dpl_loop.specs.declared.stop.RunStop.{RunStop as Halt}
use Rattle.dpl_loop.specs.declared.stop.RunStop.TheVariants as halt
use Rattle.dpl_loop.specs.Runs.{RunsTo}
use Rattle.dpl_values.specs.Elements.{within_at}
use Rattle.dpl_elements.specs.Changes.{for_array_at}
use Rattle.dpl_elements.proofs.Changing.{evaluated-item}
use Rattle.dpl_simple.specs.Lineages.{declared_over}
use Rattle.dpl_simple.specs.Runs.{Gathers}
use Rattle.dpl_simple.proofs.Rooting.{dealing_array}

-- THE BUDGET
-- a fault where a test says so
abbrev tested : Bool → Fault → Result (Unit {0}) Fault
tested b f = if b then Err f else Ok tt

module _ (f : Fault) (go : Run Memory) (s : Memory) (done : Deeds) where
  unless-held : (b : Bool) → tested b f ≡ Ok tt → unless b f go s done ≡ go s done
  unless-held true e = absurd (let no : tested true f ≡ Ok tt = e in cc)
  unless-held false e = refl

  unless-broken : (b : Bool) (g : Fault) → tested b f ≡ Err g → unless b f go s done ≡ Stop g done
  unless-broken true g e = let same : f ≡ g = let is : tested true f ≡ Err g = e in cc in ap (λ f. Stop f done) same
  unless-broken false g e = absurd (let no : tested false f ≡ Err g = e in cc)

-- THE SAME WORD EVERYWHERE
filled-words : (v : Value) (w : ℤ) (ts : List Index) → kept_number v ≡ w → map kept_number (map (λ t. v) ts) ≡ map (λ t. w) ts
filled-words v w [] e = refl
filled-words v w (t ∷ ts) e = ap (λ n. n ∷ map kept_number (map (λ t. v) ts)) e ∙ ap (λ ws. w ∷ ws) (filled-words v w ts e)

module _ (limits : Limits) (at : Place) (k : Kind) (slot : ℕ) (a : Shell Variable) (s : Memory) (done : Deeds) where
  abbrev name : Placed Variable
  name = placed_leaf at (variable (ArrayKind k) slot)

  pub declaring-filled : (v : Value) (w : ℤ) → kept_number v ≡ w
      → declaring limits in_memory name (array_with a (filled v a.ranges)) s done ≡ Done (with_root slot no_root (with_array slot (whole_held a.ranges (map (λ t. w) (indices_in a.ranges))) s)) done
  declaring-filled v w e = ap (λ ws. Done (with_root slot no_root (with_array slot (whole_held a.ranges ws) s)) done) (filled-words v w (indices_in a.ranges) e)

  -- a declaration without an initial value
  pub array_of-zeros : (k0 : Kind) → a.kind ≡ k0 → array_of limits in_memory name a None s done ≡ Done (with_root slot no_root (with_array slot (whole_held a.ranges (map (λ t. pos 0) (indices_in a.ranges))) s)) done
  array_of-zeros IntKind e = declaring-filled (default a.kind) (pos 0) (ap (λ k. kept_number (default k)) e)
  array_of-zeros BoolKind e = declaring-filled (default a.kind) (pos 0) (ap (λ k. kept_number (default k)) e)

  module _ (equals : Place) (e : ExprTree Variable) (whole : Option (List TextRange)) where
    abbrev put : Value → Run Memory
    put v = unless (nat_lt limits.budget (size_in a.ranges)) (fault Budget equals) (declaring limits in_memory name (array_with a (filled v a.ranges)))

    -- one that is evaluated once, whose value is the one at whatever index
    module _ (t : Index) (none : None ≡ whole) (unread : cell_read e ≡ None) (once : value_of limits in_memory e (Some t) s ≡ value_of limits in_memory e None s) where
      array_of_item-once : (r : Result Value Fault) → value_of limits in_memory e (Some t) s ≡ r → array_of_item limits in_memory name a equals (One e) whole s done ≡ with_value r put s done
      array_of_item-once r is =
          sym (ap (λ o. array_of_item limits in_memory name a equals (One e) o s done) none)
          ∙ evaluated-item limits (One e) put s done unread ∙ ap (λ r. with_value r put s done) (sym once ∙ is)

      pub array_of_item-fault : (f : Fault) → value_of limits in_memory e (Some t) s ≡ Err f → array_of_item limits in_memory name a equals (One e) whole s done ≡ Stop f done
      array_of_item-fault f is = array_of_item-once (Err f) is

      pub array_of_item-past : (v : Value) (f : Fault) → value_of limits in_memory e (Some t) s ≡ Ok v → Err f ≡ within_at limits equals a.ranges → array_of_item limits in_memory name a equals (One e) whole s done ≡ Stop f done
      array_of_item-past v f is past =
          array_of_item-once (Ok v) is
          ∙ unless-broken (fault Budget equals) (declaring limits in_memory name (array_with a (filled v a.ranges))) s done (nat_lt limits.budget (size_in a.ranges)) f (sym past)

      pub array_of_item-value : (v : Value) (w : ℤ) → value_of limits in_memory e (Some t) s ≡ Ok v → Ok tt ≡ within_at limits equals a.ranges → kept_number v ≡ w
          → array_of_item limits in_memory name a equals (One e) whole s done ≡ Done (with_root slot no_root (with_array slot (whole_held a.ranges (map (λ t. w) (indices_in a.ranges))) s)) done
      array_of_item-value v w is within kept =
          array_of_item-once (Ok v) is
          ∙ unless-held (fault Budget equals) (declaring limits in_memory name (array_with a (filled v a.ranges))) s done (nat_lt limits.budget (size_in a.ranges)) (sym within)
          ∙ declaring-filled v w kept

    -- one that is evaluated at each index, of too many
    pub array_of_item-refused : (arrays : List TextRange) (f : Fault) → Some arrays ≡ whole → Err f ≡ within_at limits equals a.ranges → array_of_item limits in_memory name a equals (One e) whole s done ≡ Stop f done
    array_of_item-refused arrays f some past =
        sym (ap (λ o. array_of_item limits in_memory name a equals (One e) o s done) some)
        ∙ unless-broken (fault Budget equals) _ s done (nat_lt limits.budget (size_in a.ranges)) f (sym past)

    -- and one that has a fault at one
    pub array_of_item-gathered : (arrays : List TextRange) (f : Fault) → Some arrays ≡ whole → Ok tt ≡ within_at limits equals a.ranges
        → gathered (λ t. value_of limits in_memory e (Some t) s) (indices_in a.ranges) ≡ Err f → array_of_item limits in_memory name a equals (One e) whole s done ≡ Stop f done
    array_of_item-gathered arrays f some within faults =
        sym (ap (λ o. array_of_item limits in_memory name a equals (One e) o s done) some)
        ∙ unless-held (fault Budget equals) _ s done (nat_lt limits.budget (size_in a.ranges)) (sym within)
        ∙ ap (λ r. with_value r (λ vs. declaring limits in_memory name (array_with a vs)) s done) faults

-- AN INITIAL VALUE that halts while it is gathered
pub gathers-halts : (may more : Type 0) (h : Halt) (rs : List TextRange) (v : Result (List Value) Fault) (s : Memory) (done : Deeds) (o : Outcome Memory)
    → (may → more) → ((f : Fault) → v ≡ Err f → o ≡ Stop f done) → Gathers may (Err h) rs v → RunsTo more (Err h) s done o
gathers-halts may more (halt.Fault f) rs v s done o go faults gathers = faults (fault_view f) gathers
gathers-halts may more halt.Memory rs v s done o go faults gathers = tt
gathers-halts may more halt.Thread rs v s done o go faults gathers = tt
gathers-halts may more halt.Gate rs v s done o go faults gathers = go gathers

-- THE DOMAIN
too_large-tested : (at : Place) (rs : List TextRange) (b : Bool) → too_large rs ≡ b → IfOk (if b then Err (fault ArrayTooLarge at) else Ok rs) (λ d. too_large d ≡ false)
too_large-tested at rs true e = tt
too_large-tested at rs false e = e

pub for_array_at_small : (at : Place) (rs : List TextRange) → IfOk (for_array_at at rs) (λ d. too_large d ≡ false)
for_array_at_small at rs = too_large-tested at rs (too_large rs) refl

same-small : (rs d : List TextRange) (f : Fault) (b : Bool) → Ok d ≡ (if b then Err f else Ok rs) → d ≡ rs
same-small rs d f true e = absurd (let no : Ok d ≡ Err f = e in cc)
same-small rs d f false e = let is : Ok d ≡ Ok rs = e in cc

pub for_array-same : (at : Place) (rs d : List TextRange) → Ok d ≡ for_array_at at rs → d ≡ rs
for_array-same at rs d = same-small rs d (fault ArrayTooLarge at) (too_large rs)

unless-small : (rs : List TextRange) (at : Place) (go : Run Memory) (s : Memory) (done : Deeds) (d : List TextRange) (b : Bool) → Ok d ≡ (if b then Err (fault ArrayTooLarge at) else Ok rs)
    → unless b (fault ArrayTooLarge at) go s done ≡ go s done
unless-small rs at go s done d true e = absurd (let no : Ok d ≡ Err (fault ArrayTooLarge at) = e in cc)
unless-small rs at go s done d false e = refl

unless-large : (rs : List TextRange) (at : Place) (go : Run Memory) (s : Memory) (done : Deeds) (f : Fault) (b : Bool) → Err f ≡ (if b then Err (fault ArrayTooLarge at) else Ok rs)
    → unless b (fault ArrayTooLarge at) go s done ≡ Stop f done
unless-large rs at go s done f true e = let same : fault ArrayTooLarge at ≡ f = let is : Err f ≡ Err (fault ArrayTooLarge at) = e in cc in ap (λ f. Stop f done) same
unless-large rs at go s done f false e = absurd (let no : Err f ≡ Ok rs = e in cc)

module _ (limits : Limits) (d : ArrayDeclaration) (s : Memory) (done : Deeds) where
  abbrev tested_over : List TextRange → Run Memory
  tested_over rs = unless (too_large rs) (fault ArrayTooLarge d.at.now) (declared_over limits d rs)

  -- by the value of the domain
  exec-over : (r : Result Value Fault) → domain_of limits in_memory d.from.now (over_items d.over) s ≡ r
      → exec limits in_memory (array_declared d) s done ≡ then_do (with_value r (λ v. tested_over (ranges_in v)) s done) (dealing_array limits s d)
  exec-over r is = ap (λ r. then_do (with_value r (λ v. tested_over (ranges_in v)) s done) (dealing_array limits s d)) is

  pub exec-unsized : (f : Fault) → domain_of limits in_memory d.from.now (over_items d.over) s ≡ Err f → exec limits in_memory (array_declared d) s done ≡ Stop f done
  exec-unsized f is = exec-over (Err f) is

  pub exec-too_large : (rs : List TextRange) (f : Fault) → domain_of limits in_memory d.from.now (over_items d.over) s ≡ Ok (Domain rs) → Err f ≡ for_array_at d.at.now rs
      → exec limits in_memory (array_declared d) s done ≡ Stop f done
  exec-too_large rs f is large =
      exec-over (Ok (Domain rs)) is
      ∙ ap (λ o. then_do o (dealing_array limits s d)) (unless-large rs d.at.now (declared_over limits d rs) s done f (too_large rs) large)

  -- the array over a domain that it may have
  pub exec-array_declared : (rs domain : List TextRange) → domain_of limits in_memory d.from.now (over_items d.over) s ≡ Ok (Domain rs) → Ok domain ≡ for_array_at d.at.now rs
      → exec limits in_memory (array_declared d) s done ≡ then_do (declared_over limits d domain s done) (dealing_array limits s d)
  exec-array_declared rs domain is small =
      exec-over (Ok (Domain rs)) is
      ∙ ap (λ o. then_do o (dealing_array limits s d)) (unless-small rs d.at.now (declared_over limits d rs) s done domain (too_large rs) small
      ∙ ap (λ rs. declared_over limits d rs s done) (sym (for_array-same d.at.now rs domain small)))
