-- What it says of a rule that it has no faults.
-- A list of faults is made of the lists of its parts, and each of those is empty with it.
use Rattle.std.proofs.Common.{◌≡◌, Bool, true, false, not, List, [], ◌∷◌, ◌++◌, refl}
use Rattle.dpl_grammar.specs.Classes.{Class, apart, within}
use Rattle.dpl_grammar.specs.Rule.{Names, Grammar}
use Rattle.dpl_grammar.specs.Reading.{RuleForm, shape_late, late, Fault, GoesOn, BeginsAlike, MayBeEmpty, Unnamed, Misnamed, shared, lacking, unless, empty_faults, then_faults, extend_faults, either_faults, many_faults, late_faults, unnamed_faults, below_faults}

pub no_one : (a b : List Fault) → a ++ b ≡ [] → a ≡ []
no_one [] b h = refl
no_one (x ∷ a) b h = absurd cc

pub no_two : (a b : List Fault) → a ++ b ≡ [] → b ≡ []
no_two [] b h = h
no_two (x ∷ a) b h = absurd cc

pub none_of : (a b c : List Fault) → a ++ (b ++ c) ≡ [] → (a ≡ []) × (b ≡ []) × (c ≡ [])
none_of a b c h = let two = no_two a (b ++ c) h in (no_one a (b ++ c) h, no_one b c two, no_two b c two)

pub unless_none : (b : Bool) (f : Fault) → unless b f ≡ [] → b ≡ true
unless_none true f h = refl
unless_none false f h = absurd cc

not_none : (b : Bool) → unless (not b) MayBeEmpty ≡ [] → b ≡ false
not_none true h = absurd cc
not_none false h = refl

module _ (a b : RuleForm) where
  pub no_then : then_faults a b ≡ [] → apart b.first a.more ≡ true
  no_then h = unless_none (apart b.first a.more) (GoesOn (shared b.first a.more)) h

  pub no_extend : extend_faults a b ≡ [] → (b.nullable ≡ false) × (apart b.first a.more ≡ true)
  no_extend h = (not_none b.nullable (no_one (empty_faults b) (then_faults a b) h), no_then (no_two (empty_faults b) (then_faults a b) h))

  pub no_either : either_faults a b ≡ [] → (a.nullable ≡ false) × (apart b.first a.first ≡ true)
  no_either h =
      let F = BeginsAlike (shared a.first b.first) in
      let S = unless (apart b.first a.first) F in
      (not_none a.nullable (no_one (empty_faults a) S h), unless_none (apart b.first a.first) F (no_two (empty_faults a) S h))

pub no_many : (a : RuleForm) → many_faults a ≡ [] → (a.nullable ≡ false) × (apart a.first a.more ≡ true)
no_many a h =
    let F = BeginsAlike (shared a.first a.more) in
    let S = unless (apart a.first a.more) F in
    (not_none a.nullable (no_one (empty_faults a) S h), unless_none (apart a.first a.more) F (no_two (empty_faults a) S h))

-- a rule that may stand one level deeper, and its names
pub record Fits {W : Names} (g : Grammar W) (X : Class) (n : W.Name) : Type 0 where
  pub right : late_faults g X false (g.rule n) ≡ []
  pub solid : (shape_late (g.rule n)).nullable ≡ false
  pub first : within (shape_late (g.rule n)).first (W.hints.first n) ≡ true
  pub named_first : within (W.hints.first n) (shape_late (g.rule n)).first ≡ true
  pub more : within (shape_late (g.rule n)).more (W.hints.more n) ≡ true
  pub late : within (late (g.rule n)) (W.hints.late n) ≡ true

pub fits : {W : Names} (g : Grammar W) (X : Class) (n : W.Name) → below_faults g X n ≡ [] → Fits g X n
fits {W = W} g X n h =
    let s = shape_late (g.rule n) in
    let A = late_faults g X false (g.rule n) in
    let N = empty_faults s in
    let I = unnamed_faults s.first (W.hints.first n) in
    let J = unless (within (W.hints.first n) s.first) (Misnamed (lacking (W.hints.first n) s.first)) in
    let K = unnamed_faults s.more (W.hints.more n) in
    let L = unnamed_faults (late (g.rule n)) (W.hints.late n) in
    let one = none_of A N (I ++ (J ++ (K ++ L))) h in
    let two = none_of I J (K ++ L) one.2 in
    record {
      right = one.0;
      solid = not_none s.nullable one.1;
      first = unless_none (within s.first (W.hints.first n)) (Unnamed (lacking s.first (W.hints.first n))) two.0;
      named_first = unless_none (within (W.hints.first n) s.first) (Misnamed (lacking (W.hints.first n) s.first)) two.1;
      more = unless_none (within s.more (W.hints.more n)) (Unnamed (lacking s.more (W.hints.more n))) (no_one K L two.2);
      late = unless_none (within (late (g.rule n)) (W.hints.late n)) (Unnamed (lacking (late (g.rule n)) (W.hints.late n))) (no_two K L two.2);
    }
