-- The outer arrays that a body writes, each once: an array is among them where it is among those of the rules.
-- So the rules of a forall say the same by either list.
use Rattle.std.proofs.Common.{◌≡◌, ℕ, Bool, true, false, ◌&&◌, ◌||◌, not, List, [], ◌∷◌, ◌++◌, refl, sym, ap, ◌∙◌, eqb-true}
use Rattle.std.proofs.Math.Bool.{or_assoc}
use Rattle.std.proofs.lemmas.Slice.Eq.{bytes_eq-Decides}
use Rattle.std.specs.Prelude.{nat_eq, bytes_eq, if◌then◌else◌}
use Rattle.dpl_syntax.specs.declared.refusal.Code.TheVariants.{ReadElsewhere}
use Rattle.dpl_language.specs.Names.{Text}
use Rattle.dpl_rules.specs.Types.{Origin, same_origin}
use Rattle.dpl_rules.specs.Sights.{Declared}
use Rattle.dpl_rules.specs.Deeds.{Deed, Reads, ReadsAt, Writes, WritesAt, Holds, each}
use Rattle.dpl_rules.specs.Verdicts.{owed}
use Rattle.dpl_rules.specs.Bodies.{ForallScope, is_own, is_outer_array, is_in, written_by, written_arrays, write_breaches, read_breaches, change_breaches, holding_breaches, deed_breaches, forall_breaches}
use Rattle.dpl_bodies.specs.Written.{with_origin, with_outer, all_written}

or-false : (a : Bool) → (a || false) ≡ a
or-false true = refl
or-false false = refl

abbrev origin : Text → ℕ → Origin
origin name depth = record { name = name; depth = depth }

and-true-left : (a b : Bool) → (a && b) ≡ true → a ≡ true
and-true-left true b both = refl
and-true-left false b both = both

and-true-right : (a b : Bool) → (a && b) ≡ true → b ≡ true
and-true-right true b both = both
and-true-right false true both = refl
and-true-right false false both = both

same_origin-equal : (o p : Origin) → same_origin o p ≡ true → o ≡ p
same_origin-equal o p same =
    let names = (bytes_eq-Decides o.name p.name).0 (and-true-right (nat_eq o.depth p.depth) (bytes_eq o.name p.name) same) in
    let depths = eqb-true o.depth p.depth (and-true-left (nat_eq o.depth p.depth) (bytes_eq o.name p.name) same) in
    ap (λ n. origin n o.depth) names ∙ ap (λ d. origin p.name d) depths

is_in-append : (o : Origin) (os ps : List Origin) → is_in o (os ++ ps) ≡ (is_in o os || is_in o ps)
is_in-append o [] ps = refl
is_in-append o (q ∷ os) ps = ap (λ b. same_origin o q || b) (is_in-append o os ps) ∙ sym (or_assoc (same_origin o q) (is_in o os) (is_in o ps))

is_in-with_origin : (o : Origin) (os : List Origin) (p : Origin) → is_in o (with_origin os p) ≡ (is_in o os || is_in o (p ∷ []))
is_in-with_origin o os p = by (is_in p os) refl
  where
    again : is_in p os ≡ true → (s : Bool) → same_origin o p ≡ s → is_in o os ≡ (is_in o os || s)
    again there false other = sym (or-false (is_in o os))
    again there true same = rw (ap (λ q. is_in q os) (same_origin-equal o p same) ∙ there) refl

    by : (t : Bool) → is_in p os ≡ t → is_in o (if t then os else os ++ p ∷ []) ≡ (is_in o os || is_in o (p ∷ []))
    by true there = again there (same_origin o p) refl ∙ ap (λ s. is_in o os || s) (sym (or-false (same_origin o p)))
    by false new = is_in-append o os (p ∷ [])

module _ (loop : ForallScope) (o : Origin) where
  is_in-with_outer : (os : List Origin) (d : Declared) → is_in o (with_outer loop os d) ≡ (is_in o os || is_in o (written_by loop d))
  is_in-with_outer os d =
      elim (is_outer_array loop d) as (λ t. is_in o (if t then with_origin os d.origin else os) ≡ (is_in o os || is_in o (if t then d.origin ∷ [] else [])))
      [ true ↦ is_in-with_origin o os d.origin | false ↦ sym (or-false (is_in o os)) ]

  -- behind a deed that writes
  is_in-written : (os : List Origin) (d : Declared) (ds : List Deed) →
      is_in o (all_written loop (with_outer loop os d) ds) ≡ (is_in o (with_outer loop os d) || is_in o (written_arrays loop ds)) →
      is_in o (all_written loop (with_outer loop os d) ds) ≡ (is_in o os || is_in o (written_by loop d ++ written_arrays loop ds))
  is_in-written os d ds left =
      left
      ∙ ap (λ b. b || is_in o (written_arrays loop ds)) (is_in-with_outer os d)
      ∙ or_assoc (is_in o os) (is_in o (written_by loop d)) (is_in o (written_arrays loop ds))
      ∙ ap (λ b. is_in o os || b) (sym (is_in-append o (written_by loop d) (written_arrays loop ds)))

  is_in-all_written : (os : List Origin) (ds : List Deed) → is_in o (all_written loop os ds) ≡ (is_in o os || is_in o (written_arrays loop ds))
  is_in-all_written os [] = sym (or-false (is_in o os))
  is_in-all_written os (Reads at d ∷ ds) = is_in-all_written os ds
  is_in-all_written os (ReadsAt at d is ∷ ds) = is_in-all_written os ds
  is_in-all_written os (Writes at d op ∷ ds) = is_in-written os d ds (is_in-all_written (with_outer loop os d) ds)
  is_in-all_written os (WritesAt at d is op ∷ ds) = is_in-written os d ds (is_in-all_written (with_outer loop os d) ds)
  is_in-all_written os (Holds at h ∷ ds) = is_in-all_written os ds

module _ (loop : ForallScope) (v w : List Origin) (alike : (o : Origin) → is_in o v ≡ is_in o w) where
  read_breaches-alike : (d : Deed) → read_breaches loop v d ≡ read_breaches loop w d
  read_breaches-alike (Reads at d) = ap (λ b. owed (not b) at ReadElsewhere) (alike d.origin)
  read_breaches-alike (ReadsAt at d is) = ap (λ b. owed (not b || is_own loop is) at ReadElsewhere) (alike d.origin)
  read_breaches-alike (Writes at d op) = refl
  read_breaches-alike (WritesAt at d is op) = refl
  read_breaches-alike (Holds at h) = refl

  each-alike : (ds : List Deed) → each (deed_breaches loop v) ds ≡ each (deed_breaches loop w) ds
  each-alike [] = refl
  each-alike (d ∷ ds) =
      ap (λ bs. (write_breaches loop d ++ bs ++ change_breaches loop d ++ holding_breaches d) ++ each (deed_breaches loop v) ds) (read_breaches-alike d)
      ∙ ap (λ bs. deed_breaches loop w d ++ bs) (each-alike ds)

pub forall_breaches_written : (loop : ForallScope) (ds : List Deed) → each (deed_breaches loop (all_written loop [] ds)) ds ≡ forall_breaches loop ds
forall_breaches_written loop ds = each-alike loop (all_written loop [] ds) (written_arrays loop ds) (λ o. is_in-all_written loop o [] ds) ds
