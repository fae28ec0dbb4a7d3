-- Sample programs with their names in slots: what they write from a memory is what they mean.
-- One of them is seen to fit, and so the theorem gives the same.
use Rattle.std.proofs.Common.{◌≡◌, ℕ, ◌+◌, List, [], ◌∷◌, pos, true, false, refl, sym, ap, subst, ◌∙◌, rules, ℤ, Result, Option, Some, None}
use Rattle.std.specs.Prelude.{codes, bytes_eq, if◌then◌else◌, get_or, Ok, Err, option_map}
use Rattle.std.specs.Int.{int_wrap}
use Rattle.std.specs.Fmt.{digits}
use Rattle.std.proofs.lemmas.List.{append-nil}
use Rattle.dpl_sets.specs.Members.{members}
use Rattle.dpl_sets.specs.TextRanges.{TextRange}
use Rattle.dpl_sets.specs.Indices.{indices}
use Rattle.dpl_syntax.specs.declared.place.Place.{Place}
use Rattle.dpl_language.specs.Tree.{Placed, IntKind, BoolKind, Number, Named, One, RangeItem, Closed, NoStride, DomainLiteral, Items, FirstItem, NoItems, ProgramTree}
use Rattle.dpl_language.specs.Values.{Value, Int, Array, Range, Domain, Fault, fault, PastLimit, all_ranges, ranges_in}
use Rattle.dpl_language.specs.Ranges.{bounded, sized, too_many}
use Rattle.dpl_language.specs.Outcome.{with_ok}
use Rattle.dpl_language.specs.Expressions.{found}
use Rattle.dpl_language.specs.Names.{Text}
use Rattle.dpl_language.specs.Program.{written}
use Rattle.dpl_agreement.specs.Renamed.{renamed_program}
use Rattle.dpl_agreement.specs.Scopes.{PlainForm, ArrayForm, fits_all}
use Rattle.dpl_language.proofs.Spelled.{at}
use Rattle.dpl_language.proofs.Says.{limits, writes}
use Rattle.dpl_agreement.proofs.ProgramsAlike.{run_from}
use Rattle.dpl_language.proofs.ArraysSamples.{inner_array, changed_domain, not_over_the_name, truths_of_an_array, tuples, promoted, no_array_left, three_planes}
use Rattle.dpl_sound.specs.Typed.{IsPlain, AreRanked}
use Rattle.dpl_words.specs.Words.{IntLeaf}
use Rattle.dpl_memory.specs.Memory.{PlainKind, DomainKind, TupleKind, ArrayKind, Variable, variable, no_domain, no_array, array_at, value_in, held_at, element_as, in_memory}
use Rattle.dpl_memory.specs.Resolved.{Shape, Bound, text_of, Sighted, Sight, sighted, Seen, first_seen, HasShape, MayHold, Resolves, Suits, SuitsElement, SpansArray, Start, resolving, first_memory}
use Rattle.dpl_memory.proofs.MemoryAgrees.{written-memory}
use Rattle.dpl_memory.proofs.Suiting.{bounded-plain}

-- NAMES IN SLOTS: each by its text, since no two names of these samples are spelled alike
abbrev named_in : List (Text × Variable) → Text → Variable
named_in [] x = variable (PlainKind IntLeaf) 0
named_in (p ∷ ps) x = if bytes_eq x p.0 then p.1 else named_in ps x

abbrev domain_in : ℕ → List ℕ → Variable
domain_in slot arrays = record { kind = DomainKind; slot = slot; along = arrays; cells = [] }

abbrev ints_in : ℕ → Variable
ints_in slot = variable (ArrayKind IntKind) slot

abbrev int_in : ℕ → Variable
int_in slot = variable (PlainKind IntLeaf) slot

abbrev start : ℕ → Start
start slots = record { slots = slots; cells = 0; texts = []; words = []; histories = None }

abbrev kept : List (Text × Variable) → ProgramTree Text → List ℕ
kept names t = written (run_from (limits 16777216 1) in_memory (renamed_program (named_in names) t) (first_memory (start 6)))

-- var D = {1..2}; { var A: [D] int = 1; D = {2..3}; writeln(A); }
inner_array_writes : kept ((codes "D", domain_in 0 (1 ∷ [])) ∷ (codes "A", ints_in 1) ∷ []) inner_array ≡ codes "1 0\n"
unfolding int_wrap digits members indices
inner_array_writes = refl

-- var D: domain(1) .. = {1..4}; var A: [D] int = 7; const E = D[2..3]; D = {3..10}; forall i in D do A[i] += i; writeln(A); writeln(E.size);
changed_domain_writes :
    kept ((codes "D", domain_in 0 (1 ∷ [])) ∷ (codes "A", ints_in 1) ∷ (codes "E", domain_in 2 []) ∷ (codes "i", int_in 3) ∷ []) changed_domain
    ≡ codes "10 11 5 6 7 8 9 10\n2\n"
unfolding int_wrap digits members indices
changed_domain_writes = refl

-- var D = {1..2}; var A: [1..2] int = 1; D = {1..3}; writeln(A);
not_over_the_name_writes : kept ((codes "D", domain_in 0 []) ∷ (codes "A", ints_in 1) ∷ []) not_over_the_name ≡ codes "1 1\n"
unfolding int_wrap digits members indices
not_over_the_name_writes = refl

-- var D = {1..3}; { var A: [D] int; } D = {1..16777217}; writeln(D.size);
no_array_left_writes : kept ((codes "D", domain_in 0 []) ∷ (codes "A", ints_in 1) ∷ []) no_array_left ≡ codes "16777217\n"
unfolding int_wrap digits members indices
no_array_left_writes = refl

-- the same, if the array stood with the domain
array_left_faults : kept ((codes "D", domain_in 0 (1 ∷ [])) ∷ (codes "A", ints_in 1) ∷ []) no_array_left ≡ codes "! F8 at 1:37\n"
unfolding int_wrap digits members indices
array_left_faults = refl

-- var A: [1..2] bool; A[2] = true; writeln(A);
truths_write : kept ((codes "A", variable (ArrayKind BoolKind) 1) ∷ []) truths_of_an_array ≡ codes "false true\n"
unfolding int_wrap digits members indices
truths_write = refl

-- var A: [1..2, 1..2] int; forall t in A.domain do A[t] = 1; A(2,1) += 4; writeln(A);
tuples_write : kept ((codes "A", ints_in 1) ∷ (codes "t", variable TupleKind 2) ∷ []) tuples ≡ codes "1 1\n5 1\n"
unfolding int_wrap digits members indices
tuples_write = refl

-- var D = {1..3}; var A: [D] int = 2; var B: [D] int = A * A + 1; A += B; A /= 2; writeln(A, " ", + reduce (A * B), " ", && reduce (A < B));
promoted_writes : kept ((codes "D", domain_in 0 []) ∷ (codes "A", ints_in 1) ∷ (codes "B", ints_in 2) ∷ []) promoted ≡ writes promoted
unfolding int_wrap digits members indices
promoted_writes = refl

-- var A: [1..2, 1..2, 1..2] int; forall (i,j,k) in A.domain do A[i,j,k] = 100*i + 10*j + k; writeln(A);
three_planes_write : kept ((codes "A", ints_in 1) ∷ (codes "i", int_in 2) ∷ (codes "j", int_in 3) ∷ (codes "k", int_in 4) ∷ []) three_planes ≡ codes "111 112\n121 122\n\n211 212\n221 222\n"
unfolding int_wrap digits members indices
three_planes_write = refl

-- ONE OF THEM FITS
-- domains of one dimension, without strides
abbrev line : Shape
line = record { rank = 1; strided = false }

abbrev resolved : Text → Bound
resolved x = record { text = x; variable = named_in ((codes "D", domain_in 0 (1 ∷ [])) ∷ (codes "A", ints_in 1) ∷ []) x; shape = line }

abbrev inner_array_resolved : ProgramTree Bound
inner_array_resolved = renamed_program resolved inner_array

inner_array_spelled : renamed_program text_of inner_array_resolved ≡ inner_array
inner_array_spelled = refl

-- low..high, from a column on
abbrev one_range : ℕ → ℕ → ℕ → Items Bound
one_range column low high =
    FirstItem (RangeItem (Number (at 1 column) (pos low)) (at 1 (column + 1)) Closed (Number (at 1 (column + 3)) (pos high)) NoStride) NoItems

-- the domain of one range without a stride
Suits-domain : (g : Seen) (from : Place) (column low high : ℕ) (upto : Place) → Suits DomainKind line (One (DomainLiteral from (one_range column low high) upto)) g
Suits-domain g from column low high upto limits s shaped v e = by_bounds (bounded (at 1 (column + 1)) Closed (pos low) (pos high)) (λ r. bounded-plain (at 1 (column + 1)) Closed (pos low) (pos high) r) v e
  where
    by_size : (r : TextRange) (v : Value) → IsPlain r → sized from (r ∷ []) ≡ Ok v → MayHold DomainKind line v
    by_size r v plain =
        elim (too_many (r ∷ [])) as (λ b. (if b then Err (fault PastLimit from) else Ok (Domain (r ∷ []))) ≡ Ok v → MayHold DomainKind line v)
        [ true ↦ λ e. cc | false ↦ λ e. let same : Domain (r ∷ []) ≡ v = cc in subst (MayHold DomainKind line) same ((r ∷ [], refl), λ p. (refl, (plain, tt))) ]

    by_bounds : (b : Result TextRange Fault) → ((r : TextRange) → b ≡ Ok r → IsPlain r) → (v : Value)
        → with_ok (with_ok (with_ok b (λ r. Ok (Range r))) (λ v. Ok (v ∷ []))) (λ vs. sized from (all_ranges vs)) ≡ Ok v → MayHold DomainKind line v
    by_bounds (Ok r) plain v e = by_size r v (plain r refl) e
    by_bounds (Err f) plain v e = cc

Suits-element : (g : Seen) (at : Place) (n : ℤ) → Suits (ArrayKind IntKind) line (One (Number at n)) g
Suits-element g at n = (λ none limits s shaped v e. ((n, cc), λ p. absurd (p tt)), λ limits s shaped t v e. (n, cc))

-- the domain of a name alone is what stands in its slot, and of its shape
sized-ranges : (from : Place) (rs : List TextRange) (v : Value) → sized from rs ≡ Ok v → rs ≡ ranges_in v
sized-ranges from rs v =
    elim (too_many rs) as (λ b. (if b then Err (fault PastLimit from) else Ok (Domain rs)) ≡ Ok v → rs ≡ ranges_in v)
    [ true ↦ λ e. cc | false ↦ λ e. let same : Domain rs ≡ v = cc in ap ranges_in same ]

abbrev placed_d : ℕ → Placed Bound
placed_d column = record { at = at 1 column; name = resolved (codes "D") }

SpansArray-name : (g : Seen) (x : Placed Bound) → x.name ≡ resolved (codes "D") → Resolves x.name g → SpansArray (ArrayKind IntKind) line IntKind (FirstItem (One (Named x)) NoItems) g
SpansArray-name g x is resolves limits s shaped from v e = (refl, by x.name is (shaped x.name resolves) e)
  where
    by : (y : Bound) → y ≡ resolved (codes "D") → HasShape y.variable.kind y.shape (value_in y.variable.kind y.variable.slot s)
        → sized from (all_ranges (value_in y.variable.kind y.variable.slot s ∷ [])) ≡ Ok v → AreRanked 1 false (ranges_in v)
    by y is =
        subst (λ (y : Bound). HasShape y.variable.kind y.shape (value_in y.variable.kind y.variable.slot s)
        → sized from (all_ranges (value_in y.variable.kind y.variable.slot s ∷ [])) ≡ Ok v → AreRanked 1 false (ranges_in v)) (sym is)
        (λ h e. subst (AreRanked 1 false) (sym (append-nil (get_or s.domains 0 no_domain)) ∙ sized-ranges from _ v e) h)

-- a whole array may be assigned another by its name, each element in its turn; an element may not
abbrev a_array : Placed Bound
a_array = record { at = at 1 9; name = record { text = codes "A"; variable = variable (ArrayKind IntKind) 1; shape = line } }

Suits-array : Suits (ArrayKind IntKind) line (One (Named a_array)) first_seen
Suits-array = ((λ none. absurd (let f : Some (array_at 1 none.1).ranges ≡ None = none.2 in cc)), λ limits s shaped t v. by (held_at t (array_at 1 s)) v)
  where
    by : (w : Option ℤ) (v : Value) → found (at 1 9) (option_map (element_as IntKind) w) ≡ Ok v → (n : ℤ) × (v ≡ Int n)
    by None v e = cc
    by (Some w) v e = (w, cc)

array_is_no_element : SuitsElement (ArrayKind IntKind) line (One (Named a_array)) first_seen → ⊥
array_is_no_element f =
    let of_kind = f (limits 1 1) (first_memory (start 6)) (λ x e. cc) (Array IntKind (no_array).ranges) refl in
    absurd (is_no_int of_kind.0.0 of_kind.0.1)
  where
    is_no_int : (n : ℤ) → Array IntKind (no_array).ranges ≡ Int n → ⊥
    is_no_int n e = cc

-- what is in sight: D, and in the block A over it
abbrev d_frame : List Sighted
d_frame = sighted (resolved (codes "D")) PlainForm ∷ []

abbrev a_frame : List Sighted
a_frame = sighted (resolved (codes "A")) (ArrayForm (Some (resolved (codes "D")))) ∷ []

abbrev seeing : Sight → Seen
seeing fs = record { frames = fs; intents = [] }

inner_array_fits : fits_all (resolving (start 6)) inner_array_resolved.stmts first_seen
inner_array_fits = ( -- var D = {1..2};
  (tt, (((tt, tt, tt), tt), tt), (record { unused = (tt, tt); within = search rules; along = ((tt, tt), tt) }, λ e. e), tt, Suits-domain first_seen (at 1 9) 10 1 2 (at 1 14), (tt, tt)),
  (
    ( -- var A: [D] int = 1;
      ((refl, tt), (λ t. tt, tt), (record { unused = (tt, (((λ e. cc), tt), tt)); within = search rules; along = tt }, tt, (refl, λ e. refl)), tt, (SpansArray-name (seeing ([] ∷ d_frame ∷ [])) (placed_d 33) refl refl, Suits-element (seeing ([] ∷ d_frame ∷ [])) (at 1 36) (pos 1)), tt),
      ( -- D = {2..3};
        (((refl, refl, tt, refl), λ t. (refl, refl)), (λ t. ((tt, tt, tt), tt), tt), Suits-domain (seeing (a_frame ∷ d_frame ∷ [])) (at 1 43) 44 2 3 (at 1 48)),
        ( -- writeln(A);
          ((refl, tt), λ t. refl, tt),
          tt,
        ),
      ),
    ),
    tt,
  ),
)

-- so it means what it writes from a memory
inner_array_means : writes inner_array ≡ codes "1 0\n"
inner_array_means = written-memory (start 6) (limits 16777216 1) inner_array_resolved [] tt inner_array_fits ∙ inner_array_writes
