-- A loop is what the parts of its locales come to, merged, however many there are.
use Rattle.std.proofs.Common.{◌≡◌, ℕ, ◌==◌, Bool, true, false, cond, not, ◌&&◌, ◌||◌, List, [], ◌∷◌, refl, sym, ap, ◌∙◌, subst, arith, eqb-true}
use Rattle.std.specs.Prelude.{nat_lt}
use Rattle.std.specs.List.{All, AllByRecursion, filter, list_any}
use Rattle.std.proofs.lemmas.Bool.Decides.{nat_tests}
use Rattle.std.proofs.lemmas.List.Elements.{recursion_from_All}
use Rattle.dpl_language.specs.Values.{Index, Fault}
use Rattle.dpl_apart.specs.Rows.{Ran, Finished, Failed, Loop, run, either, merge, onto, part_of, is_owned, parts_of, dealt, merged, gathered, all_joined, AreOnce, IsRising, AllAdd, Comes}
use Rattle.dpl_apart.specs.Operands.{IsCommutativeMonoid}
use Rattle.dpl_apart.proofs.Split.{rising-filter, adds-split, run-split, run-from}

-- ---- parts of lists
filter-twice : {X : Type 0} (p q : X → Bool) (xs : List X) → filter p (filter q xs) ≡ filter (λ x. q x && p x) xs
filter-twice p q [] = refl
filter-twice p q (x ∷ xs) =
    elim (q x) as (λ b. filter p (cond b (x ∷ filter q xs) (filter q xs)) ≡ cond (b && p x) (x ∷ filter (λ x. q x && p x) xs) (filter (λ x. q x && p x) xs)) [
      | true ↦ ap (λ ys. cond (p x) (x ∷ ys) ys) (filter-twice p q xs)
      | false ↦ filter-twice p q xs
    ]

filter-none : {X : Type 0} (xs : List X) → filter (λ x. false) xs ≡ []
filter-none [] = refl
filter-none (x ∷ xs) = filter-none xs

pub filter-all : {X : Type 0} (p : X → Bool) (xs : List X) → AllByRecursion (λ x. p x ≡ true) xs → filter p xs ≡ xs
filter-all p [] h = refl
filter-all p (x ∷ xs) h = rw h.0 (ap (λ ys. x ∷ ys) (filter-all p xs h.1))

both-first : (p r : Bool) → ((p || r) && p) ≡ p
both-first true r = refl
both-first false true = refl
both-first false false = refl

both-others : (p r : Bool) → (p ≡ true → r ≡ false) → ((p || r) && not p) ≡ r
both-others true r h = sym (h refl)
both-others false true h = refl
both-others false false h = refl

module _ (owner : Index → ℕ) (l : ℕ) (ls : List ℕ) (apart : AreOnce (l ∷ ls)) (ts : List Index) where
  -- of the parts of some locales, the first locale's; and the others'
  first-part : filter (λ t. owner t == l) (parts_of owner (l ∷ ls) ts) ≡ part_of owner l ts
  first-part =
      let same : (t : Index) → (is_owned owner (l ∷ ls) t && (owner t == l)) ≡ (owner t == l) = λ t. both-first (owner t == l) (is_owned owner ls t) in
      filter-twice (λ t. owner t == l) (is_owned owner (l ∷ ls)) ts ∙ ap (λ p. filter p ts) (λ i t. same t i)

  other-parts : filter (λ t. not (owner t == l)) (parts_of owner (l ∷ ls) ts) ≡ parts_of owner ls ts
  other-parts =
      let none : (t : Index) → (owner t == l) ≡ true → is_owned owner ls t ≡ false = λ t e. ap (λ n. list_any (λ m. n == m) ls) (eqb-true (owner t) l e) ∙ apart.0 in
      let same : (t : Index) → (is_owned owner (l ∷ ls) t && not (owner t == l)) ≡ is_owned owner ls t = λ t. both-others (owner t == l) (is_owned owner ls t) (none t) in
      filter-twice (λ t. not (owner t == l)) (is_owned owner (l ∷ ls)) ts ∙ ap (λ p. filter p ts) (λ i t. same t i)

-- the rows of a locale at its indices, and each owner's elsewhere, are each owner's
dealt-first : {T : Type 0} (owner : Index → ℕ) (l : ℕ) (rows : ℕ → Index → T) → either (λ t. owner t == l) (rows l) (dealt owner rows) ≡ dealt owner rows
dealt-first owner l rows = λ i t. at t (owner t == l) refl i where
  at : (t : Index) (b : Bool) → (owner t == l) ≡ b → either (λ t. owner t == l) (rows l) (dealt owner rows) t ≡ dealt owner rows t
  at t true e = rw e (ap (λ m. rows m t) (sym (eqb-true (owner t) l e)))
  at t false e = rw e refl

module _ {T V : Type 0} {IsOne : V → Type 0} {unit : V} (loop : Loop T V) (monoid : IsCommutativeMonoid IsOne loop.join unit) (owner : Index → ℕ) (rows : ℕ → Index → T) (ts : List Index) where
  -- what a locale's part comes to, over its own rows and with nothing added
  abbrev pub ran : ℕ → Ran T V
  ran l = run loop (part_of owner l ts) (rows l) unit

  -- what no locale comes to
  abbrev pub nothing : Ran T V
  nothing = Finished (dealt owner rows) unit

  -- the turns of a locale's part add what may be put together
  abbrev pub PartAdds : ℕ → Type 0
  PartAdds l = AllAdd IsOne loop (part_of owner l ts) (rows l)

  -- so do those of several parts, over each owner's rows
  pub parts-add : (ls : List ℕ) → AreOnce ls → AllByRecursion PartAdds ls → AllAdd IsOne loop (parts_of owner ls ts) (dealt owner rows)
  parts-add [] apart h = subst (λ none. AllAdd IsOne loop none (dealt owner rows)) (sym (filter-none ts)) tt
  parts-add (l ∷ ls) apart h =
      let both : List Index = parts_of owner (l ∷ ls) ts in
      let here : Index → Bool = λ t. owner t == l in
      subst (AllAdd IsOne loop both) (dealt-first owner l rows)
      (adds-split IsOne loop here both (rows l) (dealt owner rows)
      (subst (λ firsts. AllAdd IsOne loop firsts (rows l)) (sym (first-part owner l ls apart ts)) h.0)
      (subst (λ others. AllAdd IsOne loop others (dealt owner rows)) (sym (other-parts owner l ls apart ts)) (parts-add ls apart.1 h.1)))

  module _ (rising : IsRising loop.place ts) where
    -- the parts of some locales are the part of the first and those of the others, merged
    pub run-next : (l : ℕ) (ls : List ℕ) → AreOnce (l ∷ ls) → AllByRecursion PartAdds (l ∷ ls)
        → run loop (parts_of owner (l ∷ ls) ts) (dealt owner rows) unit ≡ merge loop.join (λ t. owner t == l) (ran l) (run loop (parts_of owner ls ts) (dealt owner rows) unit)
    run-next l ls apart h =
        let both : List Index = parts_of owner (l ∷ ls) ts in
        let here : Index → Bool = λ t. owner t == l in
        let firsts : AllAdd IsOne loop (filter here both) (rows l) = subst (λ firsts. AllAdd IsOne loop firsts (rows l)) (sym (first-part owner l ls apart ts)) h.0 in
        let others : AllAdd IsOne loop (filter (λ t. not (here t)) both) (dealt owner rows) =
        subst (λ others. AllAdd IsOne loop others (dealt owner rows)) (sym (other-parts owner l ls apart ts)) (parts-add ls apart.1 h.1) in
        ap (run loop both (dealt owner rows)) (sym (monoid.neutral unit monoid.one))
        ∙ ap (λ rs. run loop both rs (loop.join unit unit)) (sym (dealt-first owner l rows))
        ∙ run-split loop monoid here both (rows l) (dealt owner rows) unit unit (rising-filter loop.place (is_owned owner (l ∷ ls)) ts rising) monoid.one monoid.one firsts others
        ∙ ap (λ firsts. merge loop.join here (run loop firsts (rows l) unit) (run loop (filter (λ t. not (here t)) both) (dealt owner rows) unit)) (first-part owner l ls apart ts)
        ∙ ap (λ others. merge loop.join here (ran l) (run loop others (dealt owner rows) unit)) (other-parts owner l ls apart ts)

    -- The parts of some locales are what each of them comes to, merged.
    pub run-parts : (ls : List ℕ) → AreOnce ls → AllByRecursion PartAdds ls → run loop (parts_of owner ls ts) (dealt owner rows) unit ≡ merged loop.join owner ran nothing ls
    run-parts [] apart h = ap (λ none. run loop none (dealt owner rows) unit) (filter-none ts)
    run-parts (l ∷ ls) apart h = run-next l ls apart h ∙ ap (merge loop.join (λ t. owner t == l) (ran l)) (run-parts ls apart.1 h.1)

    -- In whatever order locales are listed their parts come to the same together.
    pub merged-any-order : (ls ks : List ℕ) → AreOnce ls → AreOnce ks → AllByRecursion PartAdds ls → AllByRecursion PartAdds ks → ((t : Index) → is_owned owner ls t ≡ is_owned owner ks t)
        → merged loop.join owner ran nothing ls ≡ merged loop.join owner ran nothing ks
    merged-any-order ls ks apart others h more same =
        let parts : is_owned owner ls ≡ is_owned owner ks = λ i t. same t i in
        sym (run-parts ls apart h) ∙ ap (λ p. run loop (filter p ts) (dealt owner rows) unit) parts ∙ run-parts ks others more

    -- where each index of a loop is owned by one of some locales, their parts are the loop
    module _ (ls : List ℕ) (apart : AreOnce ls) (add : AllByRecursion PartAdds ls) (owned : All (λ t. is_owned owner ls t ≡ true) ts) where
      all-parts : parts_of owner ls ts ≡ ts
      all-parts = filter-all (is_owned owner ls) ts (recursion_from_All (λ t. is_owned owner ls t ≡ true) ts owned)

      pub run-whole : run loop ts (dealt owner rows) unit ≡ merged loop.join owner ran nothing ls
      run-whole = ap (λ all. run loop all (dealt owner rows) unit) (sym all-parts) ∙ run-parts ls apart add

      -- And so the loop is what its parts come to, put onto the reduce variables as they were.
      pub run-merged : (a : V) → IsOne a → run loop ts (dealt owner rows) a ≡ onto loop.join a (merged loop.join owner ran nothing ls)
      run-merged a ha =
          run-from loop monoid ts (dealt owner rows) a ha (subst (λ all. AllAdd IsOne loop all (dealt owner rows)) all-parts (parts-add ls apart add))
          ∙ ap (onto loop.join a) run-whole

-- ---- parts none of which has a fault
gathered-next : {T : Type 0} (owner : Index → ℕ) (ends : ℕ → Index → T) (rows : Index → T) (l : ℕ) (ls : List ℕ)
    → either (λ t. owner t == l) (ends l) (gathered owner ends rows ls) ≡ gathered owner ends rows (l ∷ ls)
gathered-next owner ends rows l ls = λ i t. at t (owner t == l) refl i where
  at : (t : Index) (c : Bool) → (owner t == l) ≡ c → either (λ t. owner t == l) (ends l) (gathered owner ends rows ls) t ≡ gathered owner ends rows (l ∷ ls) t
  at t true e = rw e (ap (λ m. ends m t) (sym (eqb-true (owner t) l e)))
  at t false e = rw e refl

-- all that ended leave each index's row as its owner left it, and what they added put together
pub merged-finished : {T V : Type 0} (join : V → V → V) (unit : V) (owner : Index → ℕ) (each : ℕ → Ran T V) (rows : Index → T) (ends : ℕ → Index → T) (sums : ℕ → V) (ls : List ℕ)
    → AllByRecursion (λ l. each l ≡ Finished (ends l) (sums l)) ls → merged join owner each (Finished rows unit) ls ≡ Finished (gathered owner ends rows ls) (all_joined join unit sums ls)
merged-finished join unit owner each rows ends sums [] h = refl
merged-finished join unit owner each rows ends sums (l ∷ ls) h =
    ap (λ r. merge join (λ t. owner t == l) r (merged join owner each (Finished rows unit) ls)) h.0
    ∙ ap (merge join (λ t. owner t == l) (Finished (ends l) (sums l))) (merged-finished join unit owner each rows ends sums ls h.1)
    ∙ ap (λ rs. Finished rs (join (sums l) (all_joined join unit sums ls))) (gathered-next owner ends rows l ls)

still_less : (j k l : ℕ) → nat_lt j k ≡ true → nat_lt k l ≡ true → nat_lt j l ≡ true
still_less j k l jk kl = grind (arith, nat_tests)

not_less_still : (j k l : ℕ) → nat_lt j k ≡ false → nat_lt k l ≡ false → nat_lt j l ≡ false
not_less_still j k l jk kl = grind (arith, nat_tests)

-- ---- in which brackets parts are merged doesn't matter
module _ {T V : Type 0} {IsOne : V → Type 0} {unit : V} (loop : Loop T V) (monoid : IsCommutativeMonoid IsOne loop.join unit) (p q : Index → Bool) where
  abbrev either_of : Index → Bool
  either_of t = p t || q t

  either-assoc : (xs ys zs : Index → T) → either p xs (either q ys zs) ≡ either either_of (either p xs ys) zs
  either-assoc xs ys zs = λ i t. at (p t) (q t) t i where
    at : (b c : Bool) (t : Index) → cond b (xs t) (cond c (ys t) (zs t)) ≡ cond (b || c) (cond b (xs t) (ys t)) (zs t)
    at true c t = refl
    at false true t = refl
    at false false t = refl

  -- of three faults that of the least place, and the last of them of those at one place
  three-faults : (j k l : ℕ) (f g h : Fault) (b c d : Bool) → nat_lt j k ≡ b → nat_lt k l ≡ c → nat_lt j l ≡ d
      → merge {T = T} loop.join p (Failed j f) (merge loop.join q (Failed k g) (Failed l h)) ≡ merge loop.join either_of (merge loop.join p (Failed j f) (Failed k g)) (Failed l h)
  three-faults j k l f g h true true true jk kl jl = rw (jk, kl) (rw (jk, jl) refl)
  three-faults j k l f g h true true false jk kl jl = absurd (let yes = still_less j k l jk kl in let no : true ≡ false = sym yes ∙ jl in cc)
  three-faults j k l f g h true false d jk kl jl = rw (jk, kl) refl
  three-faults j k l f g h false true d jk kl jl = rw (jk, kl) (rw jk refl)
  three-faults j k l f g h false false true jk kl jl = absurd (let no = not_less_still j k l jk kl in let yes : true ≡ false = sym jl ∙ no in cc)
  three-faults j k l f g h false false false jk kl jl = rw (jk, kl) (rw jl refl)

  pub merge-assoc : (x y z : Ran T V) → Comes IsOne x → Comes IsOne y → Comes IsOne z
      → merge loop.join p x (merge loop.join q y z) ≡ merge loop.join either_of (merge loop.join p x y) z
  merge-assoc (Finished xs a) (Finished ys b) (Finished zs c) hx hy hz = let rs = either-assoc xs ys zs in let as' = sym (monoid.assoc a b c hx hy hz) in λ i. Finished (rs i) (as' i)
  merge-assoc (Finished xs a) (Finished ys b) (Failed l h) hx hy hz = refl
  merge-assoc (Finished xs a) (Failed k g) (Finished zs c) hx hy hz = refl
  merge-assoc (Finished xs a) (Failed k g) (Failed l h) hx hy hz =
      elim (nat_lt k l) as (λ b. merge loop.join p (Finished xs a) (cond b (Failed k g) (Failed l h)) ≡ cond b (Failed k g) (Failed l h)) [ true ↦ refl | false ↦ refl ]
  merge-assoc (Failed j f) (Finished ys b) (Finished zs c) hx hy hz = refl
  merge-assoc (Failed j f) (Finished ys b) (Failed l h) hx hy hz = refl
  merge-assoc (Failed j f) (Failed k g) (Finished zs c) hx hy hz =
      elim (nat_lt j k) as (λ b. cond b (Failed j f) (Failed k g) ≡ merge loop.join either_of (cond b (Failed j f) (Failed k g)) (Finished zs c)) [ true ↦ refl | false ↦ refl ]
  merge-assoc (Failed j f) (Failed k g) (Failed l h) hx hy hz = three-faults j k l f g h (nat_lt j k) (nat_lt k l) (nat_lt j l) refl refl refl
