-- Rules with nothing one level deeper in them: their readers are the same with any number of levels.
-- So a parser's function for such a rule, an operator's say, need not be told how many are left.
use Rattle.std.proofs.Common.{◌≡◌, ℕ, Bool, true, false, ◌&&◌, refl, ap}
use Rattle.dpl_grammar.specs.Reader as reader
use Rattle.dpl_grammar.specs.Reader.{Reader, done_at, choose, many_at, run_at}
use Rattle.dpl_grammar.specs.Rule.{Names, Rule, token, below, either, many, run, complete, whole, ◌⟶◌, Parts, none, ◌⨾◌, ◌↓◌, Late, closed, opened, lower, choice, ended, dangling, Grammar}
use Rattle.dpl_grammar.specs.Reading.{DeepAt, read, read_parts, read_late, deep_at}

-- whether nothing in the rule stands one level deeper
abbrev mutual
  pub flat : {W : Names} {T : Type 0} → Rule W T → Bool
  flat (token class) = true
  flat (below n) = false
  flat (either a b) = flat a && flat b
  flat (many a) = flat a
  flat (run is_last a) = flat_late a
  flat (complete a see b) = flat a && flat b
  flat (whole a) = flat_late a
  flat (parts ⟶ f) = flat_parts parts

  pub flat_parts : {W : Names} {R T : Type 0} → Parts W R T → Bool
  flat_parts none = true
  flat_parts (a ⨾ parts) = flat a && flat_parts parts
  flat_parts (class ↓ parts) = false

  pub flat_late : {W : Names} {T : Type 0} {lets : T → Bool} → Late W T lets → Bool
  flat_late (closed a) = flat a
  flat_late (opened a f h) = flat a
  flat_late (lower n) = false
  flat_late (choice a b) = flat_late a && flat_late b
  flat_late (ended head a f h) = flat head && flat_late a
  flat_late (dangling a b alone both h i) = flat_late a && flat_late b

both : (a b : Bool) → (a && b) ≡ true → (a ≡ true) × (b ≡ true)
both true true h = (refl, refl)
both true false h = absurd cc
both false b h = absurd cc

pointwise : {A B : Type 0} {f g : A → B} → ((x : A) → f x ≡ g x) → f ≡ g
pointwise h = λ i. λ x. h x i

module _ {W : Names} (δ ε : DeepAt W) where
  mutual
    pub read_flat : {T : Type 0} (r : Rule W T) → flat r ≡ true → read r δ ≡ read r ε
    read_flat (token class) h = refl
    read_flat (below n) h = absurd cc
    read_flat (either a b) h = let two = both (flat a) (flat b) h in rw (read_flat a two.0, read_flat b two.1) refl
    read_flat (many a) h = rw (read_flat a h) refl
    read_flat (run is_last a) h = rw (read_late_flat a h) refl
    read_flat (complete a see b) h = let two = both (flat a) (flat b) h in rw (read_flat a two.0, read_flat b two.1) refl
    read_flat (whole a) h = read_late_flat a h
    read_flat (parts ⟶ f) h = read_parts_flat parts f h

    read_parts_flat : {R T : Type 0} (parts : Parts W R T) (f : R) → flat_parts parts ≡ true → read_parts parts f δ ≡ read_parts parts f ε
    read_parts_flat none f h = refl
    read_parts_flat (a ⨾ parts) f h =
        let two = both (flat a) (flat_parts parts) h in
        rw (read_flat a two.0) (ap (λ r. reader.◌>>=◌ (read a ε) r) (pointwise (λ x. read_parts_flat parts (f x) two.1)))
    read_parts_flat (class ↓ parts) f h = absurd cc

    pub read_late_flat : {T : Type 0} {lets : T → Bool} (a : Late W T lets) → flat_late a ≡ true → read_late a δ ≡ read_late a ε
    read_late_flat (closed a) h = read_flat a h
    read_late_flat (opened a f law) h = rw (read_flat a h) refl
    read_late_flat (lower n) h = absurd cc
    read_late_flat (choice a b) h = let two = both (flat_late a) (flat_late b) h in rw (read_late_flat a two.0, read_late_flat b two.1) refl
    read_late_flat (ended head a f law) h = let two = both (flat head) (flat_late a) h in rw (read_flat head two.0, read_late_flat a two.1) refl
    read_late_flat (dangling a b alone together law second_law) h = let two = both (flat_late a) (flat_late b) h in rw (read_late_flat a two.0, read_late_flat b two.1) refl

-- with any number of levels
pub read_anywhere : {W : Names} {T : Type 0} (g : Grammar W) (r : Rule W T) → flat r ≡ true → (d e : ℕ) → read r (deep_at g d) ≡ read r (deep_at g e)
read_anywhere g r h d e = read_flat (deep_at g d) (deep_at g e) r h
