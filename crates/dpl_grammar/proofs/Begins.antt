-- Rules whose first tokens are of their own level: with any number of levels, none among them, they begin.
-- So such a rule may stand one level deeper behind no token that goes there.
use Rattle.std.proofs.Common.{◌≡◌, inl, inr, Bool, true, false, cond, not, List, [], ◌∷◌, ◌++◌, Err, refl, sym, ◌∙◌}
use Rattle.dpl_syntax.specs.declared.token.Token.{Token}
use Rattle.dpl_grammar.specs.Classes.{Class, in_class}
use Rattle.dpl_grammar.specs.Language.{Language, token as token_language, either as either_language, ◌>>=◌}
use Rattle.dpl_grammar.specs.Reader as reader
use Rattle.dpl_grammar.specs.Reader.{Unexpected, Reader, next_in, choose, done_at}
use Rattle.dpl_grammar.specs.Rule.{Names, Rule, token, below, either, many, run, complete, whole, ◌⟶◌, Parts, none, ◌⨾◌, ◌↓◌, Late, closed, opened, lower, choice, ended, dangling, Deep, spelled, spelled_parts, spelled_late}
use Rattle.dpl_grammar.specs.Reading.{shape, shape_parts, shape_late, first, first_late, DeepAt, extension_at, completion_at, read, read_parts, read_late, begins_here, parts_begin_here, late_begins_here}
use Rattle.dpl_grammar.proofs.Classes.{next_in_either}

both_one : (a b : Bool) → cond a b false ≡ true → a ≡ true
both_one true b h = refl
both_one false b h = h

both_two : (a b : Bool) → cond a b false ≡ true → b ≡ true
both_two true b h = h
both_two false b h = absurd cc

or_false : (a b : Bool) → cond a true b ≡ false → (a ≡ false) × (b ≡ false)
or_false true b h = absurd cc
or_false false b h = (refl, h)

-- each token of F begins a front of L, and at no other token does the reader move
pub record Begins {T : Type 0} (n : Bool) (F : Class) (L : Language T) (p : Reader T) : Type 0 where
  pub solid : n ≡ false
  pub nothing : L.Front []
  pub begins : (k : Token) → in_class F k ≡ true → L.Front (k ∷ [])
  pub refuses : (ts : List Token) → next_in F ts ≡ false → p ts ≡ Err (Unexpected, ts)

then_begins : {T U : Type 0} {n : Bool} {F : Class} {A : Language T} {p : Reader T} (B : T → Language U) (r : T → Reader U) → Begins n F A p → Begins false F (A >>= B) (reader.◌>>=◌ p r)
unfolding ◌>>=◌
then_begins B r s = record { solid = refl; nothing = inl s.nothing; begins = λ k is. inl (s.begins k is); refuses = λ ts is. rw (s.refuses ts is) refl }

either_begins : {T : Type 0} {n m : Bool} {F G : Class} {A B : Language T} {p r : Reader T} → Begins n F A p → Begins m G B r → Begins m (F ++ G) (either_language A B) (choose F p r)
unfolding either_language
either_begins {F = F} {G = G} {A = A} {B = B} f s = record {
  solid = s.solid;
  nothing = inl f.nothing;
  begins = λ k is. at k (in_class F k) refl (in_class G k) refl (sym (next_in_either F G (k ∷ [])) ∙ is);
  refuses = λ ts is. let e = or_false (next_in F ts) (next_in G ts) (sym (next_in_either F G ts) ∙ is) in rw e.0 (s.refuses ts e.1);
}
  where
    at : (k : Token) (b : Bool) → in_class F k ≡ b → (c : Bool) → in_class G k ≡ c → cond b true c ≡ true → (either_language A B).Front (k ∷ [])
    at k true e c e2 h = inl (f.begins k e)
    at k false e true e2 h = inr (s.begins k e2)
    at k false e false e2 h = absurd cc

token_begins : (F : Class) → Begins false F (token_language F) (reader.token_at F)
unfolding token_language
token_begins F = record {
  solid = refl;
  nothing = inl refl;
  begins = λ k is. inr (k, refl, is);
  refuses = elim [ [] ↦ λ is. refl | k ∷ ts ↦ λ is. rw is refl ];
}

module _ {W : Names} (δ : Deep W) (ρ : DeepAt W) where
  mutual
    rule_begins : {T : Type 0} (r : Rule W T) → begins_here r ≡ true → Begins (shape r).nullable (first r) (spelled r δ) (read r ρ)
    rule_begins (token class) h = token_begins class
    rule_begins (below n) h = absurd cc
    rule_begins (either a b) h = either_begins (rule_begins a (both_one (begins_here a) (begins_here b) h)) (rule_begins b (both_two (begins_here a) (begins_here b) h))
    rule_begins (many a) h = absurd cc
    rule_begins (run is_last a) h = absurd cc
    rule_begins (complete a see b) h =
        let s = rule_begins a h in
        rw s.solid (then_begins _ (λ x. completion_at (read b ρ) (see x)) s)
    rule_begins (whole a) h = late_begins a h
    rule_begins (parts ⟶ f) h = parts_begin parts f h

    parts_begin : {R T : Type 0} (parts : Parts W R T) (f : R) → parts_begin_here parts ≡ true → Begins (shape_parts parts).nullable (shape_parts parts).first (spelled_parts parts f δ) (read_parts parts f ρ)
    parts_begin none f h = absurd cc
    parts_begin (a ⨾ parts) f h =
        let s = rule_begins a h in
        rw s.solid (then_begins _ (λ x. read_parts parts (f x) ρ) s)
    parts_begin (class ↓ parts) f h = absurd cc

    pub late_begins : {T : Type 0} {lets : T → Bool} (a : Late W T lets) → late_begins_here a ≡ true → Begins (shape_late a).nullable (first_late a) (spelled_late a δ) (read_late a ρ)
    late_begins (closed a) h = rule_begins a h
    late_begins (opened a f law) h =
        let s = rule_begins a h in
        rw s.solid (then_begins _ (λ x. done_at (f x)) s)
    late_begins (lower n) h = absurd cc
    late_begins (choice a b) h = either_begins (late_begins a (both_one (late_begins_here a) (late_begins_here b) h)) (late_begins b (both_two (late_begins_here a) (late_begins_here b) h))
    late_begins (ended head a f law) h =
        let s = rule_begins head h in
        rw s.solid (then_begins _ (λ p. reader.◌>>=◌ (read_late a ρ) (λ x. done_at (f p x))) s)
    late_begins (dangling {first_lets = first_lets} a b alone both law second_law) h =
        let s = late_begins a h in
        rw s.solid (then_begins _ (λ x. extension_at (first_late b) (not (first_lets x)) (read_late b ρ) (both x) (alone x)) s)
