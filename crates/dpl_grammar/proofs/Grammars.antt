-- Each rule without faults is read by its reader: one case for each thing that a rule is made of.
-- So a grammar has to show only that its rules have none, which computes.
use Rattle.std.proofs.Common.{◌≡◌, ℕ, zero, suc, Bool, true, false, cond, not, [], ◌++◌, refl}
use Rattle.dpl_grammar.specs.Numbers.{kind_number}
use Rattle.dpl_grammar.specs.Classes.{Class, apart, within}
use Rattle.dpl_grammar.specs.Laws.{Reads}
use Rattle.dpl_grammar.specs.Rule.{Names, Rule, token, below, either, many, run, complete, whole, ◌⟶◌, Parts, none, ◌⨾◌, ◌↓◌, Late, closed, opened, lower, choice, ended, dangling, Grammar, deep, spelled, spelled_parts, spelled_late}
use Rattle.dpl_grammar.specs.Reading.{shape, shape_parts, shape_late, late, first, first_late, deep_at, read, read_parts, read_late, late_begins_here, HasToken, GoesDeeperTwice, unless, faults, parts_faults, late_faults, name_faults, then_faults, extend_faults, either_faults, many_faults, below_faults}
use Rattle.dpl_grammar.proofs.Classes.{within_is, next_within, within_self, within_front, within_append}
use Rattle.dpl_grammar.proofs.Basic.{token_reads, done_reads}
use Rattle.dpl_grammar.proofs.Choice.{no_room_reads}
use Rattle.dpl_grammar.proofs.Rules.{and_then_at, then_reads, token_then, or_else_at, many_read, as_run, ends_more, room_reads}
use Rattle.dpl_grammar.proofs.Faults.{no_one, no_two, none_of, unless_none, no_then, no_extend, no_either, no_many, fits}
use Rattle.dpl_grammar.proofs.Begins.{late_begins}
use Rattle.dpl_grammar.proofs.Late.{within_wider, goes_on, goes_on_within, whole_within, within_more, within_late, goes_on_apart, nullable_is, begins_more, made_at, extension_reads, extension_empty, completion_reads}

-- what goes on with the second goes on with the whole, and with an empty second what goes on with the first does

more_second : (n : Bool) (C D : Class) → within D (cond n (C ++ D) D) ≡ true
more_second true C D = within_append C D D (within_self D)
more_second false C D = within_self D

more_first : (n : Bool) (C D : Class) → cond n (within C (cond n (C ++ D) D)) true ≡ true
more_first true C D = within_front C D
more_first false C D = refl

more_before : (n : Bool) (C D : Class) → (n ≡ false → ⊥) → within C (cond n (C ++ D) D) ≡ true
more_before true C D h = within_front C D
more_before false C D h = absurd (h refl)

-- what goes on with either, and with an empty one what begins the other

more_one : (n : Bool) (F C D : Class) → within C (cond n (F ++ (C ++ D)) (C ++ D)) ≡ true
more_one true F C D = within_append F C (C ++ D) (within_front C D)
more_one false F C D = within_front C D

more_other : (n : Bool) (F C D : Class) → within D (cond n (F ++ (C ++ D)) (C ++ D)) ≡ true
more_other true F C D = within_append F D (C ++ D) (within_append C D D (within_self D))
more_other false F C D = within_append C D D (within_self D)

more_begun : (n : Bool) (F C D : Class) → (n ≡ false → ⊥) → within F (cond n (F ++ (C ++ D)) (C ++ D)) ≡ true
more_begun true F C D h = within_front F (C ++ D)
more_begun false F C D h = absurd (h refl)

-- what the whole begins with

begins_first : (n : Bool) (F G : Class) → within F (cond n (F ++ G) F) ≡ true
begins_first true F G = within_front F G
begins_first false F G = within_self F

begins_second : (n : Bool) (F G H : Class) → within H G ≡ true → cond n (within H (cond n (F ++ G) F)) true ≡ true
begins_second true F G H h = within_append F H G h
begins_second false F G H h = refl

-- what extends a value, where that may be
extends_first : (b : Bool) (F : Class) → within (cond b F []) F ≡ true
extends_first true F = within_self F
extends_first false F = refl

extends_apart : (b : Bool) (F C L : Class) → apart F C ≡ true → apart (cond (not b) F []) (goes_on b C L) ≡ true
extends_apart true F C L h = refl
extends_apart false F C L h = h

-- what goes on with a value goes on with the whole
whole_goes_on : (b : Bool) (C L : Class) → within (goes_on b C L) (C ++ L) ≡ true
whole_goes_on b C L = whole_within b C L (C ++ L) (within_front C L) (within_append C L L (within_self L))

alone_goes_on : (b : Bool) (C D L M G : Class) → within (goes_on b C L) ((C ++ D) ++ (G ++ (L ++ M))) ≡ true
alone_goes_on b C D L M G = whole_within b C L ((C ++ D) ++ (G ++ (L ++ M))) (within_wider C (C ++ D) (G ++ (L ++ M)) (within_front C D)) (within_append (C ++ D) L (G ++ (L ++ M)) (within_append G L (L ++ M) (within_front L M)))

module _ {W : Names} (g : Grammar W) (X : Class) where
  -- with d levels, and with one more, the reader reads the rule
  abbrev pub ReadsRule : {T : Type 0} → ℕ → Rule W T → Type 0
  ReadsRule d r = Reads X (spelled r (deep g d)) (spelled r (deep g (suc d))) (read r (deep_at g d)) (read r (deep_at g (suc d))) (shape r).nullable (shape r).first (λ x. (shape r).more)

  abbrev pub ReadsLate : {T : Type 0} {lets : T → Bool} → ℕ → Late W T lets → Type 0
  ReadsLate {lets = lets} d a = Reads X (spelled_late a (deep g d)) (spelled_late a (deep g (suc d))) (read_late a (deep_at g d)) (read_late a (deep_at g (suc d))) (shape_late a).nullable (shape_late a).first (λ x. goes_on (lets x) (shape_late a).more (late a))

  abbrev ReadsParts : {R T : Type 0} → ℕ → Parts W R T → R → Type 0
  ReadsParts d parts f = Reads X (spelled_parts parts f (deep g d)) (spelled_parts parts f (deep g (suc d))) (read_parts parts f (deep_at g d)) (read_parts parts f (deep_at g (suc d))) (shape_parts parts).nullable (shape_parts parts).first (λ x. (shape_parts parts).more)

  -- what is known of what stands one level deeper
  abbrev Below : ℕ → Type 0
  Below zero = Unit {0}
  Below (suc d) = (n : W.Name) → ReadsLate (suc d) (lower n)

  -- there is room, where that is said
  abbrev HasRoom : Bool → ℕ → Type 0
  HasRoom true zero = ⊥
  HasRoom true (suc d) = Unit {0}
  HasRoom false d = Unit {0}

  module _ (good : (n : W.Name) → below_faults g X n ≡ []) where
    no_more : (n : W.Name) → late_begins_here (g.rule n) ≡ true → ReadsLate zero (lower n)
    no_more n h =
        let s = late_begins (deep g zero) (deep_at g zero) (g.rule n) h in
        let fit = fits g X n (good n) in
        no_room_reads X (W.hints.first n) (spelled_late (g.rule n) (deep g zero)) (read_late (g.rule n) (deep_at g zero))
        (λ k is. s.begins k (within_is (W.hints.first n) (first_late (g.rule n)) (kind_number k.kind) fit.named_first is)) s.nothing
        (λ ts is. s.refuses ts (next_within (first_late (g.rule n)) (W.hints.first n) ts fit.first is)) (λ x. goes_on (W.lets n x) (W.hints.more n) (W.hints.late n))

    lower_reads : (d : ℕ) (room : Bool) (n : W.Name) → HasRoom room d → Below d → name_faults g room n ≡ [] → ReadsLate d (lower n)
    lower_reads zero true n is b h = absurd is
    lower_reads zero false n is b h = no_more n (unless_none (late_begins_here (g.rule n)) GoesDeeperTwice h)
    lower_reads (suc d) room n is b h = b n

    mutual
      rule_reads : {T : Type 0} (r : Rule W T) (d : ℕ) (room : Bool) → HasRoom room d → Below d → faults g X room r ≡ [] → ReadsRule d r
      rule_reads (token class) d room is b h = token_reads X class (unless_none (apart class X) (HasToken class) h)
      rule_reads (below n) d room is b h = ends_more (λ x. W.hints.more n ++ W.hints.late n) (λ x. whole_goes_on (W.lets n x) (W.hints.more n) (W.hints.late n)) (lower_reads d room n is b h)
      rule_reads (either a c) d room is b h =
          let fit = none_of (faults g X room a) (faults g X room c) (either_faults (shape a) (shape c)) h in
          let no = no_either (shape a) (shape c) fit.2 in
          let one = nullable_is no.0 (rule_reads a d room is b fit.0) in
          let two = rule_reads c d room is b fit.1 in
          let n = (shape c).nullable in
          let F = first a in
          let C = (shape a).more in
          let D = (shape c).more in
          or_else_at one two (F ++ first c) (λ x. cond n (F ++ (C ++ D)) (C ++ D)) no.1 (λ x. more_one n F C D) (λ x. more_other n F C D)
          (λ x s. more_begun n F C D (λ e. two.solid e x s)) (within_front F (first c)) (within_append F (first c) (first c) (within_self (first c)))
      rule_reads (many a) d room is b h =
          let no = no_many (shape a) (no_two (faults g X room a) (many_faults (shape a)) h) in
          many_read (nullable_is no.0 (rule_reads a d room is b (no_one (faults g X room a) (many_faults (shape a)) h))) no.1
      rule_reads (run is_last a) d room is b h =
          let s = shape_late a in
          let no = no_many s (no_two (late_faults g X room a) (many_faults s) h) in
          let one = nullable_is no.0 (late_reads a d room is b (no_one (late_faults g X room a) (many_faults s) h)) in
          as_run (λ x. not (is_last x)) one (s.first ++ (s.more ++ late a)) (λ x e. goes_on_apart (is_last x) s.first s.more (late a) e no.1)
          (λ x. within_append s.first (goes_on (is_last x) s.more (late a)) (s.more ++ late a) (whole_goes_on (is_last x) s.more (late a))) (within_front s.first (s.more ++ late a))
      rule_reads (complete a see c) d room is b h =
          let fit = none_of (faults g X room a) (faults g X room c) (then_faults (shape a) (shape c)) h in
          let C = (shape a).more in
          let D = (shape c).more in
          then_reads (rule_reads a d room is b fit.0) (λ x. completion_reads C (rule_reads c d room is b fit.1) (see x)) (no_then (shape a) (shape c) fit.2) (within_front C D)
      rule_reads (whole {lets = lets} a) d room is b h = ends_more (λ x. (shape_late a).more ++ late a) (λ x. whole_goes_on (lets x) (shape_late a).more (late a)) (late_reads a d room is b h)
      rule_reads (parts ⟶ f) d room is b h = parts_read parts f d room is b h

      parts_read : {R T : Type 0} (parts : Parts W R T) (f : R) (d : ℕ) (room : Bool) → HasRoom room d → Below d → parts_faults g X room parts ≡ [] → ReadsParts d parts f
      parts_read none f d room is b h = done_reads f
      parts_read (a ⨾ parts) f d room is b h =
          let fit = none_of (faults g X room a) (parts_faults g X room parts) (then_faults (shape a) (shape_parts parts)) h in
          let n = (shape_parts parts).nullable in
          let C = (shape a).more in
          let D = (shape_parts parts).more in
          then_reads (rule_reads a d room is b fit.0) (λ x. ends_more (λ y. cond n (C ++ D) D) (λ y. more_second n C D) (parts_read parts (f x) d room is b fit.1)) (no_then (shape a) (shape_parts parts) fit.2) (more_first n C D)
      parts_read (class ↓ parts) f zero room is b h =
          room_reads X class (λ k. spelled_parts parts (f k) (deep g zero)) (λ k. spelled_parts parts (f k) (deep g (suc zero))) (λ k. read_parts parts (f k) (deep_at g zero)) (λ k. read_parts parts (f k) (deep_at g (suc zero))) (λ y. (shape_parts parts).more)
      parts_read (class ↓ parts) f (suc d) room is b h =
          let A = unless (apart class X) (HasToken class) in
          let B = parts_faults g X true parts in
          token_then class (unless_none (apart class X) (HasToken class) (no_one A B h)) (λ k. parts_read parts (f k) (suc d) true tt b (no_two A B h))

      late_reads : {T : Type 0} {lets : T → Bool} (a : Late W T lets) (d : ℕ) (room : Bool) → HasRoom room d → Below d → late_faults g X room a ≡ [] → ReadsLate d a
      late_reads {lets = lets} (closed a) d room is b h =
          let C = (shape a).more in
          ends_more (λ x. goes_on (lets x) C []) (λ x. within_more (lets x) C C [] (within_self C)) (rule_reads a d room is b h)
      late_reads {lets = lets} (opened a f law) d room is b h =
          let C = (shape a).more in
          made_at f (λ y. goes_on (lets y) [] C) (λ x. within_late (lets (f x)) C [] C (law x) (within_self C)) (rule_reads a d room is b h)
      late_reads (lower n) d room is b h = lower_reads d room n is b h
      late_reads {lets = lets} (choice a c) d room is b h =
          let fit = none_of (late_faults g X room a) (late_faults g X room c) (either_faults (shape_late a) (shape_late c)) h in
          let no = no_either (shape_late a) (shape_late c) fit.2 in
          let one = nullable_is no.0 (late_reads a d room is b fit.0) in
          let two = late_reads c d room is b fit.1 in
          let n = (shape_late c).nullable in
          let F = first_late a in
          let G = first_late c in
          let C = (shape_late a).more in
          let D = (shape_late c).more in
          let E = cond n (F ++ (C ++ D)) (C ++ D) in
          let L = late a in
          let M = late c in
          or_else_at one two (F ++ G) (λ x. goes_on (lets x) E (L ++ M)) no.1
          (λ x. goes_on_within (lets x) C L E (L ++ M) (more_one n F C D) (within_front L M))
          (λ x. goes_on_within (lets x) D M E (L ++ M) (more_other n F C D) (within_append L M M (within_self M)))
          (λ x s. within_more (lets x) F E (L ++ M) (more_begun n F C D (λ e. two.solid e x s))) (within_front F G) (within_append F G G (within_self G))
      late_reads {lets = lets} (ended {P = P} {last_lets = last_lets} head a f law) d room is b h =
          let fit = none_of (faults g X room head) (late_faults g X room a) (then_faults (shape head) (shape_late a)) h in
          let m = (shape head).nullable in
          let n = (shape_late a).nullable in
          let F = first head in
          let G = first_late a in
          let C = (shape head).more in
          let D = (shape_late a).more in
          let E = cond n (C ++ D) D in
          let L = late a in
          let last = late_reads a d room is b fit.1 in
          let two = λ (p : P). made_at (f p) (λ y. goes_on (lets y) D L) (λ x. rw (law p x) (within_self (goes_on (last_lets x) D L))) last in
          and_then_at (rule_reads head d room is b fit.0) two (cond m (F ++ G) F) (λ y. goes_on (lets y) E L)
          (λ p. no_then (shape head) (shape_late a) fit.2) (λ p y. goes_on_within (lets y) D L E L (more_second n C D) (within_self L))
          (λ p y s. within_more (lets y) C E L (more_before n C D (λ e. (two p).solid e y s))) (begins_first m F G) (λ p. begins_second m F G G (within_self G))
      late_reads {T = T} {lets = lets} (dangling {A = A} {first_lets = first_lets} {second_lets = second_lets} a c alone both law second_law) d room is b h =
          let fit = none_of (late_faults g X room a) (late_faults g X room c) (extend_faults (shape_late a) (shape_late c)) h in
          let no = no_extend (shape_late a) (shape_late c) fit.2 in
          let n = (shape_late a).nullable in
          let F = first_late a in
          let G = first_late c in
          let C = (shape_late a).more in
          let D = (shape_late c).more in
          let L = late a in
          let M = late c in
          let E = λ (y : T). goes_on (lets y) (C ++ D) (G ++ (L ++ M)) in
          let second = nullable_is no.0 (late_reads c d room is b fit.1) in
          let two = λ (x : A). extension_reads (both x) (alone x) E second (not (first_lets x))
          (λ y. rw (second_law x y) (goes_on_within (second_lets y) D M (C ++ D) (G ++ (L ++ M)) (within_append C D D (within_self D)) (within_append G M (L ++ M) (within_append L M M (within_self M)))))
          (within_late (lets (alone x)) G (C ++ D) (G ++ (L ++ M)) (law x) (within_front G (L ++ M))) in
          and_then_at (late_reads a d room is b fit.0) two (cond n (F ++ G) F) E
          (λ x. extends_apart (first_lets x) G C L no.1) (λ x y. within_self (E y))
          (λ x y s. rw (extension_empty (both x) (alone x) E second (not (first_lets x)) y s, law x) (alone_goes_on (first_lets x) C D L M G))
          (begins_first n F G) (λ x. begins_second n F G (cond (not (first_lets x)) G []) (extends_first (not (first_lets x)) G))

    below_of : (d : ℕ) → Below d
    below_of zero = tt
    below_of (suc d) = λ n.
        let fit = fits g X n (good n) in
        let s = shape_late (g.rule n) in
        begins_more (W.hints.first n) fit.first (ends_more (λ x. goes_on (W.lets n x) (W.hints.more n) (W.hints.late n))
        (λ x. goes_on_within (W.lets n x) s.more (late (g.rule n)) (W.hints.more n) (W.hints.late n) fit.more fit.late) (nullable_is fit.solid (late_reads (g.rule n) d false tt (below_of d) fit.right)))

    -- a rule without faults is read, with any number of levels
    pub reads : {T : Type 0} (r : Rule W T) → faults g X false r ≡ [] → (d : ℕ) → ReadsRule d r
    reads r h d = rule_reads r d false tt (below_of d) h

    pub reads_late : {T : Type 0} {lets : T → Bool} (a : Late W T lets) → late_faults g X false a ≡ [] → (d : ℕ) → ReadsLate d a
    reads_late a h d = late_reads a d false tt (below_of d) h
