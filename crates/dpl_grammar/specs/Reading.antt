-- The reader of a rule, and the test that one token of look-ahead tells the ways of a rule apart.
-- What a rule may begin with, and what may go on with it, is computed from the rule; the reader looks at it, and the test compares it.
use Rattle.std.specs.Prelude.{ℕ, zero, suc, List, [], ◌∷◌, ◌++◌, Bool, true, false, cond, not}
use Rattle.dpl_syntax.specs.declared.token.Token.{Token}
use Rattle.dpl_grammar.specs.Classes.{Class, has, apart, within}
use Rattle.dpl_grammar.specs.Reader as reader
use Rattle.dpl_grammar.specs.Reader.{Reader, done_at, token_at, choose, many_at, run_at, no_room}
use Rattle.dpl_grammar.specs.Rule.{Names, Beginning, Whole, Begun, Rule, token, below, either, many, run, complete, whole, ◌⟶◌, Parts, none, ◌⨾◌, ◌↓◌, Late, closed, opened, lower, choice, ended, dangling, Grammar}

-- of a rule: whether no token may spell a value, what the first token may be, which next token may go on with a value
pub record RuleForm : Type 0 where
  pub nullable : Bool
  pub first : Class
  pub more : Class

-- one after the other
abbrev then_shape : RuleForm → RuleForm → RuleForm
then_shape a b = record {
  nullable = cond a.nullable b.nullable false;
  first = cond a.nullable (a.first ++ b.first) a.first;
  more = cond b.nullable (a.more ++ b.more) b.more;
}

-- the one or the other
abbrev either_shape : RuleForm → RuleForm → RuleForm
either_shape a b = record { nullable = b.nullable; first = a.first ++ b.first; more = cond b.nullable (a.first ++ (a.more ++ b.more)) (a.more ++ b.more) }

-- any number
abbrev repeated_shape : RuleForm → RuleForm
repeated_shape a = record { nullable = true; first = a.first; more = a.first ++ a.more }

-- behind some values only
abbrev maybe_shape : RuleForm → RuleForm
maybe_shape a = record { nullable = true; first = a.first; more = a.more }

-- with the late tokens
abbrev whole_shape : RuleForm → Class → RuleForm
whole_shape a late = record { nullable = a.nullable; first = a.first; more = a.more ++ late }

-- the shape of a rule; of a late one, `more` has only what isn't late
abbrev mutual
  pub shape : {W : Names} {T : Type 0} → Rule W T → RuleForm
  shape (token class) = record { nullable = false; first = class; more = [] }
  shape {W = W} (below n) = record { nullable = false; first = W.hints.first n; more = W.hints.more n ++ W.hints.late n }
  shape (either a b) = either_shape (shape a) (shape b)
  shape (many a) = repeated_shape (shape a)
  shape (run is_last a) = repeated_shape (whole_shape (shape_late a) (late a))
  shape (complete a see b) = then_shape (shape a) (maybe_shape (shape b))
  shape (whole a) = whole_shape (shape_late a) (late a)
  shape (parts ⟶ f) = shape_parts parts

  pub shape_parts : {W : Names} {R T : Type 0} → Parts W R T → RuleForm
  shape_parts none = record { nullable = true; first = []; more = [] }
  shape_parts (a ⨾ parts) = then_shape (shape a) (shape_parts parts)
  shape_parts (class ↓ parts) = record { nullable = false; first = class; more = (shape_parts parts).more }

  pub shape_late : {W : Names} {T : Type 0} {lets : T → Bool} → Late W T lets → RuleForm
  shape_late (closed a) = shape a
  shape_late (opened a f h) = record { nullable = (shape a).nullable; first = (shape a).first; more = [] }
  shape_late {W = W} (lower n) = record { nullable = false; first = W.hints.first n; more = W.hints.more n }
  shape_late (choice a b) = either_shape (shape_late a) (shape_late b)
  shape_late (ended head a f h) = then_shape (shape head) (shape_late a)
  shape_late (dangling a b alone both h i) = then_shape (shape_late a) (record { nullable = true; first = (shape_late b).first; more = (shape_late b).more })

  -- which next token may go on with a value that lets it
  pub late : {W : Names} {T : Type 0} {lets : T → Bool} → Late W T lets → Class
  late (closed a) = []
  late (opened a f h) = (shape a).more
  late {W = W} (lower n) = W.hints.late n
  late (choice a b) = late a ++ late b
  late (ended head a f h) = late a
  late (dangling a b alone both h i) = (shape_late b).first ++ (late a ++ late b)

-- what a rule begins with
abbrev pub first : {W : Names} {T : Type 0} → Rule W T → Class
first r = (shape r).first

abbrev pub first_late : {W : Names} {T : Type 0} {lets : T → Bool} → Late W T lets → Class
first_late a = (shape_late a).first

-- what is read one level deeper, and whether there is room for it
pub record DeepAt (W : Names) : Type 0 where
  pub room : Bool
  pub rule : (n : W.Name) → Reader (W.Value n)

-- a token that goes one level deeper
abbrev pub where_room_at : Bool → Class → Reader Token
where_room_at true class = token_at class
where_room_at false class = no_room class

-- no token, or where x may be extended and the next token is of the class what extends it
abbrev pub extension_at : {B T : Type 0} → Class → Bool → Reader B → (B → T) → T → Reader T
extension_at class true b f x = choose class (reader.◌>>=◌ b (λ y. done_at (f y))) (done_at x)
extension_at class false b f x = done_at x

-- no token behind a whole value, and behind a begun one what completes it
abbrev pub completion_at : {B T : Type 0} → Reader (B → T) → Beginning B T → Reader T
completion_at b (Whole x) = done_at x
completion_at b (Begun x) = reader.◌>>=◌ b (λ h. done_at (h x))

-- the reader of a rule
abbrev mutual
  pub read : {W : Names} {T : Type 0} → Rule W T → DeepAt W → Reader T
  read (token class) deep = token_at class
  read (below n) deep = deep.rule n
  read (either a b) deep = choose (first a) (read a deep) (read b deep)
  read (many a) deep = many_at (first a) (read a deep)
  read (run is_last a) deep = run_at (first_late a) (λ x. not (is_last x)) (read_late a deep)
  read (complete a see b) deep = reader.◌>>=◌ (read a deep) (λ x. completion_at (read b deep) (see x))
  read (whole a) deep = read_late a deep
  read (parts ⟶ f) deep = read_parts parts f deep

  pub read_parts : {W : Names} {R T : Type 0} → Parts W R T → R → DeepAt W → Reader T
  read_parts none x deep = done_at x
  read_parts (a ⨾ parts) f deep = reader.◌>>=◌ (read a deep) (λ x. read_parts parts (f x) deep)
  read_parts (class ↓ parts) f deep = reader.◌>>=◌ (where_room_at deep.room class) (λ k. read_parts parts (f k) deep)

  pub read_late : {W : Names} {T : Type 0} {lets : T → Bool} → Late W T lets → DeepAt W → Reader T
  read_late (closed a) deep = read a deep
  read_late (opened a f h) deep = reader.◌>>=◌ (read a deep) (λ x. done_at (f x))
  read_late (lower n) deep = deep.rule n
  read_late (choice a b) deep = choose (first_late a) (read_late a deep) (read_late b deep)
  read_late (ended head a f h) deep = reader.◌>>=◌ (read head deep) (λ p. reader.◌>>=◌ (read_late a deep) (λ x. done_at (f p x)))
  read_late (dangling {first_lets = first_lets} a b alone both h i) deep = reader.◌>>=◌ (read_late a deep) (λ x. extension_at (first_late b) (not (first_lets x)) (read_late b deep) (both x) (alone x))

-- with d levels; with none, only what a rule begins with is looked at, to tell whether it begins there
abbrev pub deep_at : {W : Names} → Grammar W → ℕ → DeepAt W
deep_at {W = W} g zero = record { room = false; rule = λ n. no_room (W.hints.first n) }
deep_at g (suc d) = record { room = true; rule = λ n. read_late (g.rule n) (deep_at g d) }

-- whether each token that the rule may begin with is of its own level
abbrev mutual
  pub begins_here : {W : Names} {T : Type 0} → Rule W T → Bool
  begins_here (token class) = true
  begins_here (below n) = false
  begins_here (either a b) = cond (begins_here a) (begins_here b) false
  begins_here (many a) = false
  begins_here (run is_last a) = false
  begins_here (complete a see b) = begins_here a
  begins_here (whole a) = late_begins_here a
  begins_here (parts ⟶ f) = parts_begin_here parts

  pub parts_begin_here : {W : Names} {R T : Type 0} → Parts W R T → Bool
  parts_begin_here none = false
  parts_begin_here (a ⨾ parts) = begins_here a
  parts_begin_here (class ↓ parts) = false

  pub late_begins_here : {W : Names} {T : Type 0} {lets : T → Bool} → Late W T lets → Bool
  late_begins_here (closed a) = begins_here a
  late_begins_here (opened a f h) = begins_here a
  late_begins_here (lower n) = false
  late_begins_here (choice a b) = cond (late_begins_here a) (late_begins_here b) false
  late_begins_here (ended head a f h) = begins_here head
  late_begins_here (dangling a b alone both h i) = late_begins_here a

-- Why one token of look-ahead may not tell the ways of a rule apart.
pub data Fault : Type 0 where
  -- what follows may begin with what goes on with the part before it
  GoesOn : Class → Fault
  -- two ways begin alike, or what is repeated begins with what goes on with it
  BeginsAlike : Class → Fault
  -- the first of two ways, what is repeated, what may go on late, or a rule that may stand one level deeper is spelled by no token
  MayBeEmpty : Fault
  -- a token is of the class that no front has
  HasToken : Class → Fault
  -- a rule stands one level deeper behind no token that goes there, and its first token goes deeper still
  GoesDeeperTwice : Fault
  -- a rule that may stand one level deeper begins with, or goes on with, a token that its names lack
  Unnamed : Class → Fault
  -- its names have a token that it doesn't begin with
  Misnamed : Class → Fault

-- the kinds that two classes share
abbrev pub shared : Class → Class → Class
shared [] D = []
shared (k ∷ C) D = cond (has D k) (k ∷ shared C D) (shared C D)

-- the kinds of the first class that the second lacks, each of them once
abbrev pub lacking : Class → Class → Class
lacking [] D = []
lacking (k ∷ C) D = cond (has D k) (lacking C D) (k ∷ lacking C (k ∷ D))

abbrev pub unless : Bool → Fault → List Fault
unless true fault = []
unless false fault = fault ∷ []

abbrev pub empty_faults : RuleForm → List Fault
empty_faults a = unless (not a.nullable) MayBeEmpty

-- of one after the other
abbrev pub then_faults : RuleForm → RuleForm → List Fault
then_faults a b = unless (apart b.first a.more) (GoesOn (shared b.first a.more))

-- of one, and maybe the other
abbrev pub extend_faults : RuleForm → RuleForm → List Fault
extend_faults a b = empty_faults b ++ then_faults a b

-- of the one or the other
abbrev pub either_faults : RuleForm → RuleForm → List Fault
either_faults a b = empty_faults a ++ unless (apart b.first a.first) (BeginsAlike (shared a.first b.first))

-- of any number
abbrev pub many_faults : RuleForm → List Fault
many_faults a = empty_faults a ++ unless (apart a.first a.more) (BeginsAlike (shared a.first a.more))

-- of a rule one level deeper: none behind a token that opens that level, and else it must begin on its own
abbrev pub name_faults : {W : Names} → Grammar W → Bool → W.Name → List Fault
name_faults g true n = []
name_faults g false n = unless (late_begins_here (g.rule n)) GoesDeeperTwice

-- The faults of a rule, of whose tokens none may be of the class X.
-- `room`: whether there is room for a rule one level deeper.
abbrev mutual
  pub faults : {W : Names} {T : Type 0} → Grammar W → Class → Bool → Rule W T → List Fault
  faults g X room (token class) = unless (apart class X) (HasToken class)
  faults g X room (below n) = name_faults g room n
  faults g X room (either a b) = faults g X room a ++ (faults g X room b ++ either_faults (shape a) (shape b))
  faults g X room (many a) = faults g X room a ++ many_faults (shape a)
  faults g X room (run is_last a) = late_faults g X room a ++ many_faults (shape_late a)
  faults g X room (complete a see b) = faults g X room a ++ (faults g X room b ++ then_faults (shape a) (shape b))
  faults g X room (whole a) = late_faults g X room a
  faults g X room (parts ⟶ f) = parts_faults g X room parts

  pub parts_faults : {W : Names} {R T : Type 0} → Grammar W → Class → Bool → Parts W R T → List Fault
  parts_faults g X room none = []
  parts_faults g X room (a ⨾ parts) = faults g X room a ++ (parts_faults g X room parts ++ then_faults (shape a) (shape_parts parts))
  parts_faults g X room (class ↓ parts) = unless (apart class X) (HasToken class) ++ parts_faults g X true parts

  pub late_faults : {W : Names} {T : Type 0} {lets : T → Bool} → Grammar W → Class → Bool → Late W T lets → List Fault
  late_faults g X room (closed a) = faults g X room a
  late_faults g X room (opened a f h) = faults g X room a
  late_faults g X room (lower n) = name_faults g room n
  late_faults g X room (choice a b) = late_faults g X room a ++ (late_faults g X room b ++ either_faults (shape_late a) (shape_late b))
  late_faults g X room (ended head a f h) = faults g X room head ++ (late_faults g X room a ++ then_faults (shape head) (shape_late a))
  late_faults g X room (dangling a b alone both h i) = late_faults g X room a ++ (late_faults g X room b ++ extend_faults (shape_late a) (shape_late b))

-- of tokens that names lack
abbrev pub unnamed_faults : Class → Class → List Fault
unnamed_faults C D = unless (within C D) (Unnamed (lacking C D))

-- the faults of a rule that may stand one level deeper
abbrev pub below_faults : {W : Names} → Grammar W → Class → W.Name → List Fault
below_faults {W = W} g X n = let s = shape_late (g.rule n) in
    late_faults g X false (g.rule n) ++ (empty_faults s
    ++ (unnamed_faults s.first (W.hints.first n)
    ++ (unless (within (W.hints.first n) s.first) (Misnamed (lacking (W.hints.first n) s.first))
    ++ (unnamed_faults s.more (W.hints.more n)
    ++ unnamed_faults (late (g.rule n)) (W.hints.late n)))))
