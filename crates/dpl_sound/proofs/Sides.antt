-- A right side gives a value of its type: it is an expression, or a cell read, which gives what the cell's name is
-- declared with. What is done with it goes on in a state that has what the scopes declare.
use Rattle.std.proofs.Common.{◌≡◌, ℤ, List, [], ◌∷◌, Option, Some, None, Result, Ok, Err, refl, sym, ap, subst}
use Rattle.std.specs.Result.{IfOk}
use Rattle.dpl_syntax.specs.declared.place.Place.{Place}
use Rattle.dpl_history.specs.declared.cell.CellState.{CellState}
use Rattle.dpl_history.specs.declared.cell.CellState.TheVariants.{Empty, Full}
use Rattle.dpl_history.specs.declared.cell.CellOp.{CellOp}
use Rattle.dpl_history.specs.declared.cell.Reply.{Reply}
use Rattle.dpl_history.specs.declared.cell.Reply.TheVariants.{Value as Given, Done as NoValue}
use Rattle.dpl_history.specs.Cells.{effect, IsReplyTo}
use Rattle.dpl_language.specs.Tree.{Placed, Kind, ReadWord, ReadFEWord, ReadFFWord, ExprTree, Number, TruthWord, Named, LocalesWord, LocaleCount, HereWord, Grouped, DomainLiteral, Prefixed, Reduced}
use Rattle.dpl_language.specs.Tree.{Chain, Postfixed, ItemTree, One, RangeItem, Posts, NoPosts, Post, Brackets, Rounds, Dotted, Plainly, Dim, Contains, Expand, CellRead}
use Rattle.dpl_language.specs.Values.{Value, Fault, cell_kind}
use Rattle.dpl_language.specs.Names.{Text, State, change_in, set_cell, state_in, look_up, cell_number, effect_on, call_in, by_name}
use Rattle.dpl_language.specs.Outcome.{Deeds, Run, with_value, with_operation}
use Rattle.dpl_language.specs.Environment.{Limits}
use Rattle.dpl_language.specs.Phrases.{ReadTree, read_op, posts_read, read_by, bare_name, cell_read, item_read}
use Rattle.dpl_language.specs.Expressions.{item_of}
use Rattle.dpl_language.specs.Assignments.{reply_value, answered, read_or, evaluated}
use Rattle.dpl_rules.specs.Types.{ValueType}
use Rattle.dpl_rules.specs.Verdicts.{type_by}
use Rattle.dpl_rules.specs.Places.{last_of}
use Rattle.dpl_rules.specs.Sights.{Scopes}
use Rattle.dpl_rules.specs.Expressions.{bare_locales, locales_or, read_or_type, type_of, item_type, posts_type, post_verdict, kind_read, side_part}
use Rattle.dpl_sound.specs.Formed.{ItemFormed}
use Rattle.dpl_sound.specs.Typed.{OfKind, HasPartType}
use Rattle.dpl_sound.specs.Runs.{Keeps, Leaves, NextIsTo, IsReplied}
use Rattle.dpl_sound.proofs.Given.{some-same}
use Rattle.dpl_sound.proofs.Sound.{item_of-has, part-has}
use Rattle.dpl_sound.proofs.Outcomes.{reply_value-kind}
use Rattle.dpl_sound.proofs.Stores.{by_name-fits}
use Rattle.dpl_sound.proofs.Changes.{set_cell-keeps}

pub with_value-leaves : {A : Type 0} (P : State → Type 0) (Q : A → Type 0) (r : Result A Fault) (go : A → Run State) (s : State) (done : Deeds) → IfOk r Q
    → ((v : A) → Q v → Leaves P (go v s done)) → Leaves P (with_value r go s done)
with_value-leaves P Q (Ok v) go s done q p = p v q
with_value-leaves P Q (Err f) go s done q p = tt

-- ---- a cell read has no type as an expression, and its operation is a read
read_of_none : (x : Option (Placed Text)) (r : ReadTree Text) → read_by x None ≡ Some r → ⊥
read_of_none None r h = absurd cc
read_of_none (Some x) r h = absurd cc

read_of_some : (x : Option (Placed Text)) (op : CellOp) (r : ReadTree Text) → read_by x (Some op) ≡ Some r → r.op ≡ op
read_of_some None op r h = absurd cc
read_of_some (Some x) op r h = sym (ap (λ (q : ReadTree Text). q.op) (some-same (record { name = x; op = op }) r h))

abbrev IsRead : CellOp → Type 0
IsRead op = (w : ReadWord) × (op ≡ read_op w)

module _ (scopes : Scopes) where
  read_verdict-none : (last dot at from upto : Place) (w : ReadWord) (o : Option ValueType)
      → type_by (post_verdict scopes last (Dotted dot (CellRead at w from upto)) o) ≡ None
  read_verdict-none last dot at from upto w None = refl
  read_verdict-none last dot at from upto w (Some t) = refl

  posts_read-told : (x : Option (Placed Text)) (last : Place) (o : Option ValueType) (posts : Posts Text) (r : ReadTree Text) → read_by x (posts_read posts) ≡ Some r
      → (posts_type scopes last o posts ≡ None) × IsRead r.op
  posts_read-told x last o NoPosts r h = elim (read_of_none x r h) [ ]
  posts_read-told x last o (Post p (Post q rest)) r h = elim (read_of_none x r h) [ ]
  posts_read-told x last o (Post (Brackets from items upto) NoPosts) r h = elim (read_of_none x r h) [ ]
  posts_read-told x last o (Post (Rounds from es upto) NoPosts) r h = elim (read_of_none x r h) [ ]
  posts_read-told x last o (Post (Dotted dot (Plainly at w)) NoPosts) r h = elim (read_of_none x r h) [ ]
  posts_read-told x last o (Post (Dotted dot (Dim at from rank_at d upto)) NoPosts) r h = elim (read_of_none x r h) [ ]
  posts_read-told x last o (Post (Dotted dot (Contains at from es upto)) NoPosts) r h = elim (read_of_none x r h) [ ]
  posts_read-told x last o (Post (Dotted dot (Expand at from e upto)) NoPosts) r h = elim (read_of_none x r h) [ ]
  posts_read-told x last o (Post (Dotted dot (CellRead at w from upto)) NoPosts) r h =
      (read_verdict-none last dot at from upto w o, (w, read_of_some x (read_op w) r h))

  cell_read-told : (e : ExprTree Text) (r : ReadTree Text) → cell_read e ≡ Some r → (type_of scopes e ≡ None) × IsRead r.op
  cell_read-told (Number at n) r h = absurd cc
  cell_read-told (TruthWord at b) r h = absurd cc
  cell_read-told (Named x) r h = absurd cc
  cell_read-told (LocalesWord at) r h = absurd cc
  cell_read-told (LocaleCount at) r h = absurd cc
  cell_read-told (HereWord at) r h = absurd cc
  cell_read-told (Grouped from item upto) r h = absurd cc
  cell_read-told (DomainLiteral from items upto) r h = absurd cc
  cell_read-told (Prefixed at op e) r h = absurd cc
  cell_read-told (Reduced at op word e) r h = absurd cc
  cell_read-told (Chain e rest) r h = absurd cc
  cell_read-told (Postfixed e posts) r h = posts_read-told (bare_name e) (last_of e) (locales_or (bare_locales e) (type_of scopes e)) posts r h

  item_read-told : (item : ItemTree Text) (r : ReadTree Text) → item_read item ≡ Some r → (item_type scopes item ≡ None) × IsRead r.op
  item_read-told (One e) r h = cell_read-told e r h
  item_read-told (RangeItem low at dots high by) r h = absurd cc

-- ---- the reply to a read is a number
reply-number : (w : ReadWord) (r : Reply) → IsReplyTo (read_op w) r → (z : ℤ) × (r ≡ Given z)
reply-number ReadFEWord (Given z) h = (z, refl)
reply-number ReadFEWord NoValue h = elim h [ ]
reply-number ReadFFWord (Given z) h = (z, refl)
reply-number ReadFFWord NoValue h = elim h [ ]

effect-number : (w : ReadWord) (c : CellState) (a : CellState × Reply) → effect (read_op w) c ≡ Some a → (z : ℤ) × (a.1 ≡ Given z)
effect-number ReadFEWord (Full v) a h = (v, sym (ap (λ (p : CellState × Reply). p.1) (some-same (Empty, Given v) a h)))
effect-number ReadFEWord Empty a h = absurd cc
effect-number ReadFFWord (Full v) a h = (v, sym (ap (λ (p : CellState × Reply). p.1) (some-same (Full v, Given v) a h)))
effect-number ReadFFWord Empty a h = absurd cc

-- the type of a side that is a read: what the cell's name is declared with, and none where it is no cell
side_has : (o : Option Kind) (t : Option ValueType) (v : Value) → t ≡ None → ((k : Kind) → o ≡ Some k → OfKind k v) → HasPartType v (read_or_type o t)
side_has None t v e p = subst (HasPartType v) (sym e) tt
side_has (Some k) t v e p = p k refl

module _ (limits : Limits) (scopes : Scopes) (P : State → Type 0) where
  -- an operation on a cell, behind which each value that a number stands for may be taken
  effect-leaves : (x : Placed Text) (w : ReadWord) (k : Kind) (go : Value → Run State) (s : State) (done : Deeds) (o : Option (CellState × Reply)) → Keeps scopes s
      → ((a : CellState × Reply) → o ≡ Some a → (z : ℤ) × (a.1 ≡ Given z))
      → ((z : ℤ) (s : State) (done : Deeds) → Keeps scopes s → Leaves P (go (reply_value k (Given z)) s done))
      → Leaves P (answered limits by_name x (read_op w) k go (effect_on x.name s o) done)
  effect-leaves x w k go s done None kept number p = tt
  effect-leaves x w k go s done (Some a) kept number p =
      let reply = number a refl in
      let next = record s { store = change_in x.name (set_cell (a.0 ∷ [])) s.store } in
      subst (λ r. Leaves P (go (reply_value k r) next (with_operation (cell_number x.name s.store) (read_op w) r done))) (sym reply.1)
      (p reply.0 next (with_operation (cell_number x.name s.store) (read_op w) (Given reply.0) done) (set_cell-keeps scopes s x.name (a.0 ∷ []) kept))

  call-leaves : (x : Placed Text) (w : ReadWord) (k : Kind) (go : Value → Run State) (s : State) (done : Deeds) (replies : Option (List Reply)) → Keeps scopes s
      → NextIsTo (read_op w) replies → ((z : ℤ) (s : State) (done : Deeds) → Keeps scopes s → Leaves P (go (reply_value k (Given z)) s done))
      → Leaves P (answered limits by_name x (read_op w) k go (call_in x.name (read_op w) s replies) done)
  call-leaves x w k go s done None kept next p =
      let state = state_in (look_up x.name s.store) in
      effect-leaves x w k go s done (effect (read_op w) state) kept (λ a e. effect-number w state a e) p
  call-leaves x w k go s done (Some []) kept next p = tt
  call-leaves x w k go s done (Some (r ∷ rs)) kept next p =
      let reply = reply-number w r next in
      let after = record s { replies = Some rs } in
      subst (λ r. Leaves P (go (reply_value k r) after (with_operation (cell_number x.name s.store) (read_op w) r done))) (sym reply.1)
      (p reply.0 after (with_operation (cell_number x.name s.store) (read_op w) (Given reply.0) done) kept)

  -- what is done with each value of a part's type, in each state that has what the scopes declare, leaves P
  abbrev pub Goes : Option ValueType → (Value → Run State) → Type 0
  Goes o go = (v : Value) (s : State) (done : Deeds) → HasPartType v o → Keeps scopes s → Leaves P (go v s done)

  read_or-leaves : (o : Option (ReadTree Text)) (item : ItemTree Text) (go : Value → Run State) (s : State) (done : Deeds) → item_read item ≡ o → ItemFormed item → Keeps scopes s
      → ((r : ReadTree Text) → o ≡ Some r → NextIsTo r.op s.replies) → Goes (read_or_type (kind_read scopes o) (item_type scopes item)) go
      → Leaves P (read_or limits by_name o item go s done)
  read_or-leaves None item go s done e f kept next p =
      let fits = by_name-fits scopes s kept in
      with_value-leaves P (λ v. HasPartType v (item_type scopes item)) (item_of limits by_name item None s) go s done
      (part-has limits by_name scopes s fits (item_type scopes item) (item_of limits by_name item None s) (λ t h. item_of-has limits by_name scopes s fits item f t h None))
      (λ v hv. p v s done hv kept)
  read_or-leaves (Some r) item go s done e f kept next p =
      let told = item_read-told scopes item r e in
      let kind = cell_kind (by_name.get r.name.name s) in
      subst (λ op. Leaves P (answered limits by_name r.name op kind go (by_name.call r.name.name op s) done)) (sym told.1.1)
      (call-leaves r.name told.1.0 kind go s done s.replies kept (subst (λ op. NextIsTo op s.replies) told.1.1 (next r refl))
      (λ z after done still. p (reply_value kind (Given z)) after done
      (side_has (kind_read scopes (Some r)) (item_type scopes item) (reply_value kind (Given z)) told.0
      (λ k h. reply_value-kind limits by_name scopes s (by_name-fits scopes s kept) r k z h)) still))

  -- a right side
  pub evaluated-leaves : (item : ItemTree Text) (go : Value → Run State) (s : State) (done : Deeds) → ItemFormed item → Keeps scopes s → IsReplied item s
      → Goes (side_part scopes item).type go → Leaves P (evaluated limits by_name item go s done)
  evaluated-leaves item go s done f kept next p = read_or-leaves (item_read item) item go s done refl f kept next p
