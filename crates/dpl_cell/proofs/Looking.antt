-- Looks at state words keep the rule: no word changes, and a seat may see the log and note a miss.
-- The words used by all steps stand here too.
use Rattle.std.proofs.Common.{◌≡◌, ℕ, zero, suc, ◌+◌, ◌<◌, List, [], ◌∷◌, ◌++◌, length, get_or, set, All, sym, refl, ap, ◌∙◌, subst, inl, inr, arith, le_refl}
use Rattle.std.proofs.Math.Seq.{take-length}
use Rattle.std.proofs.lemmas.List.{set-get_or}
use Rattle.std.proofs.lemmas.List.Elements.{All-append, All-nil, All-cons}
use mathlib.Core.Option.{some, none}
use mathlib.Core.Logic.{dite}
use native.Mathlib.Decide.{ℕ_discrete}
use lib.ListN.{get_elem?}
use Rattle.atomic_table.specs.Table.{State, step, keeps, stepped, Allows}
use Rattle.atomic_table.proofs.Lists.{set_again}
use Rattle.dpl_history.specs.declared.cell.CellState.{CellState}
use Rattle.dpl_history.specs.declared.cell.CellOp.{CellOp}
use Rattle.dpl_history.specs.declared.history.Event.{Event}
use Rattle.dpl_history.specs.declared.history.Miss.{Miss}
use Rattle.dpl_cell.specs.declared.view.View.{View}
use Rattle.dpl_history.specs.Histories.{cell_at, after, Legal, AllUpTo}
use Rattle.dpl_history.specs.Looks.{state_word, miss}
use Rattle.dpl_cell.specs.Seats.{Has}
use Rattle.dpl_cell.specs.Rule.{cell_of, IsTrueMiss, Knows, IsKept}
use Rattle.dpl_cell.specs.Steps.{TokenState, Sees, looked}
use Rattle.dpl_history.proofs.Histories.{StartsWith-same}
use Rattle.dpl_cell.proofs.Views.{each_set, HeldBy-set_same}

state_word-cell_of : (w n : ℕ) → w < 2 → state_word (cell_of w n) ≡ w
state_word-cell_of zero n h = refl
state_word-cell_of (suc zero) n h = refl
state_word-cell_of (suc (suc w)) n h = absurd (omega arith)

abbrev pub TableState : Type 0
TableState = State CellOp View

-- the word with this number
abbrev pub word_at : List ℕ → ℕ → ℕ
word_at ws i = get_or ws i 0

-- the view with this history, and with these misses more
abbrev pub seeing : View → List Event → List Miss → View
seeing v es ms = record v { history = es; misses = v.misses ++ ms }

module _ (cells : List CellState) (tasks : ℕ) where
  abbrev pub Rule : TableState → Type 0
  Rule s = IsKept cells tasks s.words s.views

  -- what a seat sees of the log
  pub sees : (ws : List ℕ) (vs : List View) (k : IsKept cells tasks ws vs) (id : ℕ) (v : View) → get_elem? vs id ≡ some v → Has v.number v.numbers → Sees v k.log
  sees ws vs k id v at acts = let e = k.each id v at in let mine = e.numbered v.number acts in record {
    begins = e.begins;
    legal = subst (λ (cs : List CellState). Legal cs k.log) (sym mine.opening) k.legal;
    ours = subst (λ (m : ℕ). AllUpTo m k.log) (sym mine.tasks_is) k.ours;
    quiet = λ q h. sym (e.numbered q h).events;
  }

  -- a step that changes no word, at which a seat sees the log and notes true misses
  IsKept-seeing : (ws : List ℕ) (vs : List View) (k : IsKept cells tasks ws vs) (id : ℕ) (v : View) → get_elem? vs id ≡ some v → (ms : List Miss) → All (IsTrueMiss cells tasks ws k.log) ms
      → IsKept cells tasks ws (set vs id (seeing v k.log ms))
  IsKept-seeing ws vs k id v at ms true_misses = let e = k.each id v at in let u : View = seeing v k.log ms in record {
    log = k.log;
    holder = k.holder;
    seat_of = k.seat_of;
    wide = k.wide;
    legal = k.legal;
    ours = k.ours;
    free = k.free;
    busy = λ c l b. HeldBy-set_same vs id (k.holder c) c v u at refl (k.busy c l b);
    each = each_set (Knows cells tasks ws k.log k.holder k.seat_of) vs id u
        record {
          numbered = λ q h. let t = e.numbered q h in record { by = t.by; ours = t.ours; events = refl; opening = t.opening; tasks_is = t.tasks_is };
          begins = StartsWith-same k.log;
          missed = All-append (IsTrueMiss cells tasks ws k.log) v.misses ms e.missed true_misses;
          grew = e.grew;
          holds = e.holds;
          acts = e.acts;
        }
        (λ j w _. k.each j w);
  }

  pub state_word_small : (ws : List ℕ) (vs : List View) (k : IsKept cells tasks ws vs) (c : ℕ) → c < length cells → word_at ws c < 3
  state_word_small ws vs k c inside = dite (ℕ_discrete (word_at ws c) 2) (λ e. omega arith) (λ ne. let r = (k.free c inside ne).small in omega arith)

  -- what a seat finds in a state word is a true miss
  found_is_true : (ws : List ℕ) (vs : List View) (k : IsKept cells tasks ws vs) (q c : ℕ) → c < length cells → IsTrueMiss cells tasks ws k.log (miss q (length k.log) c (word_at ws c))
  found_is_true ws vs k q c inside = dite (ℕ_discrete (word_at ws c) 2)
      (λ e. inr record { word = e; place = le_refl (length k.log); inside = inside; busy = e })
      (λ ne. let r = k.free c inside ne in
      inl (le_refl (length k.log), inl (ap (λ (l : List Event). state_word (cell_at (after cells l) c)) (take-length k.log) ∙ (ap state_word r.is ∙ state_word-cell_of (word_at ws c) (word_at ws (length cells + c)) r.small))))

  -- a step that leaves its word as it is
  pub Rule-unmoved : (s : TableState) (i id : ℕ) (cs : List (ℕ × CellOp)) (u : View) → IsKept cells tasks s.words (set s.views id u) → Rule (stepped s i (word_at s.words i) id cs u keeps)
  Rule-unmoved s i id cs u k = subst (λ (ws : List ℕ). IsKept cells tasks ws (set s.views id u)) (sym (set-get_or s.words i 0)) k

  -- a step at which nothing changes
  pub Rule-same : (s : TableState) (i id : ℕ) (me : TokenState) → get_elem? s.views id ≡ some me.0 → Rule s → Rule (stepped s i (word_at s.words i) id me.1 me.0 keeps)
  Rule-same s i id me at k = Rule-unmoved s i id me.1 me.0 (subst (λ (vs : List View). IsKept cells tasks s.words vs) (sym (set_again s.views id me.0 at)) k)

  -- a step that leaves its word as it is, at which a seat notes what it found there
  pub Rule-missed : (s : TableState) (k : Rule s) (id : ℕ) (me : TokenState) → get_elem? s.views id ≡ some me.0 → (c : ℕ) → c < length cells
      → Rule (stepped s c (word_at s.words c) id me.1 (seeing me.0 k.log (miss me.0.number (length k.log) c (word_at s.words c) ∷ [])) keeps)
  Rule-missed s k id me at c inside =
      let T : Miss → Type 0 = IsTrueMiss cells tasks s.words k.log in
      let m : Miss = miss me.0.number (length k.log) c (word_at s.words c) in
      Rule-unmoved s c id me.1 (seeing me.0 k.log (m ∷ []))
      (IsKept-seeing s.words s.views k id me.0 at (m ∷ []) (All-cons T m [] (found_is_true s.words s.views k me.0.number c inside) (All-nil T)))

  pub Allows-look : (slots id : ℕ) (me : TokenState) (c fit : ℕ) → c < length cells → Has me.0.number me.0.numbers
      → Allows Rule slots id me c (λ x. x) (looked fit (step slots c 0 0 none) me)
  Allows-look slots id me c fit inside acts s k _ at _ = let x : ℕ = word_at s.words c in dite (ℕ_discrete x fit)
      (λ hit. (me.0, keeps, tt, Rule-same s c id me at k, (refl, (λ _. refl), λ not. absurd (not hit))))
      (λ not. (
        seeing me.0 k.log (miss me.0.number (length k.log) c x ∷ []),
        keeps,
        tt,
        Rule-missed s k id me at c inside,
        (refl, (λ hit. absurd (not hit)), λ _. record { small = state_word_small s.words s.views k c inside; log = k.log; sees = sees s.words s.views k id me.0 at acts; is = refl }),
      ))
