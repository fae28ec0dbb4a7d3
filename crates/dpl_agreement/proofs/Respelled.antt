-- A program of which each name is spelled otherwise, no two names alike, means the same.
-- An environment by names agrees with itself over other spellings: each of its laws is met here by names that differ.
use Rattle.std.proofs.Common.{◌≡◌, Bool, true, false, List, [], ◌∷◌, ◌++◌, refl, sym, ap, ◌∙◌, subst, Some, None, Option, length, drop}
use Rattle.std.specs.Prelude.{bytes_eq, ◌||◌, if◌then◌else◌, option_map}
use Rattle.dpl_history.specs.declared.cell.CellState.{CellState}
use Rattle.dpl_history.specs.declared.cell.CellOp.{CellOp}
use Rattle.dpl_history.specs.declared.cell.Reply.{Reply}
use Rattle.dpl_history.specs.declared.history.Event.{Event}
use Rattle.dpl_history.specs.Cells.{effect}
use Rattle.dpl_history.specs.Histories.{after}
use Rattle.dpl_sets.specs.TextRanges.{TextRange}
use Rattle.dpl_language.specs.Tree.{Op, Assign, ProgramTree}
use Rattle.dpl_language.specs.Values.{Value, Domain, Index, index_of, ranges_in, array_domain, is_domain}
use Rattle.dpl_language.specs.Environment.{Content, Plain, ArrayOf, CellOf, Answer, Replied, Unanswered, Limits}
use Rattle.dpl_language.specs.Distributions.{Root, no_root}
use Rattle.dpl_language.specs.Names.{Text, Entry, Opened, Declared, Scoped, Store, State, paired, innermost, look_up, change_in, without_innermost, value_in, update_in, element_in, put_in, redomained, is_over, redomain_content, redomain_in, is_array_over, arrays_over, cell_in, store_cells, cell_number, set_cell, with_cells, state_in, effect_on, call_in, by_name}
use Rattle.dpl_language.specs.Program.{first_state, meaning, written}
use Rattle.dpl_agreement.specs.Renamed.{renamed_content, renamed_intents, renamed_program}
use Rattle.dpl_agreement.specs.Agreement.{AnswersAlike, Simulates}
use Rattle.dpl_agreement.proofs.FreeNames.{anything, anything-lawful, stmts_fit}
use Rattle.dpl_agreement.proofs.ProgramsAlike.{written-same}

-- two tests that are the same, with parts of which the one's are made from the other's
pub by_test : {A B : Type 0} (h : A → B) (b c : Bool) (x y : B) (u v : A) → b ≡ c → x ≡ h u → y ≡ h v → (if b then x else y) ≡ h (if c then u else v)
by_test h true c x y u v e p q = p ∙ ap (λ c. h (if c then u else v)) e
by_test h false c x y u v e p q = q ∙ ap (λ c. h (if c then u else v)) e

-- `same` says that f spells no two names alike
module _ (f : Text → Text) (same : (x y : Text) → bytes_eq (f x) (f y) ≡ bytes_eq x y) where
  abbrev respelled : Content Text → Content Text
  respelled c = renamed_content f c

  abbrev respelled_entry : Entry → Entry
  respelled_entry e = record { name = f e.name; content = respelled e.content }

  abbrev respelled_store : Store → Store
  respelled_store [] = []
  respelled_store (Opened ∷ es) = Opened ∷ respelled_store es
  respelled_store (Declared e ∷ es) = Declared (respelled_entry e) ∷ respelled_store es

  -- roots have no names in them
  abbrev respelled_roots : Scoped Root → Scoped Root
  respelled_roots [] = []
  respelled_roots (Opened ∷ es) = Opened ∷ respelled_roots es
  respelled_roots (Declared e ∷ es) = Declared (record { name = f e.name; content = e.content }) ∷ respelled_roots es

  abbrev pub respelled_sets : List (Text × Value) → List (Text × Value)
  respelled_sets [] = []
  respelled_sets (p ∷ ps) = (f p.0, p.1) ∷ respelled_sets ps

  abbrev respelled_state : State → State
  respelled_state s = record {
    store = respelled_store s.store;
    roots = respelled_roots s.roots;
    intents = renamed_intents f s.intents;
    here = s.here;
    sets = respelled_sets s.sets;
    replies = s.replies;
    histories = s.histories;
  }

  -- PAIRS
  paired-intents : (x : Text) (is : List (Text × Op)) → paired (f x) (renamed_intents f is) ≡ paired x is
  paired-intents x [] = refl
  paired-intents x (p ∷ ps) = by_test (λ o. o) _ _ _ _ (Some p.1) (paired x ps) (same x p.0) refl (paired-intents x ps)

  paired-sets : (x : Text) (ps : List (Text × Value)) → paired (f x) (respelled_sets ps) ≡ paired x ps
  paired-sets x [] = refl
  paired-sets x (p ∷ ps) = by_test (λ o. o) _ _ _ _ (Some p.1) (paired x ps) (same x p.0) refl (paired-sets x ps)

  -- WHAT A NAME HOLDS
  value_in-respelled : (c : Content Text) → value_in (respelled c) ≡ value_in c
  value_in-respelled (Plain v) = refl
  value_in-respelled (ArrayOf over k rs vs) = refl
  value_in-respelled (CellOf k c) = refl

  element_in-respelled : (t : Index) (c : Content Text) → element_in t (respelled c) ≡ element_in t c
  element_in-respelled t (Plain v) = refl
  element_in-respelled t (ArrayOf over k rs vs) = refl
  element_in-respelled t (CellOf k c) = refl

  cell_in-respelled : (c : Content Text) → cell_in (respelled c) ≡ cell_in c
  cell_in-respelled (Plain v) = refl
  cell_in-respelled (ArrayOf over k rs vs) = refl
  cell_in-respelled (CellOf k c) = refl

  state_in-respelled : (c : Content Text) → state_in (respelled c) ≡ state_in c
  state_in-respelled (Plain v) = refl
  state_in-respelled (ArrayOf over k rs vs) = refl
  state_in-respelled (CellOf k c) = refl

  update_in-respelled : (op : Assign) (intent : Option Op) (v : Value) (c : Content Text) → update_in op intent v (respelled c) ≡ respelled (update_in op intent v c)
  update_in-respelled op intent v (Plain w) = refl
  update_in-respelled op intent v (ArrayOf over k rs vs) = refl
  update_in-respelled op intent v (CellOf k c) = refl

  put_in-respelled : (t : Index) (v : Value) (c : Content Text) → put_in t v (respelled c) ≡ respelled (put_in t v c)
  put_in-respelled t v (Plain w) = refl
  put_in-respelled t v (ArrayOf over k rs vs) = refl
  put_in-respelled t v (CellOf k c) = refl

  set_cell-respelled : (cs : List CellState) (c : Content Text) → set_cell cs (respelled c) ≡ respelled (set_cell cs c)
  set_cell-respelled cs (Plain w) = refl
  set_cell-respelled cs (ArrayOf over k rs vs) = refl
  set_cell-respelled [] (CellOf k c) = refl
  set_cell-respelled (new ∷ cs) (CellOf k c) = refl

  is_over-respelled : (x : Text) (over : Option Text) → is_over (f x) (option_map f over) ≡ is_over x over
  is_over-respelled x None = refl
  is_over-respelled x (Some y) = same x y

  redomain_content-respelled : (x : Text) (new : List TextRange) (c : Content Text) → redomain_content (f x) new (respelled c) ≡ respelled (redomain_content x new c)
  redomain_content-respelled x new (Plain v) = refl
  redomain_content-respelled x new (ArrayOf over k rs vs) =
      by_test respelled _ _ _ _ (ArrayOf over k new (redomained k rs vs new)) (ArrayOf over k rs vs) (is_over-respelled x over) refl refl
  redomain_content-respelled x new (CellOf k c) = refl

  is_array_over-respelled : (x : Text) (c : Content Text) → is_array_over (f x) (respelled c) ≡ is_array_over x c
  is_array_over-respelled x (Plain v) = refl
  is_array_over-respelled x (ArrayOf over k rs vs) = is_over-respelled x over
  is_array_over-respelled x (CellOf k c) = refl

  -- LOOKED UP, CHANGED AND DECLARED
  look_up-respelled : (x : Text) (s : Store) → look_up (f x) (respelled_store s) ≡ respelled (look_up x s)
  look_up-respelled x [] = refl
  look_up-respelled x (Opened ∷ s) = look_up-respelled x s
  look_up-respelled x (Declared e ∷ s) = by_test respelled _ _ _ _ e.content (look_up x s) (same x e.name) refl (look_up-respelled x s)

  change_in-respelled : (x : Text) (a b : Content Text → Content Text) → ((c : Content Text) → a (respelled c) ≡ respelled (b c)) → (s : Store)
      → change_in (f x) a (respelled_store s) ≡ respelled_store (change_in x b s)
  change_in-respelled x a b p [] = refl
  change_in-respelled x a b p (Opened ∷ s) = ap (λ es. Opened ∷ es) (change_in-respelled x a b p s)
  change_in-respelled x a b p (Declared e ∷ s) =
      by_test respelled_store _ _ _ _ (Declared (record e { content = b e.content }) ∷ s) (Declared e ∷ change_in x b s) (same x e.name)
      (ap (λ c. Declared (record { name = f e.name; content = c }) ∷ respelled_store s) (p e.content))
      (ap (λ es. Declared (respelled_entry e) ∷ es) (change_in-respelled x a b p s))

  without_innermost-respelled : (s : Store) → without_innermost (respelled_store s) ≡ respelled_store (without_innermost s)
  without_innermost-respelled [] = refl
  without_innermost-respelled (Opened ∷ s) = refl
  without_innermost-respelled (Declared e ∷ s) = without_innermost-respelled s

  -- and the same of roots
  root-respelled : (x : Text) (s : Scoped Root) → innermost no_root (f x) (respelled_roots s) ≡ innermost no_root x s
  root-respelled x [] = refl
  root-respelled x (Opened ∷ s) = root-respelled x s
  root-respelled x (Declared e ∷ s) = by_test (λ r. r) _ _ _ _ e.content (innermost no_root x s) (same x e.name) refl (root-respelled x s)

  deal-respelled : (x : Text) (r : Root) (s : Scoped Root) → change_in (f x) (λ old. r) (respelled_roots s) ≡ respelled_roots (change_in x (λ old. r) s)
  deal-respelled x r [] = refl
  deal-respelled x r (Opened ∷ s) = ap (λ es. Opened ∷ es) (deal-respelled x r s)
  deal-respelled x r (Declared e ∷ s) =
      by_test respelled_roots _ _ _ _ (Declared (record e { content = r }) ∷ s) (Declared e ∷ change_in x (λ old. r) s) (same x e.name) refl
      (ap (λ es. Declared (record { name = f e.name; content = e.content }) ∷ es) (deal-respelled x r s))

  left_roots-respelled : (s : Scoped Root) → without_innermost (respelled_roots s) ≡ respelled_roots (without_innermost s)
  left_roots-respelled [] = refl
  left_roots-respelled (Opened ∷ s) = refl
  left_roots-respelled (Declared e ∷ s) = left_roots-respelled s

  -- DOMAINS
  redomain_in-respelled : (x : Text) (new : List TextRange) (s : Store) → redomain_in (f x) new (respelled_store s) ≡ respelled_store (redomain_in x new s)
  redomain_in-respelled x new [] = refl
  redomain_in-respelled x new (Opened ∷ s) = ap (λ es. Opened ∷ es) (redomain_in-respelled x new s)
  redomain_in-respelled x new (Declared e ∷ s) =
      by_test respelled_store _ _ _ _ (Declared (record e { content = Plain (Domain new) }) ∷ s) (Declared (record e { content = redomain_content x new e.content }) ∷ redomain_in x new s) (same x e.name)
      refl
      (ap (λ c. Declared (record { name = f e.name; content = c }) ∷ redomain_in (f x) new (respelled_store s)) (redomain_content-respelled x new e.content)
      ∙ ap (λ es. Declared (respelled_entry (record e { content = redomain_content x new e.content })) ∷ es) (redomain_in-respelled x new s))

  arrays_over-respelled : (x : Text) (s : Store) → arrays_over (f x) (respelled_store s) ≡ arrays_over x s
  arrays_over-respelled x [] = refl
  arrays_over-respelled x (Opened ∷ s) = arrays_over-respelled x s
  arrays_over-respelled x (Declared e ∷ s) =
      by_test (λ b. b) _ _ _ _ false (is_array_over x e.content || arrays_over x s) (same x e.name) refl
      (ap (λ b. b || arrays_over (f x) (respelled_store s)) (is_array_over-respelled x e.content) ∙ ap (λ b. is_array_over x e.content || b) (arrays_over-respelled x s))

  -- CELLS
  store_cells-respelled : (s : Store) → store_cells (respelled_store s) ≡ store_cells s
  store_cells-respelled [] = refl
  store_cells-respelled (Opened ∷ s) = store_cells-respelled s
  store_cells-respelled (Declared e ∷ s) =
      ap (λ cs. cs ++ cell_in (respelled e.content)) (store_cells-respelled s) ∙ ap (λ cs. store_cells s ++ cs) (cell_in-respelled e.content)

  cell_number-respelled : (x : Text) (s : Store) → cell_number (f x) (respelled_store s) ≡ cell_number x s
  cell_number-respelled x [] = refl
  cell_number-respelled x (Opened ∷ s) = cell_number-respelled x s
  cell_number-respelled x (Declared e ∷ s) =
      by_test (λ n. n) _ _ _ _ (length (store_cells s)) (cell_number x s) (same x e.name) (ap length (store_cells-respelled s)) (cell_number-respelled x s)

  with_cells-respelled : (cs : List CellState) (s : Store) → with_cells cs (respelled_store s) ≡ respelled_store (with_cells cs s)
  with_cells-respelled cs [] = refl
  with_cells-respelled cs (Opened ∷ s) = ap (λ es. Opened ∷ es) (with_cells-respelled cs s)
  with_cells-respelled cs (Declared e ∷ s) =
      ap (λ ds. Declared (record { name = f e.name; content = set_cell (drop (length ds) cs) (respelled e.content) }) ∷ with_cells cs (respelled_store s)) (store_cells-respelled s)
      ∙ ap (λ c. Declared (record { name = f e.name; content = c }) ∷ with_cells cs (respelled_store s)) (set_cell-respelled (drop (length (store_cells s)) cs) e.content)
      ∙ ap (λ es. Declared (respelled_entry (record e { content = set_cell (drop (length (store_cells s)) cs) e.content })) ∷ es) (with_cells-respelled cs s)

  abbrev respelled_answer : Answer State → Answer State
  respelled_answer (Replied c r s) = Replied c r (respelled_state s)
  respelled_answer (Unanswered c) = Unanswered c

  effect_on-respelled : (x : Text) (s : State) (o : Option (CellState × Reply)) → effect_on (f x) (respelled_state s) o ≡ respelled_answer (effect_on x s o)
  effect_on-respelled x s None = ap (λ n. Unanswered n) (cell_number-respelled x s.store)
  effect_on-respelled x s (Some a) =
      ap (λ n. Replied n a.1 (record (respelled_state s) { store = change_in (f x) (set_cell (a.0 ∷ [])) (respelled_store s.store) })) (cell_number-respelled x s.store)
      ∙ ap (λ t. Replied (cell_number x s.store) a.1 (record (respelled_state s) { store = t })) (change_in-respelled x (set_cell (a.0 ∷ [])) (set_cell (a.0 ∷ [])) (set_cell-respelled (a.0 ∷ [])) s.store)

  call_in-respelled : (x : Text) (op : CellOp) (s : State) (o : Option (List Reply)) → call_in (f x) op (respelled_state s) o ≡ respelled_answer (call_in x op s o)
  call_in-respelled x op s None =
      ap (λ c. effect_on (f x) (respelled_state s) (effect op (state_in c))) (look_up-respelled x s.store)
      ∙ ap (λ c. effect_on (f x) (respelled_state s) (effect op c)) (state_in-respelled (look_up x s.store))
      ∙ effect_on-respelled x s (effect op (state_in (look_up x s.store)))
  call_in-respelled x op s (Some []) = ap (λ n. Unanswered n) (cell_number-respelled x s.store)
  call_in-respelled x op s (Some (r ∷ rs)) = ap (λ n. Replied n r (record (respelled_state s) { replies = Some rs })) (cell_number-respelled x s.store)

  -- ALL TOGETHER
  -- a state by the other spellings
  abbrev pub Respells : Unit {0} → State → State → Type 0
  Respells g s1 s2 = s1 ≡ respelled_state s2

  answers_alike : (a : Answer State) → AnswersAlike (Respells tt) (respelled_answer a) a
  answers_alike (Replied c r s) = (s, refl, refl)
  answers_alike (Unanswered c) = refl

  -- from equal states before, and the law for a state itself
  then_so : (a b : State → State) → ((s : State) → a (respelled_state s) ≡ respelled_state (b s)) → (s1 s2 : State) → s1 ≡ respelled_state s2 → a s1 ≡ respelled_state (b s2)
  then_so a b p s1 s2 r = ap a r ∙ p s2

  pub respelled_simulates : (limits : Limits) → Simulates limits f anything by_name by_name Respells
  respelled_simulates limits = record {
    lawful = anything-lawful;
    gets = λ x g s1 s2 r a. ap (by_name.get (f x)) r ∙ value_of_name x s2;
    whole_targets = λ x op g s1 s2 r a. ap (λ s. array_domain (by_name.get (f x) s)) r ∙ ap array_domain (value_of_name x s2);
    domain_targets = λ x op g s1 s2 r a. ap (λ s. is_domain (by_name.get (f x) s)) r ∙ ap is_domain (value_of_name x s2);
    updates = λ x op v g s1 s2 r a h. then_so (by_name.update (f x) op v) (by_name.update x op v) (update_of_name x op v) s1 s2 r;
    elements_at = λ x t g s1 s2 r a. ap (by_name.element (f x) t) r ∙ element_of_name x t s2;
    elements = λ x items vs g s1 s2 r a e. ap (by_name.element (f x) (index_of vs)) r ∙ element_of_name x (index_of vs) s2;
    puts_at = λ x t v g s1 s2 r a h. then_so (by_name.put_element (f x) t v) (by_name.put_element x t v) (put_of_name x t v) s1 s2 r;
    puts = λ x items vs v g s1 s2 r a e h. then_so (by_name.put_element (f x) (index_of vs) v) (by_name.put_element x (index_of vs) v) (put_of_name x (index_of vs) v) s1 s2 r;
    declares = λ x c g s1 s2 r a h. ap (by_name.declare (f x) (respelled c)) r;
    roots = λ x g s1 s2 r a d. ap (by_name.root (f x)) r ∙ root-respelled x s2.roots;
    deals = λ x root g s1 s2 r a d. then_so (by_name.deal (f x) root) (by_name.deal x root)
        (λ s. ap (λ t. record (respelled_state s) { roots = t }) (deal-respelled x root s.roots)) s1 s2 r;
    gives = λ x g s1 s2 r a. ap (by_name.given (f x)) r ∙ paired-sets x s2.sets;
    suited = λ x item v g s1 s2 r a w e. tt;
    suited_new = λ x item v g s1 s2 r a d e. tt;
    suited_element = λ x item v g s1 s2 r a e. tt;
    suited_once = λ x item v g s1 s2 r a w e. tt;
    suited_turn = λ x item t v g s1 s2 r f w p e. tt;
    suited_initial = λ x over item t v g s1 s2 r f d p e. tt;
    changed = λ x op t old w g s1 s2 r f e h. tt;
    turned = λ x item over g s1 s2 r a e k d lt. tt;
    spanned = λ x from items v g s1 s2 r f d e. tt;
    spanned_array = λ x over k from items v vs g s1 s2 r f e h. tt;
    given_holds = λ x v g s1 s2 r a e. tt;
    enters = λ g s1 s2 r. ap by_name.enter r;
    leaves = λ g h s1 s2 t1 t2 before out r. then_so by_name.leave by_name.leave
        (λ s. ap (λ t. record (respelled_state s) { store = t; roots = without_innermost (respelled_roots s.roots) }) (without_innermost-respelled s.store)
        ∙ ap (λ t. record (respelled_state s) { store = respelled_store (without_innermost s.store); roots = t }) (left_roots-respelled s.roots)) t1 t2 r;
    intends = λ is g s1 s2 r a. ap (by_name.intend (renamed_intents f is)) r;
    ends_forall = λ is g s1 s2 r a. ap (by_name.intend []) r;
    notes = λ at rs done g s1 s2 r. refl;
    has = λ x op g s1 s2 r a w. ap (by_name.has_arrays (f x)) r ∙ arrays_over-respelled x s2.store;
    redomains = λ x op v g s1 s2 r a w h. then_so (by_name.redomain (f x) (ranges_in v)) (by_name.redomain x (ranges_in v))
        (λ s. ap (λ t. record (respelled_state s) { store = t }) (redomain_in-respelled x (ranges_in v) s.store)) s1 s2 r;
    heres = λ g s1 s2 r. ap by_name.here r;
    moves = λ k g s1 s2 r m. ap (by_name.move k) r;
    calls = λ x op g s1 s2 r a. subst (λ o. AnswersAlike (Respells tt) o (by_name.call x op s2))
        (sym (ap (by_name.call (f x) op) r ∙ call_in-respelled x op s2 s2.replies)) (answers_alike (by_name.call x op s2));
    cells = λ x g s1 s2 r c. ap (by_name.cells (f x)) r ∙ store_cells-respelled s2.store;
    histories = λ x g s1 s2 r c. ap by_name.history r;
    begins = λ x rs g s1 s2 r c. ap (by_name.begin rs) r;
    settles = λ x h g s1 s2 r c. then_so (by_name.settle (f x) h) (by_name.settle x h) (settle_of x h) s1 s2 r;
  }
    where
      value_of_name : (x : Text) (s : State) → by_name.get (f x) (respelled_state s) ≡ by_name.get x s
      value_of_name x s = ap value_in (look_up-respelled x s.store) ∙ value_in-respelled (look_up x s.store)

      element_of_name : (x : Text) (t : Index) (s : State) → by_name.element (f x) t (respelled_state s) ≡ by_name.element x t s
      element_of_name x t s = ap (element_in t) (look_up-respelled x s.store) ∙ element_in-respelled t (look_up x s.store)

      update_of_name : (x : Text) (op : Assign) (v : Value) (s : State) → by_name.update (f x) op v (respelled_state s) ≡ respelled_state (by_name.update x op v s)
      update_of_name x op v s =
          ap (λ o. record (respelled_state s) { store = change_in (f x) (update_in op o v) (respelled_store s.store) }) (paired-intents x s.intents)
          ∙ ap (λ t. record (respelled_state s) { store = t }) (change_in-respelled x (update_in op (paired x s.intents) v) (update_in op (paired x s.intents) v) (update_in-respelled op (paired x s.intents) v) s.store)

      put_of_name : (x : Text) (t : Index) (v : Value) (s : State) → by_name.put_element (f x) t v (respelled_state s) ≡ respelled_state (by_name.put_element x t v s)
      put_of_name x t v s = ap (λ u. record (respelled_state s) { store = u }) (change_in-respelled x (put_in t v) (put_in t v) (put_in-respelled t v) s.store)

      settle_of : (x : Text) (h : List Event) (s : State) → by_name.settle (f x) h (respelled_state s) ≡ respelled_state (by_name.settle x h s)
      settle_of x h s =
          ap (λ cs. record (respelled_state s) { store = with_cells (after cs h) (respelled_store s.store); histories = drop 1 s.histories }) (store_cells-respelled s.store)
          ∙ ap (λ t. record (respelled_state s) { store = t; histories = drop 1 s.histories }) (with_cells-respelled (after (store_cells s.store) h) s.store)

  -- a program means the same with other names, and writes the same, what the command line sets going by the other names
  pub respelled-written : (t : ProgramTree Text) (sets : List (Text × Value)) (limits : Limits) (histories : List (List Event))
      → written (meaning (renamed_program f t) (respelled_sets sets) limits histories) ≡ written (meaning t sets limits histories)
  respelled-written t sets limits histories =
      written-same limits f anything by_name Respells (respelled_simulates limits) t (renamed_program f t) (respelled_sets sets) histories tt (first_state sets histories) refl (stmts_fit t.stmts) refl
