-- Assignments, operations on cells and writes end alike in environments that agree.
-- A right side comes first: it is an expression, or a cell read, which changes the state.
use Rattle.std.proofs.Common.{◌≡◌, ℕ, pos, Bool, true, false, List, [], ◌∷◌, ◌++◌, refl, sym, ap, ◌∙◌, subst, Ok, Err, Some, None, Option, map}
use Rattle.std.specs.Prelude.{◌&&◌, if◌then◌else◌, option_map, unwrap_or}
use Rattle.std.specs.Ordering.{int_eq}
use Rattle.dpl_syntax.specs.declared.place.Place.{Place}
use Rattle.dpl_history.specs.declared.cell.CellOp.{CellOp}
use Rattle.dpl_history.specs.declared.cell.CellOp.TheVariants.{Reset}
use Rattle.dpl_history.specs.declared.cell.Reply.{Reply}
use Rattle.dpl_sets.specs.TextRanges.{TextRange}
use Rattle.dpl_language.specs.Tree.{Placed, Kind, AssignTree, ItemTree, One, Exprs, TargetTree, Whole, Element, CallTree, ReadCall, ResetCall, WriteCall, ArgumentTree, TextArgument, ExprArgument, WriteTree}
use Rattle.dpl_language.specs.Values.{Value, Index, index_of, ranges_in, array_domain, is_domain, cell_kind, kept_number, number, fault, ZeroDivisor, ArrayTooLarge, Int}
use Rattle.dpl_language.specs.Arithmetic.{assigned, assign_divides, tested_divisor}
use Rattle.dpl_language.specs.Ranges.{indices_in, too_large}
use Rattle.dpl_language.specs.Printing.{printed_array}
use Rattle.dpl_language.specs.Outcome.{Deeds, Run, Done, with_text, with_operation, with_value, unless}
use Rattle.dpl_language.specs.Environment.{Plain, Environment, Answer, Replied, Unanswered, Limits}
use Rattle.dpl_language.specs.Phrases.{ReadTree, item_read, read_op, write_op, bare_name}
use Rattle.dpl_language.specs.Expressions.{found, item_of, values_of, whole_item}
use Rattle.dpl_language.specs.Assignments.{reply_value, and_no_more, answered, called, read_or, evaluated, change, assign_array, assign_domain, assign_plain, assign_name, assign, cell_call}
use Rattle.dpl_language.specs.Loops.{within_budget, named_turn}
use Rattle.dpl_language.specs.Writing.{line_end, arguments_of, name_shown, shown, arguments_then, write}
use Rattle.dpl_agreement.specs.Renamed.{renamed, renamed_expr, renamed_item, renamed_exprs, renamed_target, renamed_call, renamed_argument, renamed_write, renamed_read}
use Rattle.dpl_agreement.specs.Scopes.{Scoping, items_in, fits_item, fits_exprs, fits_read, fits_side, fits_whole_side, side_for, suits_target, fits_target, fits_call, fits_shown, fits_arguments}
use Rattle.dpl_agreement.specs.Agreement.{MayRead, MayBe, WasDomain, WasArray, WasPlain, HadWhole, Simulates, EndsAlike, RunAlike, AnswersAlike}
use Rattle.dpl_agreement.proofs.RunsAlike.{All-every, with_value-alike, with_value-alike_by, unless-alike, within_budget-alike, named_turn-alike}
use Rattle.dpl_agreement.proofs.RenamedParts.{item_read-renamed, bare_name-renamed, arguments_of-renamed}
use Rattle.dpl_agreement.proofs.ExpressionsAlike.{items_of-in, fits_item-once, value_of-renamed, item_of-renamed, values_of-renamed, whole_item-renamed}

-- a right side that is no wrong divisor stays as it is
tested_divisor-same : (dividing : Bool) (at : Place) (v w : Value) → tested_divisor dividing at v ≡ Ok w → v ≡ w
tested_divisor-same dividing at v w =
    elim (dividing && int_eq (number v) (pos 0)) as (λ b. (if b then Err (fault ZeroDivisor at) else Ok v) ≡ Ok w → v ≡ w) [ true ↦ λ e. cc | false ↦ λ e. cc ]

-- an element that is told is there
found-there : (at : Place) (o : Option Value) (v : Value) → found at o ≡ Ok v → o ≡ Some v
found-there at None v e = cc
found-there at (Some w) v e = let same : w ≡ v = cc in ap (λ u. Some u) same

module _ {M N G S1 S2 : Type 0} (limits : Limits) (name : N → M) (scoping : Scoping N G) (first : Environment M S1) (second : Environment N S2) (R : G → S1 → S2 → Type 0) (sim : Simulates limits name scoping first second R) where
  -- AN OPERATION ON A CELL
  answered-alike : (x : Placed N) (op : CellOp) (k : Kind) (g h : G) (go1 : Value → Run S1) (go2 : Value → Run S2) (a : Answer S1) (b : Answer S2) (done : Deeds)
      → AnswersAlike (R g) a b → ((c : Reply) → RunAlike (R g) (R h) (go1 (reply_value k c)) (go2 (reply_value k c)))
      → EndsAlike (R h) (answered limits first (renamed name x) op k go1 a done) (answered limits second x op k go2 b done)
  answered-alike x op k g h go1 go2 (Replied c r s) b done al p =
      subst (λ b. EndsAlike (R h) (go1 (reply_value k r) s (with_operation c op r done)) (answered limits second x op k go2 b done)) (sym al.2)
      (p r s al.0 (with_operation c op r done) al.1)
  answered-alike x op k g h go1 go2 (Unanswered c) b done al p = ap (λ b. answered limits second x op k go2 b done) al

  -- what is done with the reply may need to know that it is one
  called-alike_by : (x : Placed N) (op : CellOp) (g h : G) (go1 : Value → Run S1) (go2 : Value → Run S2) → scoping.reads x.name g → scoping.calls x.name g
      → ((v : Value) (s1 : S1) (s2 : S2) → R g s1 s2 → ((a : Reply) × (v ≡ reply_value (cell_kind (second.get x.name s2)) a)) → RunAlike (R g) (R h) (go1 v) (go2 v))
      → RunAlike (R g) (R h) (called limits first (renamed name x) op go1) (called limits second x op go2)
  called-alike_by x op g h go1 go2 f c p s1 s2 done r =
      subst (λ k. EndsAlike (R h) (answered limits first (renamed name x) op k go1 (first.call (name x.name) op s1) done) (called limits second x op go2 s2 done))
      (sym (ap cell_kind (sim.gets x.name g s1 s2 r f)))
      (answered-alike x op (cell_kind (second.get x.name s2)) g h go1 go2 (first.call (name x.name) op s1) (second.call x.name op s2) done (sim.calls x.name op g s1 s2 r c)
      (λ a. p (reply_value (cell_kind (second.get x.name s2)) a) s1 s2 r (a, refl)))

  pub called-alike : (x : Placed N) (op : CellOp) (g h : G) (go1 : Value → Run S1) (go2 : Value → Run S2) → scoping.reads x.name g → scoping.calls x.name g
      → ((v : Value) → RunAlike (R g) (R h) (go1 v) (go2 v)) → RunAlike (R g) (R h) (called limits first (renamed name x) op go1) (called limits second x op go2)
  called-alike x op g h go1 go2 f c p = called-alike_by x op g h go1 go2 f c (λ v s1 s2 r m. p v)

  -- A RIGHT SIDE
  read_or-alike : (o : Option (ReadTree N)) (item : ItemTree N) (g h : G) (go1 : Value → Run S1) (go2 : Value → Run S2) → fits_read scoping o g → fits_item scoping None item g
      → ((v : Value) (s1 : S1) (s2 : S2) → R g s1 s2 → MayRead limits second o item s2 v → RunAlike (R g) (R h) (go1 v) (go2 v))
      → RunAlike (R g) (R h) (read_or limits first (option_map (renamed_read name) o) (renamed_item name item) go1) (read_or limits second o item go2)
  read_or-alike None item g h go1 go2 c f p s1 s2 done r =
      with_value-alike_by (R h) _ _ go1 go2 s1 s2 done (item_of-renamed limits name scoping first second R sim item None g s1 s2 r f) (λ v e. p v s1 s2 r e s1 s2 done r)
  read_or-alike (Some o) item g h go1 go2 c f p s1 s2 done r = called-alike_by o.name o.op g h go1 go2 c.0 c.1 p s1 s2 done r

  -- what is done with the value may need to know that it is the side's
  pub evaluated-alike_by : (item : ItemTree N) (g h : G) (go1 : Value → Run S1) (go2 : Value → Run S2) → fits_side scoping item g
      → ((v : Value) (s1 : S1) (s2 : S2) → R g s1 s2 → MayBe limits second item s2 v → RunAlike (R g) (R h) (go1 v) (go2 v))
      → RunAlike (R g) (R h) (evaluated limits first (renamed_item name item) go1) (evaluated limits second item go2)
  evaluated-alike_by item g h go1 go2 f p s1 s2 done r =
      subst (λ o. EndsAlike (R h) (read_or limits first o (renamed_item name item) go1 s1 done) (evaluated limits second item go2 s2 done)) (sym (item_read-renamed name item))
      (read_or-alike (item_read item) item g h go1 go2 f.1 f.0 p s1 s2 done r)

  pub evaluated-alike : (item : ItemTree N) (g h : G) (go1 : Value → Run S1) (go2 : Value → Run S2) → fits_side scoping item g
      → ((v : Value) → RunAlike (R g) (R h) (go1 v) (go2 v)) → RunAlike (R g) (R h) (evaluated limits first (renamed_item name item) go1) (evaluated limits second item go2)
  evaluated-alike item g h go1 go2 f p = evaluated-alike_by item g h go1 go2 f (λ v s1 s2 r m. p v)

  -- AN ELEMENT
  -- a change, where the old element is the same and the store of a new one is alike
  change-alike : (x : Placed N) (sign : AssignTree) (t : Index) (w : Value) (g : G) (s1 : S1) (s2 : S2) (done : Deeds)
      → first.element (name x.name) t s1 ≡ second.element x.name t s2
      → ((old u : Value) → second.element x.name t s2 ≡ Some old → w ≡ u
      → R g (first.put_element (name x.name) t (assigned sign.op None old u) s1) (second.put_element x.name t (assigned sign.op None old u) s2))
      → EndsAlike (R g) (change limits first (renamed name x) sign t w s1 done) (change limits second x sign t w s2 done)
  change-alike x sign t w g s1 s2 done e p =
      with_value-alike_by (R g) _ _ _ _ s1 s2 done (ap (found x.at) e)
      (λ old there. with_value-alike_by (R g) (tested_divisor (assign_divides sign.op) sign.at w) _ _ _ s1 s2 done refl
      (λ u same. (
        second.put_element x.name t (assigned sign.op None old u) s2,
        p old u (found-there x.at (second.element x.name t s2) old there) (tested_divisor-same (assign_divides sign.op) sign.at w u same),
        refl,
      )))

  -- what is made of an element, the name may hold
  changed-held : (x : Placed N) (sign : AssignTree) (t : Index) (w old u : Value) (g : G) (s1 : S1) (s2 : S2) → R g s1 s2 → scoping.assigns x.name sign.op g → scoping.holds x.name (Plain w)
      → second.element x.name t s2 ≡ Some old → w ≡ u → scoping.holds x.name (Plain (assigned sign.op None old u))
  changed-held x sign t w old u g s1 s2 r n h there same = sim.changed x.name sign.op t old u g s1 s2 r n there (subst (λ v. scoping.holds x.name (Plain v)) same h)

  change_whole-alike : (x : Placed N) (sign : AssignTree) (t : Index) (w : Value) (g : G) → scoping.assigns x.name sign.op g → scoping.reads_at x.name t g → scoping.assigns_at x.name t g → scoping.holds x.name (Plain w)
      → RunAlike (R g) (R g) (change limits first (renamed name x) sign t w) (change limits second x sign t w)
  change_whole-alike x sign t w g n e a h s1 s2 done r =
      change-alike x sign t w g s1 s2 done (sim.elements_at x.name t g s1 s2 r e)
      (λ old u there same. sim.puts_at x.name t (assigned sign.op None old u) g s1 s2 r a (changed-held x sign t w old u g s1 s2 r n h there same))

  change_element-alike : (x : Placed N) (sign : AssignTree) (es : Exprs N) (w : Value) (g : G) → fits_exprs scoping es g
      → scoping.reads_element x.name (items_in es) g → scoping.assigns_element x.name (items_in es) g → scoping.assigns x.name sign.op g → scoping.holds x.name (Plain w)
      → RunAlike (R g) (R g) (λ s done. with_value (values_of limits first (renamed_exprs name es) s) (λ is. change limits first (renamed name x) sign (index_of is) w) s done)
      (λ s done. with_value (values_of limits second es s) (λ is. change limits second x sign (index_of is) w) s done)
  change_element-alike x sign es w g f e a n h s1 s2 done r =
      with_value-alike_by (R g) _ _ _ _ s1 s2 done (values_of-renamed limits name scoping first second R sim es g s1 s2 r f)
      (λ vs is. change-alike x sign (index_of vs) w g s1 s2 done
      (sim.elements x.name (items_in es) vs g s1 s2 r e (items_of-in limits second es s2 ∙ is))
      (λ old u there same. sim.puts x.name (items_in es) vs (assigned sign.op None old u) g s1 s2 r a (items_of-in limits second es s2 ∙ is)
      (changed-held x sign (index_of vs) w old u g s1 s2 r n h there same)))

  -- A WHOLE ARRAY
  turns_alike : (at : Place) (rs : List TextRange) (g : G) (a : Index → Run S1) (b : Index → Run S2) → ((t : Index) → RunAlike (R g) (R g) (a t) (b t))
      → RunAlike (R g) (R g) (within_budget limits at rs (named_turn a)) (within_budget limits at rs (named_turn b))
  turns_alike at rs g a b p =
      within_budget-alike limits at rs (R g) (named_turn a) (named_turn b)
      (All-every (λ t. RunAlike (R g) (R g) (named_turn a t) (named_turn b t)) (named_turn-alike (R g) a b p) (indices_in rs))

  assign_array-alike : (x : Placed N) (sign : AssignTree) (item : ItemTree N) (rs : List TextRange) (o : Option (List TextRange)) (g : G)
      → scoping.assigns x.name sign.op g → WasArray second R x.name g → HadWhole limits second R item g o → ((t : Index) → scoping.reads_at x.name t g × scoping.assigns_at x.name t g) → fits_whole_side scoping item g → scoping.suits x.name item g
      → RunAlike (R g) (R g) (assign_array limits first (renamed name x) sign (renamed_item name item) rs o) (assign_array limits second x sign item rs o)
  assign_array-alike x sign item rs None g a was whole e f h s1 s2 done r =
      evaluated-alike_by item g g _ _ (fits_item-once scoping [] item g (f.0 []), f.1)
      (λ w u1 u2 q m. turns_alike sign.at rs g (λ t. change limits first (renamed name x) sign t w) (λ t. change limits second x sign t w)
      (λ t. change_whole-alike x sign t w g a (e t).0 (e t).1 (sim.suited_once x.name item w g u1 u2 q h whole m))) s1 s2 done r
  assign_array-alike x sign item rs (Some arrays) g a was whole e f h s1 s2 done r =
      turns_alike sign.at rs g
      (λ t s done. with_value (item_of limits first (renamed_item name item) (Some t) s) (change limits first (renamed name x) sign t) s done)
      (λ t s done. with_value (item_of limits second item (Some t) s) (change limits second x sign t) s done)
      (λ t s1 s2 done r. with_value-alike_by (R g) _ _ _ _ s1 s2 done (item_of-renamed limits name scoping first second R sim item (Some t) g s1 s2 r (f.0 t))
      (λ w m. change_whole-alike x sign t w g a (e t).0 (e t).1 (sim.suited_turn x.name item t w g s1 s2 r h was (arrays, whole) m) s1 s2 done r)) s1 s2 done r

  -- A DOMAIN
  redomained-alike : (x : Placed N) (sign : AssignTree) (v : Value) (g : G) → scoping.assigns x.name sign.op g → WasDomain second R x.name g → scoping.holds x.name (Plain v) → (b : Bool)
      → RunAlike (R g) (R g) (unless b (fault ArrayTooLarge x.at) (λ s done. Done (first.redomain (name x.name) (ranges_in v) s) done))
      (unless b (fault ArrayTooLarge x.at) (λ s done. Done (second.redomain x.name (ranges_in v) s) done))
  redomained-alike x sign v g a was h b =
      unless-alike b (fault ArrayTooLarge x.at) (R g) (R g) _ _ (λ s1 s2 done r. (second.redomain x.name (ranges_in v) s2, sim.redomains x.name sign.op v g s1 s2 r a was h, refl))

  assign_domain-alike : (x : Placed N) (sign : AssignTree) (item : ItemTree N) (g : G) → scoping.assigns x.name sign.op g → WasPlain second R x.name g → WasDomain second R x.name g → fits_side scoping item g → scoping.suits x.name item g
      → RunAlike (R g) (R g) (assign_domain limits first (renamed name x) (renamed_item name item)) (assign_domain limits second x item)
  assign_domain-alike x sign item g a plain was f h =
      evaluated-alike_by item g g _ _ f (λ v u1 u2 q m s1 s2 done r.
      subst (λ b. EndsAlike (R g)
      (unless (too_large (ranges_in v) && first.has_arrays (name x.name) s1) (fault ArrayTooLarge x.at) (λ s done. Done (first.redomain (name x.name) (ranges_in v) s) done) s1 done)
      (unless (too_large (ranges_in v) && b) (fault ArrayTooLarge x.at) (λ s done. Done (second.redomain x.name (ranges_in v) s) done) s2 done))
      (sim.has x.name sign.op g s1 s2 r a was)
      (redomained-alike x sign v g a was (sim.suited x.name item v g u1 u2 q h plain m) (too_large (ranges_in v) && first.has_arrays (name x.name) s1) s1 s2 done r))

  -- A PLAIN VARIABLE
  assign_plain-alike : (x : Placed N) (sign : AssignTree) (item : ItemTree N) (g : G) → scoping.assigns x.name sign.op g → WasPlain second R x.name g → fits_side scoping item g → scoping.suits x.name item g
      → RunAlike (R g) (R g) (assign_plain limits first (renamed name x) sign (renamed_item name item)) (assign_plain limits second x sign item)
  assign_plain-alike x sign item g a was f h =
      evaluated-alike_by item g g _ _ f (λ v u1 u2 q m s1 s2 done r.
      with_value-alike_by (R g) (tested_divisor (assign_divides sign.op) sign.at v) _ _ _ s1 s2 done refl
      (λ w e.
      let held = subst (λ v. scoping.holds x.name (Plain v)) (tested_divisor-same (assign_divides sign.op) sign.at v w e) (sim.suited x.name item v g u1 u2 q h was m) in
      (second.update x.name sign.op w s2, sim.updates x.name sign.op w g s1 s2 r a held, refl)))

  assign_name-alike : (x : Placed N) (sign : AssignTree) (item : ItemTree N) (o : Option (List TextRange)) (b : Bool) (g : G)
      → scoping.assigns x.name sign.op g → ((rs : List TextRange) → o ≡ Some rs → WasArray second R x.name g) → (o ≡ None → WasPlain second R x.name g) → (b ≡ true → WasDomain second R x.name g) → ((t : Index) → scoping.reads_at x.name t g × scoping.assigns_at x.name t g) → fits_whole_side scoping item g → scoping.suits x.name item g
      → RunAlike (R g) (R g) (assign_name limits first (renamed name x) sign (renamed_item name item) o b) (assign_name limits second x sign item o b)
  assign_name-alike x sign item (Some rs) b g a whole plain was e f h s1 s2 done r =
      subst (λ o. EndsAlike (R g) (assign_array limits first (renamed name x) sign (renamed_item name item) rs (whole_item limits first (renamed_item name item) s1) s1 done)
      (assign_array limits second x sign item rs o s2 done))
      (whole_item-renamed limits name scoping first second R sim item (Some []) g s1 s2 r (f.0 []))
      (assign_array-alike x sign item rs (whole_item limits first (renamed_item name item) s1) g a (whole rs refl)
      (s1, s2, r, sym (whole_item-renamed limits name scoping first second R sim item (Some []) g s1 s2 r (f.0 []))) e f h s1 s2 done r)
  assign_name-alike x sign item None true g a whole plain was e f h s1 s2 done r = assign_domain-alike x sign item g a (plain refl) (was refl) (fits_item-once scoping [] item g (f.0 []), f.1) h s1 s2 done r
  assign_name-alike x sign item None false g a whole plain was e f h s1 s2 done r = assign_plain-alike x sign item g a (plain refl) (fits_item-once scoping [] item g (f.0 []), f.1) h s1 s2 done r

  pub assign-alike : (target : TargetTree N) (sign : AssignTree) (item : ItemTree N) (g : G) → fits_target scoping target sign.op g → side_for scoping target item g → suits_target scoping target item g
      → RunAlike (R g) (R g) (assign limits first (renamed_target name target) sign (renamed_item name item)) (assign limits second target sign item)
  assign-alike (Whole x) sign item g a f h s1 s2 done r =
      subst (λ o. EndsAlike (R g) (assign limits first (Whole (renamed name x)) sign (renamed_item name item) s1 done) (assign_name limits second x sign item o (is_domain (second.get x.name s2)) s2 done))
      (sim.whole_targets x.name sign.op g s1 s2 r a.0)
      (subst (λ b. EndsAlike (R g) (assign limits first (Whole (renamed name x)) sign (renamed_item name item) s1 done) (assign_name limits second x sign item (array_domain (first.get (name x.name) s1)) b s2 done))
      (sim.domain_targets x.name sign.op g s1 s2 r a.0)
      (assign_name-alike x sign item (array_domain (first.get (name x.name) s1)) (is_domain (first.get (name x.name) s1)) g a.0
      (λ rs e. (s1, s2, r, (rs, sym (sim.whole_targets x.name sign.op g s1 s2 r a.0) ∙ e)))
      (λ e. (s1, s2, r, sym (sim.whole_targets x.name sign.op g s1 s2 r a.0) ∙ e))
      (λ e. (s1, s2, r, sym (sim.domain_targets x.name sign.op g s1 s2 r a.0) ∙ e)) a.1 f h s1 s2 done r))
  assign-alike (Element x shape from es upto) sign item g a f h s1 s2 done r =
      evaluated-alike_by item g g _ _ f (λ w u1 u2 q m. change_element-alike x sign es w g a.0 a.1 a.2 a.3 (sim.suited_element x.name item w g u1 u2 q h m)) s1 s2 done r

  -- A CELL'S CALL
  and_no_more-alike : (v : Value) (g : G) → RunAlike (R g) (R g) (and_no_more v) (and_no_more v)
  and_no_more-alike v g s1 s2 done r = (s2, r, refl)

  pub cell_call-alike : (x : Placed N) (call : CallTree N) (g : G) → fits_call scoping call g → scoping.reads x.name g → scoping.calls x.name g
      → RunAlike (R g) (R g) (cell_call limits first (renamed name x) (renamed_call name call)) (cell_call limits second x call)
  cell_call-alike x (ReadCall at w from upto) g f e c s1 s2 done r = called-alike x (read_op w) g g and_no_more and_no_more e c (λ v. and_no_more-alike v g) s1 s2 done r
  cell_call-alike x (ResetCall at from upto) g f e c s1 s2 done r = called-alike x Reset g g and_no_more and_no_more e c (λ v. and_no_more-alike v g) s1 s2 done r
  cell_call-alike x (WriteCall at w from y upto) g f e c s1 s2 done r =
      with_value-alike (R g) _ _ _ _ s1 s2 done (value_of-renamed limits name scoping first second R sim y None g s1 s2 r f)
      (λ v. called-alike x (write_op w (kept_number v)) g g and_no_more and_no_more e c (λ v. and_no_more-alike v g) s1 s2 done r)

  -- A WRITE
  name_shown-same : (x : Placed N) (v : Value) (o : Option (List TextRange)) (g : G) (s1 : S1) (s2 : S2) → R g s1 s2 → ((t : Index) → scoping.reads_at x.name t g)
      → name_shown limits first (renamed name x) v o s1 ≡ name_shown limits second x v o s2
  name_shown-same x v None g s1 s2 r f = refl
  name_shown-same x v (Some rs) g s1 s2 r f = ap (printed_array rs) (each (indices_in rs))
    where
      each : (ts : List Index) → map (λ t. unwrap_or (first.element (name x.name) t s1) (Int (pos 0))) ts ≡ map (λ t. unwrap_or (second.element x.name t s2) (Int (pos 0))) ts
      each [] = refl
      each (t ∷ ts) =
          ap (λ o. unwrap_or o (Int (pos 0)) ∷ map (λ t. unwrap_or (first.element (name x.name) t s1) (Int (pos 0))) ts) (sim.elements_at x.name t g s1 s2 r (f t))
          ∙ ap (λ vs. unwrap_or (second.element x.name t s2) (Int (pos 0)) ∷ vs) (each ts)

  shown-same : (o : Option (Placed N)) (v : Value) (g : G) (s1 : S1) (s2 : S2) → R g s1 s2 → fits_shown scoping o g
      → shown limits first (option_map (renamed name) o) v s1 ≡ shown limits second o v s2
  shown-same None v g s1 s2 r f = refl
  shown-same (Some x) v g s1 s2 r f = name_shown-same x v (array_domain v) g s1 s2 r f

  arguments_then-alike : (xs : List (ArgumentTree N)) (text : List ℕ) (g : G) (go1 : List ℕ → Run S1) (go2 : List ℕ → Run S2) → fits_arguments scoping xs g
      → ((text : List ℕ) → RunAlike (R g) (R g) (go1 text) (go2 text))
      → RunAlike (R g) (R g) (arguments_then limits first (map (renamed_argument name) xs) text go1) (arguments_then limits second xs text go2)
  arguments_then-alike [] text g go1 go2 f p = p text
  arguments_then-alike (TextArgument at cs ∷ rest) text g go1 go2 f p = arguments_then-alike rest (text ++ cs) g go1 go2 f p
  arguments_then-alike (ExprArgument e ∷ rest) text g go1 go2 f p =
      evaluated-alike (One e) g g _ _ f.0
      (λ v u1 u2 done q. subst (λ more. EndsAlike (R g) (arguments_then limits first (map (renamed_argument name) rest) (text ++ shown limits first (bare_name (renamed_expr name e)) v u1) go1 u1 done)
      (arguments_then limits second rest (text ++ more) go2 u2 done))
      (ap (λ o. shown limits first o v u1) (bare_name-renamed name e) ∙ shown-same (bare_name e) v g u1 u2 q f.1)
      (arguments_then-alike rest (text ++ shown limits first (bare_name (renamed_expr name e)) v u1) g go1 go2 f.2 p u1 u2 done q))

  pub write-alike : (w : WriteTree N) (g : G) → fits_arguments scoping (arguments_of w.arguments) g → RunAlike (R g) (R g) (write limits first (renamed_write name w)) (write limits second w)
  write-alike w g f s1 s2 done r =
      subst (λ xs. EndsAlike (R g) (arguments_then limits first xs [] (λ text s done. Done s (with_text (text ++ line_end w.ends_line) done)) s1 done) (write limits second w s2 done))
      (sym (arguments_of-renamed name w.arguments))
      (arguments_then-alike (arguments_of w.arguments) [] g (λ text s done. Done s (with_text (text ++ line_end w.ends_line) done)) (λ text s done. Done s (with_text (text ++ line_end w.ends_line) done)) f
      (λ text s1 s2 done r. (s2, r, refl)) s1 s2 done r)
