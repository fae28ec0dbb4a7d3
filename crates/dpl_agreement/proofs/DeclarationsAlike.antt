-- Declarations end alike in environments that agree, behind them with one more name in sight.
-- The name is in sight from the end of its declaration, as what its type says.
use Rattle.std.proofs.Common.{◌≡◌, pos, List, [], ◌∷◌, refl, sym, ap, ◌∙◌, subst, Result, Some, None, Option, nat_lt}
use Rattle.std.specs.Prelude.{All, Ok, Err, option_map}
use Rattle.std.proofs.lemmas.List.Elements.{All-nil, All-cons, All-map}
use Rattle.dpl_syntax.specs.declared.place.Place.{Place}
use Rattle.dpl_history.specs.declared.cell.CellState.TheVariants.{Empty, Full}
use Rattle.dpl_sets.specs.TextRanges.{TextRange}
use Rattle.dpl_language.specs.Tree.{Placed, Kind, ItemTree, TypeTree, ScalarType, SyncType, DomainType, ArrayType, ArrayTypeTree, InitTree, ItemInit, CreateInit, InitialTree, DeclareTree}
use Rattle.dpl_language.specs.Values.{Value, Int, Domain, Index, ranges_in, default, kept_number, Fault, fault, Budget, ArrayTooLarge}
use Rattle.dpl_language.specs.Ranges.{indices_in, size_in, too_large, empty_domain}
use Rattle.dpl_language.specs.Outcome.{Run, with_ok, with_value, unless, naming_value}
use Rattle.dpl_language.specs.Environment.{Content, Plain, CellOf, Environment, Limits}
use Rattle.dpl_language.specs.Phrases.{declared_over}
use Rattle.dpl_language.specs.Expressions.{item_of, whole_item}
use Rattle.dpl_language.specs.Declarations.{gathered, filled, Shell, array_with, type_of, declaring, initial_then, declare_with, array_of_item, array_of_init, array_of, declare_array, declare_typed, given_or, declare_by, declare}
use Rattle.dpl_agreement.specs.Renamed.{renamed, renamed_item, renamed_items, renamed_array_type, renamed_type, renamed_init, renamed_initial, renamed_declare, renamed_content}
use Rattle.dpl_agreement.specs.Scopes.{Form, PlainForm, ArrayForm, CellForm, form_of, form_by, Scoping, side_by, fits_items, fits_side, fits_whole_side, fits_type, fits_init, fits_initial, fits_given, holds_cells, suits_elements, suits_array, suits_init, suits_initial, suits_declared, fits_declare}
use Rattle.dpl_agreement.specs.Agreement.{HadWhole, Simulates, EndsAlike, RunAlike}
use Rattle.dpl_agreement.proofs.RunsAlike.{All-every, with_ok-same, with_value-alike, with_value-alike_by, unless-alike}
use Rattle.dpl_agreement.proofs.RenamedParts.{declared_over-renamed, type_of-renamed}
use Rattle.dpl_agreement.proofs.ExpressionsAlike.{fits_item-once, item_of-renamed, domain_of-renamed, whole_item-renamed}
use Rattle.dpl_agreement.proofs.AssignmentsAlike.{evaluated-alike_by, evaluated-alike}

gathered-same : (a b : Index → Result Value Fault) (ts : List Index) → ((t : Index) → a t ≡ b t) → gathered a ts ≡ gathered b ts
gathered-same a b [] p = refl
gathered-same a b (t ∷ ts) p =
    with_ok-same (naming_value t (a t)) (naming_value t (b t)) _ _ (ap (naming_value t) (p t)) (λ v. with_ok-same _ _ _ _ (gathered-same a b ts p) (λ vs. refl))

module _ {M N G S1 S2 : Type 0} (limits : Limits) (name : N → M) (scoping : Scoping N G) (first : Environment M S1) (second : Environment N S2) (R : G → S1 → S2 → Type 0) (sim : Simulates limits name scoping first second R) where
  declaring-alike : (x : Placed N) (c : Content N) (form : Form N) (g : G) → form_of c ≡ form → scoping.declares x.name form g → scoping.holds x.name c
      → RunAlike (R g) (R (scoping.add x.name form g)) (declaring limits first (renamed name x) (renamed_content name c)) (declaring limits second x c)
  declaring-alike x c form g e d h s1 s2 done r = (
    second.declare x.name c s2,
    subst (λ k. R (scoping.add x.name k g) (first.declare (name x.name) (renamed_content name c) s1) (second.declare x.name c s2)) e
        (sim.declares x.name c g s1 s2 r (subst (λ k. scoping.declares x.name k g) (sym e) d) h),
    refl,
  )

  initial_then-alike : (i : InitTree N) (g h : G) (go1 : Value → Run S1) (go2 : Value → Run S2) → fits_init scoping (fits_side scoping) i g → ((v : Value) → RunAlike (R g) (R h) (go1 v) (go2 v))
      → RunAlike (R g) (R h) (initial_then limits first (renamed_init name i) go1) (initial_then limits second i go2)
  initial_then-alike (ItemInit item mapped) g h go1 go2 f p s1 s2 done r = evaluated-alike limits name scoping first second R sim item g h go1 go2 f p s1 s2 done r
  initial_then-alike (CreateInit c) g h go1 go2 f p s1 s2 done r =
      with_value-alike (R h) _ _ go1 go2 s1 s2 done (domain_of-renamed limits name scoping first second R sim c.from c.items g s1 s2 r f) (λ v. p v s1 s2 done r)

  -- PLAIN VARIABLES AND CELLS
  plain_init-alike : (x : Placed N) (i : InitTree N) (g : G) → fits_init scoping (fits_side scoping) i g → scoping.declares x.name PlainForm g → suits_init scoping x.name i g
      → RunAlike (R g) (R (scoping.add x.name PlainForm g)) (initial_then limits first (renamed_init name i) (λ v. declaring limits first (renamed name x) (Plain v)))
      (initial_then limits second i (λ v. declaring limits second x (Plain v)))
  plain_init-alike x (ItemInit item mapped) g f d h s1 s2 done r =
      evaluated-alike_by limits name scoping first second R sim item g (scoping.add x.name PlainForm g) _ _ f
      (λ v u1 u2 q m. declaring-alike x (Plain v) PlainForm g refl d (sim.suited_new x.name item v g u1 u2 q h d m)) s1 s2 done r
  plain_init-alike x (CreateInit c) g f d h s1 s2 done r =
      with_value-alike_by (R (scoping.add x.name PlainForm g)) _ _ _ _ s1 s2 done (domain_of-renamed limits name scoping first second R sim c.from c.items g s1 s2 r f)
      (λ v e. declaring-alike x (Plain v) PlainForm g refl d (sim.spanned x.name c.from c.items v g s1 s2 r h d e) s1 s2 done r)

  declare_plain-alike : (x : Placed N) (w : Value) (i : Option (InitialTree N)) (g : G) → fits_initial scoping (fits_side scoping) i g → scoping.declares x.name PlainForm g → suits_initial scoping x.name w i g
      → RunAlike (R g) (R (scoping.add x.name PlainForm g)) (declare_with limits first (renamed name x) (Plain w) (λ v. Plain v) (option_map (renamed_initial name) i))
      (declare_with limits second x (Plain w) (λ v. Plain v) i)
  declare_plain-alike x w None g f d h s1 s2 done r = declaring-alike x (Plain w) PlainForm g refl d h s1 s2 done r
  declare_plain-alike x w (Some i) g f d h s1 s2 done r = plain_init-alike x i.init g f d h s1 s2 done r

  declare_cell-alike : (x : Placed N) (k : Kind) (i : Option (InitialTree N)) (g : G) → fits_initial scoping (fits_side scoping) i g → scoping.declares x.name CellForm g → holds_cells scoping x.name k
      → RunAlike (R g) (R (scoping.add x.name CellForm g)) (declare_with limits first (renamed name x) (CellOf k Empty) (λ v. CellOf k (Full (kept_number v))) (option_map (renamed_initial name) i))
      (declare_with limits second x (CellOf k Empty) (λ v. CellOf k (Full (kept_number v))) i)
  declare_cell-alike x k None g f d h s1 s2 done r = declaring-alike x (CellOf k Empty) CellForm g refl d (h Empty) s1 s2 done r
  declare_cell-alike x k (Some i) g f d h s1 s2 done r =
      initial_then-alike i.init g (scoping.add x.name CellForm g) _ _ f
      (λ v. declaring-alike x (CellOf k (Full (kept_number v))) CellForm g refl d (h (Full (kept_number v)))) s1 s2 done r

  -- ARRAYS
  -- the name may hold each array of this shell whose elements it may hold
  abbrev HoldsArray : Placed N → Shell N → Type 0
  HoldsArray x a = (vs : List Value) → All (λ v. scoping.holds x.name (Plain v)) vs → scoping.holds x.name (array_with a vs)

  abbrev renamed_shell : Shell N → Shell M
  renamed_shell a = record { over = option_map name a.over; kind = a.kind; ranges = a.ranges }

  -- an array of one value, and of the values that are gathered
  filled-held : (x : Placed N) (v : Value) (rs : List TextRange) → scoping.holds x.name (Plain v) → All (λ v. scoping.holds x.name (Plain v)) (filled v rs)
  filled-held x v rs h = All-map (λ v. scoping.holds x.name (Plain v)) (λ t. v) (indices_in rs) (All-every (λ t. scoping.holds x.name (Plain v)) (λ t. h) (indices_in rs))

  gathered-held : (x : Placed N) (value : Index → Result Value Fault) → ((t : Index) (v : Value) → value t ≡ Ok v → scoping.holds x.name (Plain v)) → (ts : List Index) (vs : List Value)
      → gathered value ts ≡ Ok vs → All (λ v. scoping.holds x.name (Plain v)) vs
  gathered-held x value p [] vs e =
      let none : [] ≡ vs = cc in
      subst (λ vs. All (λ v. scoping.holds x.name (Plain v)) vs) none (All-nil (λ v. scoping.holds x.name (Plain v)))
  gathered-held x value p (t ∷ ts) vs e = by (value t) (p t) (gathered value ts) (gathered-held x value p ts) e
    where
      by : (r : Result Value Fault) → ((v : Value) → r ≡ Ok v → scoping.holds x.name (Plain v)) → (q : Result (List Value) Fault)
          → ((vs : List Value) → q ≡ Ok vs → All (λ v. scoping.holds x.name (Plain v)) vs)
          → with_ok (naming_value t r) (λ v. with_ok q (λ vs. Ok (v ∷ vs))) ≡ Ok vs → All (λ v. scoping.holds x.name (Plain v)) vs
      by (Ok v) h (Ok ws) hs e =
          let same : v ∷ ws ≡ vs = cc in
          subst (λ vs. All (λ v. scoping.holds x.name (Plain v)) vs) same (All-cons (λ v. scoping.holds x.name (Plain v)) v ws (h v refl) (hs ws refl))
      by (Ok v) h (Err f) hs e = cc
      by (Err f) h q hs e = cc

  array_of_item-alike : (x : Placed N) (a : Shell N) (at : Place) (item : ItemTree N) (o : Option (List TextRange)) (g : G) → fits_whole_side scoping item g → scoping.declares x.name (ArrayForm a.over) g → HoldsArray x a → scoping.suits x.name item g → HadWhole limits second R item g o
      → RunAlike (R g) (R (scoping.add x.name (ArrayForm a.over) g)) (array_of_item limits first (renamed name x) (renamed_shell a) at (renamed_item name item) o) (array_of_item limits second x a at item o)
  array_of_item-alike x a at item None g f d h k whole s1 s2 done r =
      evaluated-alike_by limits name scoping first second R sim item g (scoping.add x.name (ArrayForm a.over) g) _ _ (fits_item-once scoping [] item g (f.0 []), f.1)
      (λ v u1 u2 q m. unless-alike (nat_lt limits.budget (size_in a.ranges)) (fault Budget at) (R g) (R (scoping.add x.name (ArrayForm a.over) g)) _ _
      (declaring-alike x (array_with a (filled v a.ranges)) (ArrayForm a.over) g refl d
      (h (filled v a.ranges) (filled-held x v a.ranges (sim.suited_once x.name item v g u1 u2 q k whole m))))) s1 s2 done r
  array_of_item-alike x a at item (Some arrays) g f d h k whole s1 s2 done r =
      unless-alike (nat_lt limits.budget (size_in a.ranges)) (fault Budget at) (R g) (R (scoping.add x.name (ArrayForm a.over) g))
      (λ s done. with_value (gathered (λ t. item_of limits first (renamed_item name item) (Some t) s) (indices_in a.ranges)) (λ vs. declaring limits first (renamed name x) (array_with (renamed_shell a) vs)) s done)
      (λ s done. with_value (gathered (λ t. item_of limits second item (Some t) s) (indices_in a.ranges)) (λ vs. declaring limits second x (array_with a vs)) s done)
      (λ s1 s2 done r. with_value-alike_by (R (scoping.add x.name (ArrayForm a.over) g)) _ _ _ _ s1 s2 done
      (gathered-same _ _ (indices_in a.ranges) (λ t. item_of-renamed limits name scoping first second R sim item (Some t) g s1 s2 r (f.0 t)))
      (λ vs e. declaring-alike x (array_with a vs) (ArrayForm a.over) g refl d
      (h vs (gathered-held x (λ t. item_of limits second item (Some t) s2) (λ t v m. sim.suited_initial x.name a.over item t v g s1 s2 r k d (arrays, whole) m) (indices_in a.ranges) vs e)) s1 s2 done r))
      s1 s2 done r

  array_of_init-alike : (x : Placed N) (a : Shell N) (at : Place) (i : InitTree N) (g : G) → fits_init scoping (fits_whole_side scoping) i g → scoping.declares x.name (ArrayForm a.over) g → HoldsArray x a → suits_elements scoping x.name a.kind i g
      → RunAlike (R g) (R (scoping.add x.name (ArrayForm a.over) g)) (array_of_init limits first (renamed name x) (renamed_shell a) at (renamed_init name i)) (array_of_init limits second x a at i)
  array_of_init-alike x a at (ItemInit item mapped) g f d h k s1 s2 done r =
      subst (λ o. EndsAlike (R (scoping.add x.name (ArrayForm a.over) g)) (array_of_init limits first (renamed name x) (renamed_shell a) at (renamed_init name (ItemInit item mapped)) s1 done)
      (array_of_item limits second x a at item o s2 done))
      (whole_item-renamed limits name scoping first second R sim item (Some []) g s1 s2 r (f.0 []))
      (array_of_item-alike x a at item (whole_item limits first (renamed_item name item) s1) g f d h k
      (s1, s2, r, sym (whole_item-renamed limits name scoping first second R sim item (Some []) g s1 s2 r (f.0 []))) s1 s2 done r)
  array_of_init-alike x a at (CreateInit c) g f d h k s1 s2 done r =
      declaring-alike x (array_with a (filled (default a.kind) a.ranges)) (ArrayForm a.over) g refl d
      (h (filled (default a.kind) a.ranges) (filled-held x (default a.kind) a.ranges k)) s1 s2 done r

  array_of-alike : (x : Placed N) (a : Shell N) (i : Option (InitialTree N)) (g : G) → fits_initial scoping (fits_whole_side scoping) i g → scoping.declares x.name (ArrayForm a.over) g → HoldsArray x a → suits_array scoping x.name a.kind i g
      → RunAlike (R g) (R (scoping.add x.name (ArrayForm a.over) g)) (array_of limits first (renamed name x) (renamed_shell a) (option_map (renamed_initial name) i)) (array_of limits second x a i)
  array_of-alike x a None g f d h k s1 s2 done r =
      declaring-alike x (array_with a (filled (default a.kind) a.ranges)) (ArrayForm a.over) g refl d
      (h (filled (default a.kind) a.ranges) (filled-held x (default a.kind) a.ranges k)) s1 s2 done r
  array_of-alike x a (Some i) g f d h k s1 s2 done r = array_of_init-alike x a i.equals i.init g f d h k s1 s2 done r

  -- an array's declaration, over the names that the renamed items are over
  made-alike : (x : Placed N) (a : ArrayTypeTree N) (v : Value) (i : Option (InitialTree N)) (g : G) → fits_initial scoping (fits_whole_side scoping) i g → scoping.declares x.name (ArrayForm (declared_over a.over)) g → HoldsArray x (record { over = declared_over a.over; kind = a.kind; ranges = ranges_in v }) → suits_array scoping x.name a.kind i g
      → RunAlike (R g) (R (scoping.add x.name (ArrayForm (declared_over a.over)) g))
      (unless (too_large (ranges_in v)) (fault ArrayTooLarge x.at)
      (array_of limits first (renamed name x) (record { over = declared_over (renamed_items name a.over); kind = a.kind; ranges = ranges_in v }) (option_map (renamed_initial name) i)))
      (unless (too_large (ranges_in v)) (fault ArrayTooLarge x.at)
      (array_of limits second x (record { over = declared_over a.over; kind = a.kind; ranges = ranges_in v }) i))
  made-alike x a v i g f d h k =
      unless-alike (too_large (ranges_in v)) (fault ArrayTooLarge x.at) (R g) (R (scoping.add x.name (ArrayForm (declared_over a.over)) g)) _ _
      (λ s1 s2 done r.
      subst (λ over. EndsAlike (R (scoping.add x.name (ArrayForm (declared_over a.over)) g))
      (array_of limits first (renamed name x) (record { over = over; kind = a.kind; ranges = ranges_in v }) (option_map (renamed_initial name) i) s1 done)
      (array_of limits second x (record { over = declared_over a.over; kind = a.kind; ranges = ranges_in v }) i s2 done))
      (sym (declared_over-renamed name a.over))
      (array_of-alike x (record { over = declared_over a.over; kind = a.kind; ranges = ranges_in v }) i g f d h k s1 s2 done r))

  declare_array-alike : (x : Placed N) (a : ArrayTypeTree N) (i : Option (InitialTree N)) (g : G) → fits_items scoping a.over g → fits_initial scoping (fits_whole_side scoping) i g → scoping.declares x.name (ArrayForm (declared_over a.over)) g → scoping.spans_array x.name a.kind a.over g → suits_array scoping x.name a.kind i g
      → RunAlike (R g) (R (scoping.add x.name (ArrayForm (declared_over a.over)) g)) (declare_array limits first (renamed name x) (renamed_array_type name a) (option_map (renamed_initial name) i)) (declare_array limits second x a i)
  declare_array-alike x a i g e f d h k s1 s2 done r =
      with_value-alike_by (R (scoping.add x.name (ArrayForm (declared_over a.over)) g)) _ _ _ _ s1 s2 done (domain_of-renamed limits name scoping first second R sim a.from a.over g s1 s2 r e)
      (λ v m. made-alike x a v i g f d (λ vs. sim.spanned_array x.name (declared_over a.over) a.kind a.from a.over v vs g s1 s2 r h m) k s1 s2 done r)

  -- BY ITS TYPE
  declare_typed-alike : (x : Placed N) (type : Option (TypeTree N)) (i : Option (InitialTree N)) (g : G) → fits_type scoping type g → fits_initial scoping (side_by scoping type) i g → scoping.declares x.name (form_by type) g → suits_declared scoping x.name type i g
      → RunAlike (R g) (R (scoping.add x.name (form_by type) g)) (declare_typed limits first (renamed name x) (option_map (renamed_type name) type) (option_map (renamed_initial name) i)) (declare_typed limits second x type i)
  declare_typed-alike x None i g e f d h = declare_plain-alike x (Int (pos 0)) i g f d h
  declare_typed-alike x (Some (ScalarType at k)) i g e f d h = declare_plain-alike x (default k) i g f d h
  declare_typed-alike x (Some (SyncType at kind_at k)) i g e f d h = declare_cell-alike x k i g f d h
  declare_typed-alike x (Some (DomainType t)) i g e f d h = declare_plain-alike x (Domain (empty_domain t.rank)) i g f d h
  declare_typed-alike x (Some (ArrayType a)) i g e f d h = declare_array-alike x a i g e f d h.0 h.1

  -- a `config const`
  given_or-alike : (x : Placed N) (o : Option Value) (form : Form N) (g : G) (go1 : Run S1) (go2 : Run S2) → scoping.declares x.name PlainForm g → scoping.add x.name PlainForm g ≡ scoping.add x.name form g → ((v : Value) → o ≡ Some v → scoping.holds x.name (Plain v))
      → RunAlike (R g) (R (scoping.add x.name form g)) go1 go2 → RunAlike (R g) (R (scoping.add x.name form g)) (given_or limits first (renamed name x) o go1) (given_or limits second x o go2)
  given_or-alike x None form g go1 go2 d e h p s1 s2 done r = p s1 s2 done r
  given_or-alike x (Some v) form g go1 go2 d e h p s1 s2 done r =
      (second.declare x.name (Plain v) s2, subst (λ h. R h (first.declare (name x.name) (Plain v) s1) (second.declare x.name (Plain v) s2)) e (sim.declares x.name (Plain v) g s1 s2 r d (h v refl)), refl)

  -- what the renamed type gives is what the type gives
  typed-alike : (d : DeclareTree N) (g : G) → fits_type scoping (type_of d.typed) g → fits_initial scoping (side_by scoping (type_of d.typed)) d.initial g → scoping.declares d.name.name (form_by (type_of d.typed)) g
      → suits_declared scoping d.name.name (type_of d.typed) d.initial g → RunAlike (R g) (R (scoping.add d.name.name (form_by (type_of d.typed)) g))
      (declare_typed limits first (renamed name d.name) (type_of (renamed_declare name d).typed) (option_map (renamed_initial name) d.initial)) (declare_typed limits second d.name (type_of d.typed) d.initial)
  typed-alike d g e f a h s1 s2 done r =
      subst (λ type. EndsAlike (R (scoping.add d.name.name (form_by (type_of d.typed)) g))
      (declare_typed limits first (renamed name d.name) type (option_map (renamed_initial name) d.initial) s1 done) (declare_typed limits second d.name (type_of d.typed) d.initial s2 done))
      (sym (type_of-renamed name d.typed))
      (declare_typed-alike d.name (type_of d.typed) d.initial g e f a h s1 s2 done r)

  declare_by-alike : (c : Option Place) (d : DeclareTree N) (g : G)
      → fits_type scoping (type_of d.typed) g → fits_initial scoping (side_by scoping (type_of d.typed)) d.initial g → scoping.declares d.name.name (form_by (type_of d.typed)) g
      → fits_given scoping c d.name.name (form_by (type_of d.typed)) g → suits_declared scoping d.name.name (type_of d.typed) d.initial g
      → RunAlike (R g) (R (scoping.add d.name.name (form_by (type_of d.typed)) g)) (declare_by limits first c (renamed_declare name d)) (declare_by limits second c d)
  declare_by-alike None d g e f a b h s1 s2 done r = typed-alike d g e f a h s1 s2 done r
  declare_by-alike (Some config) d g e f a b h s1 s2 done r =
      subst (λ o. EndsAlike (R (scoping.add d.name.name (form_by (type_of d.typed)) g)) (declare_by limits first (Some config) (renamed_declare name d) s1 done)
      (given_or limits second d.name o (declare_typed limits second d.name (type_of d.typed) d.initial) s2 done))
      (sim.gives d.name.name g s1 s2 r b.0)
      (given_or-alike d.name (first.given (name d.name.name) s1) (form_by (type_of d.typed)) g _ _ b.1 b.2
      (λ v o. sim.given_holds d.name.name v g s1 s2 r b.0 (sym (sim.gives d.name.name g s1 s2 r b.0) ∙ o)) (typed-alike d g e f a h) s1 s2 done r)

  pub declare-alike : (d : DeclareTree N) (g : G) → fits_declare scoping d g
      → RunAlike (R g) (R (scoping.add d.name.name (form_by (type_of d.typed)) g)) (declare limits first (renamed_declare name d)) (declare limits second d)
  declare-alike d g f = declare_by-alike d.config d g f.0 f.1 f.2 f.3 f.4
