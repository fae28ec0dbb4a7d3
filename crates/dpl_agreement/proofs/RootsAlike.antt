-- A declaration gives the same root in environments that agree: its map has the same arguments, and what it is derived from the
-- same root.
use Rattle.std.proofs.Common.{◌≡◌, Bool, true, false, List, [], ◌∷◌, map, refl, sym, ap, ◌∙◌, subst, Some, None, Option}
use Rattle.std.specs.Prelude.{if◌then◌else◌, option_map}
use Rattle.dpl_sets.specs.TextRanges.{TextRange}
use Rattle.dpl_language.specs.Tree.{DomainOf, ExprTree, Named, Grouped, Postfixed, ItemTree, One, RangeItem, Posts, NoPosts, Post, PostTree, Brackets, Rounds, Dotted, Plainly, Expand, Items, FirstItem, NoItems, NextItem}
use Rattle.dpl_language.specs.Tree.{StartTree, StartExpr, StartTuple, MapTree, BlockMap, CyclicMap, BlockCyclicMap, MappedTree, TypeTree, ScalarType, SyncType, DomainType, ArrayType, ArrayTypeTree, CreateTree, InitTree, ItemInit, CreateInit, InitialTree, DeclareTree}
use Rattle.dpl_language.specs.Values.{Value, Int, Truth, Range, Domain, Array, Cell, Locale, AllLocales, Tuple, is_distributed}
use Rattle.dpl_language.specs.Distributions.{Root, NoMap}
use Rattle.dpl_language.specs.Environment.{Environment, Limits}
use Rattle.dpl_language.specs.Phrases.{parts}
use Rattle.dpl_language.specs.Declarations.{type_of}
use Rattle.dpl_language.specs.Roots.{by_post, by_posts, derived_from, derived_item, derived_over, type_map, is_typed_domain, or_no_map, root_by, each_value, start_of, map_of, created, derived_root, init_root, initial_root, domain_root, deal_domain, deal_array, deal_by, dealt}
use Rattle.dpl_agreement.specs.Renamed.{renamed_expr, renamed_items, renamed_start, renamed_map, renamed_mapped, renamed_type, renamed_array_type, renamed_init, renamed_initial, renamed_declare}
use Rattle.dpl_agreement.specs.Scopes.{Scoping, fits_expr, fits_item, fits_items, fits_each_value, fits_start, fits_map, fits_mapped, fits_maps, init_map, initial_map, fits_type, side_by, fits_init, fits_initial, fits_side}
use Rattle.dpl_agreement.specs.Agreement.{Simulates}
use Rattle.dpl_agreement.proofs.RunsAlike.{with_ok-same}
use Rattle.dpl_agreement.proofs.RenamedParts.{parts-mapped, type_of-renamed, derived_item-renamed, derived_over-renamed}
use Rattle.dpl_agreement.proofs.ExpressionsAlike.{value_of-renamed, item_of-renamed, domain_of-renamed}

-- THE NAME from which a value is derived is one that is read in it
module _ {N G : Type 0} (scoping : Scoping N G) where
  by_post-reads : (p : PostTree N) (o : Option N) (x : N) → by_post p o ≡ Some x → o ≡ Some x
  by_post-reads (Brackets from items upto) o x e = e
  by_post-reads (Rounds from es upto) o x e = e
  by_post-reads (Dotted dot (Plainly at DomainOf)) o x e = e
  by_post-reads (Dotted dot (Expand at from i upto)) o x e = e
  by_post-reads (Dotted dot _) o x e = cc

  by_posts-reads : (ps : Posts N) (o : Option N) (x : N) → by_posts ps o ≡ Some x → o ≡ Some x
  by_posts-reads NoPosts o x e = e
  by_posts-reads (Post p ps) o x e = by_post-reads p o x (by_posts-reads ps (by_post p o) x e)

  some-reads : (y x : N) (g : G) → scoping.reads y g → Some y ≡ Some x → scoping.reads x g
  some-reads y x g f e = let same : y ≡ x = cc in subst (λ x. scoping.reads x g) same f

  mutual
    derived_from-reads : (e : ExprTree N) (g : G) → fits_expr scoping None e g → (x : N) → derived_from e ≡ Some x → scoping.reads x g
    derived_from-reads (Named y) g f x e = some-reads y.name x g f e
    derived_from-reads (Grouped from item upto) g f x e = derived_item-reads item g f x e
    derived_from-reads (Postfixed a ps) g f x e = derived_from-reads a g f.0 x (by_posts-reads ps (derived_from a) x e)
    derived_from-reads _ g f x e = cc

    pub derived_item-reads : (i : ItemTree N) (g : G) → fits_item scoping None i g → (x : N) → derived_item i ≡ Some x → scoping.reads x g
    derived_item-reads (One a) g f x e = derived_from-reads a g f x e
    derived_item-reads (RangeItem low at dots high by) g f x e = cc

  pub derived_over-reads : (items : Items N) (g : G) → fits_items scoping items g → (x : N) → derived_over items ≡ Some x → scoping.reads x g
  derived_over-reads (FirstItem i NoItems) g f x e = derived_item-reads i g f.0 x e
  derived_over-reads (FirstItem i (NextItem comma j more)) g f x e = cc

-- what a test asks for is asked only where it holds
if-same : {A : Type 0} (b : Bool) (u v w : A) → (b ≡ true → u ≡ v) → (if b then u else w) ≡ (if b then v else w)
if-same true u v w p = p refl
if-same false u v w p = refl

module _ {M N G S1 S2 : Type 0} (limits : Limits) (name : N → M) (scoping : Scoping N G) (first : Environment M S1) (second : Environment N S2) (R : G → S1 → S2 → Type 0) (sim : Simulates limits name scoping first second R) where
  -- MAPS
  each_value-alike : (es : List (ExprTree N)) (g : G) (s1 : S1) (s2 : S2) → R g s1 s2 → fits_each_value scoping es g → each_value limits first (map (renamed_expr name) es) s1 ≡ each_value limits second es s2
  each_value-alike [] g s1 s2 r f = refl
  each_value-alike (e ∷ es) g s1 s2 r f =
      with_ok-same _ _ _ _ (value_of-renamed limits name scoping first second R sim e None g s1 s2 r f.0) (λ v. with_ok-same _ _ _ _ (each_value-alike es g s1 s2 r f.1) (λ vs. refl))

  start_of-alike : (t : StartTree N) (g : G) (s1 : S1) (s2 : S2) → R g s1 s2 → fits_start scoping t g → start_of limits first (renamed_start name t) s1 ≡ start_of limits second t s2
  start_of-alike (StartExpr e) g s1 s2 r f = with_ok-same _ _ _ _ (value_of-renamed limits name scoping first second R sim e None g s1 s2 r f) (λ v. refl)
  start_of-alike (StartTuple from es upto) g s1 s2 r f =
      with_ok-same _ _ _ _ (ap (λ es. each_value limits first es s1) (parts-mapped (renamed_expr name) es) ∙ each_value-alike (parts es) g s1 s2 r f) (λ vs. refl)

  map_of-alike : (m : MapTree N) (g : G) (s1 : S1) (s2 : S2) → R g s1 s2 → fits_map scoping m g → map_of limits first (renamed_map name m) s1 ≡ map_of limits second m s2
  map_of-alike (BlockMap m) g s1 s2 r f = with_ok-same _ _ _ _ (item_of-renamed limits name scoping first second R sim m.box None g s1 s2 r f) (λ v. refl)
  map_of-alike (CyclicMap m) g s1 s2 r f = with_ok-same _ _ _ _ (start_of-alike m.start g s1 s2 r f) (λ t. refl)
  map_of-alike (BlockCyclicMap m) g s1 s2 r f = with_ok-same _ _ _ _ (start_of-alike m.start g s1 s2 r f.0) (λ t. with_ok-same _ _ _ _ (start_of-alike m.size g s1 s2 r f.1) (λ sizes. refl))

  created-alike : (c : CreateTree N) (g : G) (s1 : S1) (s2 : S2) → R g s1 s2 → fits_items scoping c.items g
      → created limits first (record { at = c.at; word = c.word; dot = c.dot; method = c.method; from = c.from; items = renamed_items name c.items; upto = c.upto }) s1 ≡ created limits second c s2
  created-alike c g s1 s2 r f = ap or_no_map (with_ok-same _ _ _ _ (domain_of-renamed limits name scoping first second R sim c.from c.items g s1 s2 r f) (λ v. refl))

  -- ROOTS
  derived_root-alike : (o : Option N) (rs : List TextRange) (g : G) (s1 : S1) (s2 : S2) → R g s1 s2 → ((x : N) → o ≡ Some x → scoping.reads x g)
      → derived_root limits first (option_map name o) rs s1 ≡ derived_root limits second o rs s2
  derived_root-alike None rs g s1 s2 r f = refl
  derived_root-alike (Some x) rs g s1 s2 r f =
      ap (λ v. if is_distributed v then first.root (name x) s1 else root_by NoMap rs) (sim.gets x g s1 s2 r (f x refl))
      ∙ if-same (is_distributed (second.get x s2)) (first.root (name x) s1) (second.root x s2) (root_by NoMap rs) (sim.roots x g s1 s2 r (f x refl))

  init_root-alike : (typed : Bool) (i : InitTree N) (rs : List TextRange) (g : G) (s1 : S1) (s2 : S2) → R g s1 s2 → fits_init scoping (fits_side scoping) i g → fits_mapped scoping (init_map i) g
      → init_root limits first typed (renamed_init name i) rs s1 ≡ init_root limits second typed i rs s2
  init_root-alike typed (ItemInit item (Some m)) rs g s1 s2 r f h = ap (λ d. root_by (or_no_map d) rs) (map_of-alike m.map g s1 s2 r h)
  init_root-alike true (ItemInit item None) rs g s1 s2 r f h = refl
  init_root-alike false (ItemInit item None) rs g s1 s2 r f h =
      ap (λ o. derived_root limits first o rs s1) (derived_item-renamed name item) ∙ derived_root-alike (derived_item item) rs g s1 s2 r (derived_item-reads scoping item g f.0)
  init_root-alike typed (CreateInit c) rs g s1 s2 r f h = ap (λ d. root_by d rs) (created-alike c g s1 s2 r f)

  initial_root-alike : (typed : Bool) (i : Option (InitialTree N)) (rs : List TextRange) (g : G) (s1 : S1) (s2 : S2) → R g s1 s2 → fits_initial scoping (fits_side scoping) i g → fits_mapped scoping (initial_map i) g
      → initial_root limits first typed (option_map (renamed_initial name) i) rs s1 ≡ initial_root limits second typed i rs s2
  initial_root-alike typed None rs g s1 s2 r f h = refl
  initial_root-alike typed (Some i) rs g s1 s2 r f h = init_root-alike typed i.init rs g s1 s2 r f h

  domain_root-alike : (o : Option (MappedTree N)) (typed : Bool) (i : Option (InitialTree N)) (rs : List TextRange) (g : G) (s1 : S1) (s2 : S2) → R g s1 s2 → fits_initial scoping (fits_side scoping) i g → fits_mapped scoping o g
      → fits_mapped scoping (initial_map i) g → domain_root limits first (option_map (renamed_mapped name) o) typed (option_map (renamed_initial name) i) rs s1 ≡ domain_root limits second o typed i rs s2
  domain_root-alike None typed i rs g s1 s2 r f h k = initial_root-alike typed i rs g s1 s2 r f k
  domain_root-alike (Some m) typed i rs g s1 s2 r f h k = ap (λ d. root_by (or_no_map d) rs) (map_of-alike m.map g s1 s2 r h)

  -- THE STATE BEHIND A DECLARATION, in which the name may be read: g is in sight before it, and h behind it
  dealt-root : (x : N) (a b : Root) (h : G) (t1 : S1) (t2 : S2) → R h t1 t2 → scoping.reads x h → is_distributed (second.get x t2) ≡ true → a ≡ b → R h (first.deal (name x) a t1) (second.deal x b t2)
  dealt-root x a b h t1 t2 q f d e = subst (λ a. R h (first.deal (name x) a t1) (second.deal x b t2)) (sym e) (sim.deals x b h t1 t2 q f d)

  -- a value that is dealt out
  distributed : (x : N) (v w : Value) (t2 : S2) → second.get x t2 ≡ w → w ≡ v → is_distributed v ≡ true → is_distributed (second.get x t2) ≡ true
  distributed x v w t2 e p d = ap is_distributed (e ∙ p) ∙ d

  deal_domain-alike : (x : N) (type : Option (TypeTree N)) (i : Option (InitialTree N)) (v : Value) (g h : G) (s1 : S1) (s2 : S2) (t1 : S1) (t2 : S2) → R g s1 s2 → R h t1 t2 → scoping.reads x h → second.get x t2 ≡ v
      → type_map (option_map (renamed_type name) type) ≡ option_map (renamed_mapped name) (type_map type) → is_typed_domain (option_map (renamed_type name) type) ≡ is_typed_domain type
      → fits_initial scoping (fits_side scoping) i g → fits_mapped scoping (type_map type) g → fits_mapped scoping (initial_map i) g
      → R h (deal_domain limits first (option_map (renamed_type name) type) (option_map (renamed_initial name) i) (name x) v s1 t1) (deal_domain limits second type i x v s2 t2)
  deal_domain-alike x type i (Domain rs) g h s1 s2 t1 t2 r q reads e p b f k l =
      dealt-root x _ _ h t1 t2 q reads (ap is_distributed e)
      (ap (λ o. domain_root limits first o (is_typed_domain (option_map (renamed_type name) type)) (option_map (renamed_initial name) i) rs s1) p
      ∙ ap (λ typed. domain_root limits first (option_map (renamed_mapped name) (type_map type)) typed (option_map (renamed_initial name) i) rs s1) b
      ∙ domain_root-alike (type_map type) (is_typed_domain type) i rs g s1 s2 r f k l)
  deal_domain-alike x type i (Int n) g h s1 s2 t1 t2 r q reads e p b f k l = q
  deal_domain-alike x type i _ g h s1 s2 t1 t2 r q reads e p b f k l = q

  deal_array-alike : (x : N) (a : ArrayTypeTree N) (v : Value) (g h : G) (s1 : S1) (s2 : S2) (t1 : S1) (t2 : S2) → R g s1 s2 → R h t1 t2 → scoping.reads x h → second.get x t2 ≡ v → fits_items scoping a.over g
      → R h (deal_array limits first (renamed_array_type name a) (name x) v s1 t1) (deal_array limits second a x v s2 t2)
  deal_array-alike x a (Array k rs) g h s1 s2 t1 t2 r q reads e f =
      dealt-root x _ _ h t1 t2 q reads (ap is_distributed e)
      (ap (λ o. derived_root limits first o rs s1) (derived_over-renamed name a.over) ∙ derived_root-alike (derived_over a.over) rs g s1 s2 r (derived_over-reads scoping a.over g f))
  deal_array-alike x a (Domain rs) g h s1 s2 t1 t2 r q reads e f = q
  deal_array-alike x a (Int n) g h s1 s2 t1 t2 r q reads e f = q
  deal_array-alike x a (Truth n) g h s1 s2 t1 t2 r q reads e f = q
  deal_array-alike x a (Range n) g h s1 s2 t1 t2 r q reads e f = q
  deal_array-alike x a (Cell n) g h s1 s2 t1 t2 r q reads e f = q
  deal_array-alike x a (Locale n) g h s1 s2 t1 t2 r q reads e f = q
  deal_array-alike x a AllLocales g h s1 s2 t1 t2 r q reads e f = q
  deal_array-alike x a (Tuple n) g h s1 s2 t1 t2 r q reads e f = q

  deal_by-alike : (x : N) (type : Option (TypeTree N)) (i : Option (InitialTree N)) (v : Value) (g h : G) (s1 : S1) (s2 : S2) (t1 : S1) (t2 : S2) → R g s1 s2 → R h t1 t2 → scoping.reads x h → second.get x t2 ≡ v
      → fits_type scoping type g → fits_initial scoping (side_by scoping type) i g → fits_maps scoping type i g
      → R h (deal_by limits first (option_map (renamed_type name) type) (option_map (renamed_initial name) i) (name x) v s1 t1) (deal_by limits second type i x v s2 t2)
  deal_by-alike x None i v g h s1 s2 t1 t2 r q reads e types f maps = deal_domain-alike x None i v g h s1 s2 t1 t2 r q reads e refl refl f maps.0 maps.1
  deal_by-alike x (Some (ScalarType at k)) i v g h s1 s2 t1 t2 r q reads e types f maps = deal_domain-alike x (Some (ScalarType at k)) i v g h s1 s2 t1 t2 r q reads e refl refl f maps.0 maps.1
  deal_by-alike x (Some (SyncType at kind_at k)) i v g h s1 s2 t1 t2 r q reads e types f maps = deal_domain-alike x (Some (SyncType at kind_at k)) i v g h s1 s2 t1 t2 r q reads e refl refl f maps.0 maps.1
  deal_by-alike x (Some (DomainType d)) i v g h s1 s2 t1 t2 r q reads e types f maps = deal_domain-alike x (Some (DomainType d)) i v g h s1 s2 t1 t2 r q reads e refl refl f maps.0 maps.1
  deal_by-alike x (Some (ArrayType a)) i v g h s1 s2 t1 t2 r q reads e types f maps = deal_array-alike x a v g h s1 s2 t1 t2 r q reads e types

  pub dealt-alike : (d : DeclareTree N) (g h : G) (s1 : S1) (s2 : S2) (t1 : S1) (t2 : S2) → R g s1 s2 → R h t1 t2 → scoping.reads d.name.name h
      → fits_type scoping (type_of d.typed) g → fits_initial scoping (side_by scoping (type_of d.typed)) d.initial g → fits_maps scoping (type_of d.typed) d.initial g
      → R h (dealt limits first (renamed_declare name d) s1 t1) (dealt limits second d s2 t2)
  dealt-alike d g h s1 s2 t1 t2 r q reads types f maps =
      subst (λ type. R h (deal_by limits first type (option_map (renamed_initial name) d.initial) (name d.name.name) (first.get (name d.name.name) t1) s1 t1) (dealt limits second d s2 t2)) (sym (type_of-renamed name d.typed))
      (subst (λ v. R h (deal_by limits first (option_map (renamed_type name) (type_of d.typed)) (option_map (renamed_initial name) d.initial) (name d.name.name) v s1 t1) (dealt limits second d s2 t2)) (sym (sim.gets d.name.name h t1 t2 q reads))
      (deal_by-alike d.name.name (type_of d.typed) d.initial (second.get d.name.name t2) g h s1 s2 t1 t2 r q reads refl types f maps))
