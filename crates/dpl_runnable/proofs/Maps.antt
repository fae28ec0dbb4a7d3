-- Maps that a text spells, that need nothing which doesn't run and that break no rule name what is in sight.
-- Beside a written type an initial value has none.
use Rattle.std.proofs.Common.{◌≡◌, ℕ, Bool, true, false, List, [], ◌∷◌, ◌++◌, length, map, Option, Some, None, refl, sym, ap, subst}
use Rattle.std.specs.Prelude.{◌&&◌, if◌then◌else◌, option_and_then}
use Rattle.std.proofs.lemmas.Option.{none-some, same_Some}
use Rattle.dpl_syntax.specs.declared.place.Place.{Place}
use Rattle.dpl_syntax.specs.declared.refusal.Breach.{Breach}
use Rattle.dpl_syntax.specs.declared.refusal.Code.TheVariants.{WrongType}
use Rattle.dpl_language.specs.Tree.{AfterComma, ExprTree, Number, TruthWord, Named, LocalesWord, LocaleCount, HereWord, Grouped, DomainLiteral, Prefixed, Reduced, Chain, Postfixed, Posts, NoPosts, Post, PostTree, Dotted, Plainly, Dim, Low, LowBound}
use Rattle.dpl_language.specs.Tree.{StartTree, StartExpr, StartTuple, MapTree, BlockMap, CyclicMap, BlockCyclicMap, MappedTree, TypeTree, ScalarType, SyncType, DomainType, ArrayType, CreateTree, InitTree, ItemInit, CreateInit, TypedTree, InitialTree}
use Rattle.dpl_language.specs.Names.{Text}
use Rattle.dpl_language.specs.Declarations.{type_of as written_type}
use Rattle.dpl_language.specs.Roots.{type_map}
use Rattle.dpl_language.specs.Spelled.{HasPosts}
use Rattle.dpl_agreement.specs.Scopes.{init_map, initial_map}
use Rattle.dpl_grammar.specs.Each.{Each, IfThere}
use Rattle.dpl_spelling.specs.Spelt.{PartSpelt, ExprSpelt, PostsSpelt, StartSpelt, MapSpelt, MappedSpelt, TypeSpelt, InitSpelt, TypedSpelt, InitialSpelt}
use Rattle.dpl_agreement.specs.Untasked.{UntaskedIf, UntaskedOthers, UntaskedExpr, UntaskedPosts, UntaskedStart, UntaskedMap, UntaskedMapped, UntaskedType, UntaskedInit, UntaskedTyped, UntaskedInitial}
use Rattle.dpl_rules.specs.Types.{Origin, ValueType, domain_of, is_int}
use Rattle.dpl_rules.specs.Verdicts.{breach, owed_type}
use Rattle.dpl_rules.specs.Places.{first_of, first_of_item}
use Rattle.dpl_rules.specs.Sights.{Scopes}
use Rattle.dpl_rules.specs.Deeds.{map_deeds, inner_reductions}
use Rattle.dpl_rules.specs.Expressions.{type_of, item_type, bare_locales, none_where, expr_breaches, item_breaches, side_part, side_breaches}
use Rattle.dpl_rules.specs.Maps.{LowTree, post_low, posts_low, front_of, owed_rank, box_of, int_start, plain_start, domain_start, low_start, int_breaches, start_breaches, map_breaches, mapped_breaches}
use Rattle.dpl_rules.specs.Declarations.{type_rank, is_untyped, declared_type, agreeing, unmapped, create_breaches, type_breaches, untyped_breaches, typed_breaches, typed_initial, written_breaches}
use Rattle.dpl_rules.proofs.Admission.{first_empty, second_empty}
use Rattle.dpl_nodes.specs.Spots.{IsNear}
use Rattle.dpl_typed.specs.Leaves.{IsFound}
use Rattle.dpl_typed.specs.Simple.{IsSimple, AreSimplePosts, IsSimplePost, AreSimpleMoreExprs}
use Rattle.dpl_mapped.specs.Starts.{more_exprs, IsSimpleStart}
use Rattle.dpl_mapped.specs.Named.{IsSimpleMap}
use Rattle.dpl_runnable.specs.Kinds.{AreVariables}
use Rattle.dpl_runnable.specs.Runnable.{IsFoundMap, AreFoundMaps}
use Rattle.dpl_runnable.proofs.Expressions.{not_bare, runnable, runnable_item}

-- ---- `low` and `lowBound` behind what is simple are simple
module _ (Holds : Text → Type 0) where
  low_post-simple : (p : PostTree Text) (e : ExprTree Text) (l : LowTree) → post_low p e ≡ Some l → IsSimplePost Holds p
  low_post-simple (Dotted dot (Plainly at w)) e l is = tt
  low_post-simple (Dotted dot (Dim at from rank_at d upto)) e l is = tt
  low_post-simple _ e l is = absurd (none-some l is)

  low-simple : (ps : Posts Text) (e : ExprTree Text) (l : LowTree) → posts_low ps e ≡ Some l → AreSimplePosts Holds (front_of ps) → AreSimplePosts Holds ps × HasPosts ps
  low-simple NoPosts e l is simple = absurd (none-some l is)
  low-simple (Post p NoPosts) e l is simple = ((low_post-simple p e l is, tt), tt)
  low-simple (Post p (Post q rest)) e l is simple = ((simple.0, (low-simple (Post q rest) e l is simple.1).0), tt)

-- X of `X.low` is what stands before it
post_low-of : (p : PostTree Text) (e : ExprTree Text) (l : LowTree) → post_low p e ≡ Some l → l.of ≡ e
post_low-of (Dotted dot (Plainly at Low)) e l is = sym (ap (λ (l : LowTree). l.of) (same_Some (record { of = e; at = at; bound = false }) l is))
post_low-of (Dotted dot (Plainly at LowBound)) e l is = sym (ap (λ (l : LowTree). l.of) (same_Some (record { of = e; at = at; bound = true }) l is))
post_low-of _ e l is = absurd (none-some l is)

low-of : (ps : Posts Text) (e : ExprTree Text) (l : LowTree) → posts_low ps e ≡ Some l → l.of ≡ e
low-of NoPosts e l is = absurd (none-some l is)
low-of (Post p NoPosts) e l is = post_low-of p e l is
low-of (Post p (Post q rest)) e l is = low-of (Post q rest) e l is

front-spelt : (ps : Posts Text) → PostsSpelt IsNear ⊥ ps → PostsSpelt IsNear ⊥ (front_of ps)
front-spelt NoPosts s = tt
front-spelt (Post p NoPosts) s = tt
front-spelt (Post p (Post q rest)) s = (s.0, front-spelt (Post q rest) s.1)

front-untasked : (ps : Posts Text) → UntaskedPosts ps → UntaskedPosts (front_of ps)
front-untasked NoPosts c = tt
front-untasked (Post p NoPosts) c = tt
front-untasked (Post p (Post q rest)) c = (c.0, front-untasked (Post q rest) c.1)

-- a created domain stands beside no type
pub untyped-created : (scopes : Scopes) (o : Option ValueType) (m : CreateTree Text) → typed_breaches scopes o (CreateInit m) ≡ [] → ⊥
untyped-created scopes o m h = let none : breach m.at WrongType ≡ [] = second_empty (create_breaches scopes m) (breach m.at WrongType) h in cc

module _ (scopes : Scopes) (names : AreVariables scopes) where
  abbrev IsFoundExpr : ExprTree Text → Type 0
  IsFoundExpr e = IsSimple (IsFound scopes) e

  -- ---- WHERE MAPS START
  plain-found : (rank : Option ℕ) (word : Place) (e : ExprTree Text) → ExprSpelt IsNear ⊥ e → UntaskedExpr e → plain_start scopes rank word e ≡ [] → IsFoundExpr e
  plain-found rank word e s c h = (runnable scopes IsNear names e s c (first_empty (expr_breaches scopes e) (int_start rank word (first_of e) (type_of scopes e)) h)).found

  module _ (rank : Option ℕ) (word : Place) (b : ExprTree Text) (ps : Posts Text) (s : ExprSpelt IsNear ⊥ (Postfixed b ps)) (c : UntaskedExpr (Postfixed b ps)) where
    -- a base with what stands behind it, which may be nothing
    behind-found : (qs : Posts Text) → PostsSpelt IsNear ⊥ qs → UntaskedPosts qs → expr_breaches scopes (Postfixed b qs) ≡ [] → IsFoundExpr b × AreSimplePosts (IsFound scopes) qs
    behind-found NoPosts s1 c1 h =
        let own = first_empty (none_where (bare_locales b) (expr_breaches scopes b)) [] h in
        ((runnable scopes IsNear names b s.1 c.0 (subst (λ o. none_where o (expr_breaches scopes b) ≡ []) (not_bare b c.0) own)).found, tt)
    behind-found (Post p rest) s1 c1 h = let x = (runnable scopes IsNear names (Postfixed b (Post p rest)) (tt, s.1, s1) (c.0, c1) h).found in (x.0, x.1)

    at_domain : (l : LowTree) → posts_low ps (Postfixed b (front_of ps)) ≡ Some l → (d : Option (ℕ × Bool)) → domain_start scopes rank word (Postfixed b ps) l d ≡ [] → IsFoundExpr (Postfixed b ps)
    at_domain l is None h = plain-found rank word (Postfixed b ps) s c h
    at_domain l is (Some d) h =
        let told = subst (λ y. expr_breaches scopes y ≡ []) (low-of ps (Postfixed b (front_of ps)) l is) (first_empty (expr_breaches scopes l.of) (if l.bound && d.1 then breach l.at WrongType else owed_rank rank d.0 word) h) in
        let front = behind-found (front_of ps) (front-spelt ps s.2) (front-untasked ps c.1) told in
        let posts = low-simple (IsFound scopes) ps (Postfixed b (front_of ps)) l is front.1 in
        (front.0, posts.0, posts.1)

    at_low : (o : Option LowTree) → posts_low ps (Postfixed b (front_of ps)) ≡ o → low_start scopes rank word (Postfixed b ps) o ≡ [] → IsFoundExpr (Postfixed b ps)
    at_low None is h = plain-found rank word (Postfixed b ps) s c h
    at_low (Some l) is h = at_domain l is (option_and_then domain_of (type_of scopes l.of)) h

  expr_start-found : (rank : Option ℕ) (word : Place) (e : ExprTree Text) → ExprSpelt IsNear ⊥ e → UntaskedExpr e → start_breaches scopes rank word (StartExpr e) ≡ [] → IsFoundExpr e
  expr_start-found rank word (Number at n) s c h = plain-found rank word (Number at n) s c h
  expr_start-found rank word (TruthWord at b) s c h = plain-found rank word (TruthWord at b) s c h
  expr_start-found rank word (Named x) s c h = plain-found rank word (Named x) s c h
  expr_start-found rank word (LocalesWord at) s c h = absurd c
  expr_start-found rank word (LocaleCount at) s c h = absurd c
  expr_start-found rank word (HereWord at) s c h = absurd c
  expr_start-found rank word (Grouped from item upto) s c h = plain-found rank word (Grouped from item upto) s c h
  expr_start-found rank word (DomainLiteral from items upto) s c h = plain-found rank word (DomainLiteral from items upto) s c h
  expr_start-found rank word (Prefixed at op e) s c h = plain-found rank word (Prefixed at op e) s c h
  expr_start-found rank word (Reduced at op reduce e) s c h = plain-found rank word (Reduced at op reduce e) s c h
  expr_start-found rank word (Chain e rest) s c h = plain-found rank word (Chain e rest) s c h
  expr_start-found rank word (Postfixed b ps) s c h = at_low rank word b ps s c (posts_low ps (Postfixed b (front_of ps))) refl h

  -- a tuple's expressions
  int-found : (e : ExprTree Text) (rest : List Breach) → ExprSpelt IsNear ⊥ e → UntaskedExpr e → (expr_breaches scopes e ++ owed_type is_int (first_of e) (type_of scopes e) ++ rest) ≡ [] → IsFoundExpr e × (rest ≡ [])
  int-found e rest s c h =
      let own = expr_breaches scopes e in
      let int = owed_type is_int (first_of e) (type_of scopes e) in
      ((runnable scopes IsNear names e s c (first_empty own int (first_empty (own ++ int) rest h))).found, second_empty (own ++ int) rest h)

  abbrev others_of : List (AfterComma (ExprTree Text)) → List (ExprTree Text)
  others_of ys = map {A = AfterComma (ExprTree Text)} {B = ExprTree Text} (λ y. y.part) ys

  more-found : (ys : List (AfterComma (ExprTree Text))) → Each (PartSpelt IsNear ⊥ (ExprSpelt IsNear ⊥)) ys → UntaskedOthers UntaskedExpr ys → int_breaches scopes (others_of ys) ≡ []
      → AreSimpleMoreExprs (IsFound scopes) (more_exprs ys)
  more-found [] s c h = tt
  more-found (y ∷ ys) s c h =
      let one = int-found y.part (int_breaches scopes (others_of ys)) s.0.1 c.0 h in
      (one.0, more-found ys s.1 c.1 one.1)

  start-found : (rank : Option ℕ) (word : Place) (x : StartTree Text) → StartSpelt IsNear ⊥ x → UntaskedStart x → start_breaches scopes rank word x ≡ [] → IsSimpleStart (IsFound scopes) x
  start-found rank word (StartExpr e) s c h = expr_start-found rank word e s c h
  start-found rank word (StartTuple from es upto) s c h =
      let ints = int_breaches scopes (es.first ∷ others_of es.others) in
      let one = int-found es.first (int_breaches scopes (others_of es.others)) s.1.0 c.0 (first_empty ints (owed_rank rank (length (es.first ∷ others_of es.others)) word) h) in
      (one.0, more-found es.others s.1.1 c.1 one.1)

  -- ---- MAPS
  map-found : (rank : Option ℕ) (m : MapTree Text) → MapSpelt IsNear ⊥ m → UntaskedMap m → map_breaches scopes rank m ≡ [] → IsSimpleMap (IsFound scopes) m
  map-found rank (BlockMap m) s c h = (runnable_item scopes IsNear names m.box s.4 c (first_empty (item_breaches scopes m.box) (box_of rank m.word (first_of_item m.box) (item_type scopes m.box)) h)).found
  map-found rank (CyclicMap m) s c h = start-found rank m.word m.start s.4 c h
  map-found rank (BlockCyclicMap m) s c h =
      let start_told = start_breaches scopes rank m.word m.start in
      let size_told = start_breaches scopes rank m.word m.size in
      (start-found rank m.word m.start s.4 c.0 (first_empty start_told size_told h), start-found rank m.word m.size s.7 c.1 (second_empty start_told size_told h))

  mapped-found : (rank : Option ℕ) (o : Option (MappedTree Text)) → IfThere (MappedSpelt IsNear ⊥) o → UntaskedIf UntaskedMapped o → mapped_breaches scopes rank o ≡ [] → IsFoundMap scopes o
  mapped-found rank None s c h = tt
  mapped-found rank (Some m) s c h =
      (map-found rank m.map s.1 c (first_empty (map_breaches scopes rank m.map) (inner_reductions (map_deeds scopes m.map)) h), s.1)

  -- ---- DECLARATIONS
  untyped-found : (init : InitTree Text) → InitSpelt IsNear ⊥ init → UntaskedInit init → untyped_breaches scopes init ≡ [] → IsFoundMap scopes (init_map init)
  untyped-found (ItemInit item None) s c h = tt
  untyped-found (ItemInit item (Some m)) s c h =
      let front = side_breaches scopes item ++ owed_type (is_untyped (Some m)) (first_of_item item) (side_part scopes item).type in
      let rank = type_rank (side_part scopes item).type in
      mapped-found rank (Some m) s.1 c.1 (second_empty front (mapped_breaches scopes rank (Some m)) h)
  untyped-found (CreateInit m) s c h = tt

  typed-found : (t : TypeTree Text) → TypeSpelt IsNear ⊥ t → UntaskedType t → type_breaches scopes t ≡ [] → IsFoundMap scopes (type_map (Some t))
  typed-found (ScalarType at k) s c h = tt
  typed-found (SyncType at kind_at k) s c h = tt
  typed-found (DomainType d) s c h = mapped-found (Some d.rank) d.mapped s.4 c (second_empty _ (mapped_breaches scopes (Some d.rank) d.mapped) h)
  typed-found (ArrayType a) s c h = tt

  -- beside a type no map stands, and no created domain
  beside-found : (o : Option ValueType) (init : InitTree Text) → typed_breaches scopes o init ≡ [] → IsFoundMap scopes (init_map init)
  beside-found o (ItemInit item None) h = tt
  beside-found o (ItemInit item (Some m)) h =
      let front = side_breaches scopes item ++ agreeing o (side_part scopes item) in
      let none : breach m.at WrongType ≡ [] = second_empty front (unmapped (Some m)) (first_empty (front ++ unmapped (Some m)) (mapped_breaches scopes (type_rank (side_part scopes item).type) (Some m)) h) in
      absurd cc
  beside-found o (CreateInit m) h = tt

  initial-found : (o : Option ValueType) (i : Option (InitialTree Text)) → typed_initial scopes o i ≡ [] → IsFoundMap scopes (initial_map i)
  initial-found o None h = tt
  initial-found o (Some i) h = beside-found o i.init h

  pub maps-found : (w : Option (TypedTree Text)) (i : Option (InitialTree Text)) (self : Origin) → IfThere (TypedSpelt IsNear ⊥) w → IfThere (InitialSpelt IsNear ⊥) i → UntaskedIf UntaskedTyped w → UntaskedIf UntaskedInitial i
      → written_breaches scopes self (written_type w) i ≡ [] → AreFoundMaps scopes (written_type w) i
  maps-found None None self r s v c h = (tt, tt)
  maps-found None (Some i) self r s v c h = (tt, untyped-found i.init s.1 c h)
  maps-found (Some t) i self r s v c h =
      let told = type_breaches scopes t.type in
      let more = typed_initial scopes (declared_type scopes self t.type) i in
      (typed-found t.type r.1 v (first_empty told more h), initial-found (declared_type scopes self t.type) i (second_empty told more h))
