-- A declaration without the words of tasks gives the same root whatever the number of locales.
-- Its map's arguments have the same values, and a root is no value.
use Rattle.std.proofs.Common.{◌≡◌, ℕ, Bool, true, false, List, [], ◌∷◌, refl, ap, Some, None, Option, map}
use Rattle.dpl_sets.specs.TextRanges.{TextRange}
use Rattle.dpl_language.specs.Tree.{AfterComma, ExprTree, StartTree, StartExpr, StartTuple, MapTree, BlockMap, CyclicMap, BlockCyclicMap, MappedTree, TypeTree, ScalarType, SyncType, DomainType, ArrayType, ArrayTypeTree, TypedTree, InitTree, ItemInit, CreateInit, InitialTree, DeclareTree}
use Rattle.dpl_language.specs.Values.{Value, Domain, Array}
use Rattle.dpl_language.specs.Environment.{Environment, Limits}
use Rattle.dpl_language.specs.Declarations.{type_of}
use Rattle.dpl_language.specs.Roots.{type_map, is_typed_domain, or_no_map, root_by, each_value, start_of, map_of, init_root, domain_root, deal_domain, deal_array, deal_by, dealt}
use Rattle.dpl_agreement.specs.Untasked.{UntaskedIf, UntaskedOthers, UntaskedExpr, UntaskedStart, UntaskedMap, UntaskedMapped, UntaskedType, UntaskedTyped, UntaskedInit, UntaskedInitial, UntaskedDeclare}
use Rattle.dpl_agreement.proofs.RunsAlike.{with_ok-same}
use Rattle.dpl_agreement.proofs.UntaskedValues.{HoldsNoLocales, value_of-free, item_of-free, domain_of-free}

type-untasked : {N : Type 0} (o : Option (TypedTree N)) → UntaskedIf UntaskedTyped o → UntaskedIf UntaskedType (type_of o)
type-untasked None u = tt
type-untasked (Some t) u = u

module _ {N S : Type 0} (budget l m : ℕ) (env : Environment N S) (P : S → Type 0) (laws : HoldsNoLocales env P) where
  -- two numbers of locales
  abbrev one : Limits
  one = record { budget = budget; locales = l }

  abbrev other : Limits
  other = record { budget = budget; locales = m }

  others-same : (xs : List (AfterComma (ExprTree N))) (s : S) → UntaskedOthers UntaskedExpr xs → P s
      → each_value one env (map {A = AfterComma (ExprTree N)} {B = ExprTree N} (λ x. x.part) xs) s ≡ each_value other env (map {A = AfterComma (ExprTree N)} {B = ExprTree N} (λ x. x.part) xs) s
  others-same [] s u k = refl
  others-same (x ∷ xs) s u k =
      with_ok-same _ _ _ _ (value_of-free budget l m env P laws x.part None s u.0 k).0 (λ v. with_ok-same _ _ _ _ (others-same xs s u.1 k) (λ vs. refl))

  start_of-same : (t : StartTree N) (s : S) → UntaskedStart t → P s → start_of one env t s ≡ start_of other env t s
  start_of-same (StartExpr e) s u k = with_ok-same _ _ _ _ (value_of-free budget l m env P laws e None s u k).0 (λ v. refl)
  start_of-same (StartTuple from es upto) s u k =
      with_ok-same _ _ _ _ (with_ok-same _ _ _ _ (value_of-free budget l m env P laws es.first None s u.0 k).0 (λ v. with_ok-same _ _ _ _ (others-same es.others s u.1 k) (λ vs. refl))) (λ vs. refl)

  map_of-same : (t : MapTree N) (s : S) → UntaskedMap t → P s → map_of one env t s ≡ map_of other env t s
  map_of-same (BlockMap t) s u k = with_ok-same _ _ _ _ (item_of-free budget l m env P laws t.box None s u k).0 (λ v. refl)
  map_of-same (CyclicMap t) s u k = with_ok-same _ _ _ _ (start_of-same t.start s u k) (λ v. refl)
  map_of-same (BlockCyclicMap t) s u k = with_ok-same _ _ _ _ (start_of-same t.start s u.0 k) (λ v. with_ok-same _ _ _ _ (start_of-same t.size s u.1 k) (λ w. refl))

  init_root-same : (typed : Bool) (i : InitTree N) (rs : List TextRange) (s : S) → UntaskedInit i → P s → init_root one env typed i rs s ≡ init_root other env typed i rs s
  init_root-same typed (ItemInit item (Some t)) rs s u k = ap (λ d. root_by (or_no_map d) rs) (map_of-same t.map s u.1 k)
  init_root-same true (ItemInit item None) rs s u k = refl
  init_root-same false (ItemInit item None) rs s u k = refl
  init_root-same typed (CreateInit c) rs s u k =
      ap (λ d. root_by (or_no_map d) rs) (with_ok-same _ _ _ _ (domain_of-free budget l m env P laws c.from c.items s u k).0 (λ v. refl))

  domain_root-same : (o : Option (MappedTree N)) (typed : Bool) (i : Option (InitialTree N)) (rs : List TextRange) (s : S) → UntaskedIf UntaskedMapped o → UntaskedIf UntaskedInitial i → P s
      → domain_root one env o typed i rs s ≡ domain_root other env o typed i rs s
  domain_root-same None typed None rs s u v k = refl
  domain_root-same None typed (Some i) rs s u v k = init_root-same typed i.init rs s v k
  domain_root-same (Some t) typed i rs s u v k = ap (λ d. root_by (or_no_map d) rs) (map_of-same t.map s u k)

  deal_domain-same : (type : Option (TypeTree N)) (i : Option (InitialTree N)) (x : N) (v : Value) (s after : S) → UntaskedIf UntaskedMapped (type_map type) → UntaskedIf UntaskedInitial i → P s
      → deal_domain one env type i x v s after ≡ deal_domain other env type i x v s after
  deal_domain-same type i x (Domain rs) s after u w k = ap (λ root. env.deal x root after) (domain_root-same (type_map type) (is_typed_domain type) i rs s u w k)
  deal_domain-same type i x _ s after u w k = refl

  deal_array-same : (a : ArrayTypeTree N) (x : N) (v : Value) (s after : S) → deal_array one env a x v s after ≡ deal_array other env a x v s after
  deal_array-same a x v s after = refl

  deal_by-same : (type : Option (TypeTree N)) (i : Option (InitialTree N)) (x : N) (v : Value) (s after : S) → UntaskedIf UntaskedType type → UntaskedIf UntaskedInitial i → P s
      → deal_by one env type i x v s after ≡ deal_by other env type i x v s after
  deal_by-same None i x v s after u w k = deal_domain-same None i x v s after tt w k
  deal_by-same (Some (ScalarType at j)) i x v s after u w k = deal_domain-same (Some (ScalarType at j)) i x v s after tt w k
  deal_by-same (Some (SyncType at kind_at j)) i x v s after u w k = absurd u
  deal_by-same (Some (DomainType d)) i x v s after u w k = deal_domain-same (Some (DomainType d)) i x v s after u w k
  deal_by-same (Some (ArrayType a)) i x v s after u w k = deal_array-same a x v s after

  pub dealt-same : (d : DeclareTree N) (s after : S) → UntaskedDeclare d → P s → dealt one env d s after ≡ dealt other env d s after
  dealt-same d s after u k = deal_by-same (type_of d.typed) d.initial d.name.name (env.get d.name.name after) s after (type-untasked d.typed u.0) u.1 k

  -- and the state behind it is one that holds no `Locales`
  deal_domain-free : (type : Option (TypeTree N)) (i : Option (InitialTree N)) (x : N) (v : Value) (s after : S) → P after → P (deal_domain one env type i x v s after)
  deal_domain-free type i x (Domain rs) s after k = laws.deals x _ after k
  deal_domain-free type i x _ s after k = k

  deal_array-free : (a : ArrayTypeTree N) (x : N) (v : Value) (s after : S) → P after → P (deal_array one env a x v s after)
  deal_array-free a x (Array j rs) s after k = laws.deals x _ after k
  deal_array-free a x _ s after k = k

  pub dealt-free : (d : DeclareTree N) (s after : S) → P after → P (dealt one env d s after)
  dealt-free d s after k = by (type_of d.typed)
    where
      by : (type : Option (TypeTree N)) → P (deal_by one env type d.initial d.name.name (env.get d.name.name after) s after)
      by None = deal_domain-free None d.initial d.name.name (env.get d.name.name after) s after k
      by (Some (ScalarType at j)) = deal_domain-free (Some (ScalarType at j)) d.initial d.name.name (env.get d.name.name after) s after k
      by (Some (SyncType at kind_at j)) = deal_domain-free (Some (SyncType at kind_at j)) d.initial d.name.name (env.get d.name.name after) s after k
      by (Some (DomainType t)) = deal_domain-free (Some (DomainType t)) d.initial d.name.name (env.get d.name.name after) s after k
      by (Some (ArrayType a)) = deal_array-free a d.name.name (env.get d.name.name after) s after k
