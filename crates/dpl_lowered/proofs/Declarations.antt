-- A lowered declaration runs as the declaration that it comes from.
-- By its type: a plain variable's initial value is written, and an array's domain and initial value are what they were.
use Rattle.std.proofs.Common.{◌≡◌, nat_lt, Bool, true, false, List, refl, ap, ◌∙◌, Some, None, Option}
use Rattle.std.specs.Prelude.{pos}
use mathlib.Core.Path.{fun_ext}
use Rattle.dpl_syntax.specs.declared.place.Place.{Place}
use Rattle.dpl_sets.specs.TextRanges.{TextRange}
use Rattle.dpl_language.specs.Values.{Value, Int, ranges_in, default, fault, Budget, ArrayTooLarge}
use Rattle.dpl_language.specs.Ranges.{indices_in, size_in, too_large}
use Rattle.dpl_language.specs.Tree.{Placed, Kind, IntKind, BoolKind, ItemTree, Items, FirstItem, NoItems, NextItem, MappedTree, ArrayTypeTree, TypeTree, ScalarType, SyncType, DomainType, ArrayType, InitTree, ItemInit, CreateInit, InitialTree, DeclareTree}
use Rattle.dpl_language.specs.Outcome.{Deeds, Run, with_value, unless}
use Rattle.dpl_language.specs.Environment.{Environment, Limits, Plain, Content}
use Rattle.dpl_language.specs.Phrases.{declared_over}
use Rattle.dpl_language.specs.Expressions.{items_of, whole_item, domain_of}
use Rattle.dpl_language.specs.Declarations.{gathered, Shell, array_with, type_of, declaring, initial_then, declare_with, array_of_item, array_of_init, array_of, declare_array, declare_typed, given_or, declare_by, declare}
use Rattle.dpl_agreement.proofs.RunsAlike.{with_ok-same}
use Rattle.dpl_lowered.specs.Known.{Known, IsKnown}
use Rattle.dpl_lowered.specs.Shapes.{placed}
use Rattle.dpl_lowered.specs.LoweredExpressions.{Once, EachTurn, lowered_item}
use Rattle.dpl_lowered.specs.LoweredStatements.{default_tree, root_type, map_by, lowered_with, domain_type, domain_initial, tells_name, unplaced_word, lowered_side, lowered_over, lowered_array, lowered_init, lowered_init_map, plain_initial, lowered_initial, array_init, array_initial, declared_type, declared_initial, lowered_declare}
use Rattle.dpl_lowered.proofs.Nests.{hidden_item-value}
use Rattle.dpl_lowered.proofs.Seen.{over-declared}
use Rattle.dpl_lowered.proofs.Values.{item_of-lowered, items_of-lowered}
use Rattle.dpl_lowered.proofs.Parts.{type_of-written}
use Rattle.dpl_lowered.proofs.Assignments.{side-value, side-whole, evaluated-lowered}

module _ {N S : Type 0} (limits : Limits) (env : Environment N S) (known : N → Known) (is : IsKnown known env) where
  -- an initial value that is evaluated once
  init-lowered : (i : InitTree N) (m : Option (MappedTree N)) (go : Value → Run S) (s : S) (done : Deeds) → initial_then limits env (ItemInit (lowered_init known i) m) go s done ≡ initial_then limits env i go s done
  init-lowered (ItemInit item mapped) m go s done = evaluated-lowered limits env known is Once item go s done
  init-lowered (CreateInit c) m go s done =
      ap (λ r. with_value r go s done) (with_ok-same _ _ _ _ (items_of-lowered limits env known is c.items s) (λ vs. refl))

  plain-lowered : (k : Kind) (x : Placed N) (i : Option (InitialTree N)) (s : S) (done : Deeds)
      → declare_with limits env (placed false x) (Plain (Int (pos 0))) (λ v. Plain v) (plain_initial known (default_tree k) i) s done ≡ declare_with limits env x (Plain (default k)) (λ v. Plain v) i s done
  plain-lowered IntKind x None s done = refl
  plain-lowered BoolKind x None s done = refl
  plain-lowered k x (Some i) s done = init-lowered i.init (lowered_init_map known i.init) _ s done

  -- beside an initial value the type tells nothing of it
  rooted-lowered : (x : Placed N) (o m : Option (MappedTree N)) (i : InitTree N) (s : S) (done : Deeds)
      → declare_typed limits env (placed false x) (root_type o) (Some (lowered_with known i m)) s done ≡ initial_then limits env i (λ v. declaring limits env x (Plain v)) s done
  rooted-lowered x None m i s done = init-lowered i m _ s done
  rooted-lowered x (Some n) m i s done = init-lowered i m _ s done

  domain-lowered : (x : Placed N) (d : _) (i : Option (InitialTree N)) (s : S) (done : Deeds)
      → declare_typed limits env (placed false x) (domain_type known d i) (domain_initial known d i) s done ≡ declare_typed limits env x (Some (DomainType d)) i s done
  domain-lowered x d None s done = refl
  domain-lowered x d (Some i) s done = rooted-lowered x (map_by known d.mapped i.init) (map_by known d.mapped i.init) i.init s done

  cell-lowered : (x : Placed N) (c : Content N) (make : Value → Content N) (i : Option (InitialTree N)) (s : S) (done : Deeds)
      → declare_with limits env (placed false x) c make (lowered_initial known i) s done ≡ declare_with limits env x c make i s done
  cell-lowered x c make None s done = refl
  cell-lowered x c make (Some i) s done = init-lowered i.init (lowered_init_map known i.init) _ s done

  -- ARRAYS
  array_of_item-lowered : (x : Placed N) (a : Shell N) (at : Place) (i : ItemTree N) (o : Option (List TextRange)) (s : S) (done : Deeds)
      → array_of_item limits env (placed true x) a at (lowered_side known EachTurn i) o s done ≡ array_of_item limits env x a at i o s done
  array_of_item-lowered x a at i None s done = evaluated-lowered limits env known is EachTurn i _ s done
  array_of_item-lowered x a at i (Some arrays) s done =
      ap (λ go. unless (nat_lt limits.budget (size_in a.ranges)) (fault Budget at) go s done)
      (fun_ext (λ s. fun_ext (λ done.
      ap (λ value. with_value (gathered value (indices_in a.ranges)) (λ vs. declaring limits env x (array_with a vs)) s done)
      (fun_ext (λ t. side-value limits env known is EachTurn i (Some t) s tt)))))

  array_of_init-lowered : (x : Placed N) (a : Shell N) (at : Place) (i : InitTree N) (s : S) (done : Deeds)
      → array_of limits env (placed true x) a (array_init known at i) s done ≡ array_of_init limits env x a at i s done
  array_of_init-lowered x a at (ItemInit item mapped) s done =
      ap (λ o. array_of_item limits env (placed true x) a at (lowered_side known EachTurn item) o s done) (side-whole limits env known is EachTurn item s)
      ∙ array_of_item-lowered x a at item (whole_item limits env item s) s done
  array_of_init-lowered x a at (CreateInit c) s done = refl

  array_of-lowered : (x : Placed N) (a : Shell N) (i : Option (InitialTree N)) (s : S) (done : Deeds)
      → array_of limits env (placed true x) a (array_initial known i) s done ≡ array_of limits env x a i s done
  array_of-lowered x a None s done = refl
  array_of-lowered x a (Some i) s done = array_of_init-lowered x a i.equals i.init s done

  over-values : (items : Items N) (s : S) → items_of limits env (lowered_over known items) s ≡ items_of limits env items s
  over-values (FirstItem i NoItems) s =
      with_ok-same _ _ _ _ (hidden_item-value limits env _ _ (lowered_item known Once i) None s ∙ item_of-lowered limits env known is Once i None s tt) (λ v. refl)
  over-values (FirstItem i (NextItem comma j more)) s = items_of-lowered limits env known is (FirstItem i (NextItem comma j more)) s

  -- what a declaration does with its array's domain
  abbrev made : Placed N → ArrayTypeTree N → Option N → Option (InitialTree N) → Value → Run S
  made x a over i d =
      unless (too_large (ranges_in d)) (fault ArrayTooLarge x.at) (array_of limits env x (record { over = over; kind = a.kind; ranges = ranges_in d }) i)

  declare_array-lowered : (x : Placed N) (a : ArrayTypeTree N) (i : Option (InitialTree N)) (s : S) (done : Deeds)
      → declare_array limits env (placed true x) (lowered_array known a) (array_initial known i) s done ≡ declare_array limits env x a i s done
  declare_array-lowered x a i s done =
      ap (λ r. with_value r (made (placed true x) a (declared_over (lowered_over known a.over)) (array_initial known i)) s done)
      (with_ok-same _ _ _ _ (over-values a.over s) (λ vs. refl))
      ∙ ap (λ over. with_value (domain_of limits env a.from a.over s) (made (placed true x) a over (array_initial known i)) s done) (over-declared known a.over)
      ∙ ap (λ go. with_value (domain_of limits env a.from a.over s) go s done)
      (fun_ext (λ d. ap (unless (too_large (ranges_in d)) (fault ArrayTooLarge x.at))
      (fun_ext (λ s. fun_ext (λ done. array_of-lowered x (record { over = declared_over a.over; kind = a.kind; ranges = ranges_in d }) i s done)))))

  -- BY ITS TYPE
  declare_typed-lowered : (x : Placed N) (type : Option (TypeTree N)) (i : Option (InitialTree N)) (s : S) (done : Deeds)
      → declare_typed limits env (placed (tells_name type) x) (declared_type known type i) (declared_initial known type i) s done ≡ declare_typed limits env x type i s done
  declare_typed-lowered x None i s done = plain-lowered IntKind x i s done
  declare_typed-lowered x (Some (ScalarType at k)) i s done = plain-lowered k x i s done
  declare_typed-lowered x (Some (SyncType at kind_at k)) i s done = cell-lowered x _ _ i s done
  declare_typed-lowered x (Some (DomainType d)) i s done = domain-lowered x d i s done
  declare_typed-lowered x (Some (ArrayType a)) i s done = declare_array-lowered x a i s done

  typed-lowered : (d : DeclareTree N) (s : S) (done : Deeds)
      → declare_typed limits env (lowered_declare known d).name (type_of (lowered_declare known d).typed) (lowered_declare known d).initial s done ≡ declare_typed limits env d.name (type_of d.typed) d.initial s done
  typed-lowered d s done =
      ap (λ type. declare_typed limits env (lowered_declare known d).name type (lowered_declare known d).initial s done) (type_of-written (declared_type known (type_of d.typed) d.initial))
      ∙ declare_typed-lowered d.name (type_of d.typed) d.initial s done

  given_or-same : (told : Bool) (x : Placed N) (o : Option Value) (a b : Run S) (s : S) (done : Deeds) → a s done ≡ b s done → given_or limits env (placed told x) o a s done ≡ given_or limits env x o b s done
  given_or-same told x None a b s done e = e
  given_or-same told x (Some v) a b s done e = refl

  declare_by-lowered : (config : Option Place) (d : DeclareTree N) (s : S) (done : Deeds) → declare_by limits env (unplaced_word config) (lowered_declare known d) s done ≡ declare_by limits env config d s done
  declare_by-lowered None d s done = typed-lowered d s done
  declare_by-lowered (Some at) d s done = given_or-same (tells_name (type_of d.typed)) d.name (env.given d.name.name s) _ _ s done (typed-lowered d s done)

  pub declare-lowered : (d : DeclareTree N) (s : S) (done : Deeds) → declare limits env (lowered_declare known d) s done ≡ declare limits env d s done
  declare-lowered d s done = declare_by-lowered d.config d s done
