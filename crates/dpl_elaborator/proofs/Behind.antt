-- Brackets behind a base: what is made of a base that stands for a tree is the bracket behind the base as a fault tells it.
-- A promoted expression, of which alone it makes a difference how often it is evaluated, takes no bracket.
use Rattle.std.proofs.Common.{◌≡◌, Bool, true, false, List, Option, Some, None, sym, ap, ◌∙◌}
use Rattle.std.specs.Prelude.{option_map}
use Rattle.std.proofs.lemmas.Option.{none-some}
use Rattle.dpl_syntax.specs.declared.place.Place.{Place}
use Rattle.dpl_language.specs.Tree.{Placed, ExprTree, Named, Postfixed, NoPosts, Post, Brackets, Rounds, Items, Exprs}
use Rattle.dpl_language.specs.Names.{Text}
use Rattle.dpl_language.specs.Phrases.{Base, BaseName, BaseLocales, OtherBase, bare_name}
use Rattle.dpl_rules.specs.Types.{ValueType}
use Rattle.dpl_rules.specs.Verdicts.{Part, type_by, with_type}
use Rattle.dpl_rules.specs.Operators.{square_verdict, round_verdict}
use Rattle.dpl_rules.specs.Sights.{Scopes}
use Rattle.dpl_lowered.specs.Known.{Known, WholeArray, may_be_array}
use Rattle.dpl_lowered.specs.Shapes.{placed, as_items}
use Rattle.dpl_lowered.specs.LoweredExpressions.{Times, Once, EachTurn, rebased, name_base, rounds_by}
use Rattle.dpl_memory.specs.Memory.{Variable, known_variable}
use Rattle.dpl_nodes.specs.Typed.{in_square}
use Rattle.dpl_typed.specs.declared.typed.Typed.{Typed}
use Rattle.dpl_typed.specs.declared.typed.Typed.TheVariants as typed
use Rattle.dpl_typed.specs.Typed.{type_of_typed, types_of, typed_view}
use Rattle.dpl_typed.specs.Lowered.{items_leaves, exprs_leaves}
use Rattle.dpl_typed.specs.Stands.{StandsFor}
use Rattle.dpl_elaborator.specs.Built.{StandsAt, behind}

-- what a name is known to be
abbrev pub known_of : ExprTree Variable → Option Known
known_of e = option_map (λ (y : Placed Variable). known_variable y.name) (bare_name e)

unknown : (e : ExprTree Variable) → bare_name e ≡ None → known_of e ≡ None
unknown e h = ap (option_map (λ (y : Placed Variable). known_variable y.name)) h

named-square : (x : Placed Variable) (b : Bool) (f : Times → ExprTree Variable) → f EachTurn ≡ Named (placed b x) → f Once ≡ Named (placed false x) → f EachTurn ≡ rebased (name_base b x) (f Once)
named-square x true f e g = e
named-square x false f e g = e ∙ sym g

-- ---- square brackets
module _ (last from : Place) (ps : List Part) where
  -- it makes no difference how often a base is evaluated that is no name and takes square brackets
  square-steady : (t : Typed) (f : Times → ExprTree Variable) (v : ValueType) → ((m : Times) → typed_view m t ≡ f m) → bare_name (f Once) ≡ None
      → Some v ≡ type_by (square_verdict last from ps (type_of_typed t)) → f EachTurn ≡ f Once
  square-steady (typed.Int e) f v seen none gives = sym (seen EachTurn) ∙ seen Once
  square-steady (typed.Truth e) f v seen none gives = sym (seen EachTurn) ∙ seen Once
  square-steady (typed.Range strided e) f v seen none gives = sym (seen EachTurn) ∙ seen Once
  square-steady (typed.Domain rank strided e) f v seen none gives = sym (seen EachTurn) ∙ seen Once
  square-steady (typed.Array k over slot at) f v seen none gives = absurd (none-some WholeArray (sym (unknown (f Once) none) ∙ ap known_of (sym (seen Once))))
  square-steady (typed.Ints over e) f v seen none gives = absurd (none-some v (sym gives))
  square-steady (typed.Truths over e) f v seen none gives = absurd (none-some v (sym gives))
  square-steady (typed.Tuple rank slot) f v seen none gives = sym (seen EachTurn) ∙ seen Once
  square-steady typed.Locale f v seen none gives = sym (seen EachTurn) ∙ seen Once
  square-steady typed.AllLocales f v seen none gives = sym (seen EachTurn) ∙ seen Once
  square-steady (typed.Cell k) f v seen none gives = sym (seen EachTurn) ∙ seen Once

  pub square-made : (scopes : Scopes) (upto : Place) (is : Items Text) (base r : Option Typed) → types_of r ≡ type_by (with_type (types_of base) (square_verdict last from ps))
      → (f : Times → ExprTree Variable) (b : Base Variable) → StandsFor base f → StandsAt f b → StandsFor r (λ m. in_square (f EachTurn) (items_leaves scopes is))
      → StandsFor r (λ m. behind scopes b (Brackets from is upto) (f Once))
  square-made scopes upto is base None gives f b seen told h = tt
  square-made scopes upto is None (Some t) gives f b seen told h = absurd (none-some (type_of_typed t) (sym gives))
  square-made scopes upto is (Some u) (Some t) gives f (BaseName x) seen told h =
      (λ m. h.0 m ∙ ap (λ y. in_square y (items_leaves scopes is)) (named-square x (may_be_array (known_variable x.name)) f (told EachTurn) (told Once)), h.1)
  square-made scopes upto is (Some u) (Some t) gives f (BaseLocales at) seen told h = absurd told
  square-made scopes upto is (Some u) (Some t) gives f OtherBase seen told h =
      (λ m. h.0 m ∙ ap (λ y. in_square y (items_leaves scopes is)) (square-steady u f (type_of_typed t) seen.0 told gives), h.1)

-- ---- round brackets
module _ (last from : Place) (ps : List Part) where
  -- what takes round brackets is a whole array, by its name
  round-known : (t : Typed) (f : Times → ExprTree Variable) (v : ValueType) → ((m : Times) → typed_view m t ≡ f m)
      → Some v ≡ type_by (round_verdict last from ps (type_of_typed t)) → (m : Times) → known_of (f m) ≡ Some WholeArray
  round-known (typed.Int e) f v seen gives = absurd (none-some v (sym gives))
  round-known (typed.Truth e) f v seen gives = absurd (none-some v (sym gives))
  round-known (typed.Range strided e) f v seen gives = absurd (none-some v (sym gives))
  round-known (typed.Domain rank strided e) f v seen gives = absurd (none-some v (sym gives))
  round-known (typed.Array k over slot at) f v seen gives = λ m. ap known_of (sym (seen m))
  round-known (typed.Ints over e) f v seen gives = absurd (none-some v (sym gives))
  round-known (typed.Truths over e) f v seen gives = absurd (none-some v (sym gives))
  round-known (typed.Tuple rank slot) f v seen gives = absurd (none-some v (sym gives))
  round-known typed.Locale f v seen gives = absurd (none-some v (sym gives))
  round-known typed.AllLocales f v seen gives = absurd (none-some v (sym gives))
  round-known (typed.Cell k) f v seen gives = absurd (none-some v (sym gives))

  told-round : (x : Placed Variable) (es : Exprs Variable) (f : Times → ExprTree Variable) → f EachTurn ≡ Named (placed (may_be_array (known_variable x.name)) x)
      → known_of (f EachTurn) ≡ Some WholeArray → in_square (f EachTurn) (as_items es) ≡ Postfixed (Named x) (Post (rounds_by (known_variable x.name) es) NoPosts)
  told-round x es f e known =
      let both : Some (known_variable x.name) ≡ Some WholeArray = sym (ap known_of e) ∙ known in
      let whole : known_variable x.name ≡ WholeArray = cc in
      ap (λ y. in_square y (as_items es)) (e ∙ ap (λ k. Named (placed (may_be_array k) x)) whole)
      ∙ ap (λ k. Postfixed (Named x) (Post (rounds_by k es) NoPosts)) (sym whole)

  pub round-made : (scopes : Scopes) (upto : Place) (es : Exprs Text) (base r : Option Typed) → types_of r ≡ type_by (with_type (types_of base) (round_verdict last from ps))
      → (f : Times → ExprTree Variable) (b : Base Variable) → StandsFor base f → StandsAt f b → StandsFor r (λ m. in_square (f EachTurn) (as_items (exprs_leaves scopes es)))
      → StandsFor r (λ m. behind scopes b (Rounds from es upto) (f Once))
  round-made scopes upto es base None gives f b seen told h = tt
  round-made scopes upto es None (Some t) gives f b seen told h = absurd (none-some (type_of_typed t) (sym gives))
  round-made scopes upto es (Some u) (Some t) gives f (BaseName x) seen told h =
      (λ m. h.0 m ∙ told-round x (exprs_leaves scopes es) f (told EachTurn) (round-known u f (type_of_typed t) seen.0 gives EachTurn), h.1)
  round-made scopes upto es (Some u) (Some t) gives f (BaseLocales at) seen told h = absurd told
  round-made scopes upto es (Some u) (Some t) gives f OtherBase seen told h =
      absurd (none-some WholeArray (sym (unknown (f Once) told) ∙ round-known u f (type_of_typed t) seen.0 gives Once))
