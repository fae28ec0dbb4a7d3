-- Tuples: their expressions as arguments, told part by part, what they do, and the index that they are.
-- Parts may be told all before their types are asked: the first breach is the same.
use Rattle.std.proofs.Common.{◌≡◌, ◌≢◌, ◌<◌, ℕ, suc, Bool, true, false, ◌&&◌, List, [], ◌∷◌, ◌++◌, length, map, Bor, Option, Some, None, refl, sym, ap, subst, ◌∙◌, arith}
use Rattle.std.specs.Prelude.{◌||◌, option_map}
use Rattle.dpl_syntax.specs.declared.place.Place.{Place}
use Rattle.dpl_syntax.specs.declared.refusal.Breach.{Breach}
use Rattle.dpl_language.specs.Names.{Text}
use Rattle.dpl_language.specs.Phrases.{parts}
use Rattle.dpl_language.specs.Tree.{AfterComma, Listed, ExprTree, Exprs, FirstExpr, NextExpr, StartTree, StartTuple}
use Rattle.dpl_agreement.specs.Renamed.{map_comma, renamed_expr, renamed_more_exprs}
use Rattle.dpl_grammar.specs.Each.{Each}
use Rattle.dpl_tree.specs.declared.expression.NextExpr.{NextExpr as NextExprNode}
use Rattle.dpl_tree.specs.View.{expr_view, next_expr_view, more_exprs_of}
use Rattle.dpl_rules.specs.Types.{has, is_int}
use Rattle.dpl_rules.specs.Verdicts.{Part, owed_type, each_wanted, all_known}
use Rattle.dpl_rules.specs.Breaches.{least_from}
use Rattle.dpl_rules.specs.Places.{first_of}
use Rattle.dpl_rules.specs.Sights.{Scopes}
use Rattle.dpl_rules.specs.Deeds.{expr_deeds, exprs_deeds, more_exprs_deeds, all_deeds, start_deeds}
use Rattle.dpl_rules.specs.Expressions.{type_of, expr_parts, more_expr_parts, expr_breaches, exprs_breaches, more_exprs_breaches}
use Rattle.dpl_rules.specs.Maps.{owed_rank, int_breaches, start_breaches}
use Rattle.dpl_rules.proofs.First.{least_from_swap}
use Rattle.dpl_lowered.specs.Shapes.{nowhere}
use Rattle.dpl_lowered.specs.LoweredExpressions.{Once, lowered_expr, lowered_more_exprs}
use Rattle.dpl_memory.specs.Memory.{Variable, known_variable}
use Rattle.dpl_nodes.specs.declared.placing.StartExpr.{StartExpr as StartNode}
use Rattle.dpl_nodes.specs.declared.placing.StartExpr.TheVariants.{Index}
use Rattle.dpl_nodes.specs.declared.tree.IndexExpr.{IndexExpr, Line'}
use Rattle.dpl_nodes.specs.Spots.{IsNear}
use Rattle.dpl_nodes.specs.Steps.{index_start}
use Rattle.dpl_nodes.specs.Typed.{index_exprs}
use Rattle.dpl_spelling.specs.Spelt.{ExprSpelt, ExprsSpelt, MoreExprsSpelt, PartSpelt, ListSpelt}
use Rattle.dpl_types.specs.Owes.{are_none}
use Rattle.dpl_types.proofs.Breaches.{least_from_append}
use Rattle.dpl_brackets.specs.Parts.{all_are, are_index, is_tuple}
use Rattle.dpl_brackets.proofs.Rules.{all-wanted}
use Rattle.dpl_typed.specs.declared.part.Part.{Part as PartNode}
use Rattle.dpl_typed.specs.Leaves.{leaf_in, IsFound}
use Rattle.dpl_typed.specs.Lowered.{leaves_of, exprs_leaves}
use Rattle.dpl_typed.specs.Simple.{AreSimpleExprs}
use Rattle.dpl_typed.specs.Stands.{AreArguments}
use Rattle.dpl_typed.specs.Typed.{part_view}
use Rattle.dpl_mapped.specs.Starts.{more_exprs, tuple_exprs, start_leaves}
use Rattle.dpl_mapped.specs.Named.{IsKnownRank}
use Rattle.dpl_mapped.specs.Told.{tuple_told}
use Rattle.dpl_mapped.specs.Made.{AreInts, commas, start_by, IsIndexOf, IsPlainStart, IsStartAs}
use Rattle.dpl_mapped.proofs.Typed.{exprs-typed}
use Rattle.dpl_types.proofs.Unbroken.{unbroken}
use Rattle.dpl_mapped.proofs.Unbroken.{unfailed, rank-few}

-- ---- what is read, as arguments
more-nodes : (ns : List NextExprNode) → more_exprs_of ns ≡ more_exprs (map next_expr_view ns)
more-nodes [] = refl
more-nodes (n ∷ ns) = ap (NextExpr n.comma (expr_view n.expr.now)) (more-nodes ns)

pub tuple-nodes : (e : ExprTree Text) (ns : List NextExprNode) → FirstExpr e (more_exprs_of ns) ≡ tuple_exprs (record { first = e; others = map next_expr_view ns })
tuple-nodes e ns = ap (FirstExpr e) (more-nodes ns)

more-spelt : (xs : List (AfterComma (ExprTree Text))) → Each (PartSpelt IsNear ⊥ (ExprSpelt IsNear ⊥)) xs → MoreExprsSpelt IsNear ⊥ (more_exprs xs)
more-spelt [] h = tt
more-spelt (x ∷ xs) h = (h.0.0, h.0.1, more-spelt xs h.1)

tuple-spelt : (xs : Listed (ExprTree Text)) → ListSpelt IsNear ⊥ (ExprSpelt IsNear ⊥) xs → ExprsSpelt IsNear ⊥ (tuple_exprs xs)
tuple-spelt xs h = (h.0, more-spelt xs.others h.1)

-- ---- what is told: part by part, or all parts before their types are asked
module _ (ss : Scopes) where
  others-told : (xs : List (AfterComma (ExprTree Text))) (o : Option Breach)
      → least_from o (int_breaches ss (map {A = AfterComma (ExprTree Text)} {B = ExprTree Text} (λ x. x.part) xs))
      ≡ least_from (least_from o (more_exprs_breaches ss (more_exprs xs))) (each_wanted is_int (more_expr_parts ss (more_exprs xs)))
  others-told [] o = refl
  others-told (x ∷ xs) o =
      let own = expr_breaches ss x.part in
      let type = owed_type is_int (first_of x.part) (type_of ss x.part) in
      let more = more_exprs_breaches ss (more_exprs xs) in
      let ints = each_wanted is_int (more_expr_parts ss (more_exprs xs)) in
      let left = int_breaches ss (map {A = AfterComma (ExprTree Text)} {B = ExprTree Text} (λ x. x.part) xs) in
      one-told o own type left more ints (others-told xs (least_from (least_from o own) type))
    where
      one-told : (o : Option Breach) (own type left more ints : List Breach) → least_from (least_from (least_from o own) type) left ≡ least_from (least_from (least_from (least_from o own) type) more) ints
          → least_from o (own ++ type ++ left) ≡ least_from (least_from o (own ++ more)) (type ++ ints)
      one-told o own type left more ints h =
          least_from_append o (own ++ type) left
          ∙ ap (λ p. least_from p left) (least_from_append o own type)
          ∙ h
          ∙ ap (λ p. least_from p ints) (least_from_swap (least_from o own) type more)
          ∙ ap (λ p. least_from (least_from p type) ints) (sym (least_from_append o own more))
          ∙ sym (least_from_append (least_from o (own ++ more)) type ints)

  length-more : (xs : List (AfterComma (ExprTree Text))) → length (more_expr_parts ss (more_exprs xs)) ≡ length (map {A = AfterComma (ExprTree Text)} {B = ExprTree Text} (λ x. x.part) xs)
  length-more [] = refl
  length-more (x ∷ xs) = ap suc (length-more xs)

  tuple-breaches : (rank : Option ℕ) (word from upto : Place) (xs : Listed (ExprTree Text)) (o : Option Breach)
      → least_from o (tuple_told ss rank word (tuple_exprs xs)) ≡ least_from o (start_breaches ss rank word (StartTuple from xs upto))
  tuple-breaches rank word from upto xs o =
      let own = exprs_breaches ss (tuple_exprs xs) in
      let ints = each_wanted is_int (expr_parts ss (tuple_exprs xs)) in
      let ranks = λ (n : ℕ). owed_rank rank n word in
      let told = int_breaches ss (parts xs) in
      let begun : AfterComma (ExprTree Text) = record { comma = nowhere; part = xs.first } in
      least_from_append o (own ++ ints) (ranks (length (expr_parts ss (tuple_exprs xs))))
      ∙ ap (λ p. least_from p (ranks (length (expr_parts ss (tuple_exprs xs))))) (least_from_append o own ints ∙ sym (others-told (begun ∷ xs.others) o))
      ∙ ap (λ n. least_from (least_from o told) (owed_rank rank (suc n) word)) (length-more xs.others)
      ∙ sym (least_from_append o told (ranks (length (parts xs))))

  pub tuple-start-told : (rank : Option ℕ) (word from upto : Place) (xs : Listed (ExprTree Text)) (es : Exprs Text) (s : StartTree Text) (o p : Option Breach) → es ≡ tuple_exprs xs → s ≡ StartTuple from xs upto
      → p ≡ least_from o (tuple_told ss rank word es) → p ≡ least_from o (start_breaches ss rank word s)
  tuple-start-told rank word from upto xs es s o p is written told =
      told ∙ ap (λ es. least_from o (tuple_told ss rank word es)) is ∙ tuple-breaches rank word from upto xs o ∙ ap (λ s. least_from o (start_breaches ss rank word s)) (sym written)

  -- ---- what a tuple does, as its expressions do
  more-done : (xs : List (AfterComma (ExprTree Text))) → more_exprs_deeds ss (more_exprs xs) ≡ all_deeds ss (map {A = AfterComma (ExprTree Text)} {B = ExprTree Text} (λ x. x.part) xs)
  more-done [] = refl
  more-done (x ∷ xs) = ap (λ ds. expr_deeds ss x.part ++ ds) (more-done xs)

  pub tuple-start-done : (from upto : Place) (xs : Listed (ExprTree Text)) (es : Exprs Text) (s : StartTree Text) → es ≡ tuple_exprs xs → s ≡ StartTuple from xs upto → exprs_deeds ss es ≡ start_deeds ss s
  tuple-start-done from upto xs es s is written =
      ap (exprs_deeds ss) is ∙ ap (λ ds. expr_deeds ss xs.first ++ ds) (more-done xs.others) ∙ ap (start_deeds ss) (sym written)

-- ---- parts that are ints are an index
both-true : (a b : Bool) → (a && b) ≡ true → a ≡ true
both-true true b e = refl
both-true false b e = absurd cc

pub are-index : (ps : List PartNode) → 0 < length ps → (b : Bool) → b ≡ (all_known (map part_view ps) && are_none (each_wanted is_int (map part_view ps))) → b ≡ true → are_index (map part_view ps) ≡ true
are-index ps some b is holds = by ps some (sym is ∙ holds)
  where
    passed : (known none : Bool) → (known && none) ≡ true → (known ≡ true) × (none ≡ true)
    passed true none e = (refl, e)
    passed false none e = absurd cc

    ints : (ps : List Part) → (all_known ps && are_none (each_wanted is_int ps)) ≡ true → all_are is_int ps ≡ true
    ints ps e = let both = passed (all_known ps) (are_none (each_wanted is_int ps)) e in all-wanted is_int ps both.0 both.1

    by : (ps : List PartNode) → 0 < length ps → (all_known (map part_view ps) && are_none (each_wanted is_int (map part_view ps))) ≡ true → are_index (map part_view ps) ≡ true
    by [] some e = absurd (omega (arith, some))
    by (p ∷ []) some e =
        let is = both-true (has is_int (part_view p).type) true (ints (part_view p ∷ []) e) in
        ap (λ b. b || has is_tuple (part_view p).type) is
    by (p ∷ q ∷ ps) some e = ints (part_view p ∷ part_view q ∷ map part_view ps) e

length-parts : (ps : List PartNode) → length (map part_view ps) ≡ length ps
length-parts [] = refl
length-parts (p ∷ ps) = ap suc (length-parts ps)

-- some part is there
pub some-parts : (ss : Scopes) (es : Exprs Text) (ps : List PartNode) → map part_view ps ≡ expr_parts ss es → 0 < length ps
some-parts ss (FirstExpr e more) ps is =
    let n = length (more_expr_parts ss more) in
    let same : length ps ≡ suc n = sym (length-parts ps) ∙ ap length is in
    omega (arith, same)

-- ---- an index as where a map starts: one expression, or several in a tuple
index-start : (t : IndexExpr) → index_start t ≡ start_by (index_exprs t)
index-start (Line' p a) = refl
index-start _ = refl

module _ (ss : Scopes) where
  index-made : (es : Exprs Text) (ps : List PartNode) (index : Option (Bor IndexExpr)) → (all_known (map part_view ps) && are_none (each_wanted is_int (map part_view ps))) ≡ true → length ps < 4
      → AreArguments ps (exprs_leaves ss es) → AreInts ps index → IsIndexOf ss es (option_map Index index)
  index-made es ps None holds few node made = unfailed (all_known (map part_view ps) && are_none (each_wanted is_int (map part_view ps))) holds made
  index-made es ps (Some t) holds few node made = index-start t.now ∙ ap start_by (made (exprs_leaves ss es) few node)

  -- what is told of them in one go
  pub tuple-judged : (rank : Option ℕ) (word : Place) (es : Exprs Text) (ps : List PartNode) (n : ℕ) (o p q r : Option Breach) → map part_view ps ≡ expr_parts ss es → p ≡ least_from o (exprs_breaches ss es)
      → q ≡ least_from p (each_wanted is_int (map part_view ps)) → n ≡ length ps → r ≡ least_from q (owed_rank rank n word) → r ≡ least_from o (tuple_told ss rank word es)
  tuple-judged rank word es ps n o p q r same told wanted count ranked =
      let own = exprs_breaches ss es in
      let ints = each_wanted is_int (expr_parts ss es) in
      let asked = wanted ∙ ap (λ p. least_from p (each_wanted is_int (map part_view ps))) told ∙ ap (λ xs. least_from (least_from o own) (each_wanted is_int xs)) same ∙ sym (least_from_append o own ints) in
      ranked ∙ ap (λ q. least_from q (owed_rank rank n word)) asked
      ∙ ap (λ n. least_from (least_from o (own ++ ints)) (owed_rank rank n word)) (count ∙ sym (length-parts ps) ∙ ap length same)
      ∙ sym (least_from_append o (own ++ ints) (owed_rank rank (length (expr_parts ss es)) word))

  pub tuple-made : (rank : Option ℕ) (word : Place) (es : Exprs Text) (ps : List PartNode) (n : ℕ) (index : Option (Bor IndexExpr)) (o p q r : Option Breach) → map part_view ps ≡ expr_parts ss es
      → p ≡ least_from o (exprs_breaches ss es) → q ≡ least_from p (each_wanted is_int (map part_view ps)) → n ≡ length ps → r ≡ least_from q (owed_rank rank n word) → AreInts ps index → r ≡ None → IsKnownRank rank
      → AreSimpleExprs (IsFound ss) es → AreArguments ps (exprs_leaves ss es) → IsIndexOf ss es (option_map Index index)
  tuple-made rank word es ps n index o p q r same told wanted count ranked made none known simple node =
      let here = unbroken q (owed_rank rank n word) (sym ranked ∙ none) in
      let ints = unbroken p (each_wanted is_int (map part_view ps)) (sym wanted ∙ here.0) in
      let own = unbroken o (exprs_breaches ss es) (sym told ∙ ints.0) in
      let typed = ap all_known same ∙ exprs-typed ss es simple own.1 in
      let holds = ap (λ b. b && are_none (each_wanted is_int (map part_view ps))) typed ∙ ap are_none ints.1 in
      index-made es ps index holds (subst (λ n. n < 4) count (rank-few rank n word known here.1)) node made

  -- over leaves
  commas-leaves : (xs : List (AfterComma (ExprTree Text))) → commas (lowered_more_exprs known_variable (renamed_more_exprs (leaf_in ss) (more_exprs xs)))
      ≡ map {A = AfterComma (ExprTree Variable)} {B = AfterComma (ExprTree Variable)} (λ x. record { comma = nowhere; part = lowered_expr known_variable Once x.part }) (map (map_comma (renamed_expr (leaf_in ss))) xs)
  commas-leaves [] = refl
  commas-leaves (x ∷ xs) = ap (λ ys. record { comma = nowhere; part = leaves_of ss Once x.part } ∷ ys) (commas-leaves xs)

  tuple-start : (from upto : Place) (first : ExprTree Text) (others : List (AfterComma (ExprTree Text))) → others ≢ []
      → start_by (exprs_leaves ss (tuple_exprs (record { first = first; others = others }))) ≡ start_leaves ss (StartTuple from (record { first = first; others = others }) upto)
  tuple-start from upto first [] several = absurd (several refl)
  tuple-start from upto first (x ∷ xs) several =
      ap (λ ys. StartTuple nowhere (record { first = leaves_of ss Once first; others = record { comma = nowhere; part = leaves_of ss Once x.part } ∷ ys }) nowhere) (commas-leaves xs)

  tuple-as : (from upto : Place) (xs : Listed (ExprTree Text)) (r : Option StartNode) → xs.others ≢ [] → IsIndexOf ss (tuple_exprs xs) r → IsStartAs ss (StartTuple from xs upto) r
  tuple-as from upto xs None several h = h
  tuple-as from upto xs (Some s) several h = h ∙ tuple-start from upto xs.first xs.others several

  pub tuple-started : (rank : Option ℕ) (from upto : Place) (xs : Listed (ExprTree Text)) (es : Exprs Text) (r : Option StartNode) → es ≡ tuple_exprs xs
      → (IsKnownRank rank → AreSimpleExprs (IsFound ss) es → ExprsSpelt IsNear ⊥ es → IsIndexOf ss es r) → IsPlainStart ss rank (StartTuple from xs upto) → IsStartAs ss (StartTuple from xs upto) r
  tuple-started rank from upto xs es r is made plain =
      let simple = subst (AreSimpleExprs (IsFound ss)) (sym is) plain.1 in
      let spelt = subst (ExprsSpelt IsNear ⊥) (sym is) (tuple-spelt xs plain.2.1) in
      tuple-as from upto xs r plain.2.3 (subst (λ es. IsIndexOf ss es r) is (made plain.0 simple spelt))
