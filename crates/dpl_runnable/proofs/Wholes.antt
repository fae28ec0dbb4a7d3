-- What is of an array's type is a whole array in every memory, whatever that holds: a name of an array's kind, between brackets or not.
-- So a right side without a whole array is of no array's type.
use Rattle.std.proofs.Common.{◌≡◌, ℕ, List, Some, None, refl, sym, ap, ◌∙◌, subst}
use Rattle.std.proofs.lemmas.Option.{none-some}
use Rattle.dpl_sets.specs.TextRanges.{TextRange}
use Rattle.dpl_language.specs.Tree.{Kind, ExprTree, Named, Grouped, DomainLiteral, Prefixed, Reduced, Chain, Postfixed, ItemTree, One, RangeItem}
use Rattle.dpl_language.specs.Names.{Text}
use Rattle.dpl_language.specs.Values.{array_domain}
use Rattle.dpl_language.specs.Environment.{Environment, Limits}
use Rattle.dpl_language.specs.Phrases.{base_of}
use Rattle.dpl_language.specs.Expressions.{whole_in, whole_item}
use Rattle.dpl_agreement.specs.Renamed.{renamed_item}
use Rattle.dpl_agreement.proofs.Through.{through, whole_item-through}
use Rattle.dpl_agreement.proofs.RenamedTwice.{renamed_item-twice}
use Rattle.dpl_rules.specs.Types.{Over, Array as ArrayType, op_kind}
use Rattle.dpl_rules.specs.Verdicts.{part}
use Rattle.dpl_rules.specs.Places.{first_of, last_of}
use Rattle.dpl_rules.specs.Sights.{Scopes, lookup}
use Rattle.dpl_rules.specs.Operators.{prefix_kind}
use Rattle.dpl_rules.specs.Expressions.{bare_locales, locales_or, type_of, item_type, item_parts}
use Rattle.dpl_sound.specs.Typed.{type_at}
use Rattle.dpl_sound.proofs.Operators.{prefix_verdict-kind, reduction_verdict-type}
use Rattle.dpl_sound.proofs.Chains.{chain_type-kind}
use Rattle.dpl_sound.proofs.Names.{name_verdict-gives}
use Rattle.dpl_sound.proofs.Posts.{IsLone, lone-no_array, posts_type-gives, behind-has}
use Rattle.dpl_sound.proofs.Sound.{range_item-type, ranges_verdict-has, kind-no_array}
use Rattle.dpl_scopes.specs.Slots.{slot_in}
use Rattle.dpl_memory.specs.Memory.{ArrayKind, Variable, variable, Memory, array_at, in_memory}
use Rattle.dpl_memory.specs.Resolved.{variable_of}
use Rattle.dpl_typed.specs.Typed.{is_rank}
use Rattle.dpl_typed.specs.Leaves.{kind_by, kind_in, leaf_by, leaf_in, IsFound}
use Rattle.dpl_typed.specs.Simple.{IsSimple, IsSimpleItem}
use Rattle.dpl_bound.specs.Sights.{bound_in}
use Rattle.dpl_runnable.proofs.Kept.{kind_if-some}
use Rattle.dpl_runnable.proofs.Formed.{expr-formed}

module _ (limits : Limits) (s : Memory) (ss : Scopes) where
  abbrev env : Environment Text Memory
  env = through (leaf_in ss) in_memory

  abbrev HasWhole : ExprTree Text → Type 0
  HasWhole e = (rs : List TextRange) × (whole_in limits env e s ≡ Some rs)

  leaf-whole : (l : Variable) (k : Kind) (slot : ℕ) → l ≡ variable (ArrayKind k) slot → (rs : List TextRange) × (array_domain (in_memory.get l s) ≡ Some rs)
  leaf-whole l k slot is = ((array_at slot s).ranges, ap (λ l. array_domain (in_memory.get l s)) is)

  name-whole : (x : Text) (k : Kind) (over : Over) → IsFound ss x → kind_in ss x ≡ kind_by (Some (ArrayType k over)) → (rs : List TextRange) × (array_domain (env.get x s) ≡ Some rs)
  name-whole x k over (found, slot, kind, at) of =
      let same : ArrayKind k ≡ found = (kind_if-some (is_rank over.rank) (ArrayKind k) found (sym of ∙ kind)).1 in
      leaf-whole (leaf_in ss x) k slot (ap (λ o. leaf_by o (slot_in ss x)) (kind ∙ ap (λ k. Some k) (sym same)) ∙ ap (leaf_by (Some (ArrayKind k))) at)

  mutual
    whole_in-array : (e : ExprTree Text) → IsSimple (IsFound ss) e → (k : Kind) (over : Over) → type_of ss e ≡ Some (ArrayType k over) → HasWhole e
    whole_in-array (Named x) f k over h = name-whole x.name k over f (ap kind_by (name_verdict-gives x.at (lookup ss x.name) (ArrayType k over) h))
    whole_in-array (Grouped from item upto) f k over h = whole_item-array item f k over h
    whole_in-array (DomainLiteral from items upto) f k over h = elim (lone-no_array k over (ranges_verdict-has from (item_parts ss items) (ArrayType k over) h).0) [ ]
    whole_in-array (Prefixed at op e) f k over h = elim (kind-no_array k (prefix_kind op) over (prefix_verdict-kind at op (type_of ss e) (ArrayType k over) h)) [ ]
    whole_in-array (Reduced at op word e) f k over h =
        elim (kind-no_array k (op_kind op) over (λ i. ap (λ t. type_at t i) (sym (reduction_verdict-type at op (type_of ss e) (ArrayType k over) h)))) [ ]
    whole_in-array (Chain e rest) f k over h =
        let kind = chain_type-kind ss (type_of ss e) rest (ArrayType k over) (expr-formed (IsFound ss) (Chain e rest) f).0 h in
        elim (kind-no_array k kind.0 over kind.1) [ ]
    whole_in-array (Postfixed e posts) f k over h =
        let first = posts_type-gives limits env ss s (locales_or (bare_locales e) (type_of ss e)) posts (last_of e) (ArrayType k over) h in
        elim (lone-no_array k over (behind-has limits env ss s posts (base_of e) (last_of e) first.0 (ArrayType k over) (expr-formed (IsFound ss) (Postfixed e posts) f).0 first.2).0) [ ]
    whole_in-array _ f k over h = absurd cc

    whole_item-array : (item : ItemTree Text) → IsSimpleItem (IsFound ss) item → (k : Kind) (over : Over) → item_type ss item ≡ Some (ArrayType k over) → (rs : List TextRange) × (whole_item limits env item s ≡ Some rs)
    whole_item-array (One e) f k over h = whole_in-array e f k over h
    whole_item-array (RangeItem low at dots high by) f k over h =
        elim (lone-no_array k over (subst IsLone (range_item-type ss (part (first_of low) (type_of ss low)) (part (first_of high) (type_of ss high)) by (ArrayType k over) h) (λ i. refl))) [ ]

  -- what has no whole array in it, with its names resolved
  pub none-array : (item : ItemTree Text) → IsSimpleItem (IsFound ss) item → (k : Kind) (over : Over) → item_type ss item ≡ Some (ArrayType k over)
      → whole_item limits in_memory (renamed_item variable_of (renamed_item (bound_in ss) item)) s ≡ None → ⊥
  none-array item f k over h none =
      let whole = whole_item-array item f k over h in
      none-some whole.0 (sym (whole_item-through limits (leaf_in ss) in_memory item s ∙ ap (λ i. whole_item limits in_memory i s) (sym (renamed_item-twice variable_of (bound_in ss) item)) ∙ none) ∙ whole.1)
