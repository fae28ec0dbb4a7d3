-- An expression of an array's type has a whole array in it, and a cell read has none: so a right side without a whole
-- array is no array by its type, and one with a whole array is no cell read.
use Rattle.std.proofs.Common.{◌≡◌, List, Option, Some, None, refl, sym, ap, ◌∙◌, subst}
use Rattle.dpl_sets.specs.TextRanges.{TextRange}
use Rattle.dpl_language.specs.Tree.{Kind, ExprTree, Named, Grouped, DomainLiteral, Prefixed, Reduced, Chain, Postfixed, ItemTree, One, RangeItem}
use Rattle.dpl_language.specs.Values.{array_domain}
use Rattle.dpl_language.specs.Names.{Text}
use Rattle.dpl_language.specs.Environment.{Environment, Limits}
use Rattle.dpl_language.specs.Phrases.{ReadTree, cell_read, item_read, base_of}
use Rattle.dpl_language.specs.Expressions.{whole_in, whole_item}
use Rattle.dpl_rules.specs.Types.{Over, ValueType, Array as ArrayType, op_kind}
use Rattle.dpl_rules.specs.Verdicts.{part}
use Rattle.dpl_rules.specs.Places.{first_of, last_of}
use Rattle.dpl_rules.specs.Sights.{Scopes, lookup}
use Rattle.dpl_rules.specs.Operators.{prefix_kind}
use Rattle.dpl_rules.specs.Expressions.{bare_locales, locales_or, read_or_type, type_of, item_type, item_parts, kind_read, side_part}
use Rattle.dpl_sound.specs.Formed.{ExprFormed, ItemFormed}
use Rattle.dpl_sound.specs.Typed.{type_at, Fits}
use Rattle.dpl_sound.proofs.Operators.{prefix_verdict-kind, reduction_verdict-type}
use Rattle.dpl_sound.proofs.Chains.{chain_type-kind}
use Rattle.dpl_sound.proofs.Names.{name_verdict-gives}
use Rattle.dpl_sound.proofs.Posts.{IsLone, lone-no_array, posts_type-gives, behind-has}
use Rattle.dpl_sound.proofs.Sound.{range_item-type, ranges_verdict-has, kind-no_array}

-- ---- a cell read
module _ {N S : Type 0} (limits : Limits) (env : Environment N S) (s : S) where
  cell_read-whole : (e : ExprTree N) (r : ReadTree N) → cell_read e ≡ Some r → whole_in limits env e s ≡ None
  cell_read-whole (Named x) r h = absurd cc
  cell_read-whole (Grouped from item upto) r h = absurd cc
  cell_read-whole (Prefixed at op e) r h = absurd cc
  cell_read-whole (Chain e rest) r h = absurd cc
  cell_read-whole _ r h = refl

  pub item_read-whole : (item : ItemTree N) (r : ReadTree N) → item_read item ≡ Some r → whole_item limits env item s ≡ None
  item_read-whole (One e) r h = cell_read-whole e r h
  item_read-whole (RangeItem low at dots high by) r h = refl

-- ---- an array
module _ {S : Type 0} (limits : Limits) (env : Environment Text S) (s : S) where
  module _ (scopes : Scopes) (fits : Fits env scopes s) where
    abbrev HasWhole : ExprTree Text → Type 0
    HasWhole e = (rs : List TextRange) × (whole_in limits env e s ≡ Some rs)

    mutual
      whole_in-array : (e : ExprTree Text) → ExprFormed e → (k : Kind) (over : Over) → type_of scopes e ≡ Some (ArrayType k over) → HasWhole e
      whole_in-array (Named x) f k over h =
          let value = fits.values x.name (ArrayType k over) (name_verdict-gives x.at (lookup scopes x.name) (ArrayType k over) h) in
          (value.0, ap array_domain value.1)
      whole_in-array (Grouped from item upto) f k over h = whole_item-array item f k over h
      whole_in-array (DomainLiteral from items upto) f k over h = elim (lone-no_array k over (ranges_verdict-has from (item_parts scopes items) (ArrayType k over) h).0) [ ]
      whole_in-array (Prefixed at op e) f k over h = elim (kind-no_array k (prefix_kind op) over (prefix_verdict-kind at op (type_of scopes e) (ArrayType k over) h)) [ ]
      whole_in-array (Reduced at op word e) f k over h =
          elim (kind-no_array k (op_kind op) over (λ i. ap (λ t. type_at t i) (sym (reduction_verdict-type at op (type_of scopes e) (ArrayType k over) h)))) [ ]
      whole_in-array (Chain e rest) f k over h =
          let kind = chain_type-kind scopes (type_of scopes e) rest (ArrayType k over) f.0 h in
          elim (kind-no_array k kind.0 over kind.1) [ ]
      whole_in-array (Postfixed e posts) f k over h =
          let first = posts_type-gives limits env scopes s (locales_or (bare_locales e) (type_of scopes e)) posts (last_of e) (ArrayType k over) h in
          elim (lone-no_array k over (behind-has limits env scopes s posts (base_of e) (last_of e) first.0 (ArrayType k over) f.0 first.2).0) [ ]
      whole_in-array _ f k over h = absurd cc

      pub whole_item-array : (item : ItemTree Text) → ItemFormed item → (k : Kind) (over : Over) → item_type scopes item ≡ Some (ArrayType k over)
          → (rs : List TextRange) × (whole_item limits env item s ≡ Some rs)
      whole_item-array (One e) f k over h = whole_in-array e f k over h
      whole_item-array (RangeItem low at dots high by) f k over h =
          elim (lone-no_array k over (subst IsLone (range_item-type scopes (part (first_of low) (type_of scopes low)) (part (first_of high) (type_of scopes high)) by (ArrayType k over) h) (λ i. refl))) [ ]

    -- ---- right sides
    read_no_array : (o : Option Kind) (t : Option ValueType) (k : Kind) (over : Over) → read_or_type o t ≡ Some (ArrayType k over) → t ≡ Some (ArrayType k over)
    read_no_array None t k over h = h
    read_no_array (Some l) t k over h = absurd cc

    none_no_some : (rs : List TextRange) (o : Option (List TextRange)) → o ≡ None → o ≡ Some rs → ⊥
    none_no_some rs None p q = absurd cc
    none_no_some rs (Some qs) p q = absurd cc

    -- without a whole array it is no array
    pub side-no_array : (item : ItemTree Text) → ItemFormed item → whole_item limits env item s ≡ None → (t : ValueType) → (side_part scopes item).type ≡ Some t
        → (k : Kind) (over : Over) → t ≡ ArrayType k over → ⊥
    side-no_array item f none t h k over a =
        let whole = whole_item-array item f k over (read_no_array (kind_read scopes (item_read item)) (item_type scopes item) k over (h ∙ ap Some a)) in
        none_no_some whole.0 (whole_item limits env item s) none whole.1

    side_by : (o : Option (ReadTree Text)) (item : ItemTree Text) (rs : List TextRange) → item_read item ≡ o → whole_item limits env item s ≡ Some rs
        → read_or_type (kind_read scopes o) (item_type scopes item) ≡ item_type scopes item
    side_by None item rs e h = refl
    side_by (Some r) item rs e h = elim (none_no_some rs (whole_item limits env item s) (item_read-whole limits env s item r e) h) [ ]

    -- with one it is an expression
    pub side-expression : (item : ItemTree Text) (rs : List TextRange) → whole_item limits env item s ≡ Some rs → (side_part scopes item).type ≡ item_type scopes item
    side-expression item rs h = side_by (item_read item) item rs refl h
