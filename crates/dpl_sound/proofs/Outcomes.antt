-- Type soundness for use: what an expression with a type evaluates to, by its type.
-- An int, bool, range, domain or locale is the same once and at any index; a promoted one is looked at at an index.
use Rattle.std.proofs.Common.{◌≡◌, ◌⊎◌, inl, inr, ℕ, ℤ, Bool, List, [], ◌∷◌, Option, Some, None, Result, Ok, Err, refl, sym, ap, ◌∙◌, subst}
use Rattle.std.specs.Result.{IfOk}
use Rattle.std.proofs.lemmas.Result.{IfOk-at_ok}
use Rattle.dpl_sets.specs.TextRanges.{TextRange}
use Rattle.dpl_history.specs.declared.cell.Reply.TheVariants.{Value as Given}
use Rattle.dpl_language.specs.Tree.{Kind, IntKind, BoolKind, ExprTree, ItemTree, Items, Exprs}
use Rattle.dpl_language.specs.Values.{Value, Int, Truth, Range, Domain, Array, Locale, Index, Fault, cell_kind, value_kept}
use Rattle.dpl_language.specs.Names.{Text}
use Rattle.dpl_language.specs.Environment.{Environment, Limits}
use Rattle.dpl_language.specs.Phrases.{ReadTree}
use Rattle.dpl_language.specs.Expressions.{value_of, item_of, items_of, values_of}
use Rattle.dpl_language.specs.Assignments.{reply_value}
use Rattle.dpl_rules.specs.Types.{Over, ValueType, Scalar, Range as RangeType, Domain as DomainType, Array as ArrayType, Promoted}
use Rattle.dpl_rules.specs.Types.{Locale as LocaleType, Cell as CellType, an_int, a_bool, Operand, operand_of, cell_of}
use Rattle.dpl_rules.specs.Sights.{Scopes, lookup, type_declared}
use Rattle.dpl_rules.specs.Expressions.{type_of, item_type, item_parts, expr_parts, cell_declared, kind_read}
use Rattle.dpl_sound.specs.Formed.{ExprFormed, ItemFormed, ItemsFormed, ExprsFormed}
use Rattle.dpl_sound.specs.Typed.{OfKind, MayStride, AreRanked, HasType, type_at, HaveTypes, Fits}
use Rattle.dpl_sound.proofs.Given.{some-same}
use Rattle.dpl_sound.proofs.Posts.{IsLone}
use Rattle.dpl_sound.proofs.Sound.{value_of-has, item_of-has, items_of-have, values_of-have}

-- ---- a value or a fault
abbrev pub IsFault : {A : Type 0} → Result A Fault → Type 0
IsFault r = (f : Fault) × (r ≡ Err f)

-- a fault, or the value that a form gives of something
kind_or_fault : {A : Type 0} (form : A → Value) (r : Result Value Fault) → IfOk r (λ v. (a : A) × (v ≡ form a)) → ((a : A) × (r ≡ Ok (form a))) ⊎ IsFault r
kind_or_fault form (Ok v) p = inl (p.0, ap Ok p.1)
kind_or_fault form (Err f) p = inr (f, refl)

form_or_fault : {A : Type 0} (form : A → Value) (P : A → Type 0) (r : Result Value Fault) → IfOk r (λ v. (a : A) × (v ≡ form a) × P a)
    → ((a : A) × (r ≡ Ok (form a)) × P a) ⊎ IsFault r
form_or_fault form P (Ok v) p = inl (p.0, ap Ok p.1, p.2)
form_or_fault form P (Err f) p = inr (f, refl)

-- ---- which types are the same at each index
pub type_at-lone : (t : ValueType) → operand_of t ≡ None → IsLone t
type_at-lone (Scalar k) h = absurd cc
type_at-lone (ArrayType k over) h = absurd cc
type_at-lone (Promoted k over) h = absurd cc
type_at-lone _ h = λ i. refl

abbrev operand : Kind → Option Over → Operand
operand k over = record { kind = k; over = over }

operand-kind : (k : Kind) (over : Option Over) (o : Operand) → Some (operand k over) ≡ Some o → Scalar k ≡ Scalar o.kind
operand-kind k over o h = ap (λ (q : Operand). Scalar q.kind) (some-same (operand k over) o h)

pub type_at-operand : (t : ValueType) (o : Operand) (i : Index) → operand_of t ≡ Some o → type_at t (Some i) ≡ Scalar o.kind
type_at-operand (Scalar k) o i h = operand-kind k None o h
type_at-operand (ArrayType k over) o i h = operand-kind k (Some over) o h
type_at-operand (Promoted k over) o i h = operand-kind k (Some over) o h
type_at-operand _ o i h = absurd cc

pub type_at-once : (t : ValueType) → ((k : Kind) (over : Over) → t ≡ Promoted k over → ⊥) → type_at t None ≡ t
type_at-once (Promoted k over) p = elim (p k over refl) [ ]
type_at-once _ p = refl

value_kept-kind : (k : Kind) (z : ℤ) → OfKind k (value_kept k z)
value_kept-kind IntKind z = (z, refl)
value_kept-kind BoolKind z = (_, refl)

module _ {S : Type 0} (limits : Limits) (env : Environment Text S) (scopes : Scopes) (s : S) (fits : Fits env scopes s) where
  -- ---- soundness
  -- an expression with a type, evaluated once or at an index
  pub sound : (e : ExprTree Text) (t : ValueType) (i : Option Index) (v : Value) → ExprFormed e → type_of scopes e ≡ Some t
      → value_of limits env e i s ≡ Ok v → HasType v (type_at t i)
  sound e t i v f h r = IfOk-at_ok (λ w. HasType w (type_at t i)) r (value_of-has limits env scopes s fits e f t h i)

  pub item_sound : (item : ItemTree Text) (t : ValueType) (i : Option Index) (v : Value) → ItemFormed item → item_type scopes item ≡ Some t
      → item_of limits env item i s ≡ Ok v → HasType v (type_at t i)
  item_sound item t i v f h r = IfOk-at_ok (λ w. HasType w (type_at t i)) r (item_of-has limits env scopes s fits item f t h i)

  -- once, where the type isn't promoted
  pub sound_once : (e : ExprTree Text) (t : ValueType) (v : Value) → ExprFormed e → type_of scopes e ≡ Some t → ((k : Kind) (over : Over) → t ≡ Promoted k over → ⊥)
      → value_of limits env e None s ≡ Ok v → HasType v t
  sound_once e t v f h p r = subst (HasType v) (type_at-once t p) (sound e t None v f h r)

  -- at an index, where the type is an operand's: an int, a bool, a whole array, or promoted
  pub sound_at : (e : ExprTree Text) (t : ValueType) (o : Operand) (i : Index) (v : Value) → ExprFormed e → type_of scopes e ≡ Some t → operand_of t ≡ Some o
      → value_of limits env e (Some i) s ≡ Ok v → OfKind o.kind v
  sound_at e t o i v f h p r = subst (HasType v) (type_at-operand t o i p) (sound e t (Some i) v f h r)

  -- at an index, where it is another: as without the index
  pub sound_lone : (e : ExprTree Text) (t : ValueType) (i : Option Index) (v : Value) → ExprFormed e → type_of scopes e ≡ Some t → operand_of t ≡ None
      → value_of limits env e i s ≡ Ok v → HasType v t
  sound_lone e t i v f h p r = subst (HasType v) (type_at-lone t p i) (sound e t i v f h r)

  -- as many values as parts, each of its part's type
  pub items_sound : (items : Items Text) (vs : List Value) → ItemsFormed items → items_of limits env items s ≡ Ok vs → HaveTypes vs (item_parts scopes items)
  items_sound items vs f r = IfOk-at_ok (λ vs. HaveTypes vs (item_parts scopes items)) r (items_of-have limits env scopes s fits items f)

  pub exprs_sound : (es : Exprs Text) (vs : List Value) → ExprsFormed es → values_of limits env es s ≡ Ok vs → HaveTypes vs (expr_parts scopes es)
  exprs_sound es vs f r = IfOk-at_ok (λ vs. HaveTypes vs (expr_parts scopes es)) r (values_of-have limits env scopes s fits es f)

  -- ---- what an expression evaluates to, by its type: that, or a fault
  pub int_or_fault : (e : ExprTree Text) (i : Option Index) → ExprFormed e → type_of scopes e ≡ Some an_int
      → ((n : ℤ) × (value_of limits env e i s ≡ Ok (Int n))) ⊎ IsFault (value_of limits env e i s)
  int_or_fault e i f h = kind_or_fault (λ n. Int n) (value_of limits env e i s) (value_of-has limits env scopes s fits e f an_int h i)

  pub truth_or_fault : (e : ExprTree Text) (i : Option Index) → ExprFormed e → type_of scopes e ≡ Some a_bool
      → ((b : Bool) × (value_of limits env e i s ≡ Ok (Truth b))) ⊎ IsFault (value_of limits env e i s)
  truth_or_fault e i f h = kind_or_fault (λ b. Truth b) (value_of limits env e i s) (value_of-has limits env scopes s fits e f a_bool h i)

  pub locale_or_fault : (e : ExprTree Text) (i : Option Index) → ExprFormed e → type_of scopes e ≡ Some LocaleType
      → ((k : ℤ) × (value_of limits env e i s ≡ Ok (Locale k))) ⊎ IsFault (value_of limits env e i s)
  locale_or_fault e i f h = kind_or_fault (λ k. Locale k) (value_of limits env e i s) (value_of-has limits env scopes s fits e f LocaleType h i)

  pub range_or_fault : (e : ExprTree Text) (strided : Bool) (i : Option Index) → ExprFormed e → type_of scopes e ≡ Some (RangeType strided)
      → ((r : TextRange) × (value_of limits env e i s ≡ Ok (Range r)) × MayStride strided (r ∷ [])) ⊎ IsFault (value_of limits env e i s)
  range_or_fault e strided i f h =
      form_or_fault (λ r. Range r) (λ r. MayStride strided (r ∷ [])) (value_of limits env e i s) (value_of-has limits env scopes s fits e f (RangeType strided) h i)

  pub domain_or_fault : (e : ExprTree Text) (rank : ℕ) (strided : Bool) (i : Option Index) → ExprFormed e → type_of scopes e ≡ Some (DomainType rank strided)
      → ((rs : List TextRange) × (value_of limits env e i s ≡ Ok (Domain rs)) × AreRanked rank strided rs) ⊎ IsFault (value_of limits env e i s)
  domain_or_fault e rank strided i f h =
      form_or_fault (λ rs. Domain rs) (AreRanked rank strided) (value_of limits env e i s) (value_of-has limits env scopes s fits e f (DomainType rank strided) h i)

  -- the whole array that a name is
  pub array_or_fault : (e : ExprTree Text) (k : Kind) (over : Over) → ExprFormed e → type_of scopes e ≡ Some (ArrayType k over)
      → ((rs : List TextRange) × (value_of limits env e None s ≡ Ok (Array k rs)) × AreRanked over.rank over.strided rs) ⊎ IsFault (value_of limits env e None s)
  array_or_fault e k over f h =
      form_or_fault (λ rs. Array k rs) (AreRanked over.rank over.strided) (value_of limits env e None s) (value_of-has limits env scopes s fits e f (ArrayType k over) h None)

  -- at an index: of a whole array, of what is promoted over one, and of an int or a bool by itself
  at_index : (e : ExprTree Text) (t : ValueType) (o : Operand) (k : Kind) (i : Index) → ExprFormed e → type_of scopes e ≡ Some t → operand_of t ≡ Some o → o.kind ≡ k
      → IfOk (value_of limits env e (Some i) s) (OfKind k)
  at_index e t o k i f h p q =
      subst (λ u. IfOk (value_of limits env e (Some i) s) (λ v. HasType v u)) (type_at-operand t o i p ∙ ap Scalar q) (value_of-has limits env scopes s fits e f t h (Some i))

  pub int_at_or_fault : (e : ExprTree Text) (t : ValueType) (o : Operand) (i : Index) → ExprFormed e → type_of scopes e ≡ Some t → operand_of t ≡ Some o → o.kind ≡ IntKind
      → ((n : ℤ) × (value_of limits env e (Some i) s ≡ Ok (Int n))) ⊎ IsFault (value_of limits env e (Some i) s)
  int_at_or_fault e t o i f h p q = kind_or_fault (λ n. Int n) (value_of limits env e (Some i) s) (at_index e t o IntKind i f h p q)

  pub truth_at_or_fault : (e : ExprTree Text) (t : ValueType) (o : Operand) (i : Index) → ExprFormed e → type_of scopes e ≡ Some t → operand_of t ≡ Some o → o.kind ≡ BoolKind
      → ((b : Bool) × (value_of limits env e (Some i) s ≡ Ok (Truth b))) ⊎ IsFault (value_of limits env e (Some i) s)
  truth_at_or_fault e t o i f h p q = kind_or_fault (λ b. Truth b) (value_of limits env e (Some i) s) (at_index e t o BoolKind i f h p q)

  -- ---- a cell read: a reply that hands over a number gives a value of the kind that the cell's name is declared with
  read-kind : (v : Value) (t : ValueType) (k : Kind) (z : ℤ) → HasType v t → cell_of t ≡ Some k → OfKind k (reply_value (cell_kind v) (Given z))
  read-kind v (CellType l) k z hv h =
      subst (λ v. OfKind k (reply_value (cell_kind v) (Given z))) (sym hv) (subst (λ j. OfKind j (value_kept l z)) (some-same l k h) (value_kept-kind l z))
  read-kind v _ k z hv h = absurd cc

  declared-kind : (x : Text) (o : Option ValueType) (k : Kind) (z : ℤ) → ((t : ValueType) → o ≡ Some t → HasType (env.get x s) t) → cell_declared o ≡ Some k
      → OfKind k (reply_value (cell_kind (env.get x s)) (Given z))
  declared-kind x None k z has h = absurd cc
  declared-kind x (Some t) k z has h = read-kind (env.get x s) t k z (has t refl) h

  pub reply_value-kind : (r : ReadTree Text) (k : Kind) (z : ℤ) → kind_read scopes (Some r) ≡ Some k
      → OfKind k (reply_value (cell_kind (env.get r.name.name s)) (Given z))
  reply_value-kind r k z h = declared-kind r.name.name (type_declared (lookup scopes r.name.name)) k z (fits.values r.name.name) h
